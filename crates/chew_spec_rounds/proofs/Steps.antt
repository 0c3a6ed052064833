-- The three steps of writing a checkpoint, one after the other.
use Rattle.std.specs.Prelude.{◌≡◌, ◌⊎◌, ℕ, ◌+◌, ◌-◌, ◌<◌, ◌≤◌, List, Option, Some, None, IfSome, Result, Ok, Err, refl}
use Rattle.std.proofs.Common.{arith, inl, inr, sym, ap, ◌∙◌, subst, ⊎_elim}
use native.Mathlib.Decide.{dec_le}
use Rattle.chew_spec_outside.specs.Faults.{risen}
use Rattle.chew_spec_disk.specs.Disk.{DiskState, Later, last_moment}
use Rattle.chew_spec_disk.specs.Moments.{AlwaysLeft, AlwaysMightLeave}
use Rattle.chew_spec_disk.proofs.Moments.{always-weaker, later-chain}
use Rattle.chew_spec_slots.specs.Fits.{RecoversTo, RecoversToOld, RecoversToOldOrLeft}
use Rattle.chew_spec_slots.specs.Keep.{Keep, acknowledged_state, left_state}
use Rattle.chew_spec_slots.specs.Recovery.{Recovered}
use Rattle.chew_spec_slots.specs.Slot.{Checkpoint, Saved}
use Rattle.chew_spec_slots.specs.Steps.{FillsBody, LiftsGate, ShutsGate}
use Rattle.chew_spec_rounds.specs.WriteSteps.{WritesCheckpoint}
use Rattle.chew_spec_rounds.proofs.InStep.{if-none}

-- a stretch of moments after another
always-then : (from : ℕ) (middle last : DiskState) (P : List ℕ → List ℕ → Type 0) → AlwaysLeft from middle P → Later middle last → AlwaysLeft middle.moment last P → AlwaysLeft from last P
always-then from middle last P had later more = record { each = go }
  where
    go : last.moment < last_moment → (moment : ℕ) (zero one : List ℕ) → from ≤ moment → moment ≤ last.moment → last.might_have_left moment 0 zero → last.might_have_left moment 1 one → P zero one
    go under moment zero one low high left other = pick (dec_le moment middle.moment)
      where
        pick : Dec (moment ≤ middle.moment) → P zero one
        pick (yes early) =
            had.each (let up = later.not_before in omega arith) moment zero one low early
            ((later.earlier under moment 0 zero early).1 left)
            ((later.earlier under moment 1 one early).1 other)
        pick (no late) = more.each under moment zero one (omega arith) high left other

might-then : (from until : ℕ) (middle last : DiskState) (P : List ℕ → List ℕ → Type 0) → AlwaysMightLeave from middle.moment middle P → Later middle last
    → (last.moment < last_moment → AlwaysMightLeave middle.moment until last P) → AlwaysMightLeave from until last P
might-then from until middle last P had later more = record { each = go }
  where
    go : last.moment < last_moment → (moment : ℕ) → from ≤ moment → moment ≤ until → (zero one : List ℕ) × last.might_have_left moment 0 zero × last.might_have_left moment 1 one × P zero one
    go under moment low high = pick (dec_le moment middle.moment)
      where
        pick : Dec (moment ≤ middle.moment) → (zero one : List ℕ) × last.might_have_left moment 0 zero × last.might_have_left moment 1 one × P zero one
        pick (yes early) =
            let pair = had.each (let up = later.not_before in omega arith) moment low early in (
              pair.0,
              pair.1,
              (later.earlier under moment 0 pair.0 early).0 pair.2,
              (later.earlier under moment 1 pair.1 early).0 pair.3,
              pair.4,
            )
        pick (no late) = (more under).each under moment (omega arith) high

might-as : (from until : ℕ) (disk : DiskState) (had is : Checkpoint) → had ≡ is → AlwaysMightLeave from until disk (RecoversTo had) → AlwaysMightLeave from until disk (RecoversTo is)
might-as from until disk had is same chances = subst (λ checkpoint. AlwaysMightLeave from until disk (RecoversTo checkpoint)) same chances

-- what recovery may give while a checkpoint is written
abbrev May : Keep → DiskState → Saved → (zero one : List ℕ) → Type 0
May keep disk saved zero one = RecoversToOldOrLeft keep disk zero one ⊎ RecoversTo saved.checkpoint zero one

may-old : (keep keep_then : Keep) (disk disk_then : DiskState) (saved : Saved) (zero one : List ℕ) → acknowledged_state keep_then disk_then ≡ acknowledged_state keep disk
    → RecoversToOld keep_then disk_then zero one → May keep disk saved zero one
may-old keep keep_then disk disk_then saved zero one same old = inl (inl (old ∙ ap Recovered same))

-- what an option has
has-itself : {A : Type 0} (o : Option A) (Q : A → Type 0) (was : Option A) → o ≡ was → IfSome o (λ x. (was ≡ Some x) ⊎ Q x)
has-itself None Q was same = tt
has-itself (Some x) Q was same = inl (sym same)

-- the first step failed
pub shutting-fails : {T E F : Type 0} (before shut : DiskState) (keep keep_shut : Keep) (saved : Saved) (fault : E) (failed : F) → Later before shut
    → ShutsGate {T = T} keep before keep_shut shut (Err fault) → WritesCheckpoint {T = T} keep before keep_shut shut saved (Err failed)
shutting-fails before shut keep keep_shut saved fault failed later shuts = record {
  fits = shuts.fits;
  later = later;
  moments = always-weaker before.moment shut (RecoversToOldOrLeft keep before) (May keep before saved) shuts.moments (λ zero one either. inl either);
  done = record {
    state = shuts.state;
    left = has-itself (left_state keep_shut shut) (λ checkpoint. checkpoint ≡ saved.checkpoint) (left_state keep before) shuts.left;
    chances = shuts.chances;
  };
}

-- the moments of the first two steps
filled-moments : {T E U V : Type 0} (before shut filled : DiskState) (keep keep_shut : Keep) (saved : Saved) (first : Result T E) (second : Result U V) → Later shut filled
    → ShutsGate keep before keep_shut shut first → FillsBody keep_shut shut filled saved second → AlwaysLeft before.moment filled (May keep before saved)
filled-moments before shut filled keep keep_shut saved first second later shuts fills =
    always-then before.moment shut filled (May keep before saved)
    (always-weaker before.moment shut (RecoversToOldOrLeft keep before) (May keep before saved) shuts.moments (λ zero one either. inl either)) later
    (always-weaker shut.moment filled (RecoversToOld keep_shut shut) (May keep before saved) fills.moments (λ zero one. may-old keep keep_shut before shut saved zero one shuts.state))

filled-chances : {T E U V : Type 0} (before shut filled : DiskState) (keep keep_shut : Keep) (saved : Saved) (first : Result T E) (second : Result U V) → Later shut filled
    → ShutsGate keep before keep_shut shut first → FillsBody keep_shut shut filled saved second → AlwaysMightLeave before.moment filled.moment filled (RecoversToOld keep before)
filled-chances before shut filled keep keep_shut saved first second later shuts fills =
    might-then before.moment filled.moment shut filled (RecoversToOld keep before) shuts.chances later
    (λ under. might-as shut.moment filled.moment filled (acknowledged_state keep_shut shut) (acknowledged_state keep before) shuts.state fills.chances)

-- the second step failed
pub filling-fails : {T E F : Type 0} (before shut filled : DiskState) (keep keep_shut : Keep) (saved : Saved) (done : T) (fault : E) (failed : F) → Later before shut → Later shut filled
    → ShutsGate {E = E} keep before keep_shut shut (Ok done) → FillsBody {T = T} keep_shut shut filled saved (Err fault) → WritesCheckpoint {T = T} keep before keep_shut filled saved (Err failed)
filling-fails before shut filled keep keep_shut saved done fault failed first second shuts fills = record {
  fits = fills.fits;
  later = later-chain before shut filled first second;
  moments = filled-moments before shut filled keep keep_shut saved (Ok done) (Err fault) second shuts fills;
  done = record {
    state = fills.state ∙ shuts.state;
    left = if-none (left_state keep_shut filled) (λ checkpoint. (left_state keep before ≡ Some checkpoint) ⊎ (checkpoint ≡ saved.checkpoint)) fills.left;
    chances = filled-chances before shut filled keep keep_shut saved (Ok done) (Err fault) second shuts fills;
  };
}

-- the moments of all three steps
lifted-moments : {T E V : Type 0} (before shut filled lifted : DiskState) (keep keep_shut keep_lifted : Keep) (saved : Saved) (done : T) (third : Result T V) → Later shut filled → Later filled lifted
    → ShutsGate {E = E} keep before keep_shut shut (Ok done) → FillsBody {E = E} keep_shut shut filled saved (Ok done) → LiftsGate keep_shut filled keep_lifted lifted saved third
    → AlwaysLeft before.moment lifted (May keep before saved)
lifted-moments {T} {E} before shut filled lifted keep keep_shut keep_lifted saved done third second last shuts fills lifts =
    always-then before.moment filled lifted (May keep before saved)
    (filled-moments {E = E} {V = E} before shut filled keep keep_shut saved (Ok done) (Ok done) second shuts fills) last
    (always-weaker filled.moment lifted (λ zero one. RecoversToOld keep_shut filled zero one ⊎ RecoversTo saved.checkpoint zero one) (May keep before saved) lifts.moments
    (λ zero one. ⊎_elim (may-old keep keep_shut before filled saved zero one (fills.state ∙ shuts.state)) inr))

lifted-chances : {T E : Type 0} (until : ℕ) (before shut filled lifted : DiskState) (keep keep_shut : Keep) (saved : Saved) (done : T) → Later shut filled → Later filled lifted
    → ShutsGate {E = E} keep before keep_shut shut (Ok done) → FillsBody {E = E} keep_shut shut filled saved (Ok done)
    → (lifted.moment < last_moment → AlwaysMightLeave filled.moment until lifted (RecoversToOld keep_shut filled)) → AlwaysMightLeave before.moment until lifted (RecoversToOld keep before)
lifted-chances {T} {E} until before shut filled lifted keep keep_shut saved done second last shuts fills chances =
    might-then before.moment until filled lifted (RecoversToOld keep before)
    (filled-chances {E = E} {V = E} before shut filled keep keep_shut saved (Ok done) (Ok done) second shuts fills) last
    (λ under. might-as filled.moment until lifted (acknowledged_state keep_shut filled) (acknowledged_state keep before) (fills.state ∙ shuts.state) (chances under))

-- the third step failed
pub lifting-fails : {T E F : Type 0} (before shut filled lifted : DiskState) (keep keep_shut keep_lifted : Keep) (saved : Saved) (done : T) (fault : E) (failed : F)
    → Later before shut → Later shut filled → Later filled lifted
    → ShutsGate {E = E} keep before keep_shut shut (Ok done) → FillsBody {E = E} keep_shut shut filled saved (Ok done) → LiftsGate {T = T} keep_shut filled keep_lifted lifted saved (Err fault)
    → WritesCheckpoint {T = T} keep before keep_lifted lifted saved (Err failed)
lifting-fails before shut filled lifted keep keep_shut keep_lifted saved done fault failed first second last shuts fills lifts = record {
  fits = lifts.fits;
  later = later-chain before filled lifted (later-chain before shut filled first second) last;
  moments = lifted-moments before shut filled lifted keep keep_shut keep_lifted saved done (Err fault) second last shuts fills lifts;
  done = record {
    state = lifts.done.state ∙ fills.state ∙ shuts.state;
    left = subst (λ o. IfSome o (λ checkpoint. (left_state keep before ≡ Some checkpoint) ⊎ (checkpoint ≡ saved.checkpoint))) (sym lifts.done.left) (inr refl);
    chances = lifted-chances lifted.moment before shut filled lifted keep keep_shut saved done second last shuts fills (λ under. lifts.done.chances);
  };
}

-- of two calls
two-calls : (moment now : ℕ) → now ≡ risen (risen moment) → now < last_moment → moment + 1 ≡ now - 1
two-calls moment now calls under = omega arith

-- all three steps are done
pub steps-done : {T E F : Type 0} (before shut filled lifted : DiskState) (keep keep_shut keep_lifted : Keep) (saved : Saved) (done : T)
    → Later before shut → Later shut filled → Later filled lifted → lifted.moment ≡ risen (risen filled.moment)
    → ShutsGate {E = E} keep before keep_shut shut (Ok done) → FillsBody {E = E} keep_shut shut filled saved (Ok done) → LiftsGate {E = E} keep_shut filled keep_lifted lifted saved (Ok done)
    → WritesCheckpoint {E = F} keep before keep_lifted lifted saved (Ok done)
steps-done {T} {E} before shut filled lifted keep keep_shut keep_lifted saved done first second last calls shuts fills lifts = record {
  fits = lifts.fits;
  later = later-chain before filled lifted (later-chain before shut filled first second) last;
  moments = lifted-moments before shut filled lifted keep keep_shut keep_lifted saved done (Ok done) second last shuts fills lifts;
  done = record {
    state = lifts.done.state;
    left = lifts.done.left;
    now = lifts.done.now;
    chances = lifted-chances (lifted.moment - 1) before shut filled lifted keep keep_shut saved done second last shuts fills
        (λ under. subst (λ until. AlwaysMightLeave filled.moment until lifted (RecoversToOld keep_shut filled)) (two-calls filled.moment lifted.moment calls under) (lifts.done.chances under));
  };
}
