-- Rounds that write a checkpoint, and fail or are done.
use Rattle.std.specs.Prelude.{◌≡◌, ◌⊎◌, ℕ, ◌-◌, ◌≤◌, true, List, [], ◌∷◌, ◌++◌, length, map, Some, None, IsSomeAnd, Ok, Err, refl}
use Rattle.std.proofs.Common.{arith, inr, sym, ap, ap₂, ◌∙◌, subst, ⊎_elim}
use Rattle.std.proofs.lemmas.List.{append_assoc, map-append}
use Rattle.chew_spec_disk.specs.Disk.{DiskState}
use Rattle.chew_spec_disk.specs.Moments.{AlwaysMightLeave}
use Rattle.chew_spec_disk.proofs.Moments.{always-weaker}
use Rattle.chew_spec_dictionary.specs.Call.{Call, Freeze, Install}
use Rattle.chew_spec_dictionary.specs.Dictionary.{Dictionary}
use Rattle.chew_spec_dictionary.specs.History.{Entry, Point, Shape, after, calls_of, is_legal, own, start_of}
use Rattle.chew_spec_dictionary.proofs.Histories.{after_joined, own_joined}
use Rattle.chew_spec_dictionary.proofs.Shapes.{installed_most, waiting_between}
use Rattle.chew_spec_slots.specs.Fits.{RecoversTo, RecoversToOld, RecoversToOldOrLeft}
use Rattle.chew_spec_slots.specs.Keep.{Keep, left_state}
use Rattle.chew_spec_slots.specs.Recovery.{Recovered}
use Rattle.chew_spec_slots.specs.Slot.{Checkpoint, Saved as SavedSlot}
use Rattle.chew_spec_rounds.specs.Front.{RecoversToEither, RecoversToFront, front_checkpoint, shape_after}
use Rattle.chew_spec_rounds.specs.InStep.{IsInStep}
use Rattle.chew_spec_rounds.specs.Round.{DiskFault, IsRound, Saved}
use Rattle.chew_spec_rounds.specs.WriteSteps.{WritesCheckpoint}
use Rattle.chew_spec_rounds.proofs.Floors.{recovers-grown}
use Rattle.chew_spec_rounds.proofs.Fronts.{front-same, legal-front, legal-rest}
use Rattle.chew_spec_rounds.proofs.InStep.{Holds, either-of, if-none, if-some, if-some-weaker, in-step-grown, round-holds, some-of, step-leaves}
use Rattle.chew_spec_rounds.proofs.Keepers.{installed-shape}
use Rattle.chew_spec_rounds.proofs.Sessions.{either-grown}

-- some pair with a property that others have where they have another
might-weaker : (from until : ℕ) (disk : DiskState) (P Q : List ℕ → List ℕ → Type 0) → AlwaysMightLeave from until disk P → ((zero one : List ℕ) → P zero one → Q zero one) → AlwaysMightLeave from until disk Q
might-weaker from until disk P Q had weaker = record {
  each = λ under moment low high.
      let pair = had.each under moment low high in (pair.0, pair.1, pair.2, pair.3, weaker pair.0 pair.1 pair.4);
}

-- a stretch in which the keeper only froze
frozen-holds : (start : Dictionary) (seen more : List Entry) → is_legal (start_of start) (seen ++ more) ≡ true → calls_of more 0 ≡ Freeze ∷ [] → Holds start seen more (seen ++ more)
frozen-holds start seen more l calls = round-holds start seen more (DiskFault 0) l refl calls

-- what is left once writing failed
failed-left : (keep keep_then : Keep) (disk disk_then : DiskState) (start : Dictionary) (now : List Entry) (number : ℕ) (saved : SavedSlot) (checkpoint : Checkpoint) → IsInStep keep disk start now
    → (shape_after start now).waiting ≡ Some number → saved.checkpoint ≡ front_checkpoint start now number
    → (left_state keep disk ≡ Some checkpoint) ⊎ (checkpoint ≡ saved.checkpoint) → IsSomeAnd (shape_after start now).waiting (λ n. checkpoint ≡ front_checkpoint start now n)
failed-left keep keep_then disk disk_then start now number saved checkpoint step waits is left =
    ⊎_elim
    (λ before. if-some (left_state keep disk) (λ c. IsSomeAnd (shape_after start now).waiting (λ n. c ≡ front_checkpoint start now n)) checkpoint step.left before)
    (λ same. some-of (shape_after start now).waiting (λ n. checkpoint ≡ front_checkpoint start now n) number waits (same ∙ is))
    left

pub failed-in-step : {T E : Type 0} (keep keep_then : Keep) (disk disk_then : DiskState) (start : Dictionary) (seen more : List Entry) (number : ℕ) (saved : SavedSlot) (failed : E)
    → is_legal (start_of start) (seen ++ more) ≡ true → IsInStep keep disk start seen → calls_of more 0 ≡ Freeze ∷ []
    → (shape_after start (seen ++ more)).waiting ≡ Some number → saved.checkpoint ≡ front_checkpoint start (seen ++ more) number
    → WritesCheckpoint {T = T} keep disk keep_then disk_then saved (Err failed) → IsInStep keep_then disk_then start (seen ++ more)
failed-in-step keep keep_then disk disk_then start seen more number saved failed l step calls waits is writes =
    let now = seen ++ more in
    let grown = in-step-grown keep disk start seen more now (frozen-holds start seen more l calls) step in
    record {
      fits = writes.fits;
      acknowledged = writes.done.state ∙ grown.acknowledged;
      left = if-some-weaker (left_state keep_then disk_then) (λ c. (left_state keep disk ≡ Some c) ⊎ (c ≡ saved.checkpoint))
          (λ c. IsSomeAnd (shape_after start now).waiting (λ n. c ≡ front_checkpoint start now n)) writes.done.left
          (λ c. failed-left keep keep_then disk disk_then start now number saved c grown waits is);
    }

-- at every moment of the writing
writes-either : (keep : Keep) (disk : DiskState) (start : Dictionary) (seen more : List Entry) (number : ℕ) (saved : SavedSlot) (zero one : List ℕ) → Holds start seen more (seen ++ more) → IsInStep keep disk start seen
    → (shape_after start (seen ++ more)).waiting ≡ Some number → saved.checkpoint ≡ front_checkpoint start (seen ++ more) number
    → RecoversToOldOrLeft keep disk zero one ⊎ RecoversTo saved.checkpoint zero one
    → RecoversToEither start (seen ++ more) (shape_after start seen).installed (shape_after start (seen ++ more)).waiting zero one
writes-either keep disk start seen more number saved zero one holds step waits is recovers =
    let now = seen ++ more in
    ⊎_elim
    (λ old. subst (λ n. RecoversToEither start now n (shape_after start now).waiting zero one) holds.installed
    (either-of keep disk start now zero one (in-step-grown keep disk start seen more now holds step) old))
    (λ new. inr (some-of (shape_after start now).waiting (λ n. RecoversToFront start now n zero one) number waits (new ∙ ap Recovered is)))
    recovers

-- the old state is the front that was acknowledged
old-front : (keep : Keep) (disk : DiskState) (start : Dictionary) (seen more now : List Entry) (zero one : List ℕ) → now ≡ seen ++ more → is_legal (start_of start) now ≡ true → IsInStep keep disk start seen
    → RecoversToOld keep disk zero one → RecoversToFront start now (shape_after start seen).installed zero one
old-front keep disk start seen more now zero one joined l step old =
    recovers-grown start seen more now (shape_after start seen).installed zero one joined (installed_most start seen (legal-front (start_of start) seen more now joined l))
    (old ∙ ap Recovered step.acknowledged)

pub failed-round : {T E : Type 0} (keep keep_then : Keep) (disk disk_then : DiskState) (start : Dictionary) (seen more : List Entry) (number step : ℕ) (saved : SavedSlot) (failed : E)
    → is_legal (start_of start) (seen ++ more) ≡ true → IsInStep keep disk start seen → calls_of more 0 ≡ Freeze ∷ []
    → (shape_after start (seen ++ more)).waiting ≡ Some number → saved.checkpoint ≡ front_checkpoint start (seen ++ more) number
    → WritesCheckpoint {T = T} keep disk keep_then disk_then saved (Err failed) → IsRound start seen (seen ++ more) disk disk_then (DiskFault step)
failed-round keep keep_then disk disk_then start seen more number step saved failed l steps calls waits is writes =
    let now = seen ++ more in
    record {
      more = more;
      joined = refl;
      calls = calls;
      is_disk = writes.fits.is_disk;
      later = writes.later;
      moments = always-weaker disk.moment disk_then (λ zero one. RecoversToOldOrLeft keep disk zero one ⊎ RecoversTo saved.checkpoint zero one)
          (RecoversToEither start now (shape_after start seen).installed (shape_after start now).waiting) writes.moments
          (λ zero one. writes-either keep disk start seen more number saved zero one (frozen-holds start seen more l calls) steps waits is);
      chances = might-weaker disk.moment disk_then.moment disk_then (RecoversToOld keep disk) (RecoversToFront start now (shape_after start seen).installed) writes.done.chances
          (λ zero one. old-front keep disk start seen more now zero one refl l steps);
      saved = tt;
      now = step-leaves keep_then disk_then start now (failed-in-step keep keep_then disk disk_then start seen more number saved failed l steps calls waits is writes);
    }

-- the shape once the snapshot was installed
then-shape : (start : Dictionary) (frozen rest : List Entry) (number : ℕ) → is_legal (start_of start) (frozen ++ rest) ≡ true → calls_of rest 0 ≡ Install number ∷ []
    → shape_after start (frozen ++ rest) ≡ record { installed = number; waiting = None }
then-shape start frozen rest number l calls =
    ap (λ (q : Point). q.shape) (after_joined (start_of start) frozen rest)
    ∙ installed-shape (after (start_of start) frozen) rest number (legal-rest (start_of start) frozen rest (frozen ++ rest) refl l) calls

-- what was written is the front of the longer history
written-front : (start : Dictionary) (frozen rest : List Entry) (number : ℕ) (saved : SavedSlot) → is_legal (start_of start) (frozen ++ rest) ≡ true → (shape_after start frozen).waiting ≡ Some number
    → saved.checkpoint ≡ front_checkpoint start frozen number → saved.checkpoint ≡ front_checkpoint start (frozen ++ rest) number
written-front start frozen rest number saved l waits is =
    let between = waiting_between start frozen number (legal-front (start_of start) frozen rest (frozen ++ rest) refl l) waits in
    is ∙ front-same start frozen rest (frozen ++ rest) number refl (let low = between.1 in omega arith)

pub saved-in-step : {T E : Type 0} (keep keep_then : Keep) (disk disk_then : DiskState) (start : Dictionary) (seen more rest : List Entry) (number : ℕ) (saved : SavedSlot) (done : T)
    → is_legal (start_of start) ((seen ++ more) ++ rest) ≡ true → IsInStep keep disk start seen → calls_of more 0 ≡ Freeze ∷ []
    → (shape_after start (seen ++ more)).waiting ≡ Some number → saved.checkpoint ≡ front_checkpoint start (seen ++ more) number
    → calls_of rest 0 ≡ Install number ∷ []
    → WritesCheckpoint {E = E} keep disk keep_then disk_then saved (Ok done) → IsInStep keep_then disk_then start ((seen ++ more) ++ rest)
saved-in-step keep keep_then disk disk_then start seen more rest number saved done l step calls waits is installs writes =
    let last = (seen ++ more) ++ rest in
    let shape = then-shape start (seen ++ more) rest number l installs in
    record {
      fits = writes.fits;
      acknowledged = writes.done.state ∙ written-front start (seen ++ more) rest number saved l waits is ∙ ap (λ (s : Shape). front_checkpoint start last s.installed) (sym shape);
      left = if-none (left_state keep_then disk_then) (λ checkpoint. IsSomeAnd (shape_after start last).waiting (λ n. checkpoint ≡ front_checkpoint start last n)) writes.done.left;
    }

-- the calls of two stretches
pub calls-joined : (h more : List Entry) → calls_of (h ++ more) 0 ≡ calls_of h 0 ++ calls_of more 0
calls-joined h more = ap (map (λ (e : Entry). e.call)) (own_joined h more 0) ∙ map-append (λ (e : Entry). e.call) (own h 0) (own more 0)

pub saved-round : {T E : Type 0} (keep keep_then : Keep) (disk disk_then : DiskState) (start : Dictionary) (seen more rest : List Entry) (number : ℕ) (saved : SavedSlot) (done : T)
    → is_legal (start_of start) ((seen ++ more) ++ rest) ≡ true → IsInStep keep disk start seen → calls_of more 0 ≡ Freeze ∷ []
    → (shape_after start (seen ++ more)).waiting ≡ Some number → saved.checkpoint ≡ front_checkpoint start (seen ++ more) number
    → calls_of rest 0 ≡ Install number ∷ []
    → WritesCheckpoint {E = E} keep disk keep_then disk_then saved (Ok done) → IsRound start seen ((seen ++ more) ++ rest) disk disk_then (Saved number)
saved-round keep keep_then disk disk_then start seen more rest number saved done l step calls waits is installs writes =
    let frozen = seen ++ more in
    let last = (seen ++ more) ++ rest in
    let legal = legal-front (start_of start) frozen rest last refl l in
    let holds = frozen-holds start seen more legal calls in
    let joined : last ≡ seen ++ (more ++ rest) = append_assoc seen more rest in
    let within : (shape_after start seen).installed ≤ length frozen = (let most = installed_most start frozen legal in let same = holds.installed in omega arith) in
    record {
      more = more ++ rest;
      joined = joined;
      calls = calls-joined more rest ∙ ap₂ (λ (x y : List Call). x ++ y) calls installs;
      is_disk = writes.fits.is_disk;
      later = writes.later;
      moments = always-weaker disk.moment disk_then (λ zero one. RecoversToOldOrLeft keep disk zero one ⊎ RecoversTo saved.checkpoint zero one)
          (RecoversToEither start last (shape_after start seen).installed (Some number)) writes.moments
          (λ zero one recovers.
          either-grown start frozen rest last (shape_after start seen).installed (Some number) zero one refl within
          (λ n w. (let between = waiting_between start frozen n legal (waits ∙ w) in let low = between.1 in omega arith))
          (subst (λ o. RecoversToEither start frozen (shape_after start seen).installed o zero one) waits
          (writes-either keep disk start seen more number saved zero one holds step waits is recovers)));
      chances = might-weaker disk.moment (disk_then.moment - 1) disk_then (RecoversToOld keep disk) (RecoversToFront start last (shape_after start seen).installed) writes.done.chances
          (λ zero one. old-front keep disk start seen (more ++ rest) last zero one joined l step);
      saved = λ zero one left other. writes.done.now zero one left other ∙ ap Recovered (written-front start frozen rest number saved l waits is);
      now = step-leaves keep_then disk_then start last (saved-in-step keep keep_then disk disk_then start seen more rest number saved done l step calls waits is installs writes);
    }
