-- What is in step stays in step over the keeper's calls, and tells what recovery gives.
use Rattle.std.specs.Prelude.{◌≡◌, ℕ, ◌≤◌, true, List, [], ◌++◌, length, Option, Some, None, IsSomeAnd, IfSome, unwrap_or, refl}
use Rattle.std.proofs.Common.{arith, inl, inr, sym, ap, ◌∙◌, subst, ⊎_elim}
use Rattle.chew_spec_disk.specs.Disk.{DiskState}
use Rattle.chew_spec_disk.specs.Moments.{AlwaysMightLeave, NowLeaves, NowMayLeave}
use Rattle.chew_spec_disk.proofs.Moments.{always-here, later-same, might-here}
use Rattle.chew_spec_dictionary.specs.Dictionary.{Dictionary}
use Rattle.chew_spec_dictionary.specs.History.{Entry, Point, Shape, after, calls_of, is_legal, start_of}
use Rattle.chew_spec_dictionary.proofs.Histories.{after_joined}
use Rattle.chew_spec_dictionary.proofs.Shapes.{installed_most, waiting_between}
use Rattle.chew_spec_slots.specs.Fits.{Fits, RecoversTo, RecoversToOld, RecoversToOldOrLeft}
use Rattle.chew_spec_slots.specs.Keep.{Keep, acknowledged_state, left_state}
use Rattle.chew_spec_slots.specs.Recovery.{Recovered}
use Rattle.chew_spec_slots.proofs.Chances.{chance-weaker, fits-chance}
use Rattle.chew_spec_slots.proofs.Fitting.{fits-recovers}
use Rattle.chew_spec_slots.specs.Slot.{Checkpoint}
use Rattle.chew_spec_rounds.specs.Front.{RecoversToEither, RecoversToFront, front_checkpoint, shape_after}
use Rattle.chew_spec_rounds.specs.InStep.{IsInStep}
use Rattle.chew_spec_rounds.specs.Round.{DiskFault, IsRound, KeepersCalls, NoMemory, Round, Saved, SeqSpent, last_unsynced, saved_number, snapshot_number}
use Rattle.chew_spec_rounds.specs.Session.{GrowsByOthers}
use Rattle.chew_spec_rounds.proofs.Floors.{some-and}
use Rattle.chew_spec_rounds.proofs.Fronts.{front-same, legal-front, legal-rest, none-some}
use Rattle.chew_spec_rounds.proofs.Keepers.{frozen-shape, frozen_at, quiet-shape}
use Rattle.chew_spec_rounds.proofs.Sessions.{others-shape}

-- what is there of an option has what all have
pub if-some : {A : Type 0} (o : Option A) (P : A → Type 0) (x : A) → IfSome o P → o ≡ Some x → P x
if-some None P x had is = absurd (none-some is)
if-some (Some y) P x had is = subst P (ap (λ o. unwrap_or o y) is) had

pub if-some-weaker : {A : Type 0} (o : Option A) (P Q : A → Type 0) → IfSome o P → ((x : A) → P x → Q x) → IfSome o Q
if-some-weaker None P Q had weaker = tt
if-some-weaker (Some x) P Q had weaker = weaker x had

pub some-of : {A : Type 0} (o : Option A) (P : A → Type 0) (x : A) → o ≡ Some x → P x → IsSomeAnd o P
some-of o P x is had = subst (λ p. IsSomeAnd p P) (sym is) had

pub if-none : {A : Type 0} (o : Option A) (P : A → Type 0) → o ≡ None → IfSome o P
if-none o P none = subst (λ p. IfSome p P) (sym none) tt

-- a longer history with the same installed, and what waits still waiting
pub record Holds (start : Dictionary) (seen more now : List Entry) : Type 0 where
  pub joined : now ≡ seen ++ more
  pub legal : is_legal (start_of start) now ≡ true
  pub installed : (shape_after start now).installed ≡ (shape_after start seen).installed
  pub waiting : (number : ℕ) → (shape_after start seen).waiting ≡ Some number → (shape_after start now).waiting ≡ Some number

-- the number that was acknowledged is within the front
holds-within : (start : Dictionary) (seen more now : List Entry) → Holds start seen more now → (shape_after start seen).installed ≤ length seen
holds-within start seen more now holds = installed_most start seen (legal-front (start_of start) seen more now holds.joined holds.legal)

pub left-grown : (start : Dictionary) (seen more now : List Entry) (checkpoint : Checkpoint) → Holds start seen more now
    → IsSomeAnd (shape_after start seen).waiting (λ number. checkpoint ≡ front_checkpoint start seen number)
    → IsSomeAnd (shape_after start now).waiting (λ number. checkpoint ≡ front_checkpoint start now number)
left-grown start seen more now checkpoint holds had =
    let found = some-and (shape_after start seen).waiting (λ number. checkpoint ≡ front_checkpoint start seen number) had in
    let between = waiting_between start seen found.0 (legal-front (start_of start) seen more now holds.joined holds.legal) found.1 in
    some-of (shape_after start now).waiting (λ number. checkpoint ≡ front_checkpoint start now number) found.0 (holds.waiting found.0 found.1)
    (found.2 ∙ front-same start seen more now found.0 holds.joined (let low = between.1 in omega arith))

pub in-step-grown : (keep : Keep) (disk : DiskState) (start : Dictionary) (seen more now : List Entry) → Holds start seen more now → IsInStep keep disk start seen → IsInStep keep disk start now
in-step-grown keep disk start seen more now holds step = record {
  fits = step.fits;
  acknowledged = step.acknowledged ∙ front-same start seen more now (shape_after start seen).installed holds.joined (holds-within start seen more now holds)
      ∙ ap (front_checkpoint start now) (sym holds.installed);
  left = if-some-weaker (left_state keep disk) (λ checkpoint. IsSomeAnd (shape_after start seen).waiting (λ number. checkpoint ≡ front_checkpoint start seen number))
      (λ checkpoint. IsSomeAnd (shape_after start now).waiting (λ number. checkpoint ≡ front_checkpoint start now number)) step.left
      (λ checkpoint. left-grown start seen more now checkpoint holds);
}

-- the old state and a left one are fronts of the history
pub either-of : (keep : Keep) (disk : DiskState) (start : Dictionary) (seen : List Entry) (zero one : List ℕ) → IsInStep keep disk start seen → RecoversToOldOrLeft keep disk zero one
    → RecoversToEither start seen (shape_after start seen).installed (shape_after start seen).waiting zero one
either-of keep disk start seen zero one step either =
    ⊎_elim (λ old. inl (old ∙ ap Recovered step.acknowledged))
    (λ left.
    let found = some-and (left_state keep disk) (λ checkpoint. RecoversTo checkpoint zero one) left in
    let front = if-some (left_state keep disk) (λ checkpoint. IsSomeAnd (shape_after start seen).waiting (λ number. checkpoint ≡ front_checkpoint start seen number)) found.0 step.left found.1 in
    let waits = some-and (shape_after start seen).waiting (λ number. found.0 ≡ front_checkpoint start seen number) front in
    inr (some-of (shape_after start seen).waiting (λ number. RecoversToFront start seen number zero one) waits.0 waits.1 (found.2 ∙ ap Recovered waits.2)))
    either

pub step-leaves : (keep : Keep) (disk : DiskState) (start : Dictionary) (seen : List Entry) → IsInStep keep disk start seen
    → NowLeaves disk (RecoversToEither start seen (shape_after start seen).installed (shape_after start seen).waiting)
step-leaves keep disk start seen step zero one left other = either-of keep disk start seen zero one step (fits-recovers keep disk step.fits zero one left other)

pub step-chance : (keep : Keep) (disk : DiskState) (start : Dictionary) (seen : List Entry) → IsInStep keep disk start seen → NowMayLeave disk (RecoversToFront start seen (shape_after start seen).installed)
step-chance keep disk start seen step =
    chance-weaker disk (RecoversToOld keep disk) (RecoversToFront start seen (shape_after start seen).installed) (fits-chance keep disk step.fits) (λ zero one old. old ∙ ap Recovered step.acknowledged)

-- what recovery found
pub found-in-step : (keep : Keep) (disk : DiskState) (start : Dictionary) → Fits keep disk → acknowledged_state keep disk ≡ record { life = start.life; rows = start.pairs }
    → left_state keep disk ≡ None → IsInStep keep disk start []
unfolding front_checkpoint
found-in-step keep disk start fits state none = record {
  fits = fits;
  acknowledged = state;
  left = if-none (left_state keep disk) (λ checkpoint. IsSomeAnd (shape_after start []).waiting (λ number. checkpoint ≡ front_checkpoint start [] number)) none;
}

-- others than the keeper go on
others-hold : (start : Dictionary) (seen now : List Entry) (l : is_legal (start_of start) now ≡ true) (grows : GrowsByOthers seen now) → Holds start seen grows.more now
others-hold start seen now l grows =
    let shape = others-shape start seen now l grows in
    record {
      joined = grows.joined;
      legal = l;
      installed = ap (λ (s : Shape). s.installed) shape;
      waiting = λ number w. ap (λ (s : Shape). s.waiting) shape ∙ w;
    }

pub others-in-step : (keep : Keep) (disk : DiskState) (start : Dictionary) (seen now : List Entry) → is_legal (start_of start) now ≡ true → IsInStep keep disk start seen → GrowsByOthers seen now
    → IsInStep keep disk start now
others-in-step keep disk start seen now l step grows = in-step-grown keep disk start seen grows.more now (others-hold start seen now l grows) step

-- a stretch after which the shape is the same, or frozen
record Kept (before now : Shape) : Type 0 where
  pub installed : now.installed ≡ before.installed
  pub waiting : (number : ℕ) → before.waiting ≡ Some number → now.waiting ≡ Some number

kept-same : (before now : Shape) → now ≡ before → Kept before now
kept-same before now same = record { installed = ap (λ (s : Shape). s.installed) same; waiting = λ number w. ap (λ (s : Shape). s.waiting) same ∙ w }

kept-frozen : (before now : Shape) (place : ℕ) → now ≡ frozen_at before place → Kept before now
kept-frozen before now place same = record {
  installed = ap (λ (s : Shape). s.installed) same;
  waiting = λ number w. ap (λ (s : Shape). s.waiting) same ∙ ap (λ o. Some (unwrap_or o place)) w;
}

kept-by : (p : Point) (h : List Entry) (round : Round) → is_legal p h ≡ true → saved_number round ≡ None → KeepersCalls round (calls_of h 0) → Kept p.shape (after p h).shape
kept-by p h (Saved number) l none calls = absurd (none-some (sym none))
kept-by p h (DiskFault step) l none calls = let frozen = frozen-shape p h l calls in kept-frozen p.shape (after p h).shape frozen.0 frozen.1
kept-by p h NoMemory l none calls =
    ⊎_elim (λ freeze. let frozen = frozen-shape p h l freeze in kept-frozen p.shape (after p h).shape frozen.0 frozen.1)
    (λ quiet. kept-same p.shape (after p h).shape (quiet-shape p h l quiet)) calls
kept-by p h (SeqSpent seq) l none calls = kept-same p.shape (after p h).shape (quiet-shape p h l calls)

-- a round that saves nothing, up to its writing
pub round-holds : (start : Dictionary) (seen more : List Entry) (round : Round) → is_legal (start_of start) (seen ++ more) ≡ true → saved_number round ≡ None → KeepersCalls round (calls_of more 0)
    → Holds start seen more (seen ++ more)
round-holds start seen more round l none calls =
    let joined = after_joined (start_of start) seen more in
    let kept = kept-by (after (start_of start) seen) more round (legal-rest (start_of start) seen more (seen ++ more) refl l) none calls in
    record {
      joined = refl;
      legal = l;
      installed = ap (λ (q : Point). q.shape.installed) joined ∙ kept.installed;
      waiting = λ number w. ap (λ (q : Point). q.shape.waiting) joined ∙ kept.waiting number w;
    }

-- such a round has the waiting snapshot's number, and no sync of an open gate
pub unsaved-snapshot : (round : Round) (shape : Shape) → saved_number round ≡ None → shape.waiting ≡ snapshot_number round shape
unsaved-snapshot (Saved number) shape none = absurd (none-some (sym none))
unsaved-snapshot (DiskFault step) shape none = refl
unsaved-snapshot NoMemory shape none = refl
unsaved-snapshot (SeqSpent seq) shape none = refl

unsaved-moment : (round : Round) (moment : ℕ) → saved_number round ≡ None → moment ≡ last_unsynced round moment
unsaved-moment (Saved number) moment none = absurd (none-some (sym none))
unsaved-moment (DiskFault step) moment none = refl
unsaved-moment NoMemory moment none = refl
unsaved-moment (SeqSpent seq) moment none = refl

-- a round that writes nothing
pub unwritten-round : (keep : Keep) (disk : DiskState) (start : Dictionary) (seen more : List Entry) (round : Round) → is_legal (start_of start) (seen ++ more) ≡ true → IsInStep keep disk start seen
    → saved_number round ≡ None → KeepersCalls round (calls_of more 0) → IsRound start seen (seen ++ more) disk disk round
unwritten-round keep disk start seen more round l step none calls =
    let now = seen ++ more in
    let holds = round-holds start seen more round l none calls in
    let grown = in-step-grown keep disk start seen more now holds step in
    let leaves : NowLeaves disk (RecoversToEither start now (shape_after start seen).installed (snapshot_number round (shape_after start now))) =
    (λ zero one left other.
    subst (λ n. RecoversToEither start now n (snapshot_number round (shape_after start now)) zero one) holds.installed
    (subst (λ o. RecoversToEither start now (shape_after start now).installed o zero one) (unsaved-snapshot round (shape_after start now) none)
    (step-leaves keep disk start now grown zero one left other))) in
    let chance : NowMayLeave disk (RecoversToFront start now (shape_after start seen).installed) =
    subst (λ n. NowMayLeave disk (RecoversToFront start now n)) holds.installed (step-chance keep disk start now grown) in
    record {
      more = more;
      joined = refl;
      calls = calls;
      is_disk = step.fits.is_disk;
      later = later-same disk;
      moments = always-here disk (RecoversToEither start now (shape_after start seen).installed (snapshot_number round (shape_after start now))) step.fits.is_disk leaves;
      chances = subst (λ m. AlwaysMightLeave disk.moment m disk (RecoversToFront start now (shape_after start seen).installed)) (unsaved-moment round disk.moment none)
          (might-here disk (RecoversToFront start now (shape_after start seen).installed) step.fits.is_disk chance);
      saved = if-none (saved_number round) (λ number. NowLeaves disk (RecoversToFront start now number)) none;
      now = step-leaves keep disk start now grown;
    }
