-- How a session begins, and goes on over calls that only read.
use Rattle.std.specs.Prelude.{◌≡◌, ℕ, ◌<◌, ◌≤◌, true, List, [], None, refl}
use Rattle.std.proofs.Common.{arith, sym, subst, ⊎_elim}
use native.Mathlib.Decide.{dec_le}
use Rattle.chew_spec_disk.specs.Disk.{DiskState, IsDisk, last_moment}
use Rattle.chew_spec_dictionary.specs.Dictionary.{Dictionary}
use Rattle.chew_spec_dictionary.specs.History.{Entry, is_legal, start_of}
use Rattle.chew_spec_dictionary.proofs.Shapes.{waiting_between}
use Rattle.chew_spec_slots.specs.Keep.{Keep}
use Rattle.chew_spec_rounds.specs.Front.{IsNumber, RecoversToFront, shape_after}
use Rattle.chew_spec_rounds.specs.InStep.{IsInStep}
use Rattle.chew_spec_rounds.specs.Round.{Round}
use Rattle.chew_spec_rounds.specs.Session.{HasFloorUpTo, IsChosen, IsSession, OnlyReads, last_saved}
use Rattle.chew_spec_rounds.proofs.Floors.{chosen-stays, floor-stays, floor-weaker, some-and}
use Rattle.chew_spec_rounds.proofs.Fronts.{installed-number, waiting-number}
use Rattle.chew_spec_rounds.proofs.InStep.{step-leaves}
use Rattle.chew_spec_rounds.proofs.LastRounds.{only-one}
use Rattle.chew_spec_rounds.proofs.Sessions.{session-begins}
use Rattle.std.proofs.lemmas.List.{append-nil}
use Rattle.chew_spec_dictionary.proofs.Shapes.{installed_most}

-- what is in step with no history recovers to the start
pub in-step-begins : (keep : Keep) (disk : DiskState) (start : Dictionary) → IsInStep keep disk start [] → IsSession start [] disk.moment disk []
in-step-begins keep disk start step =
    session-begins start disk step.fits.is_disk (λ first second left other. only-one start [] 0 None first second refl (step-leaves keep disk start [] step first second left other))

-- a session and calls that only read
module _ (start : Dictionary) (history : List Entry) (from : ℕ) (before after : DiskState) (rounds : List Round)
    (l : is_legal (start_of start) history ≡ true) (is : IsDisk before) (had : IsSession start history from before rounds) (reads : OnlyReads before after) where
  -- the moments before
  old-floor : after.moment < last_moment → (moment : ℕ) → from ≤ moment → moment ≤ before.moment → HasFloorUpTo start history after moment (last_saved 0 rounds)
  old-floor under moment low early =
      floor-stays start history [] history before after moment (last_saved 0 rounds) (record { joined = sym (append-nil history); later = reads.later; under = under }) early
      (let most = installed_most start history l in let same = had.acknowledged in omega arith)
      (had.floors (let up = reads.later.not_before in omega arith) moment low early)

  -- a floor of the last moment before is one of the moments after
  new-floor : after.moment < last_moment → (moment : ℕ) → before.moment < moment → moment ≤ after.moment → HasFloorUpTo start history after moment (last_saved 0 rounds)
  new-floor under moment late high =
      let here : before.moment < last_moment = (let up = reads.later.not_before in omega arith) in
      let floor = had.floors here before.moment had.begun (omega arith) in
      let pair = floor.2.pair in (
        floor.0,
        floor.1,
        record {
          numbered = floor.2.numbered;
          pair = (
            pair.0,
            pair.1,
            (reads.between under moment 0 pair.0 late high).1 ((is.this_moment here 0 pair.0).0 pair.2),
            (reads.between under moment 1 pair.1 late high).1 ((is.this_moment here 1 pair.1).0 pair.3),
            pair.4,
          );
        },
      )

  floor-now : after.moment < last_moment → (moment : ℕ) → from ≤ moment → moment ≤ after.moment → HasFloorUpTo start history after moment (last_saved 0 rounds)
  floor-now under moment low high = pick (dec_le moment before.moment)
    where
      pick : Dec (moment ≤ before.moment) → HasFloorUpTo start history after moment (last_saved 0 rounds)
      pick (yes early) = old-floor under moment low early
      pick (no late) = new-floor under moment (omega arith) high

  chosen-from : after.moment < last_moment → (moment number : ℕ) (first second : List ℕ) → moment ≤ after.moment → IsNumber start history number → last_saved 0 rounds ≤ number
      → RecoversToFront start history number first second → (n : ℕ) × IsChosen start history from after moment first second n
  chosen-from under moment number first second high numbered above recovers = (
    number,
    record {
      numbered = numbered;
      recovers = recovers;
      no_shorter = λ earlier low less. floor-weaker start history after earlier (last_saved 0 rounds) number above (floor-now under earlier low (omega arith));
    },
  )

  chosen-new : after.moment < last_moment → (moment : ℕ) (first second : List ℕ) → moment ≤ after.moment → before.may_leave 0 first → before.may_leave 1 second
      → (n : ℕ) × IsChosen start history from after moment first second n
  chosen-new under moment first second high left other =
      ⊎_elim
      (λ old. chosen-from under moment (last_saved 0 rounds) first second high (subst (IsNumber start history) had.acknowledged (installed-number start history l)) (omega arith) old)
      (λ new.
      let found = some-and (shape_after start history).waiting (λ n. RecoversToFront start history n first second) new in
      let low = (waiting_between start history found.0 l found.1).0 in
      let same = had.acknowledged in
      chosen-from under moment found.0 first second high (waiting-number start history found.0 l found.1) (omega arith) found.2)
      (had.ends first second left other)

  chosen-now : after.moment < last_moment → (moment : ℕ) (first second : List ℕ) → from ≤ moment → moment ≤ after.moment → after.might_have_left moment 0 first → after.might_have_left moment 1 second
      → (n : ℕ) × IsChosen start history from after moment first second n
  chosen-now under moment first second low high left other = pick (dec_le moment before.moment)
    where
      pick : Dec (moment ≤ before.moment) → (n : ℕ) × IsChosen start history from after moment first second n
      pick (yes early) =
          chosen-stays start history [] history from before after moment first second (record { joined = sym (append-nil history); later = reads.later; under = under }) early
          (had.never_shortens.each (let up = reads.later.not_before in omega arith) moment first second low early
          ((reads.later.earlier under moment 0 first early).1 left)
          ((reads.later.earlier under moment 1 second early).1 other))
      pick (no late) =
          chosen-new under moment first second high
          ((reads.between under moment 0 first (omega arith) high).0 left)
          ((reads.between under moment 1 second (omega arith) high).0 other)

  pub reads-more : IsSession start history from after rounds
  reads-more = record {
    begun = let first = had.begun in let up = reads.later.not_before in omega arith;
    acknowledged = had.acknowledged;
    never_shortens = record { each = chosen-now };
    floors = floor-now;
    ends = λ first second left other. had.ends first second ((reads.outcomes 0 first).0 left) ((reads.outcomes 1 second).0 other);
  }
