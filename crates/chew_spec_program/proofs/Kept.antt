-- What a crash at any moment of a run leaves.
use Rattle.std.specs.Prelude.{◌≡◌, ◌↔◌, ℕ, ◌<◌, ◌≤◌, true, List, [], Result, Ok, Err, MatchResult}
use Rattle.std.proofs.Common.{refl, ap, ap₂, sym, subst, inl, ◌∙◌, ⊎_elim, arith}
use Rattle.std.proofs.lemmas.Bool.{cases_lt}
use Rattle.chew_spec_disk.specs.Disk.{DiskState, IsDisk, Later, last_moment}
use Rattle.chew_spec_disk.specs.Moments.{NowLeaves}
use Rattle.chew_spec_dictionary.specs.Dictionary.{Dictionary}
use Rattle.chew_spec_dictionary.specs.History.{Entry, Point, is_legal, start_of}
use Rattle.chew_spec_slots.specs.Recovery.{Recovered, recovered}
use Rattle.chew_spec_rounds.specs.Front.{RecoversToFront, front_checkpoint}
use Rattle.chew_spec_rounds.specs.Round.{Round}
use Rattle.chew_spec_rounds.specs.Session.{HasFloorUpTo, IsChosen, IsSession, OnlyReads, last_saved}
use Rattle.chew_spec_rounds.proofs.LastRounds as rounds
use Rattle.chew_spec_rounds.proofs.Reading.{reads-more}
use Rattle.chew_spec_rounds.proofs.Sessions.{session-begins}
use Rattle.chew_spec_session.proofs.LastRounds as sessions
use Rattle.chew_spec_program.specs.Command.{asks_trace}
use Rattle.chew_spec_program.specs.Crash.{BeginsWith, IsKept, IsWholeOnDisk, NeverShorter}
use Rattle.chew_spec_program.specs.Opening.{Inputs, IsOpening}
use Rattle.chew_spec_program.specs.Refusal.{Refusal}
use Rattle.chew_spec_program.specs.Run.{Ended, IsDone, IsRun, Outside}
use Rattle.chew_spec_program.specs.Slots.{IsUnwritten, Kept}
use Rattle.chew_spec_program.proofs.Opened.{opened-stands}
use Rattle.chew_spec_program.proofs.Runs.{Ends, refused-status}
use Rattle.chew_spec_program.proofs.Statuses.{refusal-apart}
use Rattle.chew_spec_program.proofs.Whole.{last-saved}

-- a disk that was not written is one still
unwritten-disk : (before now : DiskState) → IsDisk before → IsUnwritten before now → IsDisk now
unwritten-disk before now is un = record {
  reads_may_be_left = λ slot. (un.outcomes slot (now.reads slot)).1 (subst (before.may_leave slot) (sym (un.reads slot)) (is.reads_may_be_left slot));
  this_moment = λ under slot list. ⊎_elim (λ (later : before.moment < now.moment). went-on under slot list later) (λ same. stood under slot list (omega arith)) (cases_lt before.moment now.moment);
}
  where
    went-on : now.moment < last_moment → (slot : ℕ) (list : List ℕ) → before.moment < now.moment → now.might_have_left now.moment slot list ↔ now.may_leave slot list
    went-on under slot list later =
        let between = un.between under now.moment slot list later (omega arith) in
        let outcomes = un.outcomes slot list in
        (λ h. outcomes.1 (between.0 h), λ h. between.1 (outcomes.0 h))

    stood : now.moment < last_moment → (slot : ℕ) (list : List ℕ) → now.moment ≤ before.moment → now.might_have_left now.moment slot list ↔ now.may_leave slot list
    stood under slot list low =
        let not_before = un.later.not_before in
        let same : before.moment ≡ now.moment = omega arith in
        let earlier = un.later.earlier under before.moment slot list (omega arith) in
        let this = is.this_moment (omega arith) slot list in
        let outcomes = un.outcomes slot list in (
          λ h. outcomes.1 (this.0 (earlier.1 (subst (λ (m : ℕ). now.might_have_left m slot list) (sym same) h))),
          λ h. subst (λ (m : ℕ). now.might_have_left m slot list) same (earlier.0 (this.1 (outcomes.0 h))),
        )

only-reads : (before now : DiskState) → IsDisk before → IsUnwritten before now → OnlyReads before now
only-reads before now is un = record { is_disk = unwritten-disk before now is un; later = un.later; outcomes = un.outcomes; between = un.between }

-- the map after no entry is that at the start
front-none : (start : Dictionary) (history : List Entry) → front_checkpoint start history 0 ≡ record { life = start.life; rows = start.pairs }
unfolding front_checkpoint
front-none start history = refl

-- what a crash leaves as the run begins
pub begins-leaves : (start : Dictionary) (disk : Kept) → BeginsWith start disk → NowLeaves disk.before (RecoversToFront start [] 0)
begins-leaves start disk begins first second left other =
    ap₂ recovered ((begins.zero first).0 left) ((begins.one second).0 other) ∙ begins.recovers ∙ ap Recovered (sym (front-none start []))

pub refused-kept : (start : Dictionary) (disk : Kept) → (disk.told ≡ true → IsUnwritten disk.before disk.now) → BeginsWith start disk → NeverShorter start [] [] disk
refused-kept start disk unwritten begins =
    reads-more start [] disk.before.moment disk.before disk.now [] refl begins.is_disk
    (session-begins start disk.before begins.is_disk (begins-leaves start disk begins))
    (only-reads disk.before disk.now begins.is_disk (unwritten begins.told))

-- a session may be said to begin before its slots were read
module _ (start : Dictionary) (history : List Entry) (rounds : List Round) (first before now : DiskState) (is : IsDisk first) (leaves : NowLeaves first (RecoversToFront start [] 0))
    (un : IsUnwritten first before) (later : Later before now) (had : IsSession start history before.moment now rounds) where
  -- what a crash left while they were read
  early : now.moment < last_moment → (moment slot : ℕ) (list : List ℕ) → first.moment ≤ moment → moment ≤ before.moment → now.might_have_left moment slot list ↔ first.may_leave slot list
  early under moment slot list low high =
      let not_before = later.not_before in
      let earlier = later.earlier under moment slot list high in
      ⊎_elim
      (λ (behind : first.moment < moment).
      let between = un.between (omega arith) moment slot list behind high in (λ h. between.0 (earlier.1 h), λ h. earlier.0 (between.1 h)))
      (λ same.
      let here : first.moment ≡ moment = omega arith in
      let reads_not_before = un.later.not_before in
      let at_first = un.later.earlier (omega arith) first.moment slot list (omega arith) in
      let this = is.this_moment (omega arith) slot list in (
        λ h. this.0 (at_first.1 (subst (λ (m : ℕ). before.might_have_left m slot list) (sym here) (earlier.1 h))),
        λ h. earlier.0 (subst (λ (m : ℕ). before.might_have_left m slot list) here (at_first.0 (this.1 h))),
      ))
      (cases_lt first.moment moment)

  at-start : (zero one : List ℕ) → first.may_leave 0 zero → first.may_leave 1 one → RecoversToFront start history 0 zero one
  at-start first-slot second-slot left other =
      leaves first-slot second-slot left other ∙ ap Recovered (front-none start [] ∙ sym (front-none start history))

  early-floor : now.moment < last_moment → (moment most : ℕ) → first.moment ≤ moment → moment ≤ before.moment → HasFloorUpTo start history now moment most
  early-floor under moment most low high = (
    0,
    omega arith,
    record {
      numbered = inl refl;
      pair = (
        first.reads 0,
        first.reads 1,
        (early under moment 0 (first.reads 0) low high).1 (is.reads_may_be_left 0),
        (early under moment 1 (first.reads 1) low high).1 (is.reads_may_be_left 1),
        at-start (first.reads 0) (first.reads 1) (is.reads_may_be_left 0) (is.reads_may_be_left 1),
      );
    },
  )

  chosen-early : now.moment < last_moment → (moment : ℕ) (zero one : List ℕ) → first.moment ≤ moment → moment ≤ before.moment
      → now.might_have_left moment 0 zero → now.might_have_left moment 1 one → (number : ℕ) × IsChosen start history first.moment now moment zero one number
  chosen-early under moment first-slot second-slot low high left other = (
    0,
    record {
      numbered = inl refl;
      recovers = at-start first-slot second-slot ((early under moment 0 first-slot low high).0 left) ((early under moment 1 second-slot low high).0 other);
      no_shorter = λ earlier from less. early-floor under earlier 0 from (omega arith);
    },
  )

  chosen-later : now.moment < last_moment → (moment : ℕ) (zero one : List ℕ) → before.moment ≤ moment → moment ≤ now.moment
      → now.might_have_left moment 0 zero → now.might_have_left moment 1 one → (number : ℕ) × IsChosen start history first.moment now moment zero one number
  chosen-later under moment first-slot second-slot low high left other =
      let chosen = had.never_shortens.each under moment first-slot second-slot low high left other in (
        chosen.0,
        record {
          numbered = chosen.1.numbered;
          recovers = chosen.1.recovers;
          no_shorter = λ earlier from less.
              ⊎_elim (λ (reading : earlier < before.moment). early-floor under earlier chosen.0 from (omega arith)) (λ behind. chosen.1.no_shorter earlier behind less) (cases_lt earlier before.moment);
        },
      )

  pub begins-earlier : IsSession start history first.moment now rounds
  begins-earlier = record {
    begun = (let reads = un.later.not_before in let begun = had.begun in omega arith);
    acknowledged = had.acknowledged;
    never_shortens = record {
      each = λ under moment first-slot second-slot low high left other.
          ⊎_elim (λ (reading : moment < before.moment). chosen-early under moment first-slot second-slot low (omega arith) left other)
          (λ behind. chosen-later under moment first-slot second-slot behind high left other) (cases_lt moment before.moment);
    };
    floors = λ under moment low high.
        ⊎_elim (λ (reading : moment < before.moment). early-floor under moment (last_saved 0 rounds) low (omega arith)) (λ behind. had.floors under moment behind high) (cases_lt moment before.moment);
    ends = had.ends;
  }

-- what holds of the session of a run from where its slots were read holds from where it began
pub kept-from-reading : (start : Dictionary) (disk : Kept) (between : DiskState) (journal : List Entry) (made : List Round) → BeginsWith start disk → IsUnwritten disk.before between → Later between disk.now
    → IsSession start journal between.moment disk.now made → NeverShorter start journal made disk
kept-from-reading start disk between journal made begins un later had =
    begins-earlier start journal made disk.before between disk.now begins.is_disk (begins-leaves start disk begins) un later had

-- a run that is not refused
done-kept : (words : List (List ℕ)) (outside : Outside) (ended : Ended) (inputs : Inputs) → IsOpening words outside.settings outside.system outside.script outside.disk (Ok inputs)
    → IsDone inputs (asks_trace words) outside.sink outside.disk ended → IsKept inputs.basis.start.dictionary ended.journal ended.rounds ended.status outside.disk
done-kept words outside ended inputs opening done =
    let begins = (opened-stands words outside.settings outside.system outside.script outside.disk inputs opening).begins in
    let start = inputs.basis.start.dictionary in
    let legal : is_legal (start_of start) done.session.journal ≡ true = subst (λ (p : Point). is_legal p done.session.journal ≡ true) begins done.is_session.history.legal in
    record {
      never_shorter = λ b. subst (λ (e : Ended). NeverShorter start e.journal e.rounds outside.disk) (sym done.ends) (done.kept b);
      whole = λ b zero.
          subst (λ (e : Ended). IsWholeOnDisk start e.journal outside.disk) (sym done.ends)
          (rounds.all-saved start done.session.journal outside.disk.before.moment outside.disk.now done.session.rounds legal (done.kept b)
          (sessions.all-saved start inputs.script.rounds done.session.journal done.session.rounds legal done.is_session.rounds
          (last-saved inputs (asks_trace words) outside.sink outside.disk ended done zero)));
    }

-- what the run stands on where it is not refused
abbrev StandsOn : Result Inputs Refusal → Dictionary → Type 0
StandsOn opened start = MatchResult opened (λ inputs. start ≡ inputs.basis.start.dictionary) (λ _. Unit {0})

kept-by : (words : List (List ℕ)) (outside : Outside) (ended : Ended) (start : Dictionary) (opened : Result Inputs Refusal)
    → IsOpening words outside.settings outside.system outside.script outside.disk opened → Ends words outside ended opened → StandsOn opened start
    → IsKept start ended.journal ended.rounds ended.status outside.disk
kept-by words outside ended start (Ok inputs) opening done same =
    subst (λ (d : Dictionary). IsKept d ended.journal ended.rounds ended.status outside.disk) (sym same) (done-kept words outside ended inputs opening done)
kept-by words outside ended start (Err refusal) opening refused same = record {
  never_shorter = λ b. subst (λ (e : Ended). NeverShorter start e.journal e.rounds outside.disk) (sym refused.0.ends) (refused-kept start outside.disk refused.1.unwritten b);
  whole = λ b zero. absurd ((refusal-apart refusal).0 (sym (refused-status refusal outside.sink ended refused.0) ∙ zero));
}

pub run-kept : (words : List (List ℕ)) (outside : Outside) (ended : Ended) (start : Dictionary) (run : IsRun words outside ended) → StandsOn run.opened start
    → IsKept start ended.journal ended.rounds ended.status outside.disk
run-kept words outside ended start run same = kept-by words outside ended start run.opened run.opening run.ends same
