-- A session: how it begins, entries of others, and any rounds one after the other.
use Rattle.std.specs.Prelude.{◌≡◌, ℕ, suc, ◌+◌, ◌≤◌, true, List, [], ◌∷◌, ◌++◌, length, Option, Some, None, refl}
use Rattle.std.proofs.Common.{arith, inl, inr, sym, ap, ◌∙◌, subst, ⊎_elim}
use Rattle.std.proofs.lemmas.List.{append_assoc, append-nil}
use Rattle.chew_spec_disk.specs.Disk.{DiskState, IsDisk}
use Rattle.chew_spec_disk.specs.Moments.{NowLeaves}
use Rattle.chew_spec_disk.proofs.Moments.{later-same}
use Rattle.chew_spec_dictionary.specs.Dictionary.{Dictionary}
use Rattle.chew_spec_dictionary.specs.History.{Entry, Shape, after, is_legal, start_of}
use Rattle.chew_spec_dictionary.specs.Growth.{IsFront}
use Rattle.chew_spec_dictionary.proofs.Growing.{front-itself, front-over}
use Rattle.chew_spec_dictionary.proofs.Histories.{after_joined}
use Rattle.chew_spec_dictionary.proofs.Shapes.{installed_most, waiting_between}
use Rattle.chew_spec_rounds.specs.Front.{RecoversToEither, RecoversToFront, shape_after}
use Rattle.chew_spec_rounds.specs.Round.{Round}
use Rattle.chew_spec_rounds.specs.Session.{AreRounds, GrowsByOthers, IsSession, last_saved}
use Rattle.chew_spec_rounds.proofs.Floors.{chosen-stays, floor-stays, recovers-grown, round-more}
use Rattle.chew_spec_rounds.proofs.Fronts.{legal-front, legal-rest}
use Rattle.chew_spec_rounds.proofs.Keepers.{quiet-shape}

-- nothing was saved yet
pub session-begins : (start : Dictionary) (disk : DiskState) → IsDisk disk → NowLeaves disk (RecoversToFront start [] 0) → IsSession start [] disk.moment disk []
session-begins start disk is now = record {
  begun = omega arith;
  acknowledged = refl;
  never_shortens = record {
    each = λ under moment zero one low high left other.
        let here : moment ≡ disk.moment = omega arith in (
          0,
          record {
            numbered = inl refl;
            recovers = now zero one
                ((is.this_moment under 0 zero).0 (subst (λ m. disk.might_have_left m 0 zero) here left))
                ((is.this_moment under 1 one).0 (subst (λ m. disk.might_have_left m 1 one) here other));
            no_shorter = λ earlier from less. absurd (omega arith);
          },
        );
  };
  floors = λ under moment low high.
      let here : disk.moment ≡ moment = omega arith in (
        0,
        omega arith,
        record {
          numbered = inl refl;
          pair = (
            disk.reads 0,
            disk.reads 1,
            subst (λ (m : ℕ). disk.might_have_left m 0 (disk.reads 0)) here ((is.this_moment under 0 (disk.reads 0)).1 (is.reads_may_be_left 0)),
            subst (λ (m : ℕ). disk.might_have_left m 1 (disk.reads 1)) here ((is.this_moment under 1 (disk.reads 1)).1 (is.reads_may_be_left 1)),
            now (disk.reads 0) (disk.reads 1) (is.reads_may_be_left 0) (is.reads_may_be_left 1),
          );
        },
      );
  ends = λ zero one left other. inl (now zero one left other);
}

-- the shape stays where others than the keeper add entries
pub others-shape : (start : Dictionary) (seen history : List Entry) → is_legal (start_of start) history ≡ true → GrowsByOthers seen history → shape_after start history ≡ shape_after start seen
others-shape start seen history l grows =
    ap (λ h. shape_after start h) grows.joined ∙ ap (λ q. q.shape) (after_joined (start_of start) seen grows.more)
    ∙ quiet-shape (after (start_of start) seen) grows.more (legal-rest (start_of start) seen grows.more history grows.joined l) grows.calls

-- a front of the waiting snapshot, told by the longer history
pub either-grown : (start : Dictionary) (seen more now : List Entry) (number : ℕ) (another : Option ℕ) (zero one : List ℕ) → now ≡ seen ++ more → number ≤ length seen
    → ((n : ℕ) → another ≡ Some n → n ≤ length seen) → RecoversToEither start seen number another zero one → RecoversToEither start now number another zero one
either-grown start seen more now number None zero one joined within others either =
    ⊎_elim (λ old. inl (recovers-grown start seen more now number zero one joined within old)) (λ none. absurd none) either
either-grown start seen more now number (Some n) zero one joined within others either =
    ⊎_elim (λ old. inl (recovers-grown start seen more now number zero one joined within old))
    (λ new. inr (recovers-grown start seen more now n zero one joined (others n refl) new)) either

pub others-more : (start : Dictionary) (seen history : List Entry) (from : ℕ) (disk : DiskState) (rounds : List Round) → is_legal (start_of start) history ≡ true → IsSession start seen from disk rounds
    → GrowsByOthers seen history → IsSession start history from disk rounds
others-more start seen history from disk rounds l had grows =
    let front = legal-front (start_of start) seen grows.more history grows.joined l in
    let shape = others-shape start seen history l grows in
    let within : last_saved 0 rounds ≤ length seen = (let most = installed_most start seen front in let same = had.acknowledged in omega arith) in
    record {
      begun = had.begun;
      acknowledged = ap (λ (s : Shape). s.installed) shape ∙ had.acknowledged;
      never_shortens = record {
        each = λ under moment zero one low high left other.
            chosen-stays start seen grows.more history from disk disk moment zero one (record { joined = grows.joined; later = later-same disk; under = under }) high
            (had.never_shortens.each under moment zero one low high left other);
      };
      floors = λ under moment low high.
          floor-stays start seen grows.more history disk disk moment (last_saved 0 rounds) (record { joined = grows.joined; later = later-same disk; under = under }) high within
          (had.floors under moment low high);
      ends = λ zero one left other.
          subst (λ (s : Shape). RecoversToEither start history (last_saved 0 rounds) s.waiting zero one) (sym shape)
          (either-grown start seen grows.more history (last_saved 0 rounds) (shape_after start seen).waiting zero one grows.joined within
          (λ n w. let between = waiting_between start seen n front w in let low = between.1 in omega arith) (had.ends zero one left other));
    }

-- what the keeper has seen at a place is a front of what it has seen after further rounds
fronts-on : (start : Dictionary) (seen : ℕ → List Entry) (disks : ℕ → DiskState) (place last : ℕ) (rounds : List Round) → AreRounds start seen disks place rounds → last ≡ place + length rounds
    → IsFront (seen place) (seen last)
fronts-on start seen disks place last [] are end = subst (λ n. IsFront (seen place) (seen n)) (let here : place ≡ last = omega arith in here) (front-itself (seen place))
fronts-on start seen disks place last (round ∷ rounds) are end =
    front-over (seen place) (seen (suc place)) (seen last)
    (record { rest = are.0.more; joined = are.0.joined })
    (fronts-on start seen disks (suc place) last rounds are.1 (omega arith))

-- rounds from a place on are a session with those before them
rounds-on : (start : Dictionary) (seen : ℕ → List Entry) (disks : ℕ → DiskState) (from place last : ℕ) (before rounds : List Round)
    → is_legal (start_of start) (seen last) ≡ true → IsSession start (seen place) from (disks place) before → AreRounds start seen disks place rounds
    → last ≡ place + length rounds → IsSession start (seen last) from (disks last) (before ++ rounds)
rounds-on start seen disks from place last before [] l had are end =
    let here : place ≡ last = omega arith in
    subst (λ rs. IsSession start (seen last) from (disks last) rs) (sym (append-nil before)) (subst (λ n. IsSession start (seen n) from (disks n) before) here had)
rounds-on start seen disks from place last before (round ∷ rounds) l had are end =
    let after_one : last ≡ suc place + length rounds = omega arith in
    let front = fronts-on start seen disks (suc place) last rounds are.1 after_one in
    let legal = legal-front (start_of start) (seen (suc place)) front.rest (seen last) front.joined l in
    subst (λ rs. IsSession start (seen last) from (disks last) rs) (append_assoc before (round ∷ []) rounds)
    (rounds-on start seen disks from (suc place) last (before ++ round ∷ []) rounds l
    (round-more start (seen place) (seen (suc place)) from (disks place) (disks (suc place)) before round legal had are.0)
    are.1 after_one)

pub rounds-session : (start : Dictionary) (history : List Entry) (seen : ℕ → List Entry) (disks : ℕ → DiskState) (rounds : List Round) → is_legal (start_of start) history ≡ true
    → IsDisk (disks 0) → NowLeaves (disks 0) (RecoversToFront start [] 0) → seen 0 ≡ [] → AreRounds start seen disks 0 rounds → GrowsByOthers (seen (length rounds)) history
    → IsSession start history (disks 0).moment (disks (length rounds)) rounds
rounds-session start history seen disks rounds l is now none are grows =
    let front = legal-front (start_of start) (seen (length rounds)) grows.more history grows.joined l in
    let first : IsSession start (seen 0) (disks 0).moment (disks 0) [] = subst (λ h. IsSession start h (disks 0).moment (disks 0) []) (sym none) (session-begins start (disks 0) is now) in
    others-more start (seen (length rounds)) history (disks 0).moment (disks (length rounds)) rounds l
    (rounds-on start seen disks (disks 0).moment 0 (length rounds) [] rounds front first are (omega arith)) grows
