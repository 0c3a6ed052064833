-- One round more of a session, and entries of others between rounds: the induction's step.
use Rattle.std.specs.Prelude.{◌≡◌, ℕ, ◌<◌, ◌≤◌, true, List, [], ◌∷◌, ◌++◌, length, Option, Some, None, IsSomeAnd, unwrap_or, refl}
use Rattle.std.proofs.Common.{arith, sym, ap, ◌∙◌, subst, ⊎_elim}
use native.Mathlib.Decide.{dec_le}
use Rattle.chew_spec_disk.specs.Disk.{DiskState, Later, last_moment}
use Rattle.chew_spec_dictionary.specs.Dictionary.{Dictionary}
use Rattle.chew_spec_dictionary.specs.History.{Entry, after, is_legal, start_of}
use Rattle.chew_spec_dictionary.proofs.Histories.{after_joined}
use Rattle.chew_spec_dictionary.proofs.Shapes.{installed_most}
use Rattle.chew_spec_slots.specs.Recovery.{Recovered}
use Rattle.chew_spec_rounds.specs.Front.{IsNumber, RecoversToEither, RecoversToFront, shape_after}
use Rattle.chew_spec_rounds.specs.Round.{DiskFault, IsRound, NoMemory, Round, Saved, SeqSpent, last_unsynced, saved_number, snapshot_number}
use Rattle.chew_spec_rounds.specs.Session.{HasFloorUpTo, IsChosen, IsSession, last_saved}
use Rattle.chew_spec_rounds.proofs.Fronts.{front-same, installed-number, installed-rises, legal-front, legal-rest, number-grows, number-within, waiting-number, waiting-rises}
use Rattle.chew_spec_rounds.proofs.Keepers.{round-installed, some-same}

-- two slots recover to the same front, told by the longer history
pub recovers-grown : (start : Dictionary) (seen more now : List Entry) (number : ℕ) (zero one : List ℕ) → now ≡ seen ++ more → number ≤ length seen
    → RecoversToFront start seen number zero one → RecoversToFront start now number zero one
recovers-grown start seen more now number zero one joined within recovers = recovers ∙ ap Recovered (front-same start seen more now number joined within)

-- a lower bound of floors
pub floor-weaker : (start : Dictionary) (history : List Entry) (disk : DiskState) (moment low most : ℕ) → low ≤ most → HasFloorUpTo start history disk moment low → HasFloorUpTo start history disk moment most
floor-weaker start history disk moment low most up floor = (floor.0, omega (arith, floor.1), floor.2)

-- a disk and a history later on, of which all moments of the earlier disk stay
pub record Goes (seen more now : List Entry) (before after : DiskState) : Type 0 where
  pub joined : now ≡ seen ++ more
  pub later : Later before after
  pub under : after.moment < last_moment

-- a floor of an earlier moment stays one
pub floor-stays : (start : Dictionary) (seen more now : List Entry) (before after : DiskState) (moment most : ℕ) → Goes seen more now before after → moment ≤ before.moment → most ≤ length seen
    → HasFloorUpTo start seen before moment most → HasFloorUpTo start now after moment most
floor-stays start seen more now before after moment most goes early within floor =
    let pair = floor.2.pair in (
      floor.0,
      floor.1,
      record {
        numbered = number-grows start seen more now floor.0 goes.joined floor.2.numbered;
        pair = (
          pair.0,
          pair.1,
          (goes.later.earlier goes.under moment 0 pair.0 early).0 pair.2,
          (goes.later.earlier goes.under moment 1 pair.1 early).0 pair.3,
          recovers-grown start seen more now floor.0 pair.0 pair.1 goes.joined (let low = floor.1 in omega arith) pair.4,
        );
      },
    )

-- a number that was chosen stays one
pub chosen-stays : (start : Dictionary) (seen more now : List Entry) (from : ℕ) (before after : DiskState) (moment : ℕ) (zero one : List ℕ) → Goes seen more now before after → moment ≤ before.moment
    → (number : ℕ) × IsChosen start seen from before moment zero one number → (number : ℕ) × IsChosen start now from after moment zero one number
chosen-stays start seen more now from before after moment zero one goes early chosen =
    let within = number-within start seen chosen.0 chosen.1.numbered in (
      chosen.0,
      record {
        numbered = number-grows start seen more now chosen.0 goes.joined chosen.1.numbered;
        recovers = recovers-grown start seen more now chosen.0 zero one goes.joined within chosen.1.recovers;
        no_shorter = λ earlier low high. floor-stays start seen more now before after earlier chosen.0 goes (omega (arith, early, high)) within (chosen.1.no_shorter earlier low high);
      },
    )

-- the number of a round's snapshot is one of the history's, and not below the installed one before
record Snapshot (start : Dictionary) (seen now : List Entry) (number : ℕ) : Type 0 where
  pub numbered : IsNumber start now number
  pub above : (shape_after start seen).installed ≤ number

snapshot-waiting : (start : Dictionary) (seen more now : List Entry) (number : ℕ) → now ≡ seen ++ more → is_legal (start_of start) now ≡ true → (shape_after start now).waiting ≡ Some number → Snapshot start seen now number
snapshot-waiting start seen more now number joined l w = record {
  numbered = waiting-number start now number l w;
  above = waiting-rises start seen more now number joined l w;
}

-- what a round installs
pub installed-then : (start : Dictionary) (seen seen_then : List Entry) (disk disk_then : DiskState) (round : Round) → is_legal (start_of start) seen_then ≡ true → IsRound start seen seen_then disk disk_then round
    → (shape_after start seen_then).installed ≡ unwrap_or (saved_number round) (shape_after start seen).installed
installed-then start seen seen_then disk disk_then round l r =
    ap (λ h. (after (start_of start) h).shape.installed) r.joined
    ∙ ap (λ q. q.shape.installed) (after_joined (start_of start) seen r.more)
    ∙ round-installed (after (start_of start) seen) r.more round (legal-rest (start_of start) seen r.more seen_then r.joined l) r.calls

snapshot-of : (start : Dictionary) (seen seen_then : List Entry) (disk disk_then : DiskState) (round : Round) (number : ℕ) → is_legal (start_of start) seen_then ≡ true → IsRound start seen seen_then disk disk_then round
    → snapshot_number round (shape_after start seen_then) ≡ Some number → Snapshot start seen seen_then number
snapshot-of start seen seen_then disk disk_then (Saved n) number l r is =
    let same : (shape_after start seen_then).installed ≡ number = installed-then start seen seen_then disk disk_then (Saved n) l r ∙ some-same is in
    subst (λ m. Snapshot start seen seen_then m) same (record {
      numbered = installed-number start seen_then l;
      above = installed-rises start seen r.more seen_then r.joined l;
    })
snapshot-of start seen seen_then disk disk_then (DiskFault step) number l r is = snapshot-waiting start seen r.more seen_then number r.joined l is
snapshot-of start seen seen_then disk disk_then NoMemory number l r is = snapshot-waiting start seen r.more seen_then number r.joined l is
snapshot-of start seen seen_then disk disk_then (SeqSpent seq) number l r is = snapshot-waiting start seen r.more seen_then number r.joined l is

-- what is there of an option
pub some-and : {A : Type 0} (o : Option A) (P : A → Type 0) → IsSomeAnd o P → (x : A) × (o ≡ Some x) × P x
some-and None P h = absurd h
some-and (Some x) P h = (x, refl, h)

-- a moment of a round before the sync of the open gate has the floor that was acknowledged before
chance-floor : (start : Dictionary) (seen seen_then : List Entry) (disk disk_then : DiskState) (round : Round) (moment : ℕ) → is_legal (start_of start) seen_then ≡ true → IsRound start seen seen_then disk disk_then round
    → disk_then.moment < last_moment → disk.moment ≤ moment → moment ≤ last_unsynced round disk_then.moment → HasFloorUpTo start seen_then disk_then moment (shape_after start seen).installed
chance-floor start seen seen_then disk disk_then round moment l r under low high = (
  (shape_after start seen).installed,
  omega arith,
  record {
    numbered = number-grows start seen r.more seen_then (shape_after start seen).installed r.joined (installed-number start seen (legal-front (start_of start) seen r.more seen_then r.joined l));
    pair = r.chances.each under moment low high;
  },
)

-- all moments of a round but its last are before that sync
unsynced-earlier : (round : Round) (moment until : ℕ) → moment < until → moment ≤ last_unsynced round until
unsynced-earlier (Saved number) moment until low = omega arith
unsynced-earlier (DiskFault step) moment until low = omega arith
unsynced-earlier NoMemory moment until low = omega arith
unsynced-earlier (SeqSpent seq) moment until low = omega arith

-- the floor of a round's last moment
last-floor : (start : Dictionary) (seen seen_then : List Entry) (disk disk_then : DiskState) (round : Round) → is_legal (start_of start) seen_then ≡ true → IsRound start seen seen_then disk disk_then round
    → disk_then.moment < last_moment → HasFloorUpTo start seen_then disk_then disk_then.moment (shape_after start seen_then).installed
last-floor start seen seen_then disk disk_then (Saved n) l r under =
    let same = installed-then start seen seen_then disk disk_then (Saved n) l r in (
      (shape_after start seen_then).installed,
      omega arith,
      record {
        numbered = installed-number start seen_then l;
        pair = (
          disk_then.reads 0,
          disk_then.reads 1,
          (r.is_disk.this_moment under 0 (disk_then.reads 0)).1 (r.is_disk.reads_may_be_left 0),
          (r.is_disk.this_moment under 1 (disk_then.reads 1)).1 (r.is_disk.reads_may_be_left 1),
          subst (λ number. RecoversToFront start seen_then number (disk_then.reads 0) (disk_then.reads 1)) (sym same)
              (r.saved (disk_then.reads 0) (disk_then.reads 1) (r.is_disk.reads_may_be_left 0) (r.is_disk.reads_may_be_left 1)),
        );
      },
    )
last-floor start seen seen_then disk disk_then (DiskFault step) l r under =
    subst (λ most. HasFloorUpTo start seen_then disk_then disk_then.moment most) (sym (installed-then start seen seen_then disk disk_then (DiskFault step) l r))
    (chance-floor start seen seen_then disk disk_then (DiskFault step) disk_then.moment l r under r.later.not_before (omega arith))
last-floor start seen seen_then disk disk_then NoMemory l r under =
    subst (λ most. HasFloorUpTo start seen_then disk_then disk_then.moment most) (sym (installed-then start seen seen_then disk disk_then NoMemory l r))
    (chance-floor start seen seen_then disk disk_then NoMemory disk_then.moment l r under r.later.not_before (omega arith))
last-floor start seen seen_then disk disk_then (SeqSpent seq) l r under =
    subst (λ most. HasFloorUpTo start seen_then disk_then disk_then.moment most) (sym (installed-then start seen seen_then disk disk_then (SeqSpent seq) l r))
    (chance-floor start seen seen_then disk disk_then (SeqSpent seq) disk_then.moment l r under r.later.not_before (omega arith))

-- the number last acknowledged
pub last-saved-more : (before : ℕ) (rounds : List Round) (round : Round) → last_saved before (rounds ++ round ∷ []) ≡ unwrap_or (saved_number round) (last_saved before rounds)
last-saved-more before [] round = refl
last-saved-more before (first ∷ rounds) round = last-saved-more (unwrap_or (saved_number first) before) rounds round

-- a session and one round more
module _ (start : Dictionary) (seen seen_then : List Entry) (from : ℕ) (disk disk_then : DiskState) (rounds : List Round) (round : Round)
    (l : is_legal (start_of start) seen_then ≡ true) (had : IsSession start seen from disk rounds) (r : IsRound start seen seen_then disk disk_then round) where
  installed-within : (shape_after start seen).installed ≤ length seen
  installed-within = installed_most start seen (legal-front (start_of start) seen r.more seen_then r.joined l)

  goes : disk_then.moment < last_moment → Goes seen r.more seen_then disk disk_then
  goes under = record { joined = r.joined; later = r.later; under = under }

  -- the floor of a moment before the round began
  old-floor : disk_then.moment < last_moment → (moment : ℕ) → from ≤ moment → moment ≤ disk.moment → HasFloorUpTo start seen_then disk_then moment (shape_after start seen).installed
  old-floor under moment low early =
      floor-stays start seen r.more seen_then disk disk_then moment (shape_after start seen).installed (goes under) early installed-within
      (subst (λ most. HasFloorUpTo start seen disk moment most) (sym had.acknowledged) (had.floors (let up = r.later.not_before in omega arith) moment low early))

  -- each moment but the round's last has a floor of at most what was acknowledged before the round
  floor-before : disk_then.moment < last_moment → (moment : ℕ) → from ≤ moment → moment < disk_then.moment → HasFloorUpTo start seen_then disk_then moment (shape_after start seen).installed
  floor-before under moment low high = pick (dec_le moment disk.moment)
    where
      pick : Dec (moment ≤ disk.moment) → HasFloorUpTo start seen_then disk_then moment (shape_after start seen).installed
      pick (yes early) = old-floor under moment low early
      pick (no late) = chance-floor start seen seen_then disk disk_then round moment l r under (omega arith) (unsynced-earlier round moment disk_then.moment high)

  -- each moment so far has a floor of at most what is acknowledged now
  floor-now : disk_then.moment < last_moment → (moment : ℕ) → from ≤ moment → moment ≤ disk_then.moment → HasFloorUpTo start seen_then disk_then moment (shape_after start seen_then).installed
  floor-now under moment low high = pick (dec_le disk_then.moment moment)
    where
      pick : Dec (disk_then.moment ≤ moment) → HasFloorUpTo start seen_then disk_then moment (shape_after start seen_then).installed
      pick (yes last) =
          let same : disk_then.moment ≡ moment = omega arith in
          subst (λ m. HasFloorUpTo start seen_then disk_then m (shape_after start seen_then).installed) same (last-floor start seen seen_then disk disk_then round l r under)
      pick (no before) =
          floor-weaker start seen_then disk_then moment (shape_after start seen).installed (shape_after start seen_then).installed (installed-rises start seen r.more seen_then r.joined l)
          (floor-before under moment low (omega arith))

  -- a number from what was acknowledged before the round on can be chosen for a moment of the round
  chosen-from : disk_then.moment < last_moment → (moment number : ℕ) (zero one : List ℕ) → moment ≤ disk_then.moment → RecoversToFront start seen_then number zero one
      → Snapshot start seen seen_then number → (n : ℕ) × IsChosen start seen_then from disk_then moment zero one n
  chosen-from under moment number zero one high recovers snapshot = (
    number,
    record {
      numbered = snapshot.numbered;
      recovers = recovers;
      no_shorter = λ earlier low less.
          floor-weaker start seen_then disk_then earlier (shape_after start seen).installed number snapshot.above (floor-before under earlier low (omega arith));
    },
  )

  -- a number can be chosen for each moment of the round
  chosen-in-round : disk_then.moment < last_moment → (moment : ℕ) (zero one : List ℕ) → disk.moment ≤ moment → moment ≤ disk_then.moment → disk_then.might_have_left moment 0 zero → disk_then.might_have_left moment 1 one
      → (n : ℕ) × IsChosen start seen_then from disk_then moment zero one n
  chosen-in-round under moment zero one low high left other =
      ⊎_elim
      (λ old. chosen-from under moment (shape_after start seen).installed zero one high old (record {
        numbered = number-grows start seen r.more seen_then (shape_after start seen).installed r.joined (installed-number start seen (legal-front (start_of start) seen r.more seen_then r.joined l));
        above = omega arith;
      }))
      (λ new.
      let found = some-and (snapshot_number round (shape_after start seen_then)) (λ n. RecoversToFront start seen_then n zero one) new in
      chosen-from under moment found.0 zero one high found.2 (snapshot-of start seen seen_then disk disk_then round found.0 l r found.1))
      (r.moments.each under moment zero one low high left other)

  chosen-now : disk_then.moment < last_moment → (moment : ℕ) (zero one : List ℕ) → from ≤ moment → moment ≤ disk_then.moment → disk_then.might_have_left moment 0 zero → disk_then.might_have_left moment 1 one
      → (n : ℕ) × IsChosen start seen_then from disk_then moment zero one n
  chosen-now under moment zero one low high left other = pick (dec_le moment disk.moment)
    where
      pick : Dec (moment ≤ disk.moment) → (n : ℕ) × IsChosen start seen_then from disk_then moment zero one n
      pick (yes early) =
          chosen-stays start seen r.more seen_then from disk disk_then moment zero one (goes under) early
          (had.never_shortens.each (let up = r.later.not_before in omega arith) moment zero one low early
          ((r.later.earlier under moment 0 zero early).1 left)
          ((r.later.earlier under moment 1 one early).1 other))
      pick (no late) = chosen-in-round under moment zero one (omega arith) high left other

  acknowledged-now : (shape_after start seen_then).installed ≡ last_saved 0 (rounds ++ round ∷ [])
  acknowledged-now =
      installed-then start seen seen_then disk disk_then round l r ∙ ap (λ n. unwrap_or (saved_number round) n) had.acknowledged
      ∙ sym (last-saved-more 0 rounds round)

  pub round-more : IsSession start seen_then from disk_then (rounds ++ round ∷ [])
  round-more = record {
    begun = let first = had.begun in let up = r.later.not_before in omega arith;
    acknowledged = acknowledged-now;
    never_shortens = record { each = chosen-now };
    floors = λ under moment low high. subst (λ most. HasFloorUpTo start seen_then disk_then moment most) acknowledged-now (floor-now under moment low high);
    ends = λ zero one left other. subst (λ number. RecoversToEither start seen_then number (shape_after start seen_then).waiting zero one) acknowledged-now (r.now zero one left other);
  }
