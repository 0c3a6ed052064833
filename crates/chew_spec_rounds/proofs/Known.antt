-- Known rounds and sessions.
use Rattle.std.specs.Prelude.{◌≡◌, ◌⊎◌, ℕ, zero, suc, ◌<◌, ◌≤◌, List, [], ◌∷◌, get_or, Some, ◌↔◌, refl}
use Rattle.std.proofs.Common.{arith, inl, inr, sym, ap, ap₂, ◌∙◌, ⊎_elim}
use lib.Utf8.{encode}
use Rattle.std.specs.Str.{chars, is_utf8}
use Rattle.chew_spec_disk.specs.Disk.{IsDisk}
use Rattle.chew_spec_dictionary.specs.Dictionary.{learn}
use Rattle.chew_spec_dictionary.specs.History.{Entry}
use Rattle.chew_spec_syllable.specs.Phrase.{is_phrase}
use Rattle.chew_spec_image.specs.Fields.{header_bytes, node_at, node_bytes, row_at, row_bytes}
use Rattle.chew_spec_image.specs.Image.{image}
use Rattle.chew_spec_image.specs.Reading.{image_reading}
use Rattle.chew_spec_dictionary.specs.Call.{Freeze, Install}
use Rattle.chew_spec_slots.specs.Reading.{saved_in}
use Rattle.chew_spec_slots.specs.Recovery.{Damaged, Recovered, Recovery, TooLarge, recovered}
use Rattle.chew_spec_slots.specs.Sample.{life_two, one_row_plain_slot, one_row_saved}
use Rattle.chew_spec_slots.specs.Slot.{Checkpoint, no_checkpoint}
use Rattle.chew_spec_rounds.specs.Front.{RecoversToEither, RecoversToFront, front_checkpoint}
use Rattle.chew_spec_rounds.specs.Known.{by_keeper, disk_with, empty_disk, failed_once, learns, nothing, torn_disk}
use Rattle.chew_spec_rounds.specs.Round.{DiskFault, IsRound, Saved}
use Rattle.chew_spec_rounds.specs.Session.{HasFloorUpTo, IsChosen, NeverShortens}
use Rattle.chew_spec_rounds.proofs.Fronts.{number-within}

-- what the known slots recover to
nothing-recovers : recovered [] [] ≡ Recovered no_checkpoint
unfolding recovered
nothing-recovers = refl

one-recovers : recovered one_row_plain_slot [] ≡ Recovered one_row_saved.checkpoint
unfolding saved_in recovered image image_reading header_bytes node_bytes row_bytes node_at row_at is_phrase is_utf8 chars encode
one-recovers = refl

two-recovers : recovered (life_two 1) [] ≡ Recovered (record one_row_saved.checkpoint { life = 2 })
unfolding saved_in recovered image image_reading header_bytes node_bytes row_bytes node_at row_at is_phrase is_utf8 chars encode
two-recovers = refl

-- the life that was recovered
life-of : Recovery → ℕ
life-of (Recovered checkpoint) = checkpoint.life
life-of (TooLarge slot len) = 0
life-of (Damaged slot place) = 0

same-life : (first second : List ℕ) (had is : Checkpoint) → recovered first second ≡ Recovered had → recovered first second ≡ Recovered is → had.life ≡ is.life
unfolding life-of
same-life first second had is p q = ap life-of (sym p ∙ q)

no-life : (x y : ℕ) → x ≡ y → y < x → ⊥
no-life x y same less = omega arith

-- one learn, frozen, and installed
saved-once : List Entry
saved-once = learns ∷ (by_keeper Freeze ∷ (by_keeper (Install 1) ∷ []))

frozen-once : List Entry
frozen-once = learns ∷ (by_keeper Freeze ∷ [])

saved-front : front_checkpoint nothing saved-once 1 ≡ one_row_saved.checkpoint
unfolding saved-once front_checkpoint learn encode
saved-front = refl

saved-start : front_checkpoint nothing saved-once 0 ≡ no_checkpoint
unfolding saved-once front_checkpoint
saved-start = refl

frozen-front : front_checkpoint nothing frozen-once 1 ≡ one_row_saved.checkpoint
unfolding frozen-once front_checkpoint learn encode
frozen-front = refl

frozen-whole : front_checkpoint nothing frozen-once 2 ≡ one_row_saved.checkpoint
unfolding frozen-once front_checkpoint learn encode
frozen-whole = refl

frozen-start : front_checkpoint nothing frozen-once 0 ≡ no_checkpoint
unfolding frozen-once front_checkpoint
frozen-start = refl

failed-front : front_checkpoint nothing failed_once 1 ≡ one_row_saved.checkpoint
unfolding front_checkpoint learn encode
failed-front = refl

failed-start : front_checkpoint nothing failed_once 0 ≡ no_checkpoint
unfolding front_checkpoint
failed-start = refl

-- two lists that recover as these do
recovers-as : (here there first second : List ℕ) (checkpoint : Checkpoint) → here ≡ first → there ≡ second → recovered first second ≡ Recovered checkpoint → recovered here there ≡ Recovered checkpoint
recovers-as here there first second checkpoint p q is = ap₂ recovered p q ∙ is

-- a disk of two moments
two-moments : (first second : List ℕ) → IsDisk (disk_with (first ∷ (second ∷ [])) 1)
two-moments first second = record { reads_may_be_left = λ slot. refl; this_moment = λ under slot list. (λ h. h, λ h. h) }

-- what a crash at a moment of the saved round left
saved-moment : (moment : ℕ) (zero one : List ℕ) → moment ≤ 1 → zero ≡ get_or ([] ∷ (one_row_plain_slot ∷ [])) moment [] → one ≡ [] → RecoversToEither nothing saved-once 0 (Some 1) zero one
saved-moment zero first second low p q = inl (recovers-as first second [] [] no_checkpoint p q nothing-recovers ∙ ap Recovered (sym saved-start))
saved-moment (suc zero) first second low p q = inr (recovers-as first second one_row_plain_slot [] one_row_saved.checkpoint p q one-recovers ∙ ap Recovered (sym saved-front))
saved-moment (suc (suc moment)) first second low p q = absurd (omega arith)

saved-chance : (moment : ℕ) → moment ≤ 0 → (zero one : List ℕ) × (zero ≡ get_or ([] ∷ (one_row_plain_slot ∷ [])) moment []) × (one ≡ []) × RecoversToFront nothing saved-once 0 zero one
saved-chance zero low = ([], [], refl, refl, nothing-recovers ∙ ap Recovered (sym saved-start))
saved-chance (suc moment) low = absurd (omega arith)

pub saves-one : IsRound nothing (learns ∷ []) (learns ∷ (by_keeper Freeze ∷ (by_keeper (Install 1) ∷ []))) (disk_with ([] ∷ []) 0) (disk_with ([] ∷ (one_row_plain_slot ∷ [])) 1) (Saved 1)
unfolding saved-once
saves-one = record {
  more = by_keeper Freeze ∷ (by_keeper (Install 1) ∷ []);
  joined = refl;
  calls = refl;
  is_disk = two-moments [] one_row_plain_slot;
  later = record {
    not_before = omega arith;
    earlier = λ under moment slot list early. same-moment moment slot list early;
  };
  moments = record { each = λ under moment first second low high left other. saved-moment moment first second high left other };
  chances = record { each = λ under moment low high. saved-chance moment high };
  saved = λ first second left other. recovers-as first second one_row_plain_slot [] one_row_saved.checkpoint left other one-recovers ∙ ap Recovered (sym saved-front);
  now = λ first second left other. inl (recovers-as first second one_row_plain_slot [] one_row_saved.checkpoint left other one-recovers ∙ ap Recovered (sym saved-front));
}
  where
    same-moment : (moment slot : ℕ) (list : List ℕ) → moment ≤ 0
        → (disk_with ([] ∷ []) 0).might_have_left moment slot list ↔ (disk_with ([] ∷ (one_row_plain_slot ∷ [])) 1).might_have_left moment slot list
    same-moment zero slot list low = (λ h. h, λ h. h)
    same-moment (suc moment) slot list low = absurd (omega arith)

-- the map of a number that is neither acknowledged nor waits
pub new-number : IsRound nothing (learns ∷ (by_keeper Freeze ∷ (learns ∷ []))) failed_once (disk_with ([] ∷ []) 0) (disk_with ([] ∷ (life_two 1 ∷ [])) 1) (DiskFault 6) → ⊥
new-number r =
    ⊎_elim
    (λ old. no-life 2 0 (same-life (life_two 1) [] (record one_row_saved.checkpoint { life = 2 }) no_checkpoint two-recovers (old ∙ ap Recovered failed-start)) (omega arith))
    (λ new. no-life 2 1 (same-life (life_two 1) [] (record one_row_saved.checkpoint { life = 2 }) one_row_saved.checkpoint two-recovers (new ∙ ap Recovered failed-front)) (omega arith))
    (r.moments.each (omega arith) 1 (life_two 1) [] (omega arith) (omega arith) refl refl)

-- a map that was saved once, and stays
kept-moment : (moment : ℕ) (zero one : List ℕ) → moment ≤ 1 → zero ≡ get_or ([] ∷ (one_row_plain_slot ∷ [])) moment [] → one ≡ []
    → (number : ℕ) × IsChosen nothing frozen-once 0 (disk_with ([] ∷ (one_row_plain_slot ∷ [])) 1) moment zero one number
unfolding frozen-once
kept-moment zero first second low p q = (
  0,
  record {
    numbered = inl refl;
    recovers = recovers-as first second [] [] no_checkpoint p q nothing-recovers ∙ ap Recovered (sym frozen-start);
    no_shorter = λ earlier from less. absurd (omega arith);
  },
)
kept-moment (suc zero) first second low p q = (
  1,
  record {
    numbered = inr (record { place = 1; freeze = refl; reply = refl });
    recovers = recovers-as first second one_row_plain_slot [] one_row_saved.checkpoint p q one-recovers ∙ ap Recovered (sym frozen-front);
    no_shorter = λ earlier from less. earlier-floor earlier (omega arith);
  },
)
  where
    earlier-floor : (earlier : ℕ) → earlier ≤ 0 → HasFloorUpTo nothing (learns ∷ (by_keeper Freeze ∷ [])) (disk_with ([] ∷ (one_row_plain_slot ∷ [])) 1) earlier 1
    earlier-floor zero low = (0, omega arith, record { numbered = inl refl; pair = ([], [], refl, refl, nothing-recovers ∙ ap Recovered (sym frozen-start)) })
    earlier-floor (suc earlier) low = absurd (omega arith)
kept-moment (suc (suc moment)) first second low p q = absurd (omega arith)

pub kept-once : NeverShortens nothing (learns ∷ (by_keeper Freeze ∷ [])) 0 (disk_with ([] ∷ (one_row_plain_slot ∷ [])) 1)
unfolding frozen-once
kept-once = record { each = λ under moment first second low high left other. kept-moment moment first second high left other }

-- a front whose life is 0 is that of no entries
life-less : (number : ℕ) → number ≤ 2 → (front_checkpoint nothing frozen-once number).life ≡ 0 → number ≡ 0
life-less zero low none = refl
life-less (suc zero) low none = absurd (no-life 1 0 (sym (ap (λ (c : Checkpoint). c.life) frozen-front) ∙ none) (omega arith))
life-less (suc (suc zero)) low none = absurd (no-life 1 0 (sym (ap (λ (c : Checkpoint). c.life) frozen-whole) ∙ none) (omega arith))
life-less (suc (suc (suc number))) low none = absurd (omega arith)

-- a map that was saved, and is lost a moment later
pub lost-again : NeverShortens nothing (learns ∷ (by_keeper Freeze ∷ [])) 0 (disk_with ([] ∷ (one_row_plain_slot ∷ ([] ∷ []))) 2) → ⊥
unfolding frozen-once
lost-again never =
    let chosen = never.each (omega arith) 2 [] [] (omega arith) (omega arith) refl refl in
    let first : chosen.0 ≡ 0 = life-less chosen.0 (number-within nothing frozen-once chosen.0 chosen.1.numbered)
    (same-life [] [] (front_checkpoint nothing frozen-once chosen.0) no_checkpoint chosen.1.recovers nothing-recovers) in
    let floor = chosen.1.no_shorter 1 (omega arith) (omega arith) in
    let pair = floor.2.pair in
    let below : floor.0 ≡ 0 = (let up = floor.1 in omega arith) in
    let one : recovered one_row_plain_slot [] ≡ Recovered (front_checkpoint nothing frozen-once floor.0) = recovers-as one_row_plain_slot [] pair.0 pair.1 (front_checkpoint nothing frozen-once floor.0) (sym pair.2) (sym pair.3) pair.4 in
    let none : recovered one_row_plain_slot [] ≡ Recovered no_checkpoint = one ∙ ap (λ n. Recovered (front_checkpoint nothing frozen-once n)) below ∙ ap Recovered frozen-start in
    no-life 1 0 (same-life one_row_plain_slot [] one_row_saved.checkpoint no_checkpoint one-recovers none) (omega arith)

-- what a crash left where the last sync failed
torn-pair : (first second : List ℕ) → (first ≡ []) ⊎ (first ≡ one_row_plain_slot) → second ≡ [] → RecoversToEither nothing frozen-once 0 (Some 1) first second
torn-pair first second either q =
    ⊎_elim
    (λ p. inl (recovers-as first second [] [] no_checkpoint p q nothing-recovers ∙ ap Recovered (sym frozen-start)))
    (λ p. inr (recovers-as first second one_row_plain_slot [] one_row_saved.checkpoint p q one-recovers ∙ ap Recovered (sym frozen-front)))
    either

-- slot 1 is empty
only-empty : {A : Type 0} (second : List ℕ) → (second ≡ []) ⊎ A → (A → ⊥) → second ≡ []
only-empty second either none = ⊎_elim (λ q. q) (λ other. absurd (none other)) either

one-apart : (slot : ℕ) → slot ≡ 0 → slot ≡ 1 → ⊥
one-apart slot first second = omega arith

pub fails-last : IsRound nothing (learns ∷ []) (learns ∷ (by_keeper Freeze ∷ [])) empty_disk (torn_disk one_row_plain_slot) (DiskFault 6)
unfolding frozen-once
fails-last = record {
  more = by_keeper Freeze ∷ [];
  joined = refl;
  calls = refl;
  is_disk = record {
    reads_may_be_left = λ slot. inl refl;
    this_moment = λ under slot list. (⊎_elim inl (λ new. inr (new.1, new.2)), ⊎_elim inl (λ new. inr (refl, new.0, new.1)));
  };
  later = record {
    not_before = omega arith;
    earlier = λ under moment slot list early. (λ same. inl same, λ either. ⊎_elim (λ same. same) (λ new. absurd (no-life moment 0 (omega (arith, early)) (let is = new.0 in omega arith))) either);
  };
  moments = record {
    each = λ under moment first second low high left other.
        torn-pair first second (⊎_elim inl (λ new. inr new.2) left) (only-empty second other (λ new. one-apart 1 new.1 refl));
  };
  chances = record { each = λ under moment low high. ([], [], inl refl, inl refl, nothing-recovers ∙ ap Recovered (sym frozen-start)) };
  saved = tt;
  now = λ first second left other. torn-pair first second (⊎_elim inl (λ new. inr new.1) left) (only-empty second other (λ new. one-apart 1 new.0 refl));
}

pub not-synced : IsRound nothing (learns ∷ []) (learns ∷ (by_keeper Freeze ∷ (by_keeper (Install 1) ∷ []))) empty_disk (torn_disk one_row_plain_slot) (Saved 1) → ⊥
unfolding saved-once
not-synced r = no-life 1 0 (same-life [] [] one_row_saved.checkpoint no_checkpoint (r.saved [] [] (inl refl) (inl refl) ∙ ap Recovered saved-front) nothing-recovers) (omega arith)
