-- What is refused for its length.
use Rattle.std.specs.Prelude.{◌≡◌, ℕ, ◌<◌, Bool, true, false, List, Some, None, Err, cond, length, nat_eq, nat_le}
use Rattle.std.specs.List.{starts_with}
use Rattle.std.proofs.Common.{ap, ◌∙◌, arith}
use Rattle.std.proofs.lemmas.Bool.{cond-false}
use Rattle.std.proofs.lemmas.Bool.Decides.{nat_tests}
use Rattle.chew_spec_text.specs.DictionaryText.{Size, dictionary_rows, system_limit}
use Rattle.chew_spec_image.specs.Fields.{magic}
use Rattle.chew_spec_slots.specs.Keep.{found_keep}
use Rattle.chew_spec_slots.specs.Recovery.{Recovered, TooLarge, checkpoint_of, newest, recovered, refusal, unless_refused}
use Rattle.chew_spec_slots.specs.Reading.{slot_reading}
use Rattle.chew_spec_slots.specs.Slot.{length_limit}
use Rattle.chew_spec_program.specs.ImageRows.{rows_of_image}
use Rattle.chew_spec_program.specs.Opening.{found_or_refusal, ordered, slots_value, system_rows}
use Rattle.chew_spec_program.specs.Refusal.{SlotTooLarge, WrongSystem}

over : (limit n : ℕ) → limit < n → nat_le n limit ≡ false
over limit n h = grind (arith, nat_tests)

long-text : (bytes : List ℕ) → system_limit < length bytes → dictionary_rows bytes ≡ Err (record { line = 0; cause = Size })
unfolding dictionary_rows
long-text bytes h = cond-false _ _ _ (over system_limit (length bytes) h)

long-image : (bytes : List ℕ) → system_limit < length bytes → rows_of_image bytes ≡ Err (WrongSystem (record { line = 0; cause = Size }))
long-image bytes h = cond-false _ _ _ (over system_limit (length bytes) h)

pub long-system : (bytes : List ℕ) → system_limit < length bytes → system_rows bytes ≡ Err (WrongSystem (record { line = 0; cause = Size }))
long-system bytes h = by (starts_with nat_eq bytes magic)
  where
    by : (b : Bool) → cond b (rows_of_image bytes) (ordered (dictionary_rows bytes)) ≡ Err (WrongSystem (record { line = 0; cause = Size }))
    by true = long-image bytes h
    by false = ap ordered (long-text bytes h)

long-slot : (slot : ℕ) (bytes : List ℕ) → length_limit < length bytes → refusal slot bytes ≡ Some (TooLarge slot (length bytes))
long-slot slot bytes h = cond-false _ _ _ (over length_limit (length bytes) h)

pub long-zero : (zero one : List ℕ) → length_limit < length zero → slots_value (Some (record { zero = zero; one = one })) ≡ Err (SlotTooLarge 0 (length zero))
unfolding recovered
long-zero zero one h =
    ap (λ r. found_or_refusal (found_keep zero one).seq (unless_refused r (unless_refused (refusal 1 one) (Recovered (checkpoint_of (newest (slot_reading zero) (slot_reading one))))))) (long-slot 0 zero h)

pub long-one : (zero one : List ℕ) → refusal 0 zero ≡ None → length_limit < length one → slots_value (Some (record { zero = zero; one = one })) ≡ Err (SlotTooLarge 1 (length one))
unfolding recovered
long-one zero one fine h =
    ap (λ r. found_or_refusal (found_keep zero one).seq (unless_refused r (unless_refused (refusal 1 one) (Recovered (checkpoint_of (newest (slot_reading zero) (slot_reading one))))))) fine
    ∙ ap (λ r. found_or_refusal (found_keep zero one).seq (unless_refused r (Recovered (checkpoint_of (newest (slot_reading zero) (slot_reading one)))))) (long-slot 1 one h)
