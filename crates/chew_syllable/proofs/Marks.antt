-- How long the texts of marks are.
use Rattle.std.proofs.Common.{ℕ, zero, suc, ◌≤◌, ◌≡◌, List, length, arith, true, refl, get_or, leb, encode_utf8}
use Rattle.std.specs.List.{list_all}
use Rattle.std.proofs.lemmas.Bool.{leb-true}
use Rattle.std.proofs.lemmas.List.Elements.{All-get_or}
use Rattle.std.proofs.lemmas.List.Sums.{AllPass-from_list_all}
use Rattle.chew_spec_syllable.specs.SyllableText.{initial_marks, medial_marks, final_marks, tone_marks, mark_text}

-- where no mark is longer, no text of a mark is
mark_within : (bound : ℕ) (marks : List ℕ) (number : ℕ) → list_all (λ mark. leb (length (encode_utf8 mark)) bound) marks ≡ true → number ≤ length marks → length (mark_text marks number) ≤ bound
mark_within bound marks zero short range = omega arith
mark_within bound marks (suc n) short range =
    leb-true (length (encode_utf8 (get_or marks n 0))) bound (All-get_or (λ mark. leb (length (encode_utf8 mark)) bound ≡ true) marks n 0 (omega arith) (AllPass-from_list_all (λ mark. leb (length (encode_utf8 mark)) bound) marks short))

-- an initial, a medial and a final are of three bytes, and a tone of two
pub initial_within : (number : ℕ) → number ≤ 21 → length (mark_text initial_marks number) ≤ 3
unfolding lib.Utf8.encode
initial_within number range = mark_within 3 initial_marks number refl range

pub medial_within : (number : ℕ) → number ≤ 3 → length (mark_text medial_marks number) ≤ 3
unfolding lib.Utf8.encode
medial_within number range = mark_within 3 medial_marks number refl range

pub final_within : (number : ℕ) → number ≤ 13 → length (mark_text final_marks number) ≤ 3
unfolding lib.Utf8.encode
final_within number range = mark_within 3 final_marks number refl range

pub tone_within : (number : ℕ) → number ≤ 4 → length (mark_text tone_marks number) ≤ 2
unfolding lib.Utf8.encode
tone_within number range = mark_within 2 tone_marks number refl range
