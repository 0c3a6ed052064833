-- The text of a syllable: its marks, in the order of its parts.
use Rattle.std.specs.Prelude.{ℕ, zero, suc, ◌-◌, List, [], ◌∷◌, ◌++◌, length, drop, position, nat_eq, ◌==◌, slice_index, if◌then◌else◌, Result, Ok, Err}
use Rattle.std.specs.Option.{option_map_or}
use Rattle.std.specs.List.{starts_with, range_with_len}
use Rattle.std.specs.Prelude.{encode_utf8}
use Rattle.chew_spec_syllable.specs.Syllable.{Parts, code_of, is_syllable}

-- ㄅ to ㄙ, ㄧ to ㄩ and ㄚ to ㄦ of Unicode's block Bopomofo
abbrev pub initial_marks : List ℕ
initial_marks = range_with_len 0x3105 21

abbrev pub medial_marks : List ℕ
medial_marks = range_with_len 0x3127 3

abbrev pub final_marks : List ℕ
final_marks = range_with_len 0x311A 13

-- ˙ ˊ ˇ ˋ of Unicode's block Spacing Modifier Letters; the first tone has no mark
abbrev pub tone_marks : List ℕ
tone_marks = 0x02D9 ∷ 0x02CA ∷ 0x02C7 ∷ 0x02CB ∷ []

-- the text of the mark of this number, counted from 1; nothing for 0
abbrev pub mark_text : List ℕ → ℕ → List ℕ
mark_text marks zero = []
mark_text marks (suc n) = encode_utf8 (slice_index marks n)

-- the marks of the parts that are there
unfoldable pub text_of : Parts → List ℕ
text_of p = mark_text initial_marks p.initial ++ (mark_text medial_marks p.medial
    ++ (mark_text final_marks p.final ++ mark_text tone_marks p.tone))

-- the number of the mark that the text begins with, or 0
abbrev pub mark_number : List ℕ → List ℕ → ℕ
mark_number marks text = option_map_or suc (position (λ mark. starts_with nat_eq text (encode_utf8 mark)) marks) 0

-- the text behind the mark that it begins with
abbrev pub after_mark : List ℕ → List ℕ → List ℕ
after_mark marks text = drop (length (mark_text marks (mark_number marks text))) text

-- the parts at the front of a text: an initial, a medial, a final and a tone, each where it is there
abbrev pub front_parts : List ℕ → Parts
front_parts text =
    let medial_on = after_mark initial_marks text in
    let final_on = after_mark medial_marks medial_on in
    let tone_on = after_mark final_marks final_on in
    record {
      initial = mark_number initial_marks text;
      medial = mark_number medial_marks medial_on;
      final = mark_number final_marks final_on;
      tone = mark_number tone_marks tone_on;
    }

-- what follows these parts
abbrev pub after_parts : List ℕ → List ℕ
after_parts text = after_mark tone_marks (after_mark final_marks (after_mark medial_marks (after_mark initial_marks text)))

-- the syllable that the text is; else the place of the first character that can't stand there, or the
-- length where only a tone or nothing was read
unfoldable pub syllable_reading : List ℕ → Result Parts ℕ
syllable_reading text =
    if length (after_parts text) == 0
    then (if is_syllable (front_parts text) then Ok (front_parts text) else Err (length text))
    else Err (length text - length (after_parts text))

-- the same by the syllable's code
abbrev pub code_or_place : Result Parts ℕ → Result ℕ ℕ
code_or_place (Ok parts) = Ok (code_of parts)
code_or_place (Err place) = Err place

abbrev pub code_reading : List ℕ → Result ℕ ℕ
code_reading text = code_or_place (syllable_reading text)
