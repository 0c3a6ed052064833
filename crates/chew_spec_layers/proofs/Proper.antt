-- Which marks are proper.
use Rattle.std.proofs.Common.{◌≡◌, ℕ, ◌≤◌, true, List, refl, ap, sym, ◌∙◌, Some}
use Rattle.std.proofs.lemmas.Bool.{and_from, and_parts, le-leb}
use Rattle.chew_spec_syllable.specs.Row.{Row, is_pair, is_row}
use Rattle.chew_spec_dictionary.proofs.Hiding.{some_not_none}
use Rattle.chew_spec_layers.specs.Mark.{Mark, Live, Grave, Marked, is_in_range, is_proper_mark, row_of_mark}

pub live_proper : (key phrase : List ℕ) (freq time : ℕ) → is_pair key phrase ≡ true → freq ≤ 99_999_999 → is_proper_mark (record { key = key; phrase = phrase; mark = Live freq time }) ≡ true
live_proper key phrase freq time p l = and_from _ _ p (le-leb freq 99_999_999 l)

pub grave_proper : (key phrase : List ℕ) → is_pair key phrase ≡ true → is_proper_mark (record { key = key; phrase = phrase; mark = Grave }) ≡ true
grave_proper key phrase p = and_from _ _ p refl

pub proper_pair : (marked : Marked) → is_proper_mark marked ≡ true → is_pair marked.key marked.phrase ≡ true
proper_pair marked p = (and_parts (is_pair marked.key marked.phrase) (is_in_range marked.mark) p).0

-- the row of a mark is in range
row_by : (key phrase : List ℕ) (mark : Mark) (row : Row) → is_pair key phrase ≡ true → is_in_range mark ≡ true → row_of_mark key phrase mark ≡ Some row → is_row row ≡ true
row_by key phrase (Live freq time) row p r e =
    let own : Row = record { key = key; phrase = phrase; freq = freq; time = time } in
    let found : Some own ≡ Some row = e in
    let same : own ≡ row = cc in
    ap is_row (sym same) ∙ and_from _ _ p r
row_by key phrase Grave row p r e = absurd (some_not_none row (sym e))

pub proper_row : (marked : Marked) (row : Row) → is_proper_mark marked ≡ true → row_of_mark marked.key marked.phrase marked.mark ≡ Some row → is_row row ≡ true
proper_row marked row p e =
    let both = and_parts (is_pair marked.key marked.phrase) (is_in_range marked.mark) p in
    row_by marked.key marked.phrase marked.mark row both.0 both.1 e
