-- A run whose syllables have rows by themselves has a segmentation.
use Rattle.std.proofs.Common.{◌≡◌, ℕ, ◌<◌, ◌≤◌, true, false, ◌&&◌, List, [], length, chars, All, eqb-true}
use Rattle.std.specs.Prelude.{◌==◌, ◌+◌, nat_le}
use Rattle.std.specs.List.{list_all}
use Rattle.std.proofs.lemmas.Bool.{and_parts}
use Rattle.std.proofs.lemmas.List.Elements.{All-nil}
use Rattle.chew_spec_syllable.specs.Key.{is_key}
use Rattle.chew_spec_syllable.specs.Phrase.{is_phrase}
use Rattle.chew_spec_syllable.specs.Row.{Row, greatest_freq, is_pair, is_row}
use Rattle.chew_spec_dictionary.specs.Call.{Hit, is_hit}
use Rattle.chew_spec_dictionary.specs.System.{has_single}
use Rattle.chew_spec_phrasing.specs.CanSegment.{CanSegment, interval_of}
use Rattle.chew_spec_phrasing.specs.CombinedRows.{combined_hits}
use Rattle.chew_spec_phrasing.specs.Usable.{choice_end, meets, phrase_len}
use Rattle.chew_spec_phrasing.proofs.Chosen.{passes_from_list_all}
use Rattle.chew_spec_phrasing.proofs.CombinedSegment.{CanSegment-combined_hits}
use Rattle.chew_spec_phrasing.proofs.InOrder.{AllPairs-nil}
use Rattle.chew_spec_phrasing.proofs.Membership.{All-from_Contains}

row-as_long : (row : Row) → is_row row ≡ true → phrase_len row.phrase ≡ length row.key
row-as_long row e =
    let pair = (and_parts (is_pair row.key row.phrase) (nat_le row.freq greatest_freq) e).0 in
    let rest = (and_parts (is_key row.key) (is_phrase row.phrase && (length (chars row.phrase) == length row.key)) pair).1 in
    eqb-true (length (chars row.phrase)) (length row.key) (and_parts (is_phrase row.phrase) (length (chars row.phrase) == length row.key) rest).1

hit-as_long : (hit : Hit) → is_hit hit ≡ true → phrase_len hit.phrase ≡ hit.len
hit-as_long hit e =
    let rest = nat_le (hit.start + hit.len) 39 && (nat_le 1 hit.len && (nat_le hit.len 11 && nat_le hit.freq greatest_freq)) in
    let after = (and_parts (is_phrase hit.phrase) ((length (chars hit.phrase) == hit.len) && rest) e).1 in
    eqb-true (length (chars hit.phrase)) hit.len (and_parts (length (chars hit.phrase) == hit.len) rest after).0

pub can_from_singles : (system : List Row) (run : List ℕ) (user : List Hit) → list_all is_row system ≡ true → list_all is_hit user ≡ true → All (λ code. has_single system code ≡ true) run → CanSegment (combined_hits system run user) [] (length run)
can_from_singles system run user rows hits singles =
    CanSegment-combined_hits system run user []
    (All-from_Contains (λ row. phrase_len row.phrase ≡ length row.key) system (λ row i. row-as_long row (passes_from_list_all is_row system row rows i)))
    (All-from_Contains (λ hit. phrase_len hit.phrase ≡ hit.len) user (λ hit i. hit-as_long hit (passes_from_list_all is_hit user hit hits i)))
    singles (All-nil (λ choice. 0 < phrase_len choice.phrase)) (All-nil (λ choice. choice_end choice ≤ length run))
    (AllPairs-nil (λ choice other. meets (interval_of choice) other ≡ false))
