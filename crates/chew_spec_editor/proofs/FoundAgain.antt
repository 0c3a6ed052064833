-- What look-ups find of hidden rows, and of those that were learnt again.
use Rattle.std.specs.Prelude.{◌≡◌, ℕ, ◌+◌, ◌-◌, ◌^◌, ◌<◌, ◌≤◌, ◌&&◌, min, true, false, List, Contains, drop, take, length, ◌==◌, Some, if◌then◌else◌}
use Rattle.std.proofs.Common.{refl, ap, ap₂, sym, subst, ◌∙◌, arith, length-take}
use Rattle.std.proofs.lemmas.Bool.{and_parts, leb-true}
use Rattle.std.proofs.lemmas.Option.{same_Some}
use Rattle.chew_spec_syllable.specs.Row.{Row, is_pair, no_pair_twice}
use Rattle.chew_spec_dictionary.specs.Call.{Full, Hide, Hit, Learn, Look, is_proper}
use Rattle.chew_spec_dictionary.specs.Dictionary.{is_map, learn}
use Rattle.chew_spec_dictionary.specs.HiddenPairs.{can_hide, is_hidden}
use Rattle.chew_spec_dictionary.specs.History.{Point, answer}
use Rattle.chew_spec_dictionary.specs.Look.{Interval, codes_at, hits_of, intervals}
use Rattle.chew_spec_dictionary.specs.System.{row_of}
use Rattle.chew_spec_dictionary.proofs.Found.{found_is_row}
use Rattle.chew_spec_dictionary.proofs.Hiding.{hidden_where, single_shown}
use Rattle.chew_spec_dictionary.proofs.Hits.{hit_is_row, listed_within, row_is_hit}
use Rattle.chew_spec_dictionary.proofs.Learning.{pair_learned, reply_of_hidden, shown_learned}
use Rattle.chew_spec_dictionary.proofs.Maps.{learn_keeps}
use Rattle.chew_spec_dictionary.proofs.Rows.{map_has_no_pair_twice, row_found}
use Rattle.chew_spec_phrasing.proofs.Intervals.{IsIn-from_intervals}
use Rattle.chew_spec_editor.specs.Finish.{hits_in}
use Rattle.chew_spec_editor.specs.HiddenPhrases.{IsHiddenAt, IsOfPhrase}
use Rattle.chew_spec_editor.proofs.ShownRows.{length-interval}

-- a hit of an interval is found under its key
key-of_hit : (run : List ℕ) (at : Interval) (hit : Hit) → hit.start ≡ at.start → hit.len ≡ at.len → take hit.len (drop hit.start run) ≡ codes_at run at
key-of_hit run at hit start len = ap₂ (λ (s l : ℕ). take l (drop s run)) start len

-- the row of a pair is the one
row-of_pair : (rows : List Row) (row : Row) (key phrase : List ℕ) → no_pair_twice rows ≡ true → Contains rows row → row.key ≡ key → row.phrase ≡ phrase → row_of rows key phrase ≡ Some row
row-of_pair rows row key phrase once i k p = sym (ap₂ (λ (a b : List ℕ). row_of rows a b) k p) ∙ row_found rows row once i

pub hidden-row_found : (rows : List Row) (run : List ℕ) (row : Row) (at : Interval) → no_pair_twice rows ≡ true → Contains rows row → is_hidden row ≡ true
    → Contains (intervals (length run)) at → row.key ≡ codes_at run at → IsHiddenAt (hits_of rows run) at row.phrase
hidden-row_found rows run row at once i e listed k =
    let within = listed_within (length run) at listed in
    let two = ((hidden_where row).0 e).0 in
    let count = ap length k ∙ length-interval run at (IsIn-from_intervals (length run) at listed) in
    record {
      long = omega arith;
      found = (
        record { start = at.start; len = at.len; phrase = row.phrase; freq = row.freq; hidden = is_hidden row },
        row_is_hit rows run row at.start at.len i within k,
        record { start = refl; len = refl; phrase_is = refl },
      );
      hidden = λ hit j is.
          let found = hit_is_row rows run hit j in
          let other = found.1.0 in
          let same : other ≡ row = same_Some other row
          (sym (row-of_pair rows other row.key row.phrase once found.1.1 (found.1.2 ∙ (key-of_hit run at hit is.start is.len ∙ sym k)) (found.1.3 ∙ is.phrase_is))
          ∙ row-of_pair rows row row.key row.phrase once i refl refl) in
          sym found.1.5 ∙ (ap is_hidden same ∙ e);
    }

pub single-not_hidden : (rows : List Row) (run : List ℕ) (hit : Hit) → Contains (hits_of rows run) hit → hit.len ≡ 1 → hit.hidden ≡ false
single-not_hidden rows run hit i e =
    let found = hit_is_row rows run hit i in
    let count = length-take hit.len (drop hit.start run) in
    let own = ap length found.1.2 in
    sym found.1.5 ∙ single_shown found.1.0 (omega arith)

pub hides-two : (key phrase : List ℕ) → is_proper (Hide key phrase) ≡ true → 2 ≤ length key
hides-two key phrase e = leb-true 2 (length key) ((and_parts (is_pair key phrase) (can_hide key) e).1)

pub found-again : (point : Point) (key phrase : List ℕ) (orig peak : ℕ) (row : Row) (run : List ℕ) (at : Interval) → row_of point.dictionary.pairs key phrase ≡ Some row
    → is_hidden row ≡ true → Contains (intervals (length run)) at → codes_at run at ≡ key
    → (hit : Hit) × Contains (hits_in (answer (answer point (Learn key phrase orig peak)).point (Look run)).reply) hit × IsOfPhrase at phrase hit
found-again point key phrase orig peak row run at e hidden listed k =
    let rows = (learn point.dictionary key phrase orig peak).left.pairs in
    let freq = if orig == 0 then 1 else orig in
    let time = min point.dictionary.life (2 ^ 64 - 2) in
    let put : Row = record { key = key; phrase = phrase; freq = freq; time = time } in
    let held = found_is_row rows key phrase put
    (pair_learned point.dictionary key phrase orig peak freq time (reply_of_hidden point.dictionary key phrase orig peak row e hidden)) in (
      record { start = at.start; len = at.len; phrase = phrase; freq = freq; hidden = is_hidden put },
      row_is_hit rows run put at.start at.len held.0 (listed_within (length run) at listed) (sym k),
      record { start = refl; len = refl; phrase_is = refl },
    )

pub shown-again : (point : Point) (key phrase : List ℕ) (orig peak : ℕ) (run : List ℕ) (at : Interval) (hit : Hit) → is_map point.dictionary.pairs ≡ true
    → ((answer point (Learn key phrase orig peak)).reply ≡ Full → ⊥) → codes_at run at ≡ key
    → Contains (hits_in (answer (answer point (Learn key phrase orig peak)).point (Look run)).reply) hit → IsOfPhrase at phrase hit → hit.hidden ≡ false
shown-again point key phrase orig peak run at hit e full k i is =
    let rows = (learn point.dictionary key phrase orig peak).left.pairs in
    let once = map_has_no_pair_twice rows (learn_keeps point.dictionary key phrase orig peak e) in
    let found = hit_is_row rows run hit i in
    let row = found.1.0 in
    sym found.1.5
    ∙ shown_learned point.dictionary key phrase orig peak row full
    (row-of_pair rows row key phrase once found.1.1 (found.1.2 ∙ (key-of_hit run at hit is.start is.len ∙ k)) (found.1.3 ∙ is.phrase_is))
