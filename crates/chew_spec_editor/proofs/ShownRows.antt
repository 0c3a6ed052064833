-- The combined rows of a run are phrases of its intervals.
use Rattle.std.specs.Prelude.{◌≡◌, ℕ, ◌+◌, ◌≤◌, Bool, true, List, [], ◌∷◌, All, Contains, chars, drop, map, length, ◌==◌, nat_le}
use Rattle.std.specs.List.{list_all}
use Rattle.std.proofs.Common.{ap, sym, subst, ◌∙◌, arith, eqb-true, ⊎_elim, length-drop, length-take}
use Rattle.std.proofs.lemmas.Bool.{and_parts}
use Rattle.std.proofs.lemmas.List.Elements.{All-cons, All-nil}
use Rattle.chew_spec_syllable.specs.Key.{is_key}
use Rattle.chew_spec_syllable.specs.Phrase.{is_phrase}
use Rattle.chew_spec_syllable.specs.Row.{Row, greatest_freq, is_pair, is_row}
use Rattle.chew_spec_dictionary.specs.Call.{Hit}
use Rattle.chew_spec_dictionary.specs.Look.{Interval, codes_at, hits_of, intervals}
use Rattle.chew_spec_dictionary.proofs.Hits.{hit_is_row}
use Rattle.chew_spec_phrasing.specs.CombinedRows.{combined, combined_hits, shown_hit}
use Rattle.chew_spec_phrasing.specs.Usable.{HaveOwnLengths, phrase_len}
use Rattle.chew_spec_phrasing.proofs.Combined.{Contains-combined-cases}
use Rattle.chew_spec_phrasing.proofs.CombinedHits.{combined_hits-hits_of}
use Rattle.chew_spec_phrasing.proofs.Intervals.{IsIn, IsIn-from_intervals}
use Rattle.chew_spec_phrasing.proofs.Membership.{All-from_Contains, Contains-cases, Contains-from_flat_map, Contains-from_map, Contains-nil}

-- what all pass, each passes
pub passes : {X : Type 0} (q : X → Bool) (xs : List X) (x : X) → list_all q xs ≡ true → Contains xs x → q x ≡ true
passes q [] x e i = absurd (Contains-nil x i)
passes q (y ∷ ys) x e i =
    let parts = and_parts (q y) (list_all q ys) e in
    ⊎_elim (λ same. ap q (sym same) ∙ parts.0) (λ later. passes q ys x parts.1 later) (Contains-cases y ys x i)

-- and what follows holds of all
pub all-from_test : {X : Type 0} (P : X → Type 0) (q : X → Bool) → ((x : X) → q x ≡ true → P x) → (xs : List X) → list_all q xs ≡ true → All P xs
all-from_test P q h [] e = All-nil P
all-from_test P q h (x ∷ xs) e =
    let parts = and_parts (q x) (list_all q xs) e in
    All-cons P x xs (h x parts.0) (all-from_test P q h xs parts.1)

-- a row has a phrase, as long as its key, and a frequency in range
pub record IsRow (row : Row) : Type 0 where
  pub phrase : is_phrase row.phrase ≡ true
  pub as_long : phrase_len row.phrase ≡ length row.key
  pub freq : nat_le row.freq greatest_freq ≡ true

pub IsRow-from : (row : Row) → is_row row ≡ true → IsRow row
IsRow-from row e =
    let parts = and_parts (is_pair row.key row.phrase) (nat_le row.freq greatest_freq) e in
    let pair = and_parts (is_key row.key) _ parts.0 in
    let phrase = and_parts (is_phrase row.phrase) (length (chars row.phrase) == length row.key) pair.1 in
    record { phrase = phrase.0; as_long = eqb-true (phrase_len row.phrase) (length row.key) phrase.1; freq = parts.1 }

pub rows-as_long : (rows : List Row) → list_all is_row rows ≡ true → All (λ row. phrase_len row.phrase ≡ length row.key) rows
rows-as_long rows e = all-from_test (λ row. phrase_len row.phrase ≡ length row.key) is_row (λ row h. (IsRow-from row h).as_long) rows e

-- a row that may be shown for an interval of a run of n syllables
pub record IsShown (n : ℕ) (hit : Hit) : Type 0 where
  pub phrase : is_phrase hit.phrase ≡ true
  pub freq : nat_le hit.freq greatest_freq ≡ true
  pub as_long : phrase_len hit.phrase ≡ hit.len
  pub from_one : 1 ≤ hit.len
  pub fits : hit.start + hit.len ≤ n

pub length-interval : (run : List ℕ) (at : Interval) → IsIn (length run) at → length (codes_at run at) ≡ at.len
length-interval run at h =
    let fits = h.fits in
    let starts = h.starts in
    omega (arith, length-take at.len (drop at.start run), length-drop at.start run)

-- the rows of two lists of rows that are combined are rows of the key
combined-row : (system user : List Row) (key : List ℕ) (row : Row) → list_all is_row system ≡ true → list_all is_row user ≡ true
    → Contains (combined system user key) row → (row.key ≡ key) × (is_row row ≡ true)
combined-row system user key row e f i =
    let cases = Contains-combined-cases system user key row i in
    (cases.0, ⊎_elim (λ mine. passes is_row user row f mine.0) (λ theirs. passes is_row system row e theirs.0) cases.1)

shown-row : (n : ℕ) (at : Interval) (row : Row) → IsIn n at → is_row row ≡ true → length row.key ≡ at.len → IsShown n (shown_hit at row)
shown-row n at row h e l =
    let is = IsRow-from row e in
    let fits = h.fits in
    let starts = h.starts in
    record { phrase = is.phrase; freq = is.freq; as_long = is.as_long ∙ l; from_one = h.from_one; fits = omega arith }

pub IsShown-combined : (system rows : List Row) (run : List ℕ) (hit : Hit) → list_all is_row system ≡ true → list_all is_row rows ≡ true
    → Contains (combined_hits system run (hits_of rows run)) hit → IsShown (length run) hit
IsShown-combined system rows run hit e f i =
    let by_interval = λ (at : Interval). map (shown_hit at) (combined system rows (codes_at run at)) in
    let at = Contains-from_flat_map by_interval (intervals (length run)) hit (subst (λ hits. Contains hits hit) (combined_hits-hits_of system rows run) i) in
    let is_in = IsIn-from_intervals (length run) at.0 at.1 in
    let row = Contains-from_map (shown_hit at.0) (combined system rows (codes_at run at.0)) hit at.2 in
    let is = combined-row system rows (codes_at run at.0) row.0 e f row.1 in
    subst (IsShown (length run)) row.2 (shown-row (length run) at.0 row.0 is_in is.1 (ap length is.0 ∙ length-interval run at.0 is_in))

-- what a look-up finds is as long as its phrases
pub hits-as_long : (rows : List Row) (run : List ℕ) → list_all is_row rows ≡ true → HaveOwnLengths (hits_of rows run)
hits-as_long rows run e =
    All-from_Contains (λ hit. phrase_len hit.phrase ≡ hit.len) (hits_of rows run) (λ hit i.
    let found = hit_is_row rows run hit i in
    let row = found.1.0 in
    let within = found.0 in
    let fits = within.2 in
    let is = IsRow-from row (passes is_row rows row e found.1.1) in
    ap phrase_len (sym found.1.3) ∙ (is.as_long ∙ (ap length found.1.2 ∙ omega (arith, length-take hit.len (drop hit.start run), length-drop hit.start run))))
