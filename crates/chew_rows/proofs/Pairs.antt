-- A row that is added to rows whose pairs are kept in a set.
use Rattle.std.proofs.Common.{◌≡◌, ℕ, true, false, ◌&&◌, ◌||◌, cond, Bool, List, [], ◌∷◌, ◌++◌, refl, ap, ap₂, sym, ◌∙◌}
use Rattle.std.specs.List.{list_any}
use Rattle.std.specs.Prelude.{bytes_eq}
use Rattle.std.specs.BTreeSet.{BTreeSet, IsEmpty, Updates}
use Rattle.std.specs.BTreeMap.{is_at}
use Rattle.std.specs.Cmp.{tied_then}
use Rattle.std.specs.Cmp.Lexicographic.{slice_cmp}
use Rattle.std.specs.Ordering.{nat_cmp}
use Rattle.std.proofs.lemmas.List.Folds.{list_any-append}
use Rattle.std.proofs.lemmas.Map.Text.{is_eq-slice_cmp}
use Rattle.chew_spec_syllable.specs.Row.{Row, is_pair_of}
use Rattle.chew_rows.specs.Pairs.{HasPairsOf, pair_cmp}
use Rattle.chew_rows.specs.declared.pair.Pair.{Pair}

-- pairs that tie are of one row
ties : (pair other : Pair) (row : Row) → pair.key.items ≡ row.key → pair.phrase.now ≡ row.phrase → is_at (pair_cmp pair) other ≡ is_pair_of other.key.items other.phrase.now row
ties pair other row key phrase =
    sym (tied_then (slice_cmp nat_cmp pair.key.items other.key.items) (slice_cmp nat_cmp pair.phrase.now other.phrase.now))
    ∙ ap₂ (λ (a b : Bool). a && b)
    (is_eq-slice_cmp pair.key.items other.key.items ∙ ap (λ (k : List ℕ). bytes_eq k other.key.items) key)
    (is_eq-slice_cmp pair.phrase.now other.phrase.now ∙ ap (λ (p : List ℕ). bytes_eq p other.phrase.now) phrase)

-- no rows have no pairs
pub no_pairs : (pairs : BTreeSet Pair) → IsEmpty pairs → HasPairsOf [] pairs
no_pairs pairs e = record { same = λ pair. ap (list_any (is_at (pair_cmp pair))) e }

-- the pair of a row that is added
pub pair_added : (rows pushed : List Row) (row : Row) (pairs now : BTreeSet Pair) (pair : Pair) → HasPairsOf rows pairs → pair.key.items ≡ row.key → pair.phrase.now ≡ row.phrase → Updates pair_cmp pairs now pair true → pushed ≡ rows ++ row ∷ [] → HasPairsOf pushed now
pair_added rows pushed row pairs now pair has key phrase updates is = record { same = λ other. updates.0 other ∙ (ap₂ (λ (a b : Bool). cond a true b) (ties pair other row key phrase) (has.same other) ∙ sym (more other)) }
  where
    turned : (a b : Bool) → (a || (b || false)) ≡ cond b true a
    turned true true = refl
    turned true false = refl
    turned false true = refl
    turned false false = refl

    more : (other : Pair) → list_any (is_pair_of other.key.items other.phrase.now) pushed ≡ cond (is_pair_of other.key.items other.phrase.now row) true (list_any (is_pair_of other.key.items other.phrase.now) rows)
    more other =
        let test = is_pair_of other.key.items other.phrase.now in
        ap (list_any test) is ∙ (list_any-append test rows (row ∷ []) ∙ turned (list_any test rows) (test row))
