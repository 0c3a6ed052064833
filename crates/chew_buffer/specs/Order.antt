-- A pair of a key and a phrase, and the order of pairs in an image.
use Rattle.std.specs.Prelude.{ℕ, List, [], ◌∷◌, length}
use Rattle.std.specs.declared.cmp.Ordering.{Ordering}
use Rattle.std.specs.Cmp.{IsTotalOrder}
use Rattle.std.specs.Ordering.{nat_cmp, ordering_then}
use Rattle.std.specs.Cmp.Lexicographic.{slice_cmp}
use Rattle.std.proofs.lemmas.Cmp.{on_total, nat_list_cmp_total}
use Rattle.chew_spec_syllable.specs.Row.{image_rank, pair_cmp}

-- a pair
pub record Pair : Type 0 where
  pub key : List ℕ
  pub phrase : List ℕ

-- the least phrase: the bytes of U+00A1, the least character that may stand in one
abbrev pub least_phrase : List ℕ
least_phrase = 0xC2 ∷ 0xA1 ∷ []

-- keys by their length, then by their codes
abbrev pub key_cmp : List ℕ → List ℕ → Ordering
key_cmp key other = ordering_then (nat_cmp (length key) (length other)) (slice_cmp nat_cmp key other)

-- image order of two pairs
abbrev pub ranked_cmp : Pair → Pair → Ordering
ranked_cmp pair other = pair_cmp pair.key pair.phrase other.key other.phrase

-- the order is total
pub ranked_total : IsTotalOrder ranked_cmp
ranked_total = on_total (λ (pair : Pair). image_rank pair.key pair.phrase) nat_list_cmp_total
