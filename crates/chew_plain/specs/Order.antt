-- The order of keys in an image.
use Rattle.std.specs.Prelude.{ℕ, List, length}
use Rattle.std.specs.declared.cmp.Ordering.{Ordering}
use Rattle.std.specs.Cmp.{IsTotalOrder}
use Rattle.std.specs.Ordering.{nat_cmp, ordering_then}
use Rattle.std.specs.Cmp.Lexicographic.{slice_cmp}
use Rattle.std.proofs.lemmas.Cmp.{on_total, then_total, nat_cmp_total, nat_list_cmp_total}

-- by length, then by the syllables' codes
abbrev pub key_cmp : List ℕ → List ℕ → Ordering
key_cmp key other = ordering_then (nat_cmp (length key) (length other)) (slice_cmp nat_cmp key other)

-- the order is total
pub key_total : IsTotalOrder key_cmp
key_total = then_total (on_total (λ (key : List ℕ). length key) nat_cmp_total) nat_list_cmp_total
