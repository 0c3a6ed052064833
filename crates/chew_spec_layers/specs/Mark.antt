-- The marks of a layer: what it says of some pairs, in image order, no pair twice. This project's own.
use Rattle.std.specs.Prelude.{ℕ, Bool, true, ◌&&◌, List, [], ◌∷◌, find, bytes_eq, nat_le, Option, Some, None, option_map}
use Rattle.std.specs.List.{list_all}
use Rattle.std.specs.declared.cmp.Ordering.{Ordering}
use Rattle.std.specs.Ordering.{match_ordering, is_lt}
use Rattle.chew_spec_syllable.specs.Row.{Row, greatest_freq, is_pair, pair_cmp}

-- a pair is held with a frequency and a time, or it is gone
pub data Mark : Type 0 where
  Live : (freq time : ℕ) → Mark
  Grave : Mark

-- a pair and its mark
pub record Marked : Type 0 where
  pub key : List ℕ
  pub phrase : List ℕ
  pub mark : Mark

-- the mark is that of the pair
abbrev pub is_mark_of : List ℕ → List ℕ → Marked → Bool
is_mark_of key phrase marked = bytes_eq marked.key key && bytes_eq marked.phrase phrase

-- image order of the marks' pairs
abbrev pub marked_cmp : Marked → Marked → Ordering
marked_cmp marked other = pair_cmp marked.key marked.phrase other.key other.phrase

-- the marks are in image order, no pair twice: each is below all that follow
abbrev pub is_layer : List Marked → Bool
is_layer [] = true
is_layer (first ∷ rest) = list_all (λ later. is_lt (marked_cmp first later)) rest && is_layer rest

-- the mark of a pair, where the layer says something of it
abbrev pub mark_of : List Marked → List ℕ → List ℕ → Option Mark
mark_of marks key phrase = option_map (λ marked. marked.mark) (find (is_mark_of key phrase) marks)

-- a mark at its place in image order, in place of an earlier one of its pair
abbrev pub put_mark : Marked → List Marked → List Marked
put_mark marked [] = marked ∷ []
put_mark marked (first ∷ rest) = match_ordering (marked_cmp marked first) (marked ∷ (first ∷ rest)) (marked ∷ rest) (first ∷ put_mark marked rest)

-- the row that a mark gives its pair: a grave gives none
abbrev pub row_of_mark : List ℕ → List ℕ → Mark → Option Row
row_of_mark key phrase (Live freq time) = Some (record { key = key; phrase = phrase; freq = freq; time = time })
row_of_mark key phrase Grave = None

-- the frequency of a live mark is in range
abbrev pub is_in_range : Mark → Bool
is_in_range (Live freq time) = nat_le freq greatest_freq
is_in_range Grave = true

-- the phrase has as many characters as the key has syllables, and the frequency is in range
abbrev pub is_proper_mark : Marked → Bool
is_proper_mark marked = is_pair marked.key marked.phrase && is_in_range marked.mark
