-- A row of a dictionary, and the order of rows in an image.
use Rattle.std.specs.Prelude.{ℕ, Bool, true, not, ◌&&◌, List, [], ◌∷◌, ◌++◌, length, nat_le, ◌==◌, chars, bytes_eq}
use Rattle.std.specs.List.{list_any}
use Rattle.std.specs.declared.cmp.Ordering.{Ordering}
use Rattle.std.specs.Ordering.{nat_cmp}
use Rattle.std.specs.Cmp.Lexicographic.{slice_cmp}
use Rattle.chew_spec_syllable.specs.Key.{is_key}
use Rattle.chew_spec_syllable.specs.Phrase.{is_phrase}

-- a phrase under its key, with its frequency and the time of its last learn
pub record Row : Type 0 where
  pub key : List ℕ
  pub phrase : List ℕ
  pub freq : ℕ
  pub time : ℕ

-- the greatest frequency
abbrev pub greatest_freq : ℕ
greatest_freq = 99_999_999

-- a phrase of as many characters as its key has syllables
abbrev pub is_pair : List ℕ → List ℕ → Bool
is_pair key phrase = is_key key && (is_phrase phrase && (length (chars phrase) == length key))

abbrev pub is_row : Row → Bool
is_row row = is_pair row.key row.phrase && nat_le row.freq greatest_freq

-- the row is that of the pair
abbrev pub is_pair_of : List ℕ → List ℕ → Row → Bool
is_pair_of key phrase row = bytes_eq row.key key && bytes_eq row.phrase phrase

-- no two rows are of one pair
abbrev pub no_pair_twice : List Row → Bool
no_pair_twice [] = true
no_pair_twice (row ∷ rows) = not (list_any (is_pair_of row.key row.phrase) rows) && no_pair_twice rows

-- what orders rows: the key's length, then its codes, then the phrase's bytes
abbrev pub image_rank : List ℕ → List ℕ → List ℕ
image_rank key phrase = length key ∷ (key ++ phrase)

-- the order of two pairs of a key and a phrase
abbrev pub pair_cmp : List ℕ → List ℕ → List ℕ → List ℕ → Ordering
pair_cmp key phrase other_key other_phrase = slice_cmp nat_cmp (image_rank key phrase) (image_rank other_key other_phrase)

-- image order
abbrev pub image_cmp : Row → Row → Ordering
image_cmp row other = pair_cmp row.key row.phrase other.key other.phrase
