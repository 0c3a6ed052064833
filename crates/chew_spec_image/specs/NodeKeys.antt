-- The keys of an image's nodes: the empty list and all prefixes of the rows' keys, by length, then codes.
use Rattle.std.specs.Prelude.{ℕ, ◌-◌, Bool, ◌&&◌, List, [], ◌∷◌, map, flat_map, length, take, nat_lt, bytes_eq, slice_index}
use Rattle.std.specs.List.{range_with_len}
use Rattle.std.specs.declared.cmp.Ordering.{Ordering}
use Rattle.std.specs.Ordering.{nat_cmp, match_ordering}
use Rattle.std.specs.Cmp.Lexicographic.{slice_cmp}
use Rattle.chew_spec_syllable.specs.Row.{Row}

-- the order of keys: by length, then codes
abbrev pub key_cmp : List ℕ → List ℕ → Ordering
key_cmp key other = slice_cmp nat_cmp (length key ∷ key) (length other ∷ other)

-- the prefixes of a key, the key itself among them and the empty one not
abbrev pub prefixes_of : List ℕ → List (List ℕ)
prefixes_of key = map (λ n. take n key) (range_with_len 1 (length key))

-- the key at its place among others, unless it stands there
abbrev pub with_key : List ℕ → List (List ℕ) → List (List ℕ)
with_key key [] = key ∷ []
with_key key (first ∷ rest) = match_ordering (key_cmp key first) (key ∷ (first ∷ rest)) (first ∷ rest) (first ∷ with_key key rest)

-- the keys in order, each once
abbrev pub in_key_order : List (List ℕ) → List (List ℕ)
in_key_order [] = []
in_key_order (key ∷ keys) = with_key key (in_key_order keys)

-- the keys of the nodes
abbrev pub node_keys : List Row → List (List ℕ)
node_keys rows = in_key_order ([] ∷ flat_map (λ row. prefixes_of row.key) rows)

-- the last code of a key; 0 for the empty one
abbrev pub last_code : List ℕ → ℕ
last_code key = slice_index key (length key - 1)

-- the key without its last code
abbrev pub parent_of : List ℕ → List ℕ
parent_of key = take (length key - 1) key

-- the key is one code longer than another that it begins with
abbrev pub is_child : List ℕ → List ℕ → Bool
is_child parent key = nat_lt 0 (length key) && bytes_eq (parent_of key) parent
