-- A node's key is found from its parents.
use Rattle.std.proofs.Common.{◌≡◌, ℕ, ◌+◌, ◌-◌, ◌<◌, ◌≤◌, true, List, [], ◌∷◌, ◌++◌, length, get_or, take, drop, set, Some, refl, sym, ap, ◌∙◌, subst, ⊎_elim, sum_by, arith}
use Rattle.std.specs.List.{list_all, slice_get}
use Rattle.std.proofs.lemmas.Bool.{cases_lt}
use Rattle.std.proofs.lemmas.List.{append_assoc, drop-set, get_or-drop, get_or-take, length-append, length-drop, length-set, nil_from_length, take_all}
use Rattle.std.proofs.lemmas.List.Sums.{sum_by_more}
use Rattle.std.proofs.lemmas.Option.{get_or_from_slice_get, slice_get-get_or}
use Rattle.chew_spec_syllable.specs.Row.{Row, is_row}
use Rattle.chew_spec_syllable.specs.Syllable.{is_code}
use Rattle.chew_spec_dictionary.specs.Dictionary.{is_map}
use Rattle.chew_spec_dictionary.specs.System.{is_under, rows_under}
use Rattle.chew_spec_image.specs.Fields.{Node}
use Rattle.chew_spec_image.specs.Image.{child_count, row_count}
use Rattle.chew_spec_image.specs.NodeKeys.{node_keys, parent_of}
use Rattle.chew_spec_image.proofs.Bounds.{node_code, node_length, row_in}
use Rattle.chew_spec_image.proofs.Families.{children_joined, rows_joined, under_key}
use Rattle.chew_spec_image.proofs.ImageNodes.{total_children, total_rows}
use Rattle.chew_spec_image.proofs.KeyOrder.{parent-push, parent_last}
use Rattle.chew_spec_image.proofs.NodeKeys.{keys_root, keys_up}
use Rattle.chew_spec_image.proofs.Rising.{In, in_filter}
use Rattle.chew_trie_read.specs.Search.{IsNode, code_at, first_child_at, first_row_at, key_at}
use Rattle.chew_trie_read.proofs.Finding.{root_key, root_within}
use Rattle.chew_trie_read.proofs.Places.{child_is, in_get, rows_of_node, same_place, total_sum}

-- the node at a place
pub node_of_place : (rows : List Row) (i : ℕ) → i < length (node_keys rows) → (node : Node) × IsNode rows i node
node_of_place rows i h = (
  record {
    code = code_at rows i;
    children = child_count rows (key_at rows i);
    first_child = first_child_at rows i;
    rows = row_count rows (key_at rows i);
    first_row = first_row_at rows i;
  },
  record { within = h; code = refl; children = refl; first_child = refl; rows_here = refl; first_row = refl },
)

-- all nodes have as many children as there are other nodes, and all rows
sum_children : (rows : List Row) → 1 + sum_by (child_count rows) (node_keys rows) ≡ length (node_keys rows)
sum_children rows =
    let s = total_sum (child_count rows) (node_keys rows) in
    let t = total_children rows (node_keys rows) in
    let l = ap length (children_joined rows) in
    let root = ap length (keys_root rows) in
    omega arith

sum_rows : (rows : List Row) → is_map rows ≡ true → list_all is_row rows ≡ true → sum_by (row_count rows) (node_keys rows) ≡ length rows
sum_rows rows m each =
    let s = total_sum (row_count rows) (node_keys rows) in
    let t = total_rows rows (node_keys rows) in
    let l = ap length (rows_joined rows m (λ row i. (row_in row rows each i).some)) in
    omega arith

-- a place before the start of the next node, or before the end, is before that of this one and its number
before_next : (count : List ℕ → ℕ) (keys : List (List ℕ)) (p place start whole : ℕ) → p < length keys → (p + 1 < length keys → place < start + sum_by count (take (p + 1) keys)) → place < whole → start + sum_by count keys ≡ whole
    → place < (start + sum_by count (take p keys)) + count (get_or keys p [])
before_next count keys p place start whole h next within all =
    let more = sum_by_more count keys p [] h in
    ⊎_elim
    (λ (l : p + 1 < length keys). let n = next l in omega arith)
    (λ (l : length keys ≤ p + 1). let e = ap (sum_by count) (take_all (p + 1) keys l) in omega arith)
    (cases_lt (p + 1) (length keys))

-- the node whose children reach over a place is the parent of the node there
pub parent_found : (rows : List Row) (p i : ℕ) → p < length (node_keys rows) → i < length (node_keys rows) → 1 + sum_by (child_count rows) (take p (node_keys rows)) ≤ i
    → (p + 1 < length (node_keys rows) → i < 1 + sum_by (child_count rows) (take (p + 1) (node_keys rows))) → key_at rows p ≡ parent_of (key_at rows i)
parent_found rows p i hp hi from upto =
    let n = node_of_place rows p hp in
    let s = total_sum (child_count rows) (take p (node_keys rows)) in
    let before = before_next (child_count rows) (node_keys rows) p i 1 (length (node_keys rows)) hp upto hi (sum_children rows) in
    let first = n.1.first_child in
    let count = n.1.children in
    let m = i - n.0.first_child in
    let a : n.0.first_child + m ≡ i = omega arith in
    let child = child_is rows p m n.0 n.1 (omega arith) in
    sym (ap parent_of (ap (key_at rows) (sym a) ∙ child) ∙ parent-push (key_at rows p) (code_at rows (n.0.first_child + m)))

-- the node whose rows reach over a place has the key of the row there
pub row_key : (rows : List Row) (p place : ℕ) (d : Row) → is_map rows ≡ true → list_all is_row rows ≡ true → p < length (node_keys rows) → place < length rows → sum_by (row_count rows) (take p (node_keys rows)) ≤ place
    → (p + 1 < length (node_keys rows) → place < sum_by (row_count rows) (take (p + 1) (node_keys rows))) → (get_or rows place d).key ≡ key_at rows p
row_key rows p place d m each hp hi from upto =
    let n = node_of_place rows p hp in
    let s = total_sum (row_count rows) (take p (node_keys rows)) in
    let all : 0 + sum_by (row_count rows) (node_keys rows) ≡ length rows = let r = sum_rows rows m each in omega arith in
    let before = before_next (row_count rows) (node_keys rows) p place 0 (length rows) hp (λ h. let u = upto h in omega arith) hi all in
    let first = n.1.first_row in
    let count = n.1.rows_here in
    let k = place - n.0.first_row in
    let a : n.0.first_row + k ≡ place = omega arith in
    let here = rows_of_node rows p n.0 m each n.1 in
    let same : get_or (rows_under rows (key_at rows p)) k d ≡ get_or rows place d =
    ap (λ (l : List Row). get_or l k d) (sym here.0) ∙ get_or-take n.0.rows (drop n.0.first_row rows) k d (omega arith) ∙ get_or-drop n.0.first_row rows k d ∙ ap (λ (x : ℕ). get_or rows x d) a in
    let i = in_get (rows_under rows (key_at rows p)) k d (omega arith) in
    let u = under_key (key_at rows p) (get_or (rows_under rows (key_at rows p)) k d) (in_filter (is_under (key_at rows p)) (get_or (rows_under rows (key_at rows p)) k d) rows i).1 in
    ap (λ (r : Row). r.key) (sym same) ∙ u

pub row_of_node : (rows : List Row) (p place : ℕ) → is_map rows ≡ true → list_all is_row rows ≡ true → p < length (node_keys rows) → place < length rows → sum_by (row_count rows) (take p (node_keys rows)) ≤ place
    → (p + 1 < length (node_keys rows) → place < sum_by (row_count rows) (take (p + 1) (node_keys rows)))
    → (phrase : List ℕ) × (freq : ℕ) × (time : ℕ) × (slice_get rows place ≡ Some (record { key = key_at rows p; phrase = phrase; freq = freq; time = time }))
row_of_node rows p place m each hp hi from upto =
    let none : Row = record { key = []; phrase = []; freq = 0; time = 0 } in
    let row = get_or rows place none in
    let k = row_key rows p place none m each hp hi from upto in
    (row.phrase, row.freq, row.time, slice_get-get_or rows place none hi ∙ ap (λ (x : List ℕ). Some (record { key = x; phrase = row.phrase; freq = row.freq; time = row.time })) k)

-- a node other than node 0 has a syllable's code, and a key of 1 to 11 codes
pub some_key : (rows : List Row) (i : ℕ) → 0 < i → i < length (node_keys rows) → 0 < length (key_at rows i)
some_key rows i some h = ⊎_elim
    (λ (l : 0 < length (key_at rows i)). l)
    (λ (l : length (key_at rows i) ≤ 0).
    let e = nil_from_length (key_at rows i) (omega arith) in
    let same = same_place (node_keys rows) i 0 (keys_up rows) h (root_within rows) (e ∙ sym (root_key rows)) in
    absurd (omega arith))
    (cases_lt 0 (length (key_at rows i)))

pub code_valid : (rows : List Row) (i : ℕ) → list_all is_row rows ≡ true → 0 < i → i < length (node_keys rows) → is_code (code_at rows i) ≡ true
code_valid rows i each some h = node_code rows (key_at rows i) each (in_get (node_keys rows) i [] h) (some_key rows i some h)

-- the codes of a node's key, from that of one of its parents on
pub record Climbed (rows : List Row) (start node from : ℕ) (codes : List ℕ) : Type 0 where
  pub within : node < length (node_keys rows)
  pub few : from ≤ 11
  pub eleven : length codes ≡ 11
  pub whole : key_at rows start ≡ key_at rows node ++ drop from codes

pub climbed_room : (rows : List Row) (start node from : ℕ) (codes : List ℕ) → list_all is_row rows ≡ true → start < length (node_keys rows) → Climbed rows start node from codes → 0 < node → 1 ≤ from
climbed_room rows start node from codes each hs c some =
    let l = ap length c.whole in
    let a = length-append (key_at rows node) (drop from codes) in
    let d = length-drop from codes in
    let e = c.eleven in
    let k = some_key rows node some c.within in
    let few = node_length rows (key_at rows start) each (in_get (node_keys rows) start [] hs) in
    omega arith

pub climbed_more : (rows : List Row) (start node parent from : ℕ) (codes : List ℕ) (code : ℕ) → Climbed rows start node from codes → 0 < node → 1 ≤ from → parent < length (node_keys rows)
    → key_at rows parent ≡ parent_of (key_at rows node) → code ≡ code_at rows node → Climbed rows start parent (from - 1) (set codes (from - 1) code)
climbed_more rows start node parent from codes code c some room within is_parent is_code' =
    let few = c.few in
    let eleven = c.eleven in
    let n : from - 1 + 1 ≡ from = omega arith in
    record {
      within = within;
      few = omega arith;
      eleven = length-set codes (from - 1) code ∙ eleven;
      whole = c.whole ∙ ap (λ (k : List ℕ). k ++ drop from codes) (parent_last (key_at rows node) (some_key rows node some c.within) ∙ ap (λ (k : List ℕ). k ++ code_at rows node ∷ []) (sym is_parent))
          ∙ append_assoc (key_at rows parent) (code_at rows node ∷ []) (drop from codes)
          ∙ ap (λ (l : List ℕ). key_at rows parent ++ l) (ap (λ (x : ℕ). x ∷ drop from codes) (sym is_code')
          ∙ ap (λ (k : ℕ). code ∷ drop k codes) (sym n) ∙ sym (drop-set codes (from - 1) code (omega arith)));
    }

-- at node 0 all of them are there
pub climbed_all : (rows : List Row) (start from : ℕ) (codes : List ℕ) → Climbed rows start 0 from codes → drop from codes ≡ key_at rows start
climbed_all rows start from codes c = sym (c.whole ∙ ap (λ (k : List ℕ). k ++ drop from codes) (root_key rows))

-- where a row has the node's key, it is a key
pub key_fits : (rows : List Row) (start from : ℕ) (codes : List ℕ) → list_all is_row rows ≡ true → start < length (node_keys rows) → 0 < length (key_at rows start) → Climbed rows start 0 from codes → (1 ≤ length (drop from codes)) × (length (drop from codes) ≤ 11)
key_fits rows start from codes each hs some c =
    let e = ap length (climbed_all rows start from codes c) in
    let few = node_length rows (key_at rows start) each (in_get (node_keys rows) start [] hs) in
    (omega arith, omega arith)

-- the key of a row has a code
pub row_some : (rows : List Row) (place : ℕ) (row : Row) → list_all is_row rows ≡ true → place < length rows → slice_get rows place ≡ Some row → 0 < length row.key
row_some rows place row each h at =
    let there = subst (λ (r : Row). In r rows) (get_or_from_slice_get rows place row row at) (in_get rows place row h) in
    let some = (row_in row rows each there).some in
    omega arith
