-- Fields that were written are read from these bytes.
use Rattle.std.proofs.Common.{◌≡◌, ℕ, ◌+◌, ◌*◌, ◌<◌, ◌^◌, true, List, [], ◌∷◌, ◌++◌, length, take, drop, refl, sym, ap, ap₂, ◌∙◌, nat_eq, arith}
use Rattle.std.specs.Bool.{⊤}
use Rattle.std.specs.Int.{w16, w32, w64, to_le_bytes, from_le_bytes}
use Rattle.std.specs.List.{flat_map, starts_with}
use Rattle.std.proofs.lemmas.List.{append_assoc, drop_at, length-append, take_at}
use Rattle.std.proofs.lemmas.Nat.{from_le_bytes-to_le_bytes_2, from_le_bytes-to_le_bytes_4, from_le_bytes-to_le_bytes_8}
use Rattle.chew_spec_image.specs.Fields.{Counts, Node, RowFields, header_bytes, magic, node_at, node_bytes, nodes_at, row_at, row_bytes, rows_at, u16_at, u32_at, u64_at}
use Rattle.chew_spec_image.specs.Reading.{counts_in}
use Rattle.chew_spec_image.proofs.ReadTree.{same_node}

-- a part behind a front
part_at : (front mine rest : List ℕ) (place len : ℕ) → length front ≡ place → length mine ≡ len → take len (drop place (front ++ (mine ++ rest))) ≡ mine
part_at front mine rest place len f m = ap (take len) (drop_at front (mine ++ rest) place f) ∙ take_at mine rest len m

u16_read : (bytes front rest : List ℕ) (n place : ℕ) → n < 2 ^ 16 → length front ≡ place → bytes ≡ front ++ (to_le_bytes w16 n ++ rest) → u16_at bytes place ≡ n
u16_read bytes front rest n place h f e =
    ap (λ (b : List ℕ). from_le_bytes w16 (take 2 (drop place b))) e ∙ ap (from_le_bytes w16) (part_at front (to_le_bytes w16 n) rest place 2 f refl) ∙ from_le_bytes-to_le_bytes_2 n h

u32_read : (bytes front rest : List ℕ) (n place : ℕ) → n < 2 ^ 32 → length front ≡ place → bytes ≡ front ++ (to_le_bytes w32 n ++ rest) → u32_at bytes place ≡ n
u32_read bytes front rest n place h f e =
    ap (λ (b : List ℕ). from_le_bytes w32 (take 4 (drop place b))) e ∙ ap (from_le_bytes w32) (part_at front (to_le_bytes w32 n) rest place 4 f refl) ∙ from_le_bytes-to_le_bytes_4 n h

u64_read : (bytes front rest : List ℕ) (n place : ℕ) → n < 2 ^ 64 → length front ≡ place → bytes ≡ front ++ (to_le_bytes w64 n ++ rest) → u64_at bytes place ≡ n
u64_read bytes front rest n place h f e =
    ap (λ (b : List ℕ). from_le_bytes w64 (take 8 (drop place b))) e ∙ ap (from_le_bytes w64) (part_at front (to_le_bytes w64 n) rest place 8 f refl) ∙ from_le_bytes-to_le_bytes_8 n h

-- the next field, with the one before it in the front
shift : (bytes front mine rest more : List ℕ) → bytes ≡ front ++ ((mine ++ rest) ++ more) → bytes ≡ (front ++ mine) ++ (rest ++ more)
shift bytes front mine rest more e = e ∙ ap (λ (l : List ℕ). front ++ l) (append_assoc mine rest more) ∙ sym (append_assoc front mine (rest ++ more))

longer : (front mine : List ℕ) (place len next : ℕ) → length front ≡ place → length mine ≡ len → next ≡ place + len → length (front ++ mine) ≡ next
longer front mine place len next f m n = let l = length-append front mine in omega arith

first : (bytes front mine rest more : List ℕ) → bytes ≡ front ++ ((mine ++ rest) ++ more) → bytes ≡ front ++ (mine ++ (rest ++ more))
first bytes front mine rest more e = e ∙ ap (λ (l : List ℕ). front ++ l) (append_assoc mine rest more)

-- a node whose fields fit
pub record NodeFits (node : Node) : Type 0 where
  pub code : node.code < 2 ^ 16
  pub children : node.children < 2 ^ 16
  pub first_child : node.first_child < 2 ^ 32
  pub rows : node.rows < 2 ^ 32
  pub first_row : node.first_row < 2 ^ 32

pub node_read : (bytes front rest : List ℕ) (node : Node) (place : ℕ) → NodeFits node → length front ≡ place → bytes ≡ front ++ (node_bytes node ++ rest) → node_at bytes place ≡ node
unfolding node_bytes node_at
node_read bytes front rest node place fits f e =
    let a = to_le_bytes w16 node.code in
    let b = to_le_bytes w16 node.children in
    let c = to_le_bytes w32 node.first_child in
    let d = to_le_bytes w32 node.rows in
    let g = to_le_bytes w32 node.first_row in
    let e2 = shift bytes front a (b ++ (c ++ (d ++ g))) rest e in
    let f2 = longer front a place 2 (place + 2) f refl refl in
    let e3 = shift bytes (front ++ a) b (c ++ (d ++ g)) rest e2 in
    let f3 = longer (front ++ a) b (place + 2) 2 (place + 4) f2 refl (omega arith) in
    let e4 = shift bytes ((front ++ a) ++ b) c (d ++ g) rest e3 in
    let f4 = longer ((front ++ a) ++ b) c (place + 4) 4 (place + 8) f3 refl (omega arith) in
    let e5 = shift bytes (((front ++ a) ++ b) ++ c) d g rest e4 in
    let f5 = longer (((front ++ a) ++ b) ++ c) d (place + 8) 4 (place + 12) f4 refl (omega arith) in
    same_node (node_at bytes place) node
    (u16_read bytes front ((b ++ (c ++ (d ++ g))) ++ rest) node.code place fits.code f (first bytes front a (b ++ (c ++ (d ++ g))) rest e))
    (u16_read bytes (front ++ a) ((c ++ (d ++ g)) ++ rest) node.children (place + 2) fits.children f2 (first bytes (front ++ a) b (c ++ (d ++ g)) rest e2))
    (u32_read bytes ((front ++ a) ++ b) ((d ++ g) ++ rest) node.first_child (place + 4) fits.first_child f3 (first bytes ((front ++ a) ++ b) c (d ++ g) rest e3))
    (u32_read bytes (((front ++ a) ++ b) ++ c) (g ++ rest) node.rows (place + 8) fits.rows f4 (first bytes (((front ++ a) ++ b) ++ c) d g rest e4))
    (u32_read bytes ((((front ++ a) ++ b) ++ c) ++ d) rest node.first_row (place + 12) fits.first_row f5 e5)

-- a row whose fields fit
pub record RowFits (row : RowFields) : Type 0 where
  pub freq : row.freq < 2 ^ 32
  pub text_start : row.text_start < 2 ^ 32
  pub text_len : row.text_len < 2 ^ 32
  pub time : row.time < 2 ^ 64

pub row_read : (bytes front rest : List ℕ) (row : RowFields) (place : ℕ) → RowFits row → length front ≡ place → bytes ≡ front ++ (row_bytes row ++ rest) → row_at bytes place ≡ row
unfolding row_bytes row_at
row_read bytes front rest row place fits f e =
    let a = to_le_bytes w32 row.freq in
    let b = to_le_bytes w32 row.text_start in
    let c = to_le_bytes w32 row.text_len in
    let d = to_le_bytes w64 row.time in
    let e2 = shift bytes front a (b ++ (c ++ d)) rest e in
    let f2 = longer front a place 4 (place + 4) f refl refl in
    let e3 = shift bytes (front ++ a) b (c ++ d) rest e2 in
    let f3 = longer (front ++ a) b (place + 4) 4 (place + 8) f2 refl (omega arith) in
    let e4 = shift bytes ((front ++ a) ++ b) c d rest e3 in
    let f4 = longer ((front ++ a) ++ b) c (place + 8) 4 (place + 12) f3 refl (omega arith) in
    same (u32_read bytes front ((b ++ (c ++ d)) ++ rest) row.freq place fits.freq f (first bytes front a (b ++ (c ++ d)) rest e))
    (u32_read bytes (front ++ a) ((c ++ d) ++ rest) row.text_start (place + 4) fits.text_start f2 (first bytes (front ++ a) b (c ++ d) rest e2))
    (u32_read bytes ((front ++ a) ++ b) (d ++ rest) row.text_len (place + 8) fits.text_len f3 (first bytes ((front ++ a) ++ b) c d rest e3))
    (u64_read bytes (((front ++ a) ++ b) ++ c) rest row.time (place + 12) fits.time f4 e4)
  where
    same : {x y z t : ℕ} → x ≡ row.freq → y ≡ row.text_start → z ≡ row.text_len → t ≡ row.time → record { freq = x; text_start = y; text_len = z; time = t } ≡ row
    same p q r s = λ i. record { freq = p i; text_start = q i; text_len = r i; time = s i }

node_len : (node : Node) → length (node_bytes node) ≡ 16
unfolding node_bytes
node_len node = refl

row_len : (row : RowFields) → length (row_bytes row) ≡ 20
unfolding row_bytes
row_len row = refl

pub length-nodes : (nodes : List Node) → length (flat_map node_bytes nodes) ≡ 16 * length nodes
length-nodes [] = refl
length-nodes (node ∷ nodes) = let l = length-append (node_bytes node) (flat_map node_bytes nodes) in let n = node_len node in let r = length-nodes nodes in omega arith

pub length-rows : (rows : List RowFields) → length (flat_map row_bytes rows) ≡ 20 * length rows
length-rows [] = refl
length-rows (row ∷ rows) = let l = length-append (row_bytes row) (flat_map row_bytes rows) in let n = row_len row in let r = length-rows rows in omega arith

pub length-header : (counts : Counts) → length (header_bytes counts) ≡ 20
unfolding header_bytes
length-header counts = refl

-- the header
pub record CountsFit (counts : Counts) : Type 0 where
  pub rows : counts.rows < 2 ^ 32
  pub nodes : counts.nodes < 2 ^ 32
  pub text : counts.text < 2 ^ 32

pub magic_read : (counts : Counts) (rest : List ℕ) → starts_with nat_eq (header_bytes counts ++ rest) magic ≡ true
unfolding header_bytes
magic_read counts rest = refl

pub counts_read : (bytes rest : List ℕ) (counts : Counts) → CountsFit counts → bytes ≡ header_bytes counts ++ rest → counts_in bytes ≡ counts
unfolding header_bytes
counts_read bytes rest counts fits e =
    let a = to_le_bytes w32 counts.rows in
    let b = to_le_bytes w32 counts.nodes in
    let c = to_le_bytes w32 counts.text in
    let e1 : bytes ≡ magic ++ ((a ++ (b ++ c)) ++ rest) = e ∙ append_assoc magic (a ++ (b ++ c)) rest in
    let e2 = shift bytes magic a (b ++ c) rest e1 in
    let e3 = shift bytes (magic ++ a) b c rest e2 in
    same (u32_read bytes magic ((b ++ c) ++ rest) counts.rows 8 fits.rows refl (first bytes magic a (b ++ c) rest e1))
    (u32_read bytes (magic ++ a) (c ++ rest) counts.nodes 12 fits.nodes refl (first bytes (magic ++ a) b c rest e2))
    (u32_read bytes ((magic ++ a) ++ b) rest counts.text 16 fits.text refl e3)
  where
    same : {x y z : ℕ} → x ≡ counts.rows → y ≡ counts.nodes → z ≡ counts.text → record { rows = x; nodes = y; text = z } ≡ counts
    same p q r = λ i. record { rows = p i; nodes = q i; text = r i }

-- nodes, one behind the other
abbrev pub NodesFit : List Node → Type 0
NodesFit [] = ⊤
NodesFit (node ∷ nodes) = NodeFits node × NodesFit nodes

pub nodes_read : (bytes front rest : List ℕ) (nodes : List Node) (place : ℕ) → NodesFit nodes → length front ≡ place → bytes ≡ front ++ (flat_map node_bytes nodes ++ rest) → nodes_at bytes place (length nodes) ≡ nodes
nodes_read bytes front rest [] place fits f e = refl
nodes_read bytes front rest (node ∷ nodes) place fits f e =
    ap₂ (λ (n : Node) (l : List Node). n ∷ l)
    (node_read bytes front (flat_map node_bytes nodes ++ rest) node place fits.0 f (first bytes front (node_bytes node) (flat_map node_bytes nodes) rest e))
    (nodes_read bytes (front ++ node_bytes node) rest nodes (place + 16) fits.1 (longer front (node_bytes node) place 16 (place + 16) f (node_len node) refl) (shift bytes front (node_bytes node) (flat_map node_bytes nodes) rest e))

abbrev pub RowsFit : List RowFields → Type 0
RowsFit [] = ⊤
RowsFit (row ∷ rows) = RowFits row × RowsFit rows

pub rows_read_at : (bytes front rest : List ℕ) (rows : List RowFields) (place : ℕ) → RowsFit rows → length front ≡ place → bytes ≡ front ++ (flat_map row_bytes rows ++ rest) → rows_at bytes place (length rows) ≡ rows
rows_read_at bytes front rest [] place fits f e = refl
rows_read_at bytes front rest (row ∷ rows) place fits f e =
    ap₂ (λ (r : RowFields) (l : List RowFields). r ∷ l)
    (row_read bytes front (flat_map row_bytes rows ++ rest) row place fits.0 f (first bytes front (row_bytes row) (flat_map row_bytes rows) rest e))
    (rows_read_at bytes (front ++ row_bytes row) rest rows (place + 20) fits.1 (longer front (row_bytes row) place 20 (place + 20) f (row_len row) refl) (shift bytes front (row_bytes row) (flat_map row_bytes rows) rest e))
