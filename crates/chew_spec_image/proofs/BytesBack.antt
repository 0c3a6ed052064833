-- Fields that were read from bytes are written as these bytes.
use Rattle.std.proofs.Common.{◌≡◌, ℕ, zero, suc, ◌+◌, ◌*◌, ◌<◌, ◌≤◌, true, List, [], ◌∷◌, ◌++◌, length, get_or, take, drop, refl, sym, ap, ap₂, ◌∙◌, ⊎_elim, nat_eq, arith}
use Rattle.std.specs.Int.{w16, w32, w64, to_le_bytes}
use Rattle.std.specs.List.{flat_map, starts_with}
use Rattle.std.proofs.Math.Seq.{take-add}
use Rattle.std.proofs.lemmas.List.{drop-drop, get_or-drop, get_or-take, length-drop, length-take, length-take-le}
use Rattle.std.proofs.lemmas.Bool.{cases_lt}
use Rattle.std.proofs.lemmas.Nat.{le_bytes_2, le_bytes_4, le_bytes_8}
use Rattle.std.proofs.lemmas.Slice.Eq.{bytes_eq-Decides}
use Rattle.chew_spec_image.specs.Fields.{AreBytes, header_bytes, magic, node_at, node_bytes, nodes_at, row_at, row_bytes, rows_at, u16_at, u32_at, u64_at}
use Rattle.chew_spec_image.specs.Reading.{counts_in}

-- some bytes from a place on
abbrev pub part : List ℕ → (place len : ℕ) → List ℕ
part bytes place len = take len (drop place bytes)

length-part : (bytes : List ℕ) (place len : ℕ) → place + len ≤ length bytes → length (part bytes place len) ≡ len
length-part bytes place len h = let d = length-drop place bytes in length-take-le len (drop place bytes) (omega arith)

past : (bytes : List ℕ) (i : ℕ) → length bytes ≤ i → get_or bytes i 0 ≡ 0
past [] i h = refl
past (b ∷ bytes) zero h = absurd (omega arith)
past (b ∷ bytes) (suc i) h = past bytes i (omega arith)

part_bytes : (bytes : List ℕ) (place len : ℕ) → AreBytes bytes → AreBytes (part bytes place len)
part_bytes bytes place len are i = ⊎_elim
    (λ (h : i < len). let e = get_or-take len (drop place bytes) i 0 h ∙ get_or-drop place bytes i 0 in let b = are (place + i) in omega arith)
    (λ (h : len ≤ i). let l = short bytes in let e = past (part bytes place len) i (omega arith) in omega arith)
    (cases_lt i len)
  where
    short : (bs : List ℕ) → length (part bs place len) ≤ len
    short bs = let l = length-take len (drop place bs) in omega arith

-- parts behind one another
parts : (bytes : List ℕ) (place a b : ℕ) → part bytes place (a + b) ≡ part bytes place a ++ part bytes (place + a) b
parts bytes place a b = take-add a b (drop place bytes) ∙ ap (λ (l : List ℕ). part bytes place a ++ take b l) (drop-drop a place bytes)

u16_back : (bytes : List ℕ) (place : ℕ) → AreBytes bytes → place + 2 ≤ length bytes → to_le_bytes w16 (u16_at bytes place) ≡ part bytes place 2
u16_back bytes place are h = le_bytes_2 (part bytes place 2) (u16_at bytes place) (length-part bytes place 2 h) (part_bytes bytes place 2 are) refl

u32_back : (bytes : List ℕ) (place : ℕ) → AreBytes bytes → place + 4 ≤ length bytes → to_le_bytes w32 (u32_at bytes place) ≡ part bytes place 4
u32_back bytes place are h = le_bytes_4 (part bytes place 4) (u32_at bytes place) (length-part bytes place 4 h) (part_bytes bytes place 4 are) refl

u64_back : (bytes : List ℕ) (place : ℕ) → AreBytes bytes → place + 8 ≤ length bytes → to_le_bytes w64 (u64_at bytes place) ≡ part bytes place 8
u64_back bytes place are h = le_bytes_8 (part bytes place 8) (u64_at bytes place) (length-part bytes place 8 h) (part_bytes bytes place 8 are) refl

-- a part behind another, by where it begins and how long both are
joined : (bytes : List ℕ) (place a b next both : ℕ) (x y : List ℕ) → x ≡ part bytes place a → y ≡ part bytes next b → next ≡ place + a → both ≡ a + b → x ++ y ≡ part bytes place both
joined bytes place a b next both x y p q n s =
    ap₂ (λ (v w : List ℕ). v ++ w) p (q ∙ ap (λ (k : ℕ). part bytes k b) n) ∙ sym (parts bytes place a b) ∙ ap (part bytes place) (sym s)

pub node_back : (bytes : List ℕ) (place : ℕ) → AreBytes bytes → place + 16 ≤ length bytes → node_bytes (node_at bytes place) ≡ part bytes place 16
unfolding node_bytes node_at
node_back bytes place are h =
    joined bytes place 2 14 (place + 2) 16 _ _ (u16_back bytes place are (omega arith))
    (joined bytes (place + 2) 2 12 (place + 4) 14 _ _ (u16_back bytes (place + 2) are (omega arith))
    (joined bytes (place + 4) 4 8 (place + 8) 12 _ _ (u32_back bytes (place + 4) are (omega arith))
    (joined bytes (place + 8) 4 4 (place + 12) 8 _ _ (u32_back bytes (place + 8) are (omega arith)) (u32_back bytes (place + 12) are (omega arith)) (omega arith) refl)
    (omega arith) refl) (omega arith) refl) refl refl

pub row_back : (bytes : List ℕ) (place : ℕ) → AreBytes bytes → place + 20 ≤ length bytes → row_bytes (row_at bytes place) ≡ part bytes place 20
unfolding row_bytes row_at
row_back bytes place are h =
    joined bytes place 4 16 (place + 4) 20 _ _ (u32_back bytes place are (omega arith))
    (joined bytes (place + 4) 4 12 (place + 8) 16 _ _ (u32_back bytes (place + 4) are (omega arith))
    (joined bytes (place + 8) 4 8 (place + 12) 12 _ _ (u32_back bytes (place + 8) are (omega arith)) (u64_back bytes (place + 12) are (omega arith)) (omega arith) refl)
    (omega arith) refl) refl refl

pub header_back : (bytes : List ℕ) → AreBytes bytes → starts_with nat_eq bytes magic ≡ true → 20 ≤ length bytes → header_bytes (counts_in bytes) ≡ take 20 bytes
unfolding header_bytes
header_back bytes are begins h =
    joined bytes 0 8 12 8 20 magic _ ((bytes_eq-Decides magic (take 8 bytes)).0 begins)
    (joined bytes 8 4 8 12 12 _ _ (u32_back bytes 8 are (omega arith))
    (joined bytes 12 4 4 16 8 _ _ (u32_back bytes 12 are (omega arith)) (u32_back bytes 16 are (omega arith)) refl refl) refl refl) refl refl

pub nodes_back : (bytes : List ℕ) (place n : ℕ) → AreBytes bytes → place + 16 * n ≤ length bytes → flat_map node_bytes (nodes_at bytes place n) ≡ part bytes place (16 * n)
nodes_back bytes place zero are h = refl
nodes_back bytes place (suc n) are h = joined bytes place 16 (16 * n) (place + 16) (16 * suc n) _ _ (node_back bytes place are (omega arith)) (nodes_back bytes (place + 16) n are (omega arith)) refl (omega arith)

pub rows_back : (bytes : List ℕ) (place n : ℕ) → AreBytes bytes → place + 20 * n ≤ length bytes → flat_map row_bytes (rows_at bytes place n) ≡ part bytes place (20 * n)
rows_back bytes place zero are h = refl
rows_back bytes place (suc n) are h = joined bytes place 20 (20 * n) (place + 20) (20 * suc n) _ _ (row_back bytes place are (omega arith)) (rows_back bytes (place + 20) n are (omega arith)) refl (omega arith)
