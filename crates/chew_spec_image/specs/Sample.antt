-- Known images, for the known values.
use Rattle.std.specs.Prelude.{ℕ, suc, ◌+◌, ◌-◌, List, [], ◌∷◌, ◌++◌, flat_map, length, take, drop, replicate, codes, ◌==◌, if◌then◌else◌}
use Rattle.std.specs.List.{range_with_len}
use Rattle.std.specs.Str.{encode_utf8_all}
use Rattle.chew_spec_syllable.specs.Row.{Row, image_cmp}
use Rattle.chew_spec_dictionary.specs.FiveRows.{ce4, five_rows, row_at_start, shi4}
use Rattle.chew_spec_dictionary.specs.Order.{in_order}
use Rattle.chew_spec_image.specs.Fields.{header_bytes, node_bytes}
use Rattle.chew_spec_image.specs.Image.{image}

-- 測試 with the frequency 9318
abbrev pub one_row : Row
one_row = row_at_start (ce4 ∷ (shi4 ∷ [])) (encode_utf8_all (codes "測試")) 9318

-- the image of this row: the header, node 0, the node of ㄘㄜˋ, the node of ㄘㄜˋ ㄕˋ, the row, and 測試
abbrev pub one_row_image : List ℕ
one_row_image =
    0x43 ∷ 0x48 ∷ 0x45 ∷ 0x57 ∷ 0x54 ∷ 0x52 ∷ 0x49 ∷ 0x31 ∷ 0x01 ∷ 0x00 ∷ 0x00 ∷ 0x00 ∷ 0x03 ∷ 0x00 ∷ 0x00 ∷ 0x00 ∷ 0x06 ∷ 0x00 ∷ 0x00 ∷ 0x00
    ∷ 0x00 ∷ 0x00 ∷ 0x01 ∷ 0x00 ∷ 0x01 ∷ 0x00 ∷ 0x00 ∷ 0x00 ∷ 0x00 ∷ 0x00 ∷ 0x00 ∷ 0x00 ∷ 0x00 ∷ 0x00 ∷ 0x00 ∷ 0x00
    ∷ 0x1C ∷ 0x28 ∷ 0x01 ∷ 0x00 ∷ 0x02 ∷ 0x00 ∷ 0x00 ∷ 0x00 ∷ 0x00 ∷ 0x00 ∷ 0x00 ∷ 0x00 ∷ 0x00 ∷ 0x00 ∷ 0x00 ∷ 0x00
    ∷ 0x04 ∷ 0x22 ∷ 0x00 ∷ 0x00 ∷ 0x03 ∷ 0x00 ∷ 0x00 ∷ 0x00 ∷ 0x01 ∷ 0x00 ∷ 0x00 ∷ 0x00 ∷ 0x00 ∷ 0x00 ∷ 0x00 ∷ 0x00
    ∷ 0x66 ∷ 0x24 ∷ 0x00 ∷ 0x00 ∷ 0x00 ∷ 0x00 ∷ 0x00 ∷ 0x00 ∷ 0x06 ∷ 0x00 ∷ 0x00 ∷ 0x00 ∷ 0x00 ∷ 0x00 ∷ 0x00 ∷ 0x00 ∷ 0x00 ∷ 0x00 ∷ 0x00 ∷ 0x00
    ∷ 0xE6 ∷ 0xB8 ∷ 0xAC ∷ 0xE8 ∷ 0xA9 ∷ 0xA6 ∷ []

-- where its fields begin, but for the row's time, which has no rule
abbrev pub one_row_fields : List ℕ
one_row_fields =
    0 ∷ 8 ∷ 12 ∷ 16
    ∷ 20 ∷ 22 ∷ 24 ∷ 28 ∷ 32
    ∷ 36 ∷ 38 ∷ 40 ∷ 44 ∷ 48
    ∷ 52 ∷ 54 ∷ 56 ∷ 60 ∷ 64
    ∷ 68 ∷ 72 ∷ 76 ∷ []

-- other bytes from a place on
abbrev pub patched : List ℕ → (place : ℕ) → List ℕ → List ℕ
patched bytes place others = take place bytes ++ (others ++ drop (place + length others) bytes)

-- the greatest byte at each place from one on
abbrev pub spoiled_from : List ℕ → (place : ℕ) → List ℕ
spoiled_from bytes place = take place bytes ++ replicate (length bytes - place) 0xFF

-- the image of 是, 試, 測, 策 and 測試: nodes at 20, 36 (是 and 試), 52 (測 and 策) and 68 (測試), rows at 84, 104, 124,
-- 144 and 164, and the text at 184
abbrev pub five_rows_image : List ℕ
five_rows_image = image (in_order image_cmp five_rows)

-- a chain of nodes of ㄕˋ, one below the other; the last, of n codes, has two rows of no text
abbrev pub chain_node : (n i : ℕ) → List ℕ
chain_node n i = node_bytes (record {
  code = if i == 0 then 0 else shi4;
  children = if i == n then 0 else 1;
  first_child = suc i;
  rows = if i == n then 2 else 0;
  first_row = 0;
})

abbrev pub chain : ℕ → List ℕ
chain n = header_bytes (record { rows = 2; nodes = suc n; text = 0 }) ++ (flat_map (chain_node n) (range_with_len 0 (suc n)) ++ replicate 40 0)
