-- The slots of one row, the images of the maps that tests know, and their lives.
use Rattle.std.specs.Prelude.{ℕ, ◌+◌, ◌++◌, List, ◌∷◌, codes, replicate}
use Rattle.std.specs.Int.{w32, w64, to_le_bytes}
use Rattle.chew_spec_image.specs.Sample.{one_row_image, patched}
use Rattle.chew_spec_slots.specs.Sample.{one_row_plain_slot, one_row_slot}
use Rattle.chew_slot_samples.specs.declared.maps.Learnt.{Learnt}
use Rattle.chew_slot_samples.specs.declared.maps.Learnt.TheVariants.{Nothing, Again}

-- the slot in the first format
unfoldable pub plain_bytes : List ℕ
plain_bytes = one_row_plain_slot

-- and in the second
unfoldable pub digest_bytes : List ℕ
digest_bytes = one_row_slot

-- the image of no rows: one node, which has neither rows nor children
unfoldable pub empty_image : List ℕ
empty_image = codes "CHEWTRI1" ++ (replicate 4 0 ++ (1 ∷ (replicate 11 0 ++ (1 ∷ replicate 11 0))))

-- the image of the row, with a frequency and a time
unfoldable pub row_image : (freq time : ℕ) → List ℕ
row_image freq time = patched (patched one_row_image 68 (to_le_bytes w32 freq)) 80 (to_le_bytes w64 time)

-- the image of a map
unfoldable pub learnt_image : Learnt → List ℕ
learnt_image Nothing = empty_image
learnt_image (Again times) = row_image (9318 + times) times

-- the life of a map, which is its number of learns
unfoldable pub learnt_life : Learnt → ℕ
learnt_life Nothing = 0
learnt_life (Again times) = 1 + times
