-- A slot: a gate, and behind it a checkpoint of the user's map. Both formats are this project's own.
use Rattle.std.specs.Prelude.{◌≡◌, ℕ, ◌^◌, ◌<◌, ◌≤◌, List, [], ◌∷◌, ◌++◌, length, codes, Ok}
use Rattle.std.specs.Int.{w64, to_le_bytes}
use Rattle.sha2.specs.Sha256.{sha256}
use Rattle.chew_spec_syllable.specs.Row.{Row}
use Rattle.chew_spec_image.specs.Image.{image}
use Rattle.chew_spec_image.specs.Reading.{image_reading}

-- the user's map, as rows in image order, and its life
pub record Checkpoint : Type 0 where
  pub life : ℕ
  pub rows : List Row

-- the map before the first learn
abbrev pub no_checkpoint : Checkpoint
no_checkpoint = record { life = 0; rows = [] }

-- what a slot stands for: a checkpoint and its number, the greater the newer
pub record Saved : Type 0 where
  pub seq : ℕ
  pub checkpoint : Checkpoint

-- the byte of an open gate
abbrev pub open_gate : ℕ
open_gate = 0xA5

-- the eight bytes behind the gate, in the first format and in the second
abbrev pub magic : List ℕ
magic = codes "CHEWSLT1"

abbrev pub digest_magic : List ℕ
digest_magic = codes "CHEWSLT2"

-- the greatest length of a slot, and the most rows
abbrev pub length_limit : ℕ
length_limit = 2 ^ 28

abbrev pub rows_limit : ℕ
rows_limit = 200_000

-- the SHA-256 of bytes
unfoldable pub digest : List ℕ → List ℕ
digest bytes = sha256 bytes

-- the magic, the seq, the life, the length of the image, and the image
abbrev pub fields : (magic : List ℕ) → Saved → List ℕ
fields magic saved =
    magic ++ (to_le_bytes w64 saved.seq ++ (to_le_bytes w64 saved.checkpoint.life
    ++ (to_le_bytes w64 (length (image saved.checkpoint.rows)) ++ image saved.checkpoint.rows)))

-- what stands behind the gate in the first format, and in the second, which ends by the digest of all behind the gate
abbrev pub plain_body : Saved → List ℕ
plain_body saved = fields magic saved

abbrev pub body : Saved → List ℕ
body saved = fields digest_magic saved ++ digest (fields digest_magic saved)

-- the slot in the first format, and in the second, which is the one that is written
abbrev pub plain_slot : Saved → List ℕ
plain_slot saved = open_gate ∷ plain_body saved

abbrev pub slot : Saved → List ℕ
slot saved = open_gate ∷ body saved

-- what a slot may stand for: a number from 1, and rows that an image has, few enough
pub record IsSaved (saved : Saved) : Type 0 where
  pub first : 1 ≤ saved.seq
  pub seq : saved.seq < 2 ^ 64
  pub life : saved.checkpoint.life < 2 ^ 64
  pub image : image_reading (image saved.checkpoint.rows) ≡ Ok saved.checkpoint.rows
  pub few : length saved.checkpoint.rows ≤ rows_limit
