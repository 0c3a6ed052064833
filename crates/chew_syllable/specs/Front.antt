-- What stands at the front of a text.
use Rattle.std.specs.Prelude.{◌≡◌, ◌≤◌, ℕ, zero, suc, ◌+◌, ◌==◌, ◌&&◌, List, [], ◌∷◌, length, take, nat_le, slice_index, if◌then◌else◌}
use Rattle.std.specs.Char.{len_utf8}
use Rattle.std.specs.Str.{IsUtf8}
use Rattle.chew_spec_syllable.specs.Phrase.{is_allowed}
use Rattle.chew_spec_syllable.specs.SyllableText.{mark_number, after_mark}

-- the number of the mark that a text begins with, and what follows it
pub record Reads (marks text : List ℕ) (n : ℕ) (behind : List ℕ) : Type 0 where
  pub number : mark_number marks text ≡ n
  pub rest : after_mark marks text ≡ behind

-- the third byte of a character of the first 64 of the block Bopomofo; 0 where the text begins with none
abbrev pub block_byte : List ℕ → ℕ
block_byte text = if nat_le 3 (length text) && (slice_index text 0 == 0xE3 && slice_index text 1 == 0x84) then slice_index text 2 else 0

-- the second byte of a character that is led by the tones' first byte; 0 where the text begins with none
abbrev pub tone_byte : List ℕ → ℕ
tone_byte text = if nat_le 2 (length text) && slice_index text 0 == 0xCB then slice_index text 1 else 0

-- the longest front of a text that is UTF-8
pub record IsValidFront (text front : List ℕ) : Type 0 where
  pub start : front ≡ take (length front) text
  pub longest : (m : ℕ) → m ≤ length text → IsUtf8 (take m text) → m ≤ length front

-- how many bytes the allowed characters take that a list of characters begins with, up to n of them
abbrev pub allowed_bytes : ℕ → List ℕ → ℕ
allowed_bytes zero characters = 0
allowed_bytes (suc n) [] = 0
allowed_bytes (suc n) (c ∷ characters) = if is_allowed c then len_utf8 c + allowed_bytes n characters else 0
