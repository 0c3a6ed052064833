-- The key that the fields of a text give to a phrase.
use Rattle.std.specs.Prelude.{ℕ, ◌==◌, List, length, Option, Some, None, Result, Ok, Err, if◌then◌else◌}
use Rattle.chew_spec_text.specs.DictionaryText as spec
use Rattle.chew_spec_text.specs.DictionaryText.{codes_in, fields_in}

-- the codes of the syllables that the fields of a text without a comment are
unfoldable pub codes_of_text : List ℕ → Option (List ℕ)
codes_of_text text = codes_in (fields_in text)

-- the codes as the key of a phrase of so many characters
abbrev pub key_for : ℕ → Option (List ℕ) → Result (List ℕ) spec.RowCause
key_for characters None = Err spec.Syllable
key_for characters (Some codes) = if length codes == characters then Ok codes else Err spec.Lengths
