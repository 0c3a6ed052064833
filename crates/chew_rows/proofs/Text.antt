-- A text by the lines that it has, or as a whole.
use Rattle.std.proofs.Common.{◌≡◌, ℕ, ◌<◌, ◌≤◌, List, [], length, Err}
use Rattle.chew_spec_text.specs.DictionaryText as spec
use Rattle.chew_spec_text.specs.DictionaryText.{dictionary_rows, system_limit}
use Rattle.chew_spec_text.specs.Lines.{each_line, lines_of}
use Rattle.chew_spec_text.proofs.Limited.{accepted, refused}
use Rattle.chew_rows.specs.Lines.{taken}

-- a text beyond the limit
pub text_long : (text : List ℕ) → 67_108_864 < length text → dictionary_rows text ≡ Err (record { line = 0; cause = spec.Size })
unfolding dictionary_rows
text_long text h = refused system_limit spec.Size taken [] text h

-- a text within it
pub text_lines : (text : List ℕ) → length text ≤ 67_108_864 → dictionary_rows text ≡ each_line taken 1 [] (lines_of text)
unfolding dictionary_rows
text_lines text h = accepted system_limit spec.Size taken [] text h
