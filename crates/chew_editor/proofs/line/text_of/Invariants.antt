-- The text of the characters so far.
use Rattle.std.proofs.Common.{◌≡◌, encode_utf8_all, string_bytes, take}
use Rattle.chew_editor.proofs.line.text_of.Given as goal

abbrev pub invariant-loop-character : goal.invariant-loop-character
invariant-loop-character l = string_bytes l.text ≡ encode_utf8_all (take l.character-index l.characters)
