-- The table of a text that was read, and of one that was refused.
use Rattle.std.proofs.Common.{◌≡◌, ℕ, Bool, true, false, cond, List, Some, None, sym, ◌∙◌, refl}
use Rattle.std.proofs.lemmas.Bool.{cond-true}
use Rattle.std.proofs.lemmas.Str.{IsUtf8-from_is_utf8, is_utf8-from_IsUtf8}
use Rattle.std.specs.Str.{IsUtf8, is_utf8}
use Rattle.toml.specs.Data.{Members}
use Rattle.toml.specs.Parse.{parse_document}
use Rattle.chew_spec_settings.specs.SettingsText.{table_in}

pub read : (text : List ℕ) (found : Members) → IsUtf8 text → parse_document text ≡ Some found → Some found ≡ table_in text
read text found utf8 parsed = sym (cond-true _ _ _ (is_utf8-from_IsUtf8 text utf8) ∙ parsed)

pub refused : (text : List ℕ) → (IsUtf8 text → parse_document text ≡ None) → None ≡ table_in text
refused text none = by (is_utf8 text) refl where
  by : (b : Bool) → is_utf8 text ≡ b → None ≡ cond b (parse_document text) None
  by true is = sym (none (IsUtf8-from_is_utf8 text is))
  by false is = refl
