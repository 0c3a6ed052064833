-- What an answer unfolds to compute the settings of a literal text.
use Rattle.std.specs.Prelude.{⊤}
use lib.Utf8.{encode}
use Rattle.std.specs.Str.{chars, is_utf8}
use Rattle.toml.proofs.OnLiterals.{toml_on_literals}
use Rattle.chew_spec_settings.specs.SettingsText.{settings_in, settings_of}

unfoldable pub settings_on_literals : ⊤
unfolding toml_on_literals settings_in settings_of is_utf8 chars encode
settings_on_literals = tt
