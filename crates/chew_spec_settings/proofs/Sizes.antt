-- What the length of a text and its table decide.
use Rattle.std.proofs.Common.{◌≡◌, ℕ, ◌<◌, ◌≤◌, Bool, true, false, cond, List, length, replicate, Option, Some, None, ap, ◌∙◌, refl, arith}
use Rattle.std.proofs.lemmas.Bool.{cond-true, cond-false, lt-ltb, le-ltb}
use Rattle.std.proofs.lemmas.List.{length-replicate}
use Rattle.std.specs.Option.{option_map_or}
use Rattle.std.specs.Str.{is_utf8}
use Rattle.toml.specs.Data.{Members}
use Rattle.toml.specs.Parse.{parse_document}
use Rattle.toml.proofs.OnLiterals.{toml_on_literals}
use Rattle.chew_spec_settings.specs.Fault.{Size, Toml}
use Rattle.chew_spec_settings.specs.Name.{Other}
use Rattle.chew_spec_settings.specs.SettingsText.{at_fault, settings_in_table, settings_limit, settings_of, table_in}

pub too_long : (text : List ℕ) → settings_limit < length text → settings_of text ≡ at_fault Other Size
unfolding settings_of
too_long text long = cond-true _ _ _ (lt-ltb _ _ long)

within : (text : List ℕ) → length text ≤ settings_limit → settings_of text ≡ option_map_or settings_in_table (table_in text) (at_fault Other Toml)
unfolding settings_of
within text short = cond-false _ _ _ (le-ltb _ _ short)

pub of_no_table : (text : List ℕ) → length text ≤ settings_limit → table_in text ≡ None → settings_of text ≡ at_fault Other Toml
of_no_table text short none = within text short ∙ ap (λ (t : Option Members). option_map_or settings_in_table t (at_fault Other Toml)) none

pub of_table : (text : List ℕ) (table : Members) → length text ≤ settings_limit → table_in text ≡ Some table → settings_of text ≡ settings_in_table table
of_table text table short is = within text short ∙ ap (λ (t : Option Members). option_map_or settings_in_table t (at_fault Other Toml)) is

-- no table either way
none_both : (test : Bool) (parsed : Option Members) → parsed ≡ None → cond test parsed None ≡ None
none_both true parsed none = none
none_both false parsed none = refl

pub one_more : settings_of (replicate 65_537 0x3D) ≡ at_fault Other Size
one_more = too_long (replicate 65_537 0x3D) (omega (arith, length-replicate {A = ℕ} 65_537 0x3D))

no_document : parse_document (replicate 65_536 0x3D) ≡ None
unfolding toml_on_literals
no_document = refl

pub most : settings_of (replicate 65_536 0x3D) ≡ at_fault Other Toml
most =
    of_no_table (replicate 65_536 0x3D) (omega (arith, length-replicate {A = ℕ} 65_536 0x3D))
    (none_both (is_utf8 (replicate 65_536 0x3D)) (parse_document (replicate 65_536 0x3D)) no_document)
