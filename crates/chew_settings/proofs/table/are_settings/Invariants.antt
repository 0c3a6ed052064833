-- What is left of the table has only settings where the whole has.
use Rattle.std.proofs.Common.{◌≡◌}
use Rattle.toml.specs.View.{members_view}
use Rattle.chew_spec_settings.specs.SettingsText.{are_settings}
use Rattle.chew_settings.proofs.table.are_settings.Given as goal

abbrev pub invariant-keys : goal.invariant-keys
invariant-keys l =
    (goal.iterator-keys).can_next l.key-iterator × (goal.iterator-keys).is_finite l.key-iterator
    × (are_settings (members_view l.key-iterator) ≡ are_settings (members_view l.table.entries))
