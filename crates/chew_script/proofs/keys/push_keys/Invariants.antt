-- The keys so far, and those that the rest names, are those that were there and those that the text names.
use Rattle.std.proofs.Common.{◌≡◌, ◌++◌, length}
use Rattle.std.specs.Option.{option_map}
use Rattle.chew_spec_text.specs.KeyStroke.{keys_in}
use Rattle.chew_script.specs.Keys.{keys_of}
use Rattle.chew_script.proofs.keys.push_keys.Given as goal

abbrev pub decreases-reading : goal.decreases-reading
decreases-reading l = length l.rest

abbrev pub invariant-reading : goal.invariant-reading
invariant-reading l = option_map (λ more. keys_of l.initial.keys.items ++ more) (keys_in l.text) ≡ option_map (λ more. keys_of l.keys.items ++ more) (keys_in l.rest)
