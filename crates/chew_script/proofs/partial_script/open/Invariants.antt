-- Keys that are added to the context of this number stand where they would have stood.
use Rattle.std.proofs.Common.{◌≡◌, ◌-◌, List, length}
use Rattle.chew_spec_text.specs.KeyStroke.{KeyStroke}
use Rattle.chew_spec_text.specs.Script.{add_keys}
use Rattle.chew_script.specs.Keys.{lists_of}
use Rattle.chew_script.proofs.partial_script.open.Given as goal

abbrev pub decreases-opening : goal.decreases-opening
decreases-opening l = l.number - length l.contexts.items

abbrev pub invariant-opening : goal.invariant-opening
invariant-opening l = (keys : List KeyStroke) → add_keys (l.number - 1) keys (lists_of l.contexts.items) ≡ add_keys (l.number - 1) keys (lists_of l.initial.contexts.items)
