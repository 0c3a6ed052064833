-- The count and the contexts grew by the same keys.
use Rattle.std.proofs.Common.{arith}
use Rattle.chew_spec_text.specs.KeyStroke.{keys_in}
use Rattle.chew_script.specs.Keys.{lists_of}
use Rattle.chew_script.proofs.Adding.{sound_added}
use Rattle.chew_script.proofs.partial_script.PartialScript.with_keys.Goals as goal

pub invariant_of-result : goal.invariant_of-result
invariant_of-result c =
    sound_added c.args.number c.self.inside.count c.in_ok-more.more (keys_in c.args.text.now) (record { contexts = lists_of c.self.inside.contexts.items; rounds = c.self.inside.rounds }) (lists_of c.add_keys.new.contexts.items)
    c.in_ok-more.ensures c.requires.first c.requires.last (omega (arith, c.self.invariant.few_keys)) c.self.invariant
