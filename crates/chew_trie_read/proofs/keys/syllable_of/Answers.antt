-- A node other than node 0 has a syllable's code.
use Rattle.std.proofs.Common.{ap, ◌∙◌}
use Rattle.chew_spec_syllable.specs.Syllable.{is_code}
use Rattle.chew_spec_image.specs.Fields.{Node}
use Rattle.chew_trie_read.proofs.Climbing.{code_valid}
use Rattle.chew_trie_read.proofs.keys.syllable_of.Goals as goal

pub unreachable-requires : goal.unreachable-requires
unreachable-requires c =
    c.in-None.ensures (ap is_code (ap (λ (n : Node). n.code) c.from_code.view_is ∙ c.node.ensures.code) ∙ code_valid c.args.image.now c.args.i c.rows-rows.ensures.each c.requires.some c.requires.within)
