-- An empty buffer is one.
use Rattle.chew_spec_preedit.proofs.Marked.{is_buffer-empty}
use Rattle.chew_preedit.proofs.preedit.Preedit.of.Goals as goal

pub invariant_of-result : goal.invariant_of-result
invariant_of-result c =
    rw (c.new.ensures, c.new-2.ensures, c.new-3.ensures) (is_buffer-empty c.args.limit c.requires.some c.requires.most)
