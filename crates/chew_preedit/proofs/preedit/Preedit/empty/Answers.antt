-- An empty buffer is one.
use Rattle.std.proofs.Common.{◌≡◌, ap, subst, sym, true}
use Rattle.chew_spec_preedit.specs.Buffer.{Buffer, is_buffer}
use Rattle.chew_spec_preedit.specs.Edit.{emptied}
use Rattle.chew_spec_preedit.proofs.Marked.{is_buffer-emptied}
use Rattle.chew_preedit.proofs.Rooms.{is_buffer-same}
use Rattle.chew_preedit.proofs.preedit.Preedit.empty.Goals as goal

pub invariant_of-self : goal.invariant_of-self
invariant_of-self c =
    rw (c.new-self-inside.ensures, c.new-self-inside-2.ensures, c.new-self-inside-3.ensures)
    (subst (λ (b : Buffer). is_buffer b ≡ true) (sym (ap emptied c.self.view_is))
    (is_buffer-emptied c.args.self.now (is_buffer-same _ _ c.self.view_is c.self.invariant)))
