-- The cursor stands among the cells.
use Rattle.std.proofs.Common.{◌≡◌, ap, subst, sym, true}
use Rattle.chew_spec_preedit.specs.Buffer.{Buffer, is_buffer}
use Rattle.chew_spec_preedit.specs.Edit.{moved_to}
use Rattle.chew_spec_preedit.proofs.Marked.{is_buffer-moved_to}
use Rattle.chew_preedit.proofs.Rooms.{is_buffer-same}
use Rattle.chew_preedit.proofs.preedit.Preedit.move_to.Goals as goal

pub invariant_of-self : goal.invariant_of-self
invariant_of-self c =
    subst (λ (b : Buffer). is_buffer b ≡ true) (sym (ap (moved_to c.args.at) c.self.view_is))
    (is_buffer-moved_to c.args.self.now c.args.at (is_buffer-same _ _ c.self.view_is c.self.invariant) c.requires)
