-- What is retained is what the definition keeps.
use Rattle.std.proofs.Common.{◌≡◌, rules, subst, sym, true}
use Rattle.arrayvec.proofs.ArrayVecLemmas.{filter-from_retain}
use Rattle.chew_spec_preedit.specs.Buffer.{Buffer, is_buffer}
use Rattle.chew_spec_preedit.proofs.Marked.{is_buffer-mended}
use Rattle.chew_preedit.proofs.Marks.{mended_same}
use Rattle.chew_preedit.proofs.Rooms.{is_buffer-same}
use Rattle.chew_preedit.proofs.preedit.Preedit.mend.Goals as goal

pub returns : goal.returns
returns c =
    mended_same c.args.self.now _ c.self.inside.cursor _ c.self.inside.breaks.items _ _ c.self.view_is
    (filter-from_retain _ _ _ (λ x b f' y called. search rules) _ _ c.retain.ensures.filtered)

pub invariant_of-self : goal.invariant_of-self
invariant_of-self c =
    subst (λ (b : Buffer). is_buffer b ≡ true) (sym (returns c)) (is_buffer-mended c.args.self.now (is_buffer-same _ _ c.self.view_is c.self.invariant))
