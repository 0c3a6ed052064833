-- The pass has seen the whole journal.
use Rattle.std.proofs.Common.{List, ap, ◌∙◌, sym, subst}
use Rattle.chew_spec_dictionary.specs.Dictionary.{Dictionary}
use Rattle.chew_spec_dictionary.specs.History.{Entry}
use Rattle.chew_spec_cell.specs.Pass.{Cell}
use Rattle.chew_spec_shared.specs.Needs.{IsNeed}
use Rattle.chew_layers.specs.Need.{meaning_of}
use Rattle.chew_shared.proofs.shared.Shared.need.Goals as goal

pub returns-clause-need : goal.returns-clause-need
returns-clause-need g c =
    subst (λ (h : List Entry). IsNeed c.args.self.now.start h (meaning_of c.need-need.result)) (sym (ap (λ p. p.seen) c.leave.ensures))
    (subst (λ (d : Dictionary). IsNeed d c.enter-turn.result.value.journal (meaning_of c.need-need.result))
    (c.enter-turn.ensures.start ∙ ap (λ (cell : Cell). cell.start) c.self.view_is) c.need-need.ensures)
