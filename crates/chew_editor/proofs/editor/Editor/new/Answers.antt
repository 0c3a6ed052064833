-- An empty editor is one.
use Rattle.std.proofs.Common.{◌≡◌, true, None, List, ap, subst, sym, ◌∙◌}
use Rattle.chew_spec_phrasing.specs.Usable.{Piece}
use Rattle.chew_spec_editor.specs.Editor.{Editor}
use Rattle.chew_spec_editor.specs.Invariant.{is_editor}
use Rattle.chew_spec_editor.proofs.Keeping.{is_editor-empty}
use Rattle.chew_editor.specs.State.{editor_of}
use Rattle.chew_editor.proofs.editor.Editor.new.Goals as goal

pub invariant_of-result : goal.invariant_of-result
invariant_of-result c =
    subst (λ (editor : Editor). is_editor editor ≡ true)
    (sym (ap (λ (pieces : List Piece). editor_of c.of.result pieces None) c.new.ensures.items ∙ c.of.ensures.value))
    (is_editor-empty c.args.settings.now c.of.ensures.valid)
