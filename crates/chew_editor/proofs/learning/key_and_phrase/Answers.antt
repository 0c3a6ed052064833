-- What syllables of an editor show is a phrase of them.
use Rattle.std.proofs.Common.{◌≡◌, List, ap, ap₂, arith, drop, flat_map, length, map, take, ◌∙◌}
use Rattle.std.proofs.lemmas.Result.{IfOk-weaker}
use Rattle.chew_spec_phrasing.specs.Usable.{Piece}
use Rattle.chew_spec_preedit.specs.Cell.{Cell}
use Rattle.chew_spec_preedit.specs.ShownText.{characters_of}
use Rattle.chew_spec_editor.specs.Learning.{code_in, key_at}
use Rattle.chew_preedit.specs.CellItem.{cell_of}
use Rattle.chew_editor.specs.State.{state_of}
use Rattle.chew_editor.proofs.LearnSteps.{as-many-shown, mapped-part, pair-shown}
use Rattle.chew_editor.proofs.learning.key_and_phrase.Goals as goal

pub some_of-requires-2 : goal.some_of-requires-2
some_of-requires-2 c =
    let shown = c.deref-2.ensures.value ∙ (c.in_ok-shown.ensures
    ∙ ap₂ (λ (pieces : List Piece) (cells : List Cell). characters_of pieces cells) c.deref.ensures.value c.cells-cells.ensures.value) in
    omega (arith, ap length shown, as-many-shown (state_of c.args.state.now) c.requires.editor, c.requires.within)

pub pair_of-requires-clause-pair : goal.pair_of-requires-clause-pair
pair_of-requires-clause-pair c =
    let place = c.args.place in
    let len = c.args.len in
    let shown = c.deref-2.ensures.value ∙ (c.in_ok-shown.ensures
    ∙ ap₂ (λ (pieces : List Piece) (cells : List Cell). characters_of pieces cells) c.deref.ensures.value c.cells-cells.ensures.value) in
    pair-shown (state_of c.args.state.now) place len (map cell_of c.some_of.result.now) c.some_of-2.result.now
    c.requires.editor c.requires.within c.requires.sounds c.requires.some c.requires.few
    (ap (map cell_of) c.some_of.ensures ∙ (mapped-part cell_of place len c.cells-cells.result.now ∙ ap (λ (cells : List Cell). take len (drop place cells)) c.cells-cells.ensures.value))
    (c.some_of-2.ensures ∙ ap (λ cs. take len (drop place cs)) shown)

pub returns-clause-key : goal.returns-clause-key
returns-clause-key c =
    let place = c.args.place in
    let len = c.args.len in
    IfOk-weaker c.pair_of.result _ (λ both. both.0 ≡ key_at c.args.state.now.typing.preedit.cells place len)
    (λ both e. e ∙ ap (flat_map code_in)
    (ap (map cell_of) c.some_of.ensures ∙ (mapped-part cell_of place len c.cells-cells.result.now ∙ ap (λ (cells : List Cell). take len (drop place cells)) c.cells-cells.ensures.value)))
    c.pair_of.ensures.key
