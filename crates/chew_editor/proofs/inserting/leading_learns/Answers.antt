-- The piece that leads stands over syllables.
use Rattle.std.proofs.Common.{◌≡◌, ℕ, true, arith, drop, subst, sym, take, ◌∙◌}
use Rattle.std.specs.List.{list_all}
use Rattle.chew_spec_preedit.specs.Cell.{is_sound}
use Rattle.chew_editor.specs.State.{state_of}
use Rattle.chew_editor.proofs.Leads.{sounds-lead}
use Rattle.chew_editor.proofs.inserting.leading_learns.Goals as goal

pub learn_shown-requires-clause-within : goal.learn_shown-requires-clause-within
learn_shown-requires-clause-within g c =
    let within = (sounds-lead (state_of c.args.state.now) c.requires.editor (sym c.has_sound.ensures ∙ c.if-not-has_sound.false)).sounds.within in
    let is = c.leading_cells.ensures in
    omega arith

pub learn_shown-requires-clause-sounds : goal.learn_shown-requires-clause-sounds
learn_shown-requires-clause-sounds g c =
    let cells = c.args.state.now.typing.preedit.cells in
    subst (λ (n : ℕ). list_all is_sound (take n (drop 0 cells)) ≡ true) (sym c.leading_cells.ensures)
    (sounds-lead (state_of c.args.state.now) c.requires.editor (sym c.has_sound.ensures ∙ c.if-not-has_sound.false)).sounds.sounds

pub learn_shown-requires-clause-some : goal.learn_shown-requires-clause-some
learn_shown-requires-clause-some g c =
    let some = (sounds-lead (state_of c.args.state.now) c.requires.editor (sym c.has_sound.ensures ∙ c.if-not-has_sound.false)).some in
    let is = c.leading_cells.ensures in
    omega arith

pub learn_shown-requires-clause-few : goal.learn_shown-requires-clause-few
learn_shown-requires-clause-few g c =
    let most = (sounds-lead (state_of c.args.state.now) c.requires.editor (sym c.has_sound.ensures ∙ c.if-not-has_sound.false)).most in
    let is = c.leading_cells.ensures in
    omega arith
