-- The cells that lead a full buffer are some of at most 39.
use Rattle.std.proofs.Common.{arith}
use Rattle.chew_spec_preedit.proofs.IsBuffer.{IsBuffer-from}
use Rattle.chew_spec_editor.proofs.Steady.{IsEditor-from}
use Rattle.chew_editor.specs.State.{state_of}
use Rattle.chew_editor.proofs.Released.{front-of_full}
use Rattle.chew_editor.proofs.inserting.leading_count.Goals as goal

pub overflow_cast-result : goal.overflow_cast-result
overflow_cast-result c =
    let state = state_of c.args.state.now in
    let within = (front-of_full state c.requires.editor c.requires.full).within in
    let buffer = IsBuffer-from state.buffer (IsEditor-from state c.requires.editor).steady.buffer in
    let few = buffer.few in
    let most = buffer.most in
    let is = c.leading_cells.ensures in
    omega arith

pub returns-clause-some : goal.returns-clause-some
returns-clause-some c =
    let some = (front-of_full (state_of c.args.state.now) c.requires.editor c.requires.full).some in
    let is = c.leading_cells.ensures in
    omega arith

pub returns-clause-within : goal.returns-clause-within
returns-clause-within c =
    let within = (front-of_full (state_of c.args.state.now) c.requires.editor c.requires.full).within in
    let is = c.leading_cells.ensures in
    omega arith
