-- The text is cut at the place that was found.
use Rattle.std.proofs.Common.{sym}
use Rattle.std.proofs.lemmas.List.{take_rest}
use Rattle.chew_text.proofs.Cuts.{found_first, found_whole, none_found}
use Rattle.chew_text.proofs.cut.cut_at.Goals as goal

pub returns-clause-whole : goal.returns-clause-whole
returns-clause-whole c = rw take_rest (found_whole c.args.byte c.args.text.now c.in_ok-place.place (sym c.in_ok-place.ensures))

pub returns-clause-first : goal.returns-clause-first
returns-clause-first c = found_first c.args.byte c.args.text.now c.in_ok-place.place (sym c.in_ok-place.ensures)

pub returns-in_err-place-clause-none : goal.returns-in_err-place-clause-none
returns-in_err-place-clause-none c = rw c.from_residual.ensures (none_found c.args.byte c.args.text.now (sym c.in_err-place.ensures))
