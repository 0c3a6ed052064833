-- A choice's own interval, and any other.
use Rattle.std.proofs.Common.{sym, ◌∙◌}
use Rattle.chew_spec_phrasing.specs.CanSegment.{interval_of}
use Rattle.chew_spec_phrasing.proofs.Chosen.{IsByRow-from_piece_by_rows, is_exactly-interval_of, piece_at-exactly, piece_at-long, piece_at-other, usable_from_IsByRow}
use Rattle.chew_spec_phrasing.proofs.Usable.{first-from_piece_by_rows}
use Rattle.chew_spec_phrasing.proofs.laws.usable_intervals.Goals as goal

pub returns-clause-chosen : goal.returns-clause-chosen
returns-clause-chosen c rows breaks choices n choice can i =
    piece_at-exactly rows breaks choices n can (interval_of choice) choice i (is_exactly-interval_of choice)

pub returns-clause-by_row : goal.returns-clause-by_row
returns-clause-by_row c rows breaks choices at piece other e =
    IsByRow-from_piece_by_rows rows breaks choices at piece (sym (piece_at-other rows breaks choices at other) ∙ e)

pub returns-clause-first : goal.returns-clause-first
returns-clause-first c rows breaks choices at piece other e =
    first-from_piece_by_rows rows breaks choices at piece (sym (piece_at-other rows breaks choices at other) ∙ e)

pub returns-clause-usable : goal.returns-clause-usable
returns-clause-usable c rows breaks choices at piece other h =
    let found = usable_from_IsByRow rows breaks choices at piece h in
    (found.0, piece_at-other rows breaks choices at other ∙ found.1)

pub returns-clause-long : goal.returns-clause-long
returns-clause-long c = piece_at-long
