-- Nothing was found so far.
use Rattle.std.proofs.Common.{◌≡◌, drop}
use Rattle.chew_layout_pinyin.specs.Tables.{row_of, marks_in}
use Rattle.chew_layout_pinyin.proofs.lookup.in_row.Given as goal

abbrev pub invariant-loop-initial : goal.invariant-loop-initial
invariant-loop-initial l = marks_in (row_of l.row) l.letters ≡ marks_in (row_of (record l.row { initials = record l.row.initials { now = drop l.initial-index l.row.initials.now } })) l.letters
