-- Nothing was found so far.
use Rattle.std.proofs.Common.{◌≡◌, drop}
use Rattle.chew_layout_pinyin.specs.Tables.{groups_of, marks_in}
use Rattle.chew_layout_pinyin.proofs.lookup.ending_in.Given as goal

abbrev pub invariant-loop-group : goal.invariant-loop-group
invariant-loop-group l = marks_in (groups_of l.groups) l.letters ≡ marks_in (groups_of (drop l.group-index l.groups)) l.letters
