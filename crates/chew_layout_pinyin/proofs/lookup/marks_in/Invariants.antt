-- Nothing was found so far.
use Rattle.std.proofs.Common.{◌≡◌, map, drop}
use Rattle.chew_layout_pinyin.specs.Tables.{spelled_of, marks_in}
use Rattle.chew_layout_pinyin.proofs.lookup.marks_in.Given as goal

abbrev pub invariant-loop-spelled : goal.invariant-loop-spelled
invariant-loop-spelled l = marks_in (map spelled_of l.list) l.letters ≡ marks_in (map spelled_of (drop l.spelled-index l.list)) l.letters
