-- Nothing was found so far.
use Rattle.std.proofs.Common.{◌≡◌, flat_map, drop}
use Rattle.std.specs.Option.{option_map}
use Rattle.chew_spec_layout.specs.Spellings.{spelling_of}
use Rattle.chew_layout_pinyin.specs.Tables.{row_of, marks_in}
use Rattle.chew_layout_pinyin.proofs.lookup.marks_of.Given as goal

abbrev pub invariant-loop-row : goal.invariant-loop-row
invariant-loop-row l = option_map (λ spelling. spelling.marks) (spelling_of l.letters) ≡ marks_in (flat_map row_of (drop l.row-index l.row-items)) l.letters
