-- The peak so far, and the rows to come, give the greatest.
use Rattle.std.proofs.Common.{◌≡◌, drop, map, fold, max}
use Rattle.chew_spec_dictionary.specs.System.{greatest}
use Rattle.chew_plain.proofs.find.peak_among.Given as goal

abbrev pub invariant-loop-row : goal.invariant-loop-row
invariant-loop-row l = fold max l.peak (map (λ row. row.freq) (drop l.row-index l.rows)) ≡ greatest l.rows
