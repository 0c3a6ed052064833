-- The rows so far don't have the phrase.
use Rattle.std.proofs.Common.{◌≡◌, drop}
use Rattle.std.specs.List.{find}
use Rattle.std.specs.Str.{bytes_eq}
use Rattle.chew_plain.proofs.find.freq_among.Given as goal

abbrev pub invariant-loop-row : goal.invariant-loop-row
invariant-loop-row l = find (λ row. bytes_eq row.phrase l.phrase) (drop l.row-index l.rows) ≡ find (λ row. bytes_eq row.phrase l.phrase) l.rows
