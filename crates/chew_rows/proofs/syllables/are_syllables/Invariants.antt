-- The text has syllables where the rest has.
use Rattle.std.proofs.Common.{◌≡◌, length}
use Rattle.std.specs.Option.{is_some}
use Rattle.chew_rows.specs.Fields.{codes_of_text}
use Rattle.chew_rows.proofs.syllables.are_syllables.Given as goal

abbrev pub decreases-reading : goal.decreases-reading
decreases-reading l = length l.rest

abbrev pub invariant-reading : goal.invariant-reading
invariant-reading l = is_some (codes_of_text l.text) ≡ is_some (codes_of_text l.rest)
