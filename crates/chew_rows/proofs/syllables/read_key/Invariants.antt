-- The syllables so far, and those of the rest, are those of the text.
use Rattle.std.proofs.Common.{◌≡◌, ◌++◌, length}
use Rattle.std.specs.Option.{option_map}
use Rattle.chew_rows.specs.Fields.{codes_of_text}
use Rattle.chew_rows.proofs.syllables.read_key.Given as goal

abbrev pub decreases-reading : goal.decreases-reading
decreases-reading l = length l.rest

abbrev pub invariant-reading : goal.invariant-reading
invariant-reading l = codes_of_text l.text ≡ option_map (λ codes. l.syllables.items ++ codes) (codes_of_text l.rest)
