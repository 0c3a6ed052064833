-- The syllables so far are valid.
use Rattle.std.proofs.Common.{take}
use Rattle.std.specs.Prelude.{IsTrue}
use Rattle.std.specs.List.{list_all}
use Rattle.chew_spec_syllable.specs.Syllable.{is_code}
use Rattle.chew_syllable.proofs.syllable.all_are_syllables.Given as goal

abbrev pub invariant-loop-syllable : goal.invariant-loop-syllable
invariant-loop-syllable l = IsTrue (list_all is_code (take l.syllable-index l.syllables))
