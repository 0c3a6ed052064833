-- The syllables so far have rows by themselves.
use Rattle.std.proofs.Common.{◌≡◌, true, All, take}
use Rattle.chew_spec_dictionary.specs.System.{has_single}
use Rattle.phrasing_speed.proofs.typing.can_phrase.Given as goal

abbrev pub invariant-loop-syllable : goal.invariant-loop-syllable
invariant-loop-syllable g l = All (λ code. has_single (g.L.Lexicon.rows l.system) code ≡ true) (take l.syllable-index l.syllable-items)
