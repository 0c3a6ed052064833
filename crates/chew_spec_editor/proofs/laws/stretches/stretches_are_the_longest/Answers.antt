use Rattle.chew_spec_editor.proofs.LongestStretches.{neighbours-apart, single-at, sound-at}
use Rattle.chew_spec_editor.proofs.laws.stretches.stretches_are_the_longest.Goals as goal

pub returns : goal.returns
returns c = record { apart = neighbours-apart; single = single-at; sounds = sound-at }
