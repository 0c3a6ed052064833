-- The step that the code's Step stands for.
use Rattle.chew_spec_layout.specs.Step as spec
use Rattle.chew_syllable.specs.declared.step.Step.{Step}
use Rattle.chew_syllable.specs.declared.step.Step.TheVariants.{Kept, Whole, Refused, Erased, NotMine}

abbrev pub step_of : Step → spec.Step
step_of Kept = spec.Kept
step_of (Whole syllable) = spec.Whole syllable
step_of Refused = spec.Refused
step_of Erased = spec.Erased
step_of NotMine = spec.NotMine
