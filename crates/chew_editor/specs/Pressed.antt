-- What the code's Pressed stands for.
use Rattle.chew_spec_editor.specs.Press as spec
use Rattle.chew_editor.specs.declared.pressing.Pressed.{Pressed}
use Rattle.chew_editor.specs.declared.pressing.Pressed.TheVariants.{Done, Ask}

abbrev pub pressed_of : Pressed → spec.Pressed
pressed_of (Done editor line) = spec.Done editor line
pressed_of (Ask pending) = spec.Ask pending
