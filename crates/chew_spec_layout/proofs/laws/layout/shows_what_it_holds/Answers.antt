-- By what each shows.
use Rattle.chew_spec_layout.proofs.AnyLayout.{shown-empty, shown-none}
use Rattle.chew_spec_layout.proofs.laws.layout.shows_what_it_holds.Goals as goal

pub returns : goal.returns
returns c = record { nothing = shown-empty; something = shown-none }
