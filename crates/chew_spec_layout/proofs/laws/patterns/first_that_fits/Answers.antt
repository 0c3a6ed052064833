-- By the patterns, one after another.
use Rattle.chew_spec_layout.proofs.Patterns.{first_found, first_back, none_found}
use Rattle.chew_spec_layout.proofs.laws.patterns.first_that_fits.Goals as goal

pub returns : goal.returns
returns c = record { found = first_found; back = first_back; none = none_found }
