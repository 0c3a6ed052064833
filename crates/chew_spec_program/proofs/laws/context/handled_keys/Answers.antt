use Rattle.chew_spec_program.proofs.Handled.{as_many, handles-all, handles-within}
use Rattle.chew_spec_program.proofs.laws.context.handled_keys.Goals as goal

pub returns : goal.returns
returns c = record { within = handles-within; all = handles-all; each = as_many }
