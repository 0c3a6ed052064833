use Rattle.chew_spec_program.proofs.Whole.{zero-whole}
use Rattle.chew_spec_program.proofs.laws.run.zero_is_whole.Goals as goal

pub returns : goal.returns
returns g c = record { opened = λ words ended run. zero-whole words g.O.AnyOutside.outside ended run }
