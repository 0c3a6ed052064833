use Rattle.chew_spec_program.proofs.Readings.{told-beyond, told-front, told-one, told-rest, told-within}
use Rattle.chew_spec_program.proofs.laws.source_reading.told_texts.Goals as goal

pub returns : goal.returns
returns c = record { one = told-one; within = told-within; beyond = told-beyond; front = told-front; rest = told-rest }
