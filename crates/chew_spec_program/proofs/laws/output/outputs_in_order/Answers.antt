use Rattle.chew_spec_program.proofs.Outputs.{contexts-more, rounds-more}
use Rattle.chew_spec_program.proofs.laws.output.outputs_in_order.Goals as goal

pub returns : goal.returns
returns c = record { contexts = contexts-more; rounds = rounds-more }
