-- As many as the editor has.
use Rattle.std.proofs.Common.{ap, arith, length}
use Rattle.std.proofs.lemmas.List.{length-map}
use Rattle.chew_plain.specs.Call.{call_of}
use Rattle.chew_make.proofs.asking.calls_asked.Goals as goal

pub returns : goal.returns
returns c = omega (arith, ap length c.calls.ensures.value, length-map c.calls.result.now call_of)
