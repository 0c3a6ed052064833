-- What was counted is told.
use Rattle.std.proofs.Common.{arith, length}
use Rattle.chew_script.specs.Keys.{keys_of}
use Rattle.chew_make.specs.Counts.{tally_of}
use Rattle.chew_make.proofs.Making.{summary_told}
use Rattle.chew_make.proofs.make.summary_of.Goals as goal

pub returns : goal.returns
returns c =
    summary_told c.standard-settings.result c.in_ok-system.system (keys_of c.args.keys.now) (length c.args.keys.now) _ (tally_of c.in_ok-typist.typist) c.summary.result
    c.standard-settings.ensures c.in_ok-system.ensures c.in_ok-typist.ensures c.summary.ensures (omega arith)
