-- The contexts' lines, and the rest behind them.
use Rattle.std.proofs.Common.{ap, map}
use Rattle.chew_spec_program.specs.Output.{contexts_from}
use Rattle.chewing_cli.proofs.Printing.{prints_behind, prints_ended}
use Rattle.chewing_cli.proofs.finishing.show.Goals as goal

pub returns-in-Err : goal.returns-in-Err
returns-in-Err g c = prints_ended _ _ _ _ (ap (λ list. contexts_from 1 (map (λ end. end.bytes) list)) c.as_slice-ends.ensures.value) c.in-Err.ensures

pub returns-in-Ok : goal.returns-in-Ok
returns-in-Ok g c =
    prints_behind _ _ _ _ _ _ _ _ _ _ _ (ap (λ list. contexts_from 1 (map (λ end. end.bytes) list)) c.as_slice-ends.ensures.value) c.in-Ok.ensures
    c.show_rounds.ensures
