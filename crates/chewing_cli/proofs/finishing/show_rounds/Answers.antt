-- The rounds' lines, and those of the calls behind them.
use Rattle.std.proofs.Common.{◌∙◌, ap, map}
use Rattle.chew_plain.specs.Call.{entry_of}
use Rattle.chew_checkpoint.specs.Answers.{round_of}
use Rattle.chew_spec_program.specs.Output.{rounds_from, traced}
use Rattle.chewing_cli.proofs.Printing.{entries_behind, entries_ended}
use Rattle.chewing_cli.proofs.finishing.show_rounds.Goals as goal

pub returns-in-Err : goal.returns-in-Err
returns-in-Err g c = entries_ended _ _ _ _ (ap (λ list. rounds_from 1 (map round_of list)) c.as_slice-rounds.ensures.value) c.in-Err.ensures

pub returns-in-Ok : goal.returns-in-Ok
returns-in-Ok g c =
    entries_behind _ _ _ _ _ _ _ _ _ _ _ _ (ap (λ list. rounds_from 1 (map round_of list)) c.as_slice-rounds.ensures.value)
    (c.traced.ensures ∙ ap (λ list. traced c.args.trace (map entry_of list)) c.as_slice-journal.ensures.value) c.in-Ok.ensures c.send_trace.ensures
