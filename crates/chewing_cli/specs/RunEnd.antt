-- How the definitions see the end of a run.
use Rattle.std.specs.Prelude.{map}
use Rattle.chew_checkpoint.specs.Answers.{round_of}
use Rattle.chew_plain.specs.Call.{entry_of}
use Rattle.chew_spec_program.specs.Run.{Ended}
use Rattle.chewing_cli.specs.declared.done.Done.{Done}

abbrev pub ended_of : Done → Ended
ended_of done = record {
  status = done.status;
  journal = map entry_of done.journal.items;
  handled = done.handled.items;
  rounds = map round_of done.rounds.items;
  last_from = done.last_from;
}
