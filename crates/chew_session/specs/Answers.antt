-- The definition's session end that the code's stands for.
use Rattle.std.specs.Prelude.{List, map}
use Rattle.chew_spec_session.specs.Session as spec
use Rattle.chew_plain.specs.Call.{entry_of}
use Rattle.chew_checkpoint.specs.Answers.{round_of}
use Rattle.chew_session.specs.declared.ended.Ended.{Ended}

-- how a session ended
abbrev pub ended_of : Ended → spec.Ended
ended_of ended = record {
  journal = map entry_of ended.journal.items;
  contexts = ended.contexts.items;
  rounds = map round_of ended.rounds.items;
  last_from = ended.last_from;
  memory = ended.memory;
}
