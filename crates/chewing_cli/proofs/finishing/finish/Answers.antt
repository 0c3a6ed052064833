-- The output was written, and the status tells how.
use Rattle.std.specs.Prelude.{◌||◌}
use Rattle.std.specs.List.{drop-map}
use Rattle.std.proofs.Common.{◌∙◌, ap, map, sym}
use Rattle.chew_spec_program.specs.Run.{done_status}
use Rattle.chew_checkpoint.specs.Answers.{round_of}
use Rattle.chew_session.specs.Answers.{ended_of as session_of}
use Rattle.chewing_cli.specs.Traces.{was_cut, was_failed}
use Rattle.chewing_cli.proofs.Printing.{same_end}
use Rattle.chewing_cli.proofs.finishing.finish.Goals as goal

pub returns : goal.returns
returns g c = record {
  failed = was_failed c.show-shown.result;
  cut = was_cut c.show-shown.result;
  prints = c.show-shown.ensures;
  ends =
      same_end (session_of c.args.ended) _ _ c.status_of-status.result c.counts_of-handled.result.items
      (c.status_of-status.ensures
      ∙ ap (done_status (was_failed c.show-shown.result) (c.args.ended.memory || was_cut c.show-shown.result))
      (ap (map round_of) c.last_rounds-last.ensures ∙ sym (drop-map round_of c.args.ended.last_from c.args.ended.rounds.items)))
      (c.counts_of-handled.ensures ∙ ap (map (λ end. end.handled)) c.as_slice-ends.ensures.value);
}
