-- The statuses that such a command has.
use Rattle.chew_spec_program.specs.Answer.{Answers}
use Rattle.chew_spec_program.specs.Reading.{Watched, watched}
use Rattle.chew_spec_program.specs.Writing.{Sunk, sunk}
use Rattle.chew_spec_program.specs.Build.{image_of_text}
use Rattle.chew_spec_program.proofs.Answers.{answers-listed, build-by-four}
use Rattle.chew_commands.specs.Refusals.{outcome_of}
use Rattle.chew_commands.proofs.build.build_call.Goals as goal

pub returns-clause-statuses : goal.returns-clause-statuses
returns-clause-statuses g c =
    let from : Watched = watched (g.I.Source.left c.args.from.now) (g.I.Source.left c.image_from-answer.new.from) (g.I.Source.faults c.args.from.now) (g.I.Source.faults c.image_from-answer.new.from) in
    let sink : Sunk = sunk (g.O.Sink.taken c.args.sink.now) (g.O.Sink.taken c.tell.new.sink) (g.O.Sink.faults c.args.sink.now) (g.O.Sink.faults c.tell.new.sink) in
    let answers : Answers image_of_text from sink c.tell.result = record {
      given = outcome_of (λ bytes. bytes.items) c.image_from-answer.result;
      made = c.image_from-answer.ensures;
      tells = c.tell.ensures;
    } in
    answers-listed image_of_text build-by-four from sink c.tell.result answers
