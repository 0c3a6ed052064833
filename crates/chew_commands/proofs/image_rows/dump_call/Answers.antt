-- The statuses that such a command has.
use Rattle.chew_spec_program.specs.Answer.{Answers}
use Rattle.chew_spec_program.specs.Reading.{Watched, watched}
use Rattle.chew_spec_program.specs.Writing.{Sunk, sunk}
use Rattle.chew_spec_text.specs.RowText.{rows_text}
use Rattle.chew_spec_program.specs.ImageRows.{dump_of}
use Rattle.chew_spec_program.proofs.Answers.{answers-listed, told-by-four}
use Rattle.chew_commands.specs.Refusals.{outcome_of}
use Rattle.chew_commands.proofs.image_rows.dump_call.Goals as goal

pub returns-clause-statuses : goal.returns-clause-statuses
returns-clause-statuses g c =
    let from : Watched = watched (g.I.Source.left c.args.from.now) (g.I.Source.left c.text_from-answer.new.from) (g.I.Source.faults c.args.from.now) (g.I.Source.faults c.text_from-answer.new.from) in
    let sink : Sunk = sunk (g.O.Sink.taken c.args.sink.now) (g.O.Sink.taken c.tell.new.sink) (g.O.Sink.faults c.args.sink.now) (g.O.Sink.faults c.tell.new.sink) in
    let answers : Answers dump_of from sink c.tell.result = record {
      given = outcome_of (λ bytes. bytes.items) c.text_from-answer.result;
      made = c.text_from-answer.ensures;
      tells = c.tell.ensures;
    } in
    answers-listed dump_of (told-by-four rows_text) from sink c.tell.result answers
