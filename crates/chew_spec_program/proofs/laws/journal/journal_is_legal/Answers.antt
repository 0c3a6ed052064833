use Rattle.chew_spec_program.proofs.Journal.{journal-legal}
use Rattle.chew_spec_program.proofs.laws.journal.journal_is_legal.Goals as goal

pub returns : goal.returns
returns c = λ basis journal contexts counts lines rows settings pairs strokes handle numbers.
    journal-legal basis journal contexts counts lines (record { rows = rows; settings = settings; pairs = pairs }) strokes handle numbers
