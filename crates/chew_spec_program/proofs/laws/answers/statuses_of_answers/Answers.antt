-- By how such a command ends.
use Rattle.chew_spec_text.specs.RowText.{rows_text}
use Rattle.chew_spec_program.specs.Build.{image_of_text}
use Rattle.chew_spec_program.specs.ImageRows.{check_of, counts_line, dump_of}
use Rattle.chew_spec_program.proofs.Answers.{answers-listed, answers-sink, answers-source, build-by-four, told-by-four}
use Rattle.chew_spec_program.proofs.laws.answers.statuses_of_answers.Goals as goal

pub returns : goal.returns
returns c = record {
  build = answers-listed image_of_text build-by-four;
  check = answers-listed check_of (told-by-four counts_line);
  dump = answers-listed dump_of (told-by-four rows_text);
  build_source = answers-source image_of_text build-by-four;
  check_source = answers-source check_of (told-by-four counts_line);
  dump_source = answers-source dump_of (told-by-four rows_text);
  build_sink = answers-sink image_of_text build-by-four;
  check_sink = answers-sink check_of (told-by-four counts_line);
  dump_sink = answers-sink dump_of (told-by-four rows_text);
}
