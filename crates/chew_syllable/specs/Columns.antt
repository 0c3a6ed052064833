-- The columns that the code's Columns stand for.
use Rattle.chew_spec_layout.specs.Table as spec
use Rattle.chew_syllable.specs.declared.columns.Columns.{Columns}

abbrev pub columns_in : Columns → spec.Columns
columns_in columns = record {
  initials = columns.initials.now;
  medials = columns.medials.now;
  finals = columns.finals.now;
  tones = columns.tones.now;
}
