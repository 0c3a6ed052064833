-- The keys so far were typed.
use Rattle.std.proofs.Common.{◌≡◌, take, true}
use Rattle.std.specs.List.{list_all}
use Rattle.chew_spec_syllable.specs.Row.{is_row}
use Rattle.chew_spec_editor.specs.Invariant.{HasSingles}
use Rattle.chew_spec_program.specs.Make.{typed_over}
use Rattle.chew_script.specs.Keys.{keys_of}
use Rattle.chew_make.specs.Counts.{basis_in, counted, tally_of}
use Rattle.chew_make.proofs.typing.type_keys.Given as goal

abbrev pub invariant-loop-key : goal.invariant-loop-key
invariant-loop-key l = record {
  typed : tally_of l.typist ≡ counted (typed_over (basis_in l.settings l.system) (take l.key-index (keys_of l.keys)));
  singles : HasSingles l.system l.typist.editor.buffer.cells;
  pairs : list_all is_row l.typist.plain.dictionary.pairs ≡ true;
}
