-- Cell by cell.
use Rattle.chew_spec_preedit.proofs.Shown.{characters-count, characters-sound, characters-symbol}
use Rattle.chew_spec_preedit.proofs.laws.shown.each_cell_shows_a_character.Goals as goal

pub returns-clause-count : goal.returns-clause-count
returns-clause-count c = characters-count

pub returns-clause-sound : goal.returns-clause-sound
returns-clause-sound c = characters-sound

pub returns-clause-symbol : goal.returns-clause-symbol
returns-clause-symbol c = characters-symbol
