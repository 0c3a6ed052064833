-- Each call has one character less to go.
use Rattle.chew_editor.proofs.characters.+character_of.Given as goal

abbrev pub decreases-character_of : goal.decreases-character_of
decreases-character_of l = l.count
