-- Each call has one character less to go.
use Rattle.chew_phrasing.proofs.characters.+after_characters.Given as goal

abbrev pub decreases-after_characters : goal.decreases-after_characters
decreases-after_characters l = l.count
