-- Each call has one character less to go.
use Rattle.std.proofs.Common.{length, chars}
use Rattle.chew_phrasing.proofs.characters.+begins_with.Given as goal

abbrev pub decreases-begins_with : goal.decreases-begins_with
decreases-begins_with l = length (chars l.front.now)
