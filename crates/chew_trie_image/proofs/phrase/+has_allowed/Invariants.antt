-- Each call has one character less to go.
use Rattle.std.proofs.Common.{length, chars}
use Rattle.chew_trie_image.proofs.phrase.+has_allowed.Given as goal

abbrev pub decreases-has_allowed : goal.decreases-has_allowed
decreases-has_allowed l = length (chars l.text.now)
