-- Each call has one character less to go.
use Rattle.chew_syllable.proofs.phrase.+allowed_bytes.Given as goal

abbrev pub decreases-allowed_bytes : goal.decreases-allowed_bytes
decreases-allowed_bytes l = l.limit
