-- The least phrase is a phrase.
use Rattle.chew_buffer.proofs.Least.{least_is_phrase}
use Rattle.chew_buffer.proofs.ranked.Ranked.first_of.Goals as goal

pub of-requires : goal.of-requires
of-requires c = least_is_phrase
