-- Each law is a lemma.
use Rattle.chew_spec_dictionary.proofs.Histories.{reply_at, place_after}
use Rattle.chew_spec_dictionary.proofs.laws.histories.replies_by_what_came_before.Goals as goal

pub returns-clause-reply : goal.returns-clause-reply
returns-clause-reply c = reply_at

pub returns-clause-place : goal.returns-clause-place
returns-clause-place c = place_after
