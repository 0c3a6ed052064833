-- Each law is a lemma.
use Rattle.chew_spec_dictionary.proofs.Growing.{reply-first, reply-here, reply-none, reply-second}
use Rattle.chew_spec_dictionary.proofs.laws.growth.replies_by_place.Goals as goal

pub returns-clause-here : goal.returns-clause-here
returns-clause-here c = reply-here

pub returns-clause-first : goal.returns-clause-first
returns-clause-first c = reply-first

pub returns-clause-second : goal.returns-clause-second
returns-clause-second c = reply-second

pub returns-clause-none : goal.returns-clause-none
returns-clause-none c = reply-none
