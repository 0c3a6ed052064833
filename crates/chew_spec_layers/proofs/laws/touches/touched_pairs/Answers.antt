-- Each law is a lemma.
use Rattle.chew_spec_layers.proofs.Touches.{touched_second, touches_joined, untouched_stays}
use Rattle.chew_spec_layers.proofs.laws.touches.touched_pairs.Goals as goal

pub returns-clause-stays : goal.returns-clause-stays
returns-clause-stays c = untouched_stays

pub returns-clause-joined : goal.returns-clause-joined
returns-clause-joined c = touches_joined

pub returns-clause-second : goal.returns-clause-second
returns-clause-second c = touched_second
