-- Each law is a lemma.
use Rattle.chew_spec_dictionary.proofs.Maps.{learn_keeps, forget_keeps, hide_keeps, answer_keeps, after_keeps}
use Rattle.chew_spec_dictionary.proofs.laws.maps.maps_stay_maps.Goals as goal

pub returns-clause-learn : goal.returns-clause-learn
returns-clause-learn c = learn_keeps

pub returns-clause-forget : goal.returns-clause-forget
returns-clause-forget c = forget_keeps

pub returns-clause-answer : goal.returns-clause-answer
returns-clause-answer c = answer_keeps

pub returns-clause-after : goal.returns-clause-after
returns-clause-after c = after_keeps

pub returns-clause-hide : goal.returns-clause-hide
returns-clause-hide c = hide_keeps
