-- Each law is a lemma.
use Rattle.chew_spec_layers.specs.Mark.{is_proper_mark}
use Rattle.chew_spec_layers.proofs.Marks.{all_put_mark, other_mark, put_mark_found, put_mark_keeps, put_mark_others}
use Rattle.chew_spec_layers.proofs.laws.marks.one_mark_changes.Goals as goal

pub returns-clause-put : goal.returns-clause-put
returns-clause-put c = put_mark_found

pub returns-clause-others : goal.returns-clause-others
returns-clause-others c marked marks key phrase other = put_mark_others marked marks key phrase (other_mark marked key phrase other)

pub returns-clause-layer : goal.returns-clause-layer
returns-clause-layer c = put_mark_keeps

pub returns-clause-proper : goal.returns-clause-proper
returns-clause-proper c marked marks p a = all_put_mark is_proper_mark marked marks p a
