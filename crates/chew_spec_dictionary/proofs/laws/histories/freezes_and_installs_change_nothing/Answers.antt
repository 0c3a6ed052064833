-- Each law is a lemma.
use Rattle.chew_spec_dictionary.proofs.Keepers.{dictionary_without, replies_without}
use Rattle.chew_spec_dictionary.proofs.laws.histories.freezes_and_installs_change_nothing.Goals as goal

pub returns-clause-dictionary : goal.returns-clause-dictionary
returns-clause-dictionary c = dictionary_without

pub returns-clause-replies : goal.returns-clause-replies
returns-clause-replies c = replies_without
