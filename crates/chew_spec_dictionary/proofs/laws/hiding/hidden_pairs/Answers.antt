-- Each law is a lemma.
use Rattle.chew_spec_dictionary.proofs.Hiding.{hidden_where, single_shown}
use Rattle.chew_spec_dictionary.proofs.Found.{shown_where}
use Rattle.chew_spec_dictionary.proofs.laws.hiding.hidden_pairs.Goals as goal

pub returns-clause-hidden : goal.returns-clause-hidden
returns-clause-hidden c = hidden_where

pub returns-clause-single : goal.returns-clause-single
returns-clause-single c = single_shown

pub returns-clause-shown : goal.returns-clause-shown
returns-clause-shown c = shown_where
