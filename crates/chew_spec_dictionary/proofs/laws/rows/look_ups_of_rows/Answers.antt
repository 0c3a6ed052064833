-- Each law is a lemma.
use Rattle.chew_spec_dictionary.proofs.Found.{freq_found, freq_none, found_is_row, none_is_row, under_where, single_where}
use Rattle.chew_spec_dictionary.proofs.laws.rows.look_ups_of_rows.Goals as goal

pub returns-clause-found : goal.returns-clause-found
returns-clause-found c = found_is_row

pub returns-clause-none : goal.returns-clause-none
returns-clause-none c = none_is_row

pub returns-clause-under : goal.returns-clause-under
returns-clause-under c = under_where

pub returns-clause-single : goal.returns-clause-single
returns-clause-single c = single_where

pub returns-clause-freq : goal.returns-clause-freq
returns-clause-freq c = freq_found

pub returns-clause-no_freq : goal.returns-clause-no_freq
returns-clause-no_freq c = freq_none
