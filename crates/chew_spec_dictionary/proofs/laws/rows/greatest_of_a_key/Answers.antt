-- Each law is a lemma.
use Rattle.chew_spec_dictionary.proofs.Peaks.{peak_bounds, freq_within_peak, peak_reached}
use Rattle.chew_spec_dictionary.proofs.laws.rows.greatest_of_a_key.Goals as goal

pub returns-clause-rows : goal.returns-clause-rows
returns-clause-rows c = peak_bounds

pub returns-clause-pair : goal.returns-clause-pair
returns-clause-pair c = freq_within_peak

pub returns-clause-reached : goal.returns-clause-reached
returns-clause-reached c = peak_reached
