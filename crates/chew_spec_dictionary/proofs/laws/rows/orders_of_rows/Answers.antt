-- Each law is a lemma.
use Rattle.chew_spec_dictionary.proofs.ImageOrder.{image_total, image_parts, tie_is_pair}
use Rattle.chew_spec_dictionary.proofs.Rows.{phrase_total, shown_total, shown_hit_total}
use Rattle.chew_spec_dictionary.proofs.laws.rows.orders_of_rows.Goals as goal

pub returns-clause-image : goal.returns-clause-image
returns-clause-image c = image_total

pub returns-clause-phrase : goal.returns-clause-phrase
returns-clause-phrase c = phrase_total

pub returns-clause-shown : goal.returns-clause-shown
returns-clause-shown c = shown_total

pub returns-clause-hits : goal.returns-clause-hits
returns-clause-hits c = shown_hit_total

pub returns-clause-image_parts : goal.returns-clause-image_parts
returns-clause-image_parts c = image_parts

pub returns-clause-image_ties : goal.returns-clause-image_ties
returns-clause-image_ties c = tie_is_pair
