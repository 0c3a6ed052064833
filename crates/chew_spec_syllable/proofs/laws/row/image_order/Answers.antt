-- By the order of lists of numbers.
use Rattle.chew_spec_syllable.proofs.Order.{image_order, image_is, equal_pair, pair_equal}
use Rattle.chew_spec_syllable.proofs.laws.row.image_order.Goals as goal

pub returns : goal.returns
returns c = record {
  total = image_order;
  order = image_is;
  same_key = λ row other e. (equal_pair row other e).0;
  same_phrase = λ row other e. (equal_pair row other e).1;
  same_pair = pair_equal;
}
