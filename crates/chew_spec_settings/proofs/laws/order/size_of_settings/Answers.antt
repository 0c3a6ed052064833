-- By what the length decides.
use Rattle.chew_spec_settings.proofs.Sizes as size
use Rattle.chew_spec_settings.proofs.laws.order.size_of_settings.Goals as goal

pub returns : goal.returns
returns c = record {
  too_long = size.too_long;
  no_table = size.of_no_table;
  table = size.of_table;
  one_more = size.one_more;
  most = size.most;
}
