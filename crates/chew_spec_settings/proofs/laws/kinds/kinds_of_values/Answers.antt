-- By the kinds of data.
use Rattle.chew_spec_settings.proofs.OtherKinds.{layout_kind, number_kind, selection_kind, truth_kind}
use Rattle.chew_spec_settings.proofs.laws.kinds.kinds_of_values.Goals as goal

pub returns : goal.returns
returns c = record { number = number_kind; layout = layout_kind; selection = selection_kind; truth = truth_kind }
