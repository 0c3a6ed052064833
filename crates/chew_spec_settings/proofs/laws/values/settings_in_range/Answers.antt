-- By each range.
use Rattle.chew_spec_settings.proofs.WithinRanges.{in_range}
use Rattle.chew_spec_settings.proofs.laws.values.settings_in_range.Goals as goal

pub returns : goal.returns
returns c = in_range
