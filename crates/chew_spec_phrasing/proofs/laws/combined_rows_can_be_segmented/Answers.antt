-- Each cell has its syllable's row.
use Rattle.chew_spec_phrasing.proofs.CombinedSegment.{CanSegment-combined_hits}
use Rattle.chew_spec_phrasing.proofs.laws.combined_rows_can_be_segmented.Goals as goal

pub returns : goal.returns
returns c = record { can = CanSegment-combined_hits }
