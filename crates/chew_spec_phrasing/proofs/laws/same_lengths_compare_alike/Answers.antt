-- The lengths gain and lose the same.
use Rattle.chew_spec_phrasing.specs.Segmentation.{lengths}
use Rattle.chew_spec_phrasing.proofs.SameLengths.{segmentation_cmp-behind}
use Rattle.chew_spec_phrasing.proofs.Sorted.{IsAlike-from_IsPermutation}
use Rattle.chew_spec_phrasing.proofs.laws.same_lengths_compare_alike.Goals as goal

pub returns : goal.returns
returns c = record {
  behind = λ before pieces other h. segmentation_cmp-behind before pieces other (IsAlike-from_IsPermutation (lengths pieces) (lengths other) h);
}
