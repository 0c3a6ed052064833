-- By how each list is made one syllable longer.
use Rattle.chew_spec_phrasing.proofs.Lengths.{AddsUp-from_lengths_of, Contains-lengths_of}
use Rattle.chew_spec_phrasing.proofs.laws.lengths_add_up.Goals as goal

pub returns : goal.returns
returns c = record { all_of_them = λ n lens. (AddsUp-from_lengths_of n lens, Contains-lengths_of n lens) }
