-- Each value computes.
use Rattle.std.proofs.Common.{refl}
use Rattle.chew_spec_layout.specs.Endings.{endings_a, endings_i, endings_u, endings_v, endings_yu, ending_bare}
use Rattle.chew_spec_layout.specs.Spellings.{alone, bare_initials, n_initials, palatal_initials, plain_initials, spellings}
use Rattle.chew_spec_layout.proofs.laws.spellings.number_of_spellings.Goals as goal

pub returns : goal.returns
unfolding spellings alone endings_a endings_i endings_u endings_v endings_yu ending_bare plain_initials n_initials palatal_initials bare_initials
returns c = record {
  count = refl;
  once = refl;
}
