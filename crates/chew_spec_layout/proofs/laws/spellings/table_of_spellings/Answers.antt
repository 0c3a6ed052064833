-- Each value computes.
use Rattle.std.proofs.Common.{refl}
use lib.Utf8.{encode}
use Rattle.chew_spec_layout.specs.Endings.{endings_a, endings_i, endings_u, endings_v, endings_yu, ending_bare}
use Rattle.chew_spec_layout.specs.Spellings.{alone, bare_initials, n_initials, palatal_initials, plain_initials}
use Rattle.chew_spec_layout.proofs.laws.spellings.table_of_spellings.Goals as goal

pub returns : goal.returns
unfolding encode alone endings_a endings_i endings_u endings_v endings_yu ending_bare plain_initials n_initials palatal_initials bare_initials
returns c = record {
  alone = refl;
  open_endings = refl;
  i_endings = refl;
  u_endings = refl;
  v_endings = refl;
  yu_endings = refl;
  bare_ending = refl;
  plain = refl;
  n_and_l = refl;
  palatal = refl;
  bare = refl;
}
