-- Both tables compute to the same list.
use Rattle.std.proofs.Common.{refl}
use lib.Utf8.{encode}
use Rattle.chew_spec_layout.specs.Endings.{endings_a, endings_i, endings_u, endings_v, endings_yu, ending_bare}
use Rattle.chew_spec_layout.specs.Spellings.{spellings, alone, plain_initials, n_initials, palatal_initials, bare_initials}
use Rattle.chew_layout_pinyin.proofs.tables.rows.Goals as goal

pub returns : goal.returns
unfolding spellings alone endings_a endings_i endings_u endings_v endings_yu ending_bare plain_initials n_initials palatal_initials bare_initials encode
returns c = refl
