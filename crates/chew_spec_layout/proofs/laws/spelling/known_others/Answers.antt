-- Each value computes.
use Rattle.std.proofs.Common.{refl}
use lib.Utf8.{encode}
use Rattle.chew_spec_layout.specs.Endings.{endings_a, endings_i, endings_u, endings_v, endings_yu, ending_bare}
use Rattle.chew_spec_layout.specs.Spellings.{spellings, alone, plain_initials, n_initials, palatal_initials, bare_initials, spelling_of}
use Rattle.chew_spec_layout.specs.Pinyin.{fed_spelling}
use Rattle.chew_spec_layout.proofs.laws.spelling.known_others.Goals as goal

pub returns : goal.returns
unfolding fed_spelling spelling_of spellings alone endings_a endings_i endings_u endings_v endings_yu ending_bare plain_initials n_initials palatal_initials bare_initials encode
returns c = record { erase = refl; nothing_held = refl; others = refl }
