-- Each computes.
use Rattle.std.proofs.Common.{refl}
use Rattle.std.specs.Char.{encode_utf8}
use Rattle.std.specs.Str.{chars}
use Rattle.chew_spec_preedit.specs.ShownText.{characters_of}
use Rattle.chew_spec_preedit.proofs.laws.shown.known_shown.Goals as goal

pub returns-clause-parted : goal.returns-clause-parted
unfolding chars characters_of
returns-clause-parted c = refl

pub returns-clause-text : goal.returns-clause-text
unfolding chars characters_of encode_utf8
returns-clause-text c = refl

pub returns-clause-adjacent : goal.returns-clause-adjacent
unfolding chars characters_of
returns-clause-adjacent c = refl
