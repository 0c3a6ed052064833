-- Each value computes.
use Rattle.std.proofs.Common.{refl}
use lib.Utf8.{encode}
use Rattle.chew_spec_layout.specs.Endings.{endings_a, endings_i, endings_u, endings_v, endings_yu, ending_bare}
use Rattle.chew_spec_layout.specs.Spellings.{alone, bare_initials, n_initials, palatal_initials, plain_initials, spelling_of, spellings}
use Rattle.chew_spec_layout.proofs.laws.spellings.initials_with_endings.Goals as goal

pub returns-clause-ang : goal.returns-clause-ang
unfolding encode spelling_of spellings alone endings_a endings_i endings_u endings_v endings_yu ending_bare plain_initials n_initials palatal_initials bare_initials
returns-clause-ang c = refl

pub returns-clause-iang : goal.returns-clause-iang
unfolding encode spelling_of spellings alone endings_a endings_i endings_u endings_v endings_yu ending_bare plain_initials n_initials palatal_initials bare_initials
returns-clause-iang c = refl

pub returns-clause-uang : goal.returns-clause-uang
unfolding encode spelling_of spellings alone endings_a endings_i endings_u endings_v endings_yu ending_bare plain_initials n_initials palatal_initials bare_initials
returns-clause-uang c = refl

pub returns-clause-ong : goal.returns-clause-ong
unfolding encode spelling_of spellings alone endings_a endings_i endings_u endings_v endings_yu ending_bare plain_initials n_initials palatal_initials bare_initials
returns-clause-ong c = refl

pub returns-clause-i : goal.returns-clause-i
unfolding encode spelling_of spellings alone endings_a endings_i endings_u endings_v endings_yu ending_bare plain_initials n_initials palatal_initials bare_initials
returns-clause-i c = refl

pub returns-clause-u : goal.returns-clause-u
unfolding encode spelling_of spellings alone endings_a endings_i endings_u endings_v endings_yu ending_bare plain_initials n_initials palatal_initials bare_initials
returns-clause-u c = refl

pub returns-clause-uan : goal.returns-clause-uan
unfolding encode spelling_of spellings alone endings_a endings_i endings_u endings_v endings_yu ending_bare plain_initials n_initials palatal_initials bare_initials
returns-clause-uan c = refl

pub returns-clause-v : goal.returns-clause-v
unfolding encode spelling_of spellings alone endings_a endings_i endings_u endings_v endings_yu ending_bare plain_initials n_initials palatal_initials bare_initials
returns-clause-v c = refl

pub returns-clause-ve : goal.returns-clause-ve
unfolding encode spelling_of spellings alone endings_a endings_i endings_u endings_v endings_yu ending_bare plain_initials n_initials palatal_initials bare_initials
returns-clause-ve c = refl

pub returns-clause-ue : goal.returns-clause-ue
unfolding encode spelling_of spellings alone endings_a endings_i endings_u endings_v endings_yu ending_bare plain_initials n_initials palatal_initials bare_initials
returns-clause-ue c = refl

pub returns-clause-iong : goal.returns-clause-iong
unfolding encode spelling_of spellings alone endings_a endings_i endings_u endings_v endings_yu ending_bare plain_initials n_initials palatal_initials bare_initials
returns-clause-iong c = refl

pub returns-clause-none : goal.returns-clause-none
unfolding encode spelling_of spellings alone endings_a endings_i endings_u endings_v endings_yu ending_bare plain_initials n_initials palatal_initials bare_initials
returns-clause-none c = refl

pub returns-clause-er : goal.returns-clause-er
unfolding encode spelling_of spellings alone endings_a endings_i endings_u endings_v endings_yu ending_bare plain_initials n_initials palatal_initials bare_initials
returns-clause-er c = refl
