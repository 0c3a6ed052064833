-- Each value computes.
use Rattle.std.proofs.Common.{refl}
use Rattle.std.specs.Fmt.{digits}
use Rattle.chew_spec_text.specs.KeyStroke.{keys_in}
use Rattle.chew_spec_text.specs.Script.{script_of}
use Rattle.chew_spec_text.proofs.laws.script.many_rounds.Goals as goal

pub returns-clause-most : goal.returns-clause-most
unfolding script_of keys_in digits
returns-clause-most c = refl

pub returns-clause-one_more : goal.returns-clause-one_more
unfolding script_of keys_in digits
returns-clause-one_more c = refl
