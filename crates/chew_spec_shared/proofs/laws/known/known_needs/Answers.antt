-- Each value computes.
use Rattle.std.proofs.Common.{refl}
use Rattle.chew_spec_dictionary.specs.Dictionary.{learn, forget}
use Rattle.chew_spec_dictionary.specs.Known.{ce_shi_key, test}
use Rattle.chew_spec_shared.proofs.laws.known.known_needs.Goals as goal

pub returns-clause-first : goal.returns-clause-first
returns-clause-first c = (refl, λ key phrase. refl)

pub returns-clause-look : goal.returns-clause-look
unfolding learn
returns-clause-look c = (refl, (ce_shi_key, test, refl))

pub returns-clause-freeze : goal.returns-clause-freeze
returns-clause-freeze c = (2, refl)

pub returns-clause-forget : goal.returns-clause-forget
returns-clause-forget c = (2, refl)

pub returns-clause-install : goal.returns-clause-install
unfolding learn forget
returns-clause-install c = (refl, (ce_shi_key, test, refl))
