-- Each value computes.
use Rattle.std.proofs.Common.{refl}
use Rattle.chew_spec_layout.proofs.laws.table.no_shared_key.Goals as goal

pub returns-clause-standard : goal.returns-clause-standard
returns-clause-standard c = refl

pub returns-clause-eten : goal.returns-clause-eten
returns-clause-eten c = refl
