-- By computing the keys.
use Rattle.std.proofs.Common.{refl}
use Rattle.unicode_width.proofs.Computing.{unicode_width}
use Rattle.chew_spec_editor.proofs.Computing.{typing}
use Rattle.chew_spec_editor.proofs.laws.typing.known_caps.Goals as goal

pub returns-clause-commits : goal.returns-clause-commits
unfolding typing unicode_width
returns-clause-commits c = refl

pub returns-clause-added : goal.returns-clause-added
unfolding typing unicode_width
returns-clause-added c = refl
