use Rattle.std.proofs.Common.{refl}
use Rattle.chew_spec_program.proofs.ReadOrder.{opening-stays}
use Rattle.chew_spec_program.proofs.laws.opened.openings_stay.Goals as goal

pub returns : goal.returns
returns g c = λ words settings system script told first second third inputs. opening-stays words settings system script _ _ inputs refl refl
