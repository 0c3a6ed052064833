-- Calls of users leave what waits as it is.
use Rattle.std.proofs.Common.{◌≡◌, refl, sym, true, false, true≢false}
use Rattle.chew_spec_dictionary.specs.Call.{Call, Look, Learn, Forget, Hide, Freeze, Install}
use Rattle.chew_spec_dictionary.specs.History.{Point, answer, is_user_call}

-- a call of a user leaves the shape
pub user_keeps_shape : (p : Point) (call : Call) → is_user_call call ≡ true → (answer p call).point.shape ≡ p.shape
user_keeps_shape p (Look run) user = refl
user_keeps_shape p (Learn key phrase orig peak) user = refl
user_keeps_shape p (Forget key phrase) user = refl
user_keeps_shape p (Hide key phrase) user = refl
user_keeps_shape p Freeze user = absurd (true≢false (sym user))
user_keeps_shape p (Install number) user = absurd (true≢false (sym user))
