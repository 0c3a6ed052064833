-- The numbers of a known history.
use Rattle.std.specs.Prelude.{◌≡◌, ℕ, zero, suc, Bool, true, false, [], ◌∷◌, Option, Some, refl}
use Rattle.std.specs.List.{slice_get}
use Rattle.std.specs.Option.{option_map}
use Rattle.std.proofs.Common.{arith, sym, ap, ⊎_elim}
use Rattle.std.proofs.lemmas.Bool.{true≢false}
use lib.Utf8.{encode}
use Rattle.chew_spec_dictionary.specs.Call.{Call, Freeze, Frozen, Reply}
use Rattle.chew_spec_dictionary.specs.Dictionary.{learn}
use Rattle.chew_spec_dictionary.specs.Growth.{reply_at}
use Rattle.chew_spec_dictionary.specs.History.{Entry, start_of}
use Rattle.chew_spec_image.specs.Sample.{one_row}
use Rattle.chew_spec_layers.specs.Touches.{touched}
use Rattle.chew_spec_rounds.specs.Front.{IsNumber}
use Rattle.chew_spec_rounds.specs.Known.{failed_once, learns, nothing}
use Rattle.chew_spec_rounds.proofs.Fronts.{none-some}

-- a call is a freeze
abbrev is_freeze : Option Call → Bool
is_freeze (Some Freeze) = true
is_freeze _ = false

abbrev told : Option Reply → ℕ
told (Some (Frozen number)) = number
told _ = 0

no-place : (place : ℕ) → option_map (λ (e : Entry). e.call) (slice_get failed_once place) ≡ Some Freeze → reply_at (start_of nothing) failed_once place ≡ Some (Frozen 3) → ⊥
no-place zero freeze reply = true≢false (sym (ap is_freeze freeze))
no-place (suc zero) freeze reply = let same = ap told reply in omega arith
no-place (suc (suc zero)) freeze reply = true≢false (sym (ap is_freeze freeze))
no-place (suc (suc (suc zero))) freeze reply = let same = ap told reply in omega arith
no-place (suc (suc (suc (suc place)))) freeze reply = none-some freeze

pub not-three : IsNumber nothing failed_once 3 → ⊥
not-three = ⊎_elim (λ first. let same = first in omega arith) (λ frozen. no-place frozen.place frozen.freeze frozen.reply)

pub learn-touches : touched (start_of nothing) (learns ∷ []) 0 1 one_row.key one_row.phrase ≡ true
unfolding learn encode
learn-touches = refl
