-- What two slots recover to, told by a front of a history.
use Rattle.std.specs.Prelude.{◌≡◌, ◌⊎◌, ℕ, List, take, Option, Some, IsSomeAnd}
use Rattle.std.specs.List.{slice_get}
use Rattle.std.specs.Option.{option_map}
use Rattle.chew_spec_dictionary.specs.Call.{Freeze, Frozen}
use Rattle.chew_spec_dictionary.specs.Dictionary.{Dictionary}
use Rattle.chew_spec_dictionary.specs.Growth.{reply_at}
use Rattle.chew_spec_dictionary.specs.History.{Entry, Point, Shape, after, start_of}
use Rattle.chew_spec_slots.specs.Fits.{RecoversTo}
use Rattle.chew_spec_slots.specs.Slot.{Checkpoint}

-- the map and the life at a point of a history
abbrev pub checkpoint_at : Point → Checkpoint
checkpoint_at point = record { life = point.dictionary.life; rows = point.dictionary.pairs }

-- the plain map, and its life, after the first entries of a history
unfoldable pub front_checkpoint : Dictionary → List Entry → (number : ℕ) → Checkpoint
front_checkpoint start history number = checkpoint_at (after (start_of start) (take number history))

-- two slots recover to the plain map after so many entries, and never to a refusal
abbrev pub RecoversToFront : Dictionary → List Entry → (number : ℕ) → (zero one : List ℕ) → Type 0
RecoversToFront start history number zero one = RecoversTo (front_checkpoint start history number) zero one

-- two slots recover to the plain map after so many entries, or after another number of them where there is one
abbrev pub RecoversToEither : Dictionary → List Entry → (number : ℕ) → (another : Option ℕ) → (zero one : List ℕ) → Type 0
RecoversToEither start history number another zero one =
    RecoversToFront start history number zero one ⊎ IsSomeAnd another (λ n. RecoversToFront start history n zero one)

-- the number of entries up to the last snapshot that was installed, and up to the one that waits, after a history
abbrev pub shape_after : Dictionary → List Entry → Shape
shape_after start history = (after (start_of start) history).shape

-- the number is that of a freeze: a history has one at some place, and the reply to it tells this number
pub record IsFrozen (start : Dictionary) (history : List Entry) (number : ℕ) : Type 0 where
  pub place : ℕ
  pub freeze : option_map (λ e. e.call) (slice_get history place) ≡ Some Freeze
  pub reply : reply_at (start_of start) history place ≡ Some (Frozen number)

-- the number is 0, or that of one of a history's freezes
abbrev pub IsNumber : Dictionary → List Entry → ℕ → Type 0
IsNumber start history number = (number ≡ 0) ⊎ IsFrozen start history number
