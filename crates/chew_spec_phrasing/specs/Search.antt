-- A search through all segmentations, piece by piece, that keeps the best one so far.
use Rattle.std.specs.Prelude.{◌≡◌, ℕ, ◌+◌, ◌-◌, ◌≤◌, false, ◌⊎◌, List, [], ◌∷◌, ◌++◌, Option, Some}
use Rattle.std.specs.Ordering.{is_lt}
use Rattle.chew_spec_dictionary.specs.Look.{Interval}
use Rattle.chew_spec_phrasing.specs.Best.{segmentation_cmp}
use Rattle.chew_spec_phrasing.specs.Segmentation.{IsSegmentation}
use Rattle.chew_spec_phrasing.specs.Usable.{Piece}

-- the pieces are a first one and then a segmentation of the rest of n syllables from start on
pub record HasFirst (usable : Interval → Option Piece) (start n : ℕ) (pieces : List Piece) : Type 0 where
  pub len : ℕ
  pub piece : Piece
  pub rest : List Piece
  pub from_one : 1 ≤ len
  pub within : len ≤ n
  pub is_usable : usable (record { start = start; len = len }) ≡ Some piece
  pub follows : IsSegmentation usable (start + len) (n - len) rest
  pub joined : pieces ≡ piece ∷ rest

-- the pieces are those before start and then a segmentation of n syllables from start on
pub record IsCompletion (usable : Interval → Option Piece) (before : List Piece) (start n : ℕ) (pieces : List Piece) : Type 0 where
  pub rest : List Piece
  pub follows : IsSegmentation usable start n rest
  pub joined : pieces ≡ before ++ rest

-- something is held, and the pieces don't exceed it
pub record IsHeldAgainst (held : Option (List Piece)) (pieces : List Piece) : Type 0 where
  pub top : List Piece
  pub is : held ≡ Some top
  pub unbeaten : is_lt (segmentation_cmp top pieces) ≡ false

-- of what was had and all pieces that are among, the best is what is held
pub record Improves (among : List Piece → Type 0) (had held : Option (List Piece)) : Type 0 where
  pub one : (pieces : List Piece) → held ≡ Some pieces → (had ≡ Some pieces) ⊎ among pieces
  pub kept : (pieces : List Piece) → had ≡ Some pieces → IsHeldAgainst held pieces
  pub unbeaten : (pieces : List Piece) → among pieces → IsHeldAgainst held pieces
