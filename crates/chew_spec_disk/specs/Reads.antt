-- What a read of a slot gives.
use Rattle.std.specs.Prelude.{◌≡◌, ℕ, ◌-◌, min, List, ◌++◌, length, take, drop}

-- all bytes of the list from a place on, up to its end or that of the buffer; the rest of the buffer stays
pub record ReadsAt (list : List ℕ) (at : ℕ) (buffer filled : List ℕ) (n : ℕ) : Type 0 where
  pub count : n ≡ min (length buffer) (length list - at)
  pub moved : filled ≡ take n (drop at list) ++ drop n buffer
