-- What a key did to a layout.
use Rattle.std.specs.Prelude.{ℕ}

pub data Step : Type 0 where
  -- the layout took the key
  Kept : Step
  -- the syllable of this code is whole, and the layout holds nothing now
  Whole : (code : ℕ) → Step
  -- the key is the layout's and can't stand here
  Refused : Step
  -- a part or a letter went
  Erased : Step
  -- the key is none of the layout's here
  NotMine : Step
