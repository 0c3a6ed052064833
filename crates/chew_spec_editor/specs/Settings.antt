-- What the user may set.
use Rattle.std.specs.Prelude.{ℕ, Bool, true, false, List, codes}
use Rattle.chew_spec_layout.specs.Layout.{Kind, Standard}

pub record Settings : Type 0 where
  pub layout : Kind
  -- the most cells of the pre-edit buffer, 1 to 39
  pub buffer : ℕ
  -- how many candidates a page of the window has, 1 to 10
  pub page : ℕ
  -- the keys that pick a candidate of the page, ten different ones
  pub selection : List ℕ
  -- whether Esc empties the buffer
  pub escape_clears : Bool
  -- whether what is committed is learnt
  pub learn : Bool
  -- the number of pairs from which on the user's dictionary takes no new one
  pub cap : ℕ

-- the settings of a run that is given none
abbrev pub standard_settings : Settings
standard_settings = record {
  layout = Standard;
  buffer = 10;
  page = 10;
  selection = codes "1234567890";
  escape_clears = false;
  learn = true;
  cap = 65_536;
}
