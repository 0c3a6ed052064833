-- How far a journal was read, and what the dictionary is then.
use Rattle.std.specs.Prelude.{ℕ}
use Rattle.chew_spec_dictionary.specs.History.{Point}

pub record Progress : Type 0 where
  -- the plain dictionary, with the calls that were made on it
  pub point : Point
  -- how many entries of the journal came before
  pub place : ℕ
