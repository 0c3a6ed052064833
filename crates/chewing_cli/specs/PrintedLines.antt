-- What was printed of a trace, and of a session.
use Rattle.std.specs.Prelude.{◌≡◌, ◌++◌, ℕ, Bool, false, List, flat_map}
use Rattle.chew_spec_dictionary.specs.Growth.{IsFront}
use Rattle.chew_spec_dictionary.specs.History.{Entry}
use Rattle.chew_spec_text.specs.Entry.{entry_text}
use Rattle.chew_spec_session.specs.Session.{Ended}
use Rattle.chew_spec_program.specs.Run as run
use Rattle.chew_spec_program.specs.Run.{Prints, end_of}
use Rattle.chew_spec_program.specs.Writing.{Sunk, Writes}

-- a text was written, and then the lines of these entries, until the sink failed; where memory was wanting for one, the lines
-- before it
pub record PrintsEntries (text : List ℕ) (entries : List Entry) (sink : Sunk) (failed cut : Bool) : Type 0 where
  pub printed : List Entry
  pub front : IsFront printed entries
  pub whole : cut ≡ false → printed ≡ entries
  pub writes : Writes sink (text ++ flat_map entry_text printed) failed

-- the output of a session was written, and the run ended so
pub record Finishes (trace : Bool) (session : Ended) (sink : Sunk) (ended : run.Ended) : Type 0 where
  pub failed : Bool
  pub cut : Bool
  pub prints : Prints trace session sink failed cut
  pub ends : ended ≡ end_of session failed cut
