-- Histories that grow: what a number asked and heard from one to a longer one, and the reply at a place.
use Rattle.std.specs.Prelude.{◌≡◌, ℕ, List, ◌++◌, take, Option}
use Rattle.std.specs.List.{slice_get}
use Rattle.std.specs.Option.{option_map}
use Rattle.chew_spec_dictionary.specs.Call.{Call, Reply}
use Rattle.chew_spec_dictionary.specs.History.{Entry, Point, after, answer, calls_of, replies}

-- a list is the front of another
pub record IsFront {X : Type 0} (front whole : List X) : Type 0 where
  pub rest : List X
  pub joined : whole ≡ front ++ rest

-- from one history to a longer one a number made these calls and got these replies; in between stand those of others
pub record Made (start : Point) (before now : List Entry) (who : ℕ) (asked : List Call) (heard : List Reply) : Type 0 where
  pub more : List Entry
  pub joined : now ≡ before ++ more
  pub calls : calls_of more who ≡ asked
  pub replies : replies (after start before) more who ≡ heard

-- the reply to the entry at a place: what its call is answered after the entries before it
abbrev pub reply_at : Point → List Entry → ℕ → Option Reply
reply_at p h place = option_map (λ e. (answer (after p (take place h)) e.call).reply) (slice_get h place)
