-- The course of a session: what the contexts, the worker and the last rounds did, and what all passes together show of it.
use Rattle.std.specs.Prelude.{◌≡◌, ◌≤◌, ℕ, Bool, true, List, [], ◌∷◌, ◌++◌, All, Contains, length, map}
use Rattle.std.specs.List.{AllZip}
use Rattle.chew_spec_dictionary.specs.History.{Entry, is_legal, start_of}
use Rattle.chew_spec_text.specs.KeyStroke.{KeyStroke}
use Rattle.chew_spec_cell.specs.Pass.{Pass}
use Rattle.chew_spec_cell.specs.Sight.{HasSeen}
use Rattle.chew_spec_rounds.specs.Round.{Round}
use Rattle.chew_spec_session.specs.Context.{Basis}
use Rattle.chew_spec_session.specs.Session.{ContextEnd}
use Rattle.chew_session.specs.Crew.{AllRan, SeesMore}
use Rattle.chew_session.specs.Saving.{MakeAll, SaveLast, Stage}

-- the stages as the session begins, as the worker ends, once the keeper has met all passes, and after the last rounds
pub record Course (basis : Basis) (told : Bool) (contexts : List (List KeyStroke)) (worker last : List Round) (begins ends meets closes : Stage)
    (passes met : List Pass) (keeper : Pass) (contexts_then : List ContextEnd) (journal : List Entry) : Type 0 where
  pub nothing : begins.seen ≡ []
  pub ran : AllRan basis 1 contexts passes contexts_then
  pub works : MakeAll basis.start.dictionary told begins worker ends
  pub sees : HasSeen 0 ends.seen meets.seen
  pub waits : MakeAll basis.start.dictionary told ends [] meets
  pub more : AllZip SeesMore passes met
  pub most : All (λ (p : Pass). length p.seen ≤ length meets.seen) met
  pub makes : MakeAll basis.start.dictionary told meets last closes
  pub saves : SaveLast basis.start.dictionary meets.seen last closes.seen
  pub keeps : keeper.who ≡ 0
  pub knows : keeper.seen ≡ closes.seen
  pub seen : All (λ (p : Pass). HasSeen p.who p.seen journal) (keeper ∷ met)
  pub known : All (λ (e : Entry). Contains (map (λ (p : Pass). p.who) (keeper ∷ met)) e.who) journal
  pub legal : is_legal (start_of basis.start.dictionary) journal ≡ true
