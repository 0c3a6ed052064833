-- The contexts that type beside each other: their passes, their keys, and how they ended.
use Rattle.std.specs.Prelude.{◌≡◌, ◌≤◌, ◌-◌, ⊤, ℕ, zero, suc, List, [], ◌∷◌, ◌++◌, All, IsTrue, get_or, length, map}
use Rattle.std.specs.List.{list_all, range_with_len}
use Rattle.chew_spec_syllable.specs.Row.{Row, is_row}
use Rattle.chew_spec_dictionary.specs.History.{start_of}
use Rattle.chew_spec_text.specs.KeyStroke as text
use Rattle.chew_spec_text.specs.KeyStroke.{is_key_stroke}
use Rattle.chew_spec_editor.specs.Invariant.{is_settings}
use Rattle.chew_spec_editor.specs.Settings.{Settings}
use Rattle.chew_spec_cell.specs.Pass.{Cell, Pass}
use Rattle.chew_spec_cell.specs.Sight.{HasSeen}
use Rattle.chew_spec_shared.specs.SharedCalls.{IsOf}
use Rattle.chew_spec_session.specs.Context.{Basis}
use Rattle.chew_spec_session.specs.Session.{ContextEnd}
use Rattle.chew_script.specs.Keys.{keys_of}
use Rattle.chew_session.specs.Typing.{Ran}
use Rattle.chew_session.specs.declared.actor.Actor.{Actor}

-- the keys of each context
abbrev pub keys_of_all : List Actor → List (List text.KeyStroke)
keys_of_all actors = map (λ actor. keys_of actor.keys.items) actors

-- the keys of the context of a number, counted from 1
abbrev pub keys_at : List (List text.KeyStroke) → (who : ℕ) → List text.KeyStroke
keys_at contexts who = get_or contexts (who - 1) []

-- what the contexts may rely on: settings in range, a start of rows, and contexts that are numbered from 1 on in order, each with
-- keys that are some, and not too many
pub record MayType (shared : Cell) (settings : Settings) (actors : List Actor) : Type 0 where
  pub in_range : IsTrue (is_settings settings)
  pub pairs : IsTrue (list_all is_row shared.start.pairs)
  pub order : map (λ actor. actor.who) actors ≡ range_with_len 1 (length actors)
  pub few : All (λ actor. length actor.keys.items ≤ 65_536) actors
  pub keys : All (λ actor. IsTrue (list_all is_key_stroke (keys_of actor.keys.items))) actors

-- what the contexts stand on
abbrev pub basis_of : List Row → Settings → Cell → Basis
basis_of system settings shared = record { system = system; settings = settings; start = start_of shared.start }

-- the first passes of contexts, which have seen nothing, in the order of their numbers, from 1 on
abbrev pub context_passes : Cell → (count : ℕ) → List Pass
context_passes cell zero = []
context_passes cell (suc count) = context_passes cell count ++ record { cell = cell; who = suc count; seen = [] } ∷ []

-- a pass of one of so many contexts, with which nothing was seen
pub record IsFresh (shared : Cell) (contexts : ℕ) (pass : Pass) : Type 0 where
  pub ours : IsOf shared pass
  pub from_one : 1 ≤ pass.who
  pub within : pass.who ≤ contexts
  pub unseen : pass.seen ≡ []

-- these passes came back, with these ends, each as the typing with it answers by itself
abbrev pub EachAnswered : (Pass → Pass × ContextEnd → Type 0) → List Pass → List Pass → List ContextEnd → Type 0
EachAnswered answers [] [] [] = ⊤
EachAnswered answers (pass ∷ passes) (back ∷ backs) (end ∷ ends) = answers pass (back, end) × EachAnswered answers passes backs ends
EachAnswered answers _ _ _ = ⊥

-- contexts that typed these keys, numbered from this one on, ended so, by what their passes have seen
abbrev pub AllRan : Basis → (who : ℕ) → List (List text.KeyStroke) → List Pass → List ContextEnd → Type 0
AllRan basis who [] [] [] = ⊤
AllRan basis who (keys ∷ others) (pass ∷ passes) (end ∷ ends) =
    (pass.who ≡ who) × Ran basis who keys pass.seen end × AllRan basis (suc who) others passes ends
AllRan basis who _ _ _ = ⊥

-- contexts that typed these keys, numbered from 1 on, have ended, and their passes are of the dictionary
pub record AreDone (basis : Basis) (shared : Cell) (contexts : List (List text.KeyStroke)) (passes : List Pass) (ends : List ContextEnd) : Type 0 where
  pub ours : All (λ pass. IsOf shared pass) passes
  pub each : length ends ≡ length passes
  pub ran : AllRan basis 1 contexts passes ends

-- the pass is the same, and has seen as much or more
pub record SeesMore (before now : Pass) : Type 0 where
  pub who : now.who ≡ before.who
  pub seen : HasSeen before.who before.seen now.seen
