-- Words for laws: a phrase that is hidden.
use Rattle.std.specs.Prelude.{◌≡◌, ℕ, ◌≤◌, List, Contains, true}
use Rattle.chew_spec_dictionary.specs.Call.{Hit}
use Rattle.chew_spec_dictionary.specs.Look.{Interval}

-- the hit is of the phrase, at the interval
pub record IsOfPhrase (at : Interval) (phrase : List ℕ) (hit : Hit) : Type 0 where
  pub start : hit.start ≡ at.start
  pub len : hit.len ≡ at.len
  pub phrase_is : hit.phrase ≡ phrase

-- a look-up found the phrase at an interval of two syllables or more, and each time as a hidden one
pub record IsHiddenAt (hits : List Hit) (at : Interval) (phrase : List ℕ) : Type 0 where
  pub long : 2 ≤ at.len
  pub found : (hit : Hit) × Contains hits hit × IsOfPhrase at phrase hit
  pub hidden : (hit : Hit) → Contains hits hit → IsOfPhrase at phrase hit → hit.hidden ≡ true
