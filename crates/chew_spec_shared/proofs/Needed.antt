-- One thing is needed.
use Rattle.std.proofs.Common.{◌≡◌, ℕ, Bool, true, false, List, refl, ap, sym, ◌∙◌, Option, Some, None, is_some}
use Rattle.std.proofs.lemmas.Bool.{true≢false}
use Rattle.chew_spec_dictionary.specs.Dictionary.{Dictionary}
use Rattle.chew_spec_dictionary.specs.History.{Entry}
use Rattle.chew_spec_layers.specs.Need.{Need, Waiting, Fresh, Nothing}
use Rattle.chew_spec_shared.specs.Needs.{IsNeed, NoneTouched, SomeTouched}
use Rattle.chew_spec_shared.specs.Snapshot.{waiting_after}

module _ (start : Dictionary) (seen : List Entry) where
  apart : (number : ℕ) → waiting_after start seen ≡ Some number → waiting_after start seen ≡ None → ⊥
  apart number w n = true≢false (ap (λ (o : Option ℕ). is_some o) (sym w ∙ n))

  some-or-none : SomeTouched start seen → NoneTouched start seen → ⊥
  some-or-none s n = true≢false (sym s.2 ∙ n s.0 s.1)

  pub one-need : (need other : Need) → IsNeed start seen need → IsNeed start seen other → need ≡ other
  one-need Waiting Waiting a b = refl
  one-need Waiting Fresh a b = absurd (apart a.0 a.1 b.0)
  one-need Waiting Nothing a b = absurd (apart a.0 a.1 b.0)
  one-need Fresh Waiting a b = absurd (apart b.0 b.1 a.0)
  one-need Fresh Fresh a b = refl
  one-need Fresh Nothing a b = absurd (some-or-none a.1 b.1)
  one-need Nothing Waiting a b = absurd (apart b.0 b.1 a.0)
  one-need Nothing Fresh a b = absurd (some-or-none b.1 a.1)
  one-need Nothing Nothing a b = refl
