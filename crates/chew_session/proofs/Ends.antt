-- Passes that come back with an end each.
use Rattle.std.specs.Prelude.{◌≡◌, suc, List, [], ◌∷◌, ◌++◌, length, refl}
use Rattle.std.proofs.Common.{sym, ap, subst}
use Rattle.chew_spec_cell.specs.Pass.{Pass}
use Rattle.chew_spec_session.specs.Session.{ContextEnd}
use Rattle.chew_session.specs.Crew.{EachAnswered}

-- as many come back as were given
pub each-long : (answers : Pass → Pass × ContextEnd → Type 0) (passes backs : List Pass) (ends : List ContextEnd) → EachAnswered answers passes backs ends
    → (length backs ≡ length passes) × (length ends ≡ length passes)
each-long answers [] [] [] each = (refl, refl)
each-long answers [] [] (e ∷ ends) each = absurd each
each-long answers [] (b ∷ backs) ends each = absurd each
each-long answers (p ∷ passes) [] ends each = absurd each
each-long answers (p ∷ passes) (b ∷ backs) [] each = absurd each
each-long answers (p ∷ passes) (b ∷ backs) (e ∷ ends) each = let rest = each-long answers passes backs ends each.1 in (ap suc rest.0, ap suc rest.1)

-- one more came back, behind the others
each-then : (answers : Pass → Pass × ContextEnd → Type 0) (passes backs : List Pass) (ends : List ContextEnd) (pass back : Pass) (end : ContextEnd) → EachAnswered answers passes backs ends
    → answers pass (back, end) → EachAnswered answers (passes ++ pass ∷ []) (backs ++ back ∷ []) (ends ++ end ∷ [])
each-then answers [] [] [] pass back end each last = (last, tt)
each-then answers [] [] (e ∷ ends) pass back end each last = absurd each
each-then answers [] (b ∷ backs) ends pass back end each last = absurd each
each-then answers (p ∷ passes) [] ends pass back end each last = absurd each
each-then answers (p ∷ passes) (b ∷ backs) [] pass back end each last = absurd each
each-then answers (p ∷ passes) (b ∷ backs) (e ∷ ends) pass back end each last = (each.0, each-then answers passes backs ends pass back end each.1 last)

pub each-one : (answers : Pass → Pass × ContextEnd → Type 0) (passes all backs longer : List Pass) (ends more : List ContextEnd) (pass back : Pass) (end : ContextEnd)
    → EachAnswered answers passes backs ends → answers pass (back, end) → all ≡ passes ++ pass ∷ [] → longer ≡ backs ++ back ∷ [] → more ≡ ends ++ end ∷ [] → EachAnswered answers all longer more
each-one answers passes all backs longer ends more pass back end each last all_is longer_is more_is =
    subst (λ (ps : List Pass). EachAnswered answers ps longer more) (sym all_is)
    (subst (λ (ps : List Pass). EachAnswered answers (passes ++ pass ∷ []) ps more) (sym longer_is)
    (subst (λ (es : List ContextEnd). EachAnswered answers (passes ++ pass ∷ []) (backs ++ back ∷ []) es) (sym more_is) (each-then answers passes backs ends pass back end each last)))

-- the last that came back, and the others
pub record LastApart (answers : Pass → Pass × ContextEnd → Type 0) (passes : List Pass) (pass : Pass) (backs : List Pass) (ends : List ContextEnd) : Type 0 where
  pub first_backs : List Pass
  pub back : Pass
  pub first_ends : List ContextEnd
  pub end : ContextEnd
  pub backs_are : backs ≡ first_backs ++ back ∷ []
  pub ends_are : ends ≡ first_ends ++ end ∷ []
  pub first : EachAnswered answers passes first_backs first_ends
  pub last : answers pass (back, end)

pub last-apart : (answers : Pass → Pass × ContextEnd → Type 0) (passes : List Pass) (pass : Pass) (backs : List Pass) (ends : List ContextEnd) → EachAnswered answers (passes ++ pass ∷ []) backs ends
    → LastApart answers passes pass backs ends
last-apart answers [] pass [] ends each = absurd each
last-apart answers [] pass (b ∷ backs) [] each = absurd each
last-apart answers [] pass (b ∷ []) (e ∷ []) each =
    record { first_backs = []; back = b; first_ends = []; end = e; backs_are = refl; ends_are = refl; first = tt; last = each.0 }
last-apart answers [] pass (b ∷ []) (e ∷ (f ∷ ends)) each = absurd each.1
last-apart answers [] pass (b ∷ (d ∷ backs)) (e ∷ ends) each = absurd each.1
last-apart answers (p ∷ passes) pass [] ends each = absurd each
last-apart answers (p ∷ passes) pass (b ∷ backs) [] each = absurd each
last-apart answers (p ∷ passes) pass (b ∷ backs) (e ∷ ends) each =
    let apart = last-apart answers passes pass backs ends each.1 in
    record {
      first_backs = b ∷ apart.first_backs;
      back = apart.back;
      first_ends = e ∷ apart.first_ends;
      end = apart.end;
      backs_are = ap (λ (ps : List Pass). b ∷ ps) apart.backs_are;
      ends_are = ap (λ (es : List ContextEnd). e ∷ es) apart.ends_are;
      first = (each.0, apart.first);
      last = apart.last;
    }

-- what every answer has, each has
pub each-has : (more : Type 0) (answers : Pass → Pass × ContextEnd → Type 0) (passes backs : List Pass) (ends : List ContextEnd)
    → EachAnswered (λ pass ended. more × answers pass ended) passes backs ends → EachAnswered answers passes backs ends
each-has more answers [] [] [] each = tt
each-has more answers [] [] (e ∷ ends) each = absurd each
each-has more answers [] (b ∷ backs) ends each = absurd each
each-has more answers (p ∷ passes) [] ends each = absurd each
each-has more answers (p ∷ passes) (b ∷ backs) [] each = absurd each
each-has more answers (p ∷ passes) (b ∷ backs) (e ∷ ends) each = (each.0.1, each-has more answers passes backs ends each.1)
