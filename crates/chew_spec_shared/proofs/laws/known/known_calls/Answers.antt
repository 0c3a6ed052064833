-- Each value computes.
use Rattle.std.proofs.Common.{◌≡◌, ℕ, List, [], ◌∷◌, length, refl, ap, sym, ◌∙◌, Option, Some, None, false, arith}
use Rattle.chew_spec_dictionary.specs.Call.{Reply, Rows, Look, Forget, Forgot, Freeze}
use Rattle.chew_spec_dictionary.specs.Dictionary.{learn, forget}
use Rattle.chew_spec_dictionary.specs.Growth.{reply_at}
use Rattle.chew_spec_dictionary.specs.History.{Entry, start_of}
use Rattle.chew_spec_dictionary.specs.Known.{by, ce_shi_key, hit, learn_test, test}
use Rattle.chew_spec_dictionary.specs.Look.{hits_of}
use Rattle.chew_spec_cell.proofs.Sights.{seen-all}
use Rattle.chew_spec_shared.specs.Known.{nothing, pass_with, up_to_forget, up_to_freeze, up_to_look}
use Rattle.chew_spec_shared.proofs.Asked.{asked-last, asked-own}
use Rattle.chew_spec_shared.proofs.laws.known.known_calls.Goals as goal

pub returns-clause-learn : goal.returns-clause-learn
unfolding learn
returns-clause-learn c = λ cell. record { before = []; others = seen-all 1 []; made = refl; answered = refl }

pub returns-clause-look : goal.returns-clause-look
unfolding learn hits_of
returns-clause-look c = λ cell. record {
  before = by 1 learn_test ∷ [];
  others = record { later = by 1 learn_test ∷ []; joined = refl; none = refl };
  made = refl;
  answered = refl;
}

hits_in : Option Reply → ℕ
hits_in (Some (Rows hits)) = length hits
hits_in _ = 0

pub returns-clause-stale : goal.returns-clause-stale
unfolding learn hits_of hits_in
returns-clause-stale c = λ cell a.
    let found : reply_at (start_of nothing) up_to_look 1 ≡ Some (Rows (hit 0 2 test 9318 false ∷ [])) = refl in
    let none : 1 ≡ 0 = ap hits_in (sym found ∙ asked-last (pass_with cell 2 []) (Look ce_shi_key) (Rows []) up_to_look a) in
    omega (arith, none)

pub returns-clause-freeze : goal.returns-clause-freeze
returns-clause-freeze c = λ cell. record {
  before = up_to_look;
  others = record { later = up_to_look; joined = refl; none = refl };
  made = refl;
  answered = refl;
}

pub returns-clause-forget : goal.returns-clause-forget
unfolding learn forget
returns-clause-forget c = λ cell. record {
  before = up_to_freeze;
  others = record { later = by 2 (Look ce_shi_key) ∷ by 0 Freeze ∷ []; joined = refl; none = refl };
  made = refl;
  answered = refl;
}

pub returns-clause-twice : goal.returns-clause-twice
returns-clause-twice c = λ cell a.
    let two : 2 ≡ 1 = ap (λ (l : List Entry). length l) (asked-own (pass_with cell 1 []) (Forget ce_shi_key test) Forgot up_to_forget a) in
    omega (arith, two)

pub returns-clause-install : goal.returns-clause-install
returns-clause-install c = λ cell. record {
  before = up_to_forget;
  others = record { later = by 1 (Forget ce_shi_key test) ∷ []; joined = refl; none = refl };
  made = refl;
  answered = refl;
}
