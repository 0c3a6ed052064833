use Rattle.std.specs.Prelude.{◌≡◌, ◌++◌, [], ◌∷◌, true, slice_get, Some}
use Rattle.std.proofs.Common.{refl, subst, sym}
use Rattle.std.proofs.lemmas.Bool.{and_from}
use Rattle.std.proofs.lemmas.List.{append-nil}
use Rattle.chew_spec_text.specs.KeyStroke.{is_key_stroke}
use Rattle.chew_spec_editor.specs.Answers.{AreFoundBefore}
use Rattle.chew_spec_editor.specs.Talk.{talk}
use Rattle.chew_spec_editor.proofs.Asked.{press-asks, talk-asks}
use Rattle.chew_spec_editor.proofs.laws.calls.editors_make_their_calls.Goals as goal

pub returns : goal.returns
returns c = record {
  asked = press-asks;
  talk = λ system settings keys replies k call rows h ks found e.
      let calls = (talk system settings keys replies).calls in
      let same : calls ++ [] ≡ calls = append-nil calls in
      talk-asks system settings keys [] replies k call rows h ks refl (subst (λ cs. AreFoundBefore k cs replies) (sym same) found)
      (subst (λ cs. slice_get cs k ≡ Some call) (sym same) e);
  next = λ system settings keys replies next k call rows h ks n found e.
      talk-asks system settings keys (next ∷ []) replies k call rows h ks (and_from (is_key_stroke next) true n refl) found e;
}
