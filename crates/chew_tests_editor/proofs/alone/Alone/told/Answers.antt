-- A call that anyone may make leaves rows.
use Rattle.std.proofs.Common.{◌≡◌, [], ◌∷◌, refl, subst, sym, true}
use Rattle.std.specs.List.{list_all}
use Rattle.std.proofs.lemmas.Bool.{and_from}
use Rattle.chew_spec_syllable.specs.Row.{is_row}
use Rattle.chew_spec_dictionary.specs.Call.{is_proper}
use Rattle.chew_spec_dictionary.specs.History.{Point}
use Rattle.chew_spec_dictionary.proofs.Legal.{user-proper}
use Rattle.chew_spec_editor.proofs.Answered.{point-rows}
use Rattle.chew_plain.specs.Call.{call_of}
use Rattle.chew_tests_editor.proofs.alone.Alone.told.Goals as goal

pub invariant_of-result : goal.invariant_of-result
invariant_of-result c = (
  c.self.invariant.0,
  subst (λ (p : Point). list_all is_row p.dictionary.pairs ≡ true) (sym c.in_ok-apply.ensures.moved)
      (point-rows c.self.inside.plain (call_of c.args.call.now ∷ [])
      (and_from (is_proper (call_of c.args.call.now)) true (user-proper (call_of c.args.call.now) c.requires) refl) c.self.invariant.1),
)
