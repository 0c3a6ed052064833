-- By computing the talks.
use Rattle.std.specs.Char.{encode_utf8}
use Rattle.std.proofs.Common.{[], ◌∷◌, refl}
use Rattle.chew_spec_dictionary.specs.Call.{Look}
use Rattle.chew_spec_dictionary.specs.FiveRows.{ce4, shi4}
use Rattle.unicode_width.proofs.Computing.{unicode_width}
use Rattle.chew_spec_editor.specs.Talk.{talk_from}
use Rattle.chew_spec_editor.proofs.Computing.{typing}
use Rattle.chew_spec_program.proofs.laws.context.known_contexts.Goals as goal

pub returns-clause-both : goal.returns-clause-both
unfolding talk_from typing unicode_width encode_utf8
returns-clause-both c = (
  record { each = refl; talked = refl; made = record { rest = []; joined = refl }; next = record { rest = []; joined = refl } },
  (record { each = refl; talked = refl; made = record { rest = []; joined = refl }; next = record { rest = []; joined = refl } }, tt),
)

pub returns-clause-before : goal.returns-clause-before
unfolding talk_from typing unicode_width encode_utf8
returns-clause-before c = record {
  each = refl;
  talked = refl;
  made = record { rest = []; joined = refl };
  next = record { rest = Look (ce4 ∷ (shi4 ∷ [])) ∷ []; joined = refl };
}

pub returns-clause-asked : goal.returns-clause-asked
unfolding talk_from typing unicode_width encode_utf8
returns-clause-asked c = record {
  each = refl;
  talked = refl;
  made = record { rest = Look (ce4 ∷ (shi4 ∷ [])) ∷ []; joined = refl };
  next = record { rest = []; joined = refl };
}

pub returns-clause-none : goal.returns-clause-none
unfolding talk_from typing
returns-clause-none c = record {
  each = refl;
  talked = refl;
  made = record { rest = []; joined = refl };
  next = record { rest = []; joined = refl };
}

pub returns-clause-taught : goal.returns-clause-taught
unfolding talk_from typing unicode_width encode_utf8
returns-clause-taught c = record {
  each = refl;
  talked = refl;
  made = record { rest = []; joined = refl };
  next = record { rest = []; joined = refl };
}
