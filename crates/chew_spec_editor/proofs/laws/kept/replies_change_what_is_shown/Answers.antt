use Rattle.std.proofs.Common.{refl}
use Rattle.chew_spec_editor.specs.Editor.{line_of}
use Rattle.chew_spec_editor.specs.Finish.{finish}
use Rattle.chew_spec_editor.proofs.laws.kept.replies_change_what_is_shown.Goals as goal

pub returns : goal.returns
unfolding finish line_of
returns c = record {
  settings = λ system pending replies. refl;
  layout = λ system pending replies. refl;
  buffer = λ system pending replies. refl;
  commit = λ system pending replies. refl;
}
