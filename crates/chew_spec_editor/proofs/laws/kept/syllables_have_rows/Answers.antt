use Rattle.chew_spec_editor.proofs.Singles.{HasSingles-ask, HasSingles-done}
use Rattle.chew_spec_editor.proofs.laws.kept.syllables_have_rows.Goals as goal

pub returns : goal.returns
returns c = record { done = HasSingles-done; ask = HasSingles-ask }
