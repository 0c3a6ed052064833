use Rattle.chew_spec_editor.proofs.Phrasing.{all-lists, all-rows, only-lists}
use Rattle.chew_spec_editor.proofs.laws.shown.windows_show_all_candidates.Goals as goal

pub returns : goal.returns
returns c = record { lists = all-lists; only = only-lists; rows = all-rows }
