use Rattle.chew_spec_editor.proofs.HiddenPhrases.{hidden-combined_hits, hidden-no_candidate, hidden-shown_where_chosen}
use Rattle.chew_spec_editor.proofs.laws.hidden.hidden_phrases_are_not_shown.Goals as goal

pub returns : goal.returns
returns c = record { rows = hidden-combined_hits; pieces = hidden-shown_where_chosen; window = hidden-no_candidate }
