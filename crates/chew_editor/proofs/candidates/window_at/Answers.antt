-- The lists are by length falling, and each has a candidate.
use Rattle.std.proofs.Common.{List, ap, ◌∙◌}
use Rattle.std.specs.List.{list_all}
use Rattle.chew_spec_preedit.specs.Window.{CandidateList, has_candidate, is_falling}
use Rattle.chew_spec_editor.proofs.Opened.{falling-candidate_lists}
use Rattle.chew_editor.proofs.CandidateLists.{lists-filled}
use Rattle.chew_editor.proofs.candidates.window_at.Goals as goal

pub show-requires-clause-falling : goal.show-requires-clause-falling
show-requires-clause-falling g c = ap (λ (lists : List CandidateList). is_falling lists) c.in_ok-lists.ensures ∙ falling-candidate_lists _ _ _ _

pub show-requires-clause-filled : goal.show-requires-clause-filled
show-requires-clause-filled g c = ap (λ (lists : List CandidateList). list_all has_candidate lists) c.in_ok-lists.ensures ∙ lists-filled _ _ _ _
