-- Each computes.
use Rattle.std.proofs.Common.{refl}
use Rattle.std.specs.Str.{chars}
use Rattle.chew_spec_preedit.specs.Window.{candidate_lists, is_window, next_page, on_page, page_before, picked, shorter}
use Rattle.chew_spec_preedit.proofs.laws.known_windows.known_pages.Goals as goal

pub returns-clause-two : goal.returns-clause-two
unfolding candidate_lists chars is_window next_page on_page page_before picked shorter
returns-clause-two c = refl

pub returns-clause-first : goal.returns-clause-first
unfolding candidate_lists chars is_window next_page on_page page_before picked shorter
returns-clause-first c = refl

pub returns-clause-last : goal.returns-clause-last
unfolding candidate_lists chars is_window next_page on_page page_before picked shorter
returns-clause-last c = refl

pub returns-clause-next : goal.returns-clause-next
unfolding candidate_lists chars is_window next_page on_page page_before picked shorter
returns-clause-next c = refl

pub returns-clause-round : goal.returns-clause-round
unfolding candidate_lists chars is_window next_page on_page page_before picked shorter
returns-clause-round c = refl

pub returns-clause-back : goal.returns-clause-back
unfolding candidate_lists chars is_window next_page on_page page_before picked shorter
returns-clause-back c = refl

pub returns-clause-back_round : goal.returns-clause-back_round
unfolding candidate_lists chars is_window next_page on_page page_before picked shorter
returns-clause-back_round c = refl

pub returns-clause-twelve : goal.returns-clause-twelve
unfolding candidate_lists chars is_window next_page on_page page_before picked shorter
returns-clause-twelve c = refl

pub returns-clause-second : goal.returns-clause-second
unfolding candidate_lists chars is_window next_page on_page page_before picked shorter
returns-clause-second c = refl

pub returns-clause-exact : goal.returns-clause-exact
unfolding candidate_lists chars is_window next_page on_page page_before picked shorter
returns-clause-exact c = refl

pub returns-clause-all : goal.returns-clause-all
unfolding candidate_lists chars is_window next_page on_page page_before picked shorter
returns-clause-all c = refl
