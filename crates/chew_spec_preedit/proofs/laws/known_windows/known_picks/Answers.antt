-- Each computes.
use Rattle.std.proofs.Common.{refl}
use Rattle.std.specs.Str.{chars}
use Rattle.chew_spec_preedit.specs.Window.{candidate_lists, is_window, next_page, on_page, page_before, picked, shorter}
use Rattle.chew_spec_preedit.proofs.laws.known_windows.known_picks.Goals as goal

pub returns-clause-first : goal.returns-clause-first
unfolding candidate_lists chars is_window next_page on_page page_before picked shorter
returns-clause-first c = refl

pub returns-clause-last : goal.returns-clause-last
unfolding candidate_lists chars is_window next_page on_page page_before picked shorter
returns-clause-last c = refl

pub returns-clause-none : goal.returns-clause-none
unfolding candidate_lists chars is_window next_page on_page page_before picked shorter
returns-clause-none c = refl

pub returns-clause-tenth : goal.returns-clause-tenth
unfolding candidate_lists chars is_window next_page on_page page_before picked shorter
returns-clause-tenth c = refl

pub returns-clause-eleventh : goal.returns-clause-eleventh
unfolding candidate_lists chars is_window next_page on_page page_before picked shorter
returns-clause-eleventh c = refl

pub returns-clause-at_place : goal.returns-clause-at_place
unfolding candidate_lists chars is_window next_page on_page page_before picked shorter
returns-clause-at_place c = refl

pub returns-clause-window : goal.returns-clause-window
unfolding candidate_lists chars is_window next_page on_page page_before picked shorter
returns-clause-window c = refl

pub returns-clause-past : goal.returns-clause-past
unfolding candidate_lists chars is_window next_page on_page page_before picked shorter
returns-clause-past c = refl

pub returns-clause-before : goal.returns-clause-before
unfolding candidate_lists chars is_window next_page on_page page_before picked shorter
returns-clause-before c = refl

pub returns-clause-eleven : goal.returns-clause-eleven
unfolding candidate_lists chars is_window next_page on_page page_before picked shorter
returns-clause-eleven c = refl

pub returns-clause-no_page : goal.returns-clause-no_page
unfolding candidate_lists chars is_window next_page on_page page_before picked shorter
returns-clause-no_page c = refl

pub returns-clause-no_list : goal.returns-clause-no_list
unfolding candidate_lists chars is_window next_page on_page page_before picked shorter
returns-clause-no_list c = refl
