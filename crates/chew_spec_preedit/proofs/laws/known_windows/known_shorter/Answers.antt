-- Each computes.
use Rattle.std.proofs.Common.{refl}
use Rattle.std.specs.Str.{chars}
use Rattle.chew_spec_preedit.specs.Window.{candidate_lists, is_window, next_page, on_page, page_before, picked, shorter}
use Rattle.chew_spec_preedit.proofs.laws.known_windows.known_shorter.Goals as goal

pub returns-clause-once : goal.returns-clause-once
unfolding candidate_lists chars is_window next_page on_page page_before picked shorter
returns-clause-once c = refl

pub returns-clause-twice : goal.returns-clause-twice
unfolding candidate_lists chars is_window next_page on_page page_before picked shorter
returns-clause-twice c = refl

pub returns-clause-rising : goal.returns-clause-rising
unfolding candidate_lists chars is_window next_page on_page page_before picked shorter
returns-clause-rising c = refl

pub returns-clause-same : goal.returns-clause-same
unfolding candidate_lists chars is_window next_page on_page page_before picked shorter
returns-clause-same c = refl

pub returns-clause-empty : goal.returns-clause-empty
unfolding candidate_lists chars is_window next_page on_page page_before picked shorter
returns-clause-empty c = refl
