-- Each computes.
use Rattle.std.proofs.Common.{refl}
use Rattle.std.specs.Str.{chars}
use Rattle.chew_spec_preedit.specs.Window.{candidate_lists, is_window, next_page, on_page, page_before, picked, shorter}
use Rattle.chew_spec_preedit.proofs.laws.known_windows.known_lists.Goals as goal

pub returns-clause-both : goal.returns-clause-both
unfolding candidate_lists chars is_window next_page on_page page_before picked shorter
returns-clause-both c = refl

pub returns-clause-parted : goal.returns-clause-parted
unfolding candidate_lists chars is_window next_page on_page page_before picked shorter
returns-clause-parted c = refl

pub returns-clause-second : goal.returns-clause-second
unfolding candidate_lists chars is_window next_page on_page page_before picked shorter
returns-clause-second c = refl

pub returns-clause-none : goal.returns-clause-none
unfolding candidate_lists chars is_window next_page on_page page_before picked shorter
returns-clause-none c = refl

pub returns-clause-lengths : goal.returns-clause-lengths
unfolding candidate_lists chars is_window next_page on_page page_before picked shorter
returns-clause-lengths c = refl

pub returns-clause-most : goal.returns-clause-most
unfolding candidate_lists chars is_window next_page on_page page_before picked shorter
returns-clause-most c = refl
