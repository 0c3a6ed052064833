-- The moves of a window leave a window, and what it picks may be chosen.
use Rattle.std.specs.Prelude.{◌≡◌, ℕ, zero, suc, ◌-◌, ◌*◌, Bool, true, List, [], ◌∷◌, drop, take, slice_get, Option, Some, None, option_and_then, option_map}
use Rattle.std.specs.Option.{option_map_or}
use Rattle.std.specs.List.{list_all}
use Rattle.std.proofs.Common.{refl}
use Rattle.std.proofs.lemmas.Bool.{and_from, and_parts}
use Rattle.chew_spec_dictionary.specs.Call.{Hit}
use Rattle.chew_spec_phrasing.specs.Usable.{Choice}
use Rattle.chew_spec_preedit.specs.Buffer.{Buffer, is_choice_of}
use Rattle.chew_spec_preedit.specs.Window.{CandidateList, Window, choice_of, is_window, next_page, on_page, page_before, picked, rows_shown, shorter}
use Rattle.chew_spec_preedit.proofs.Windows.{is_window-next_page, is_window-page_before, is_window-shorter}
use Rattle.chew_spec_preedit.proofs.Parts.{list_all-drop, list_all-take}
use Rattle.chew_spec_editor.specs.Invariant.{has_choices, is_window_over}

-- the same over a buffer: the lists and their place stay
pub over-shorter : (buffer : Buffer) (window : Window) → is_window_over buffer window ≡ true → is_window_over buffer (shorter window) ≡ true
unfolding shorter
over-shorter buffer window e =
    let parts = and_parts (is_window window) (has_choices buffer window) e in
    and_from (is_window (shorter window)) (has_choices buffer (shorter window)) (is_window-shorter window parts.0) parts.1

pub over-next_page : (buffer : Buffer) (window : Window) → is_window_over buffer window ≡ true → is_window_over buffer (next_page window) ≡ true
unfolding next_page
over-next_page buffer window e =
    let parts = and_parts (is_window window) (has_choices buffer window) e in
    and_from (is_window (next_page window)) (has_choices buffer (next_page window)) (is_window-next_page window parts.0) parts.1

pub over-page_before : (buffer : Buffer) (window : Window) → is_window_over buffer window ≡ true → is_window_over buffer (page_before window) ≡ true
unfolding page_before
over-page_before buffer window e =
    let parts = and_parts (is_window window) (has_choices buffer window) e in
    and_from (is_window (page_before window)) (has_choices buffer (page_before window)) (is_window-page_before window parts.0) parts.1

-- what the rows of all lists pass, those of one pass
rows-of : (q : Hit → Bool) (lists : List CandidateList) (at : ℕ) → list_all (λ list. list_all q list.rows) lists ≡ true
    → list_all q (option_map_or (λ list. list.rows) (slice_get lists at) []) ≡ true
rows-of q [] at e = refl
rows-of q (list ∷ lists) zero e = (and_parts (list_all q list.rows) (list_all (λ l. list_all q l.rows) lists) e).0
rows-of q (list ∷ lists) (suc at) e = rows-of q lists at ((and_parts (list_all q list.rows) (list_all (λ l. list_all q l.rows) lists) e).1)

-- what all rows pass as choices, the one at a place passes
one-of : (q : Choice → Bool) (place : ℕ) (hits : List Hit) (k : ℕ) → list_all (λ hit. q (choice_of place hit)) hits ≡ true
    → option_map_or q (option_map (choice_of place) (slice_get hits k)) true ≡ true
one-of q place [] k e = refl
one-of q place (hit ∷ hits) zero e = (and_parts (q (choice_of place hit)) (list_all (λ h. q (choice_of place h)) hits) e).0
one-of q place (hit ∷ hits) (suc k) e = one-of q place hits k ((and_parts (q (choice_of place hit)) (list_all (λ h. q (choice_of place h)) hits) e).1)

-- what is picked may be chosen
picked-choice : (buffer : Buffer) (window : Window) (k : ℕ) → is_window_over buffer window ≡ true
    → option_map_or (is_choice_of buffer.cells buffer.breaks) (picked window k) true ≡ true
unfolding picked on_page
picked-choice buffer window k e =
    let q = is_choice_of buffer.cells buffer.breaks in
    let choices = (and_parts (is_window window) (has_choices buffer window) e).1 in
    one-of q window.place (take window.per_page (drop ((window.page - 1) * window.per_page) (rows_shown window))) k
    (list_all-take (λ hit. q (choice_of window.place hit)) window.per_page (drop ((window.page - 1) * window.per_page) (rows_shown window))
    (list_all-drop (λ hit. q (choice_of window.place hit)) ((window.page - 1) * window.per_page) (rows_shown window)
    (rows-of (λ hit. q (choice_of window.place hit)) window.lists window.list choices)))

pub picked-choice_at : (buffer : Buffer) (window : Window) (at : Option ℕ) → is_window_over buffer window ≡ true
    → option_map_or (is_choice_of buffer.cells buffer.breaks) (option_and_then (picked window) at) true ≡ true
picked-choice_at buffer window None e = refl
picked-choice_at buffer window (Some k) e = picked-choice buffer window k e
