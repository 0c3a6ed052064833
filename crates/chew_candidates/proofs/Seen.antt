-- What holds of a value that is seen as a window.
use Rattle.std.proofs.Common.{◌≡◌, ℕ, suc, ◌+◌, ◌-◌, ◌*◌, ◌<◌, ◌≤◌, true, List, length, take, drop, ap, subst, sym, ◌∙◌, arith}
use Rattle.std.specs.Prelude.{◌==◌, if◌then◌else◌}
use Rattle.chew_spec_dictionary.specs.Call.{Hit}
use Rattle.chew_spec_preedit.specs.Window.{CandidateList, Window, is_window, next_page, on_page, page_before, pages_of, rows_shown, shorter}
use Rattle.chew_spec_preedit.proofs.Windows.{IsWindow-from, page-holds}

-- the page begins among the rows
pub start-within : (seen now : Window) (rows : List Hit) (per : ℕ) → seen ≡ now → is_window seen ≡ true → rows ≡ rows_shown now → per ≡ seen.per_page → (seen.page - 1) * per < length rows
start-within seen now rows per same e r p =
    let h = IsWindow-from seen e in
    subst (λ (k : ℕ). (seen.page - 1) * k < length rows) (sym p)
    (subst (λ (rs : List Hit). (seen.page - 1) * seen.per_page < length rs) (sym (r ∙ ap rows_shown (sym same)))
    (page-holds (length (rows_shown seen)) seen.per_page seen.page h.some h.page h.within))

pub on_page-seen : (seen now : Window) (rows : List Hit) (per : ℕ) → seen ≡ now → rows ≡ rows_shown now → per ≡ seen.per_page → take per (drop ((seen.page - 1) * per) rows) ≡ on_page now
unfolding on_page
on_page-seen seen now rows per same r p =
    ap (λ k. take k (drop ((seen.page - 1) * k) rows)) p
    ∙ (ap (λ rs. take seen.per_page (drop ((seen.page - 1) * seen.per_page) rs)) (r ∙ ap rows_shown (sym same))
    ∙ ap on_page same)

pub next_page-seen : (place : ℕ) (lists : List CandidateList) (per list page : ℕ) (now : Window) (was pages to : ℕ) → (let seen : Window = record { place = place; lists = lists; per_page = per; list = list; page = page } in seen ≡ now)
    → was ≡ now.page → pages ≡ pages_of now → to ≡ (if was == pages then 1 else suc was)
    → (let moved : Window = record { place = place; lists = lists; per_page = per; list = list; page = to } in moved ≡ next_page now)
unfolding next_page
next_page-seen place lists per list page now was pages to same w n e =
    ap (λ (p : ℕ). let moved : Window = record { place = place; lists = lists; per_page = per; list = list; page = p } in moved)
    (e ∙ (ap (λ (p : ℕ). (if p == pages then 1 else suc p)) w ∙ ap (λ (n : ℕ). (if now.page == n then 1 else suc now.page)) n))
    ∙ ap (λ (w : Window). record w { page = (if now.page == (pages_of now) then 1 else suc now.page) }) same

pub page_before-seen : (place : ℕ) (lists : List CandidateList) (per list page : ℕ) (now : Window) (was pages to : ℕ) → (let seen : Window = record { place = place; lists = lists; per_page = per; list = list; page = page } in seen ≡ now)
    → was ≡ now.page → pages ≡ pages_of now → to ≡ (if was == 1 then pages else was - 1)
    → (let moved : Window = record { place = place; lists = lists; per_page = per; list = list; page = to } in moved ≡ page_before now)
unfolding page_before
page_before-seen place lists per list page now was pages to same w n e =
    ap (λ (p : ℕ). let moved : Window = record { place = place; lists = lists; per_page = per; list = list; page = p } in moved)
    (e ∙ (ap (λ (p : ℕ). (if p == 1 then pages else p - 1)) w ∙ ap (λ (n : ℕ). (if now.page == 1 then n else now.page - 1)) n))
    ∙ ap (λ (w : Window). record w { page = (if now.page == 1 then (pages_of now) else now.page - 1) }) same

pub shorter-seen : (place : ℕ) (lists : List CandidateList) (per list page : ℕ) (now : Window) (shown : List CandidateList) (to : ℕ) → (let seen : Window = record { place = place; lists = lists; per_page = per; list = list; page = page } in seen ≡ now)
    → shown ≡ lists → to ≡ (if suc list == length shown then 0 else suc list)
    → (let moved : Window = record { place = place; lists = lists; per_page = per; list = to; page = 1 } in moved ≡ shorter now)
unfolding shorter
shorter-seen place lists per list page now shown to same r e =
    ap (λ (l : ℕ). let moved : Window = record { place = place; lists = lists; per_page = per; list = l; page = 1 } in moved)
    (e ∙ ap (λ (ls : List CandidateList). if suc list == length ls then 0 else suc list) r)
    ∙ ap (λ (w : Window). record w { list = if suc w.list == length w.lists then 0 else suc w.list; page = 1 }) same
