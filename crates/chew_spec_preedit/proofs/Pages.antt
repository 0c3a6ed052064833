-- The pages of a list, and how the moves go round.
use Rattle.std.proofs.Common.{◌≡◌, ◌⊎◌, inl, inr, ℕ, zero, suc, ◌+◌, ◌-◌, ◌*◌, ◌/◌, ◌<◌, ◌≤◌, min, Bool, true, false, cond, List, [], ◌∷◌, ◌++◌, length, take, drop, flat_map, Option, Some, None, refl, ap, sym, subst, ◌∙◌, arith}
use Rattle.std.specs.Prelude.{◌==◌, if◌then◌else◌}
use Rattle.std.specs.Fn.{iterate}
use Rattle.std.specs.List.{range_with_len, slice_get}
use Rattle.std.specs.Option.{option_map}
use Rattle.std.proofs.Math.Nat.{le-div_iff_mul-le}
use Rattle.std.proofs.Math.Seq.{take-add}
use Rattle.std.proofs.lemmas.Bool.{cases_eq, cases_lt, cond-false, cond-true, eq-eqb, ne_eqb}
use Rattle.std.proofs.lemmas.List.{drop-drop, length-drop, length-take, take_all}
use Rattle.std.proofs.lemmas.Option.{slice_get_past}
use Rattle.chew_spec_dictionary.specs.Call.{Hit}
use Rattle.chew_spec_preedit.specs.Window.{CandidateList, Window, choice_of, is_window, next_page, on_page, opened, page_before, pages_of, picked, rows_shown, shorter}
use Rattle.chew_spec_preedit.proofs.Places.{slice_get-drop}
use Rattle.chew_spec_preedit.proofs.Windows.{IsWindow, IsWindow-from, page-holds, pages-some}

-- some pages one after another are the rows from the first of them on
pages_joined : {X : Type 0} (per : ℕ) (xs : List X) (n page : ℕ) → 1 ≤ page → flat_map (λ p. take per (drop ((p - 1) * per) xs)) (range_with_len page n) ≡ take (n * per) (drop ((page - 1) * per) xs)
pages_joined per xs zero page l = ap (λ k. take k (drop ((page - 1) * per) xs)) (let e : 0 ≡ 0 * per = omega arith in e)
pages_joined per xs (suc n) page l =
    let at = (page - 1) * per in
    let next : (page + 1 - 1) * per ≡ at + per = next_start per page l in
    ap (λ ys. take per (drop at xs) ++ ys) (pages_joined per xs n (page + 1) (omega arith) ∙ (ap (λ k. take (n * per) (drop k xs)) next ∙ ap (take (n * per)) (sym (drop-drop per at xs))))
    ∙ (sym (take-add per (n * per) (drop at xs)) ∙ ap (λ k. take k (drop at xs)) (let e : per + n * per ≡ suc n * per = omega arith in e))
  where
    next_start : (per page : ℕ) → 1 ≤ page → (page + 1 - 1) * per ≡ (page - 1) * per + per
    next_start per zero l = absurd (omega arith)
    next_start per (suc page) l =
        ap (λ k. k * per) (let e : suc page + 1 - 1 ≡ suc page = omega arith in e)
        ∙ (let e : suc page * per ≡ page * per + per = omega arith in e ∙ ap (λ k. k * per + per) (let f : page ≡ suc page - 1 = omega arith in f))

enough_of : (n per pages : ℕ) → 1 ≤ per → pages ≡ (n + (per - 1)) / per → (pages * per < n) ⊎ (n ≤ pages * per) → n ≤ pages * per
enough_of n per pages p e (inr l) = l
enough_of n per pages p e (inl l) =
    let more : suc pages ≤ (n + (per - 1)) / per = (le-div_iff_mul-le {k = per} {x = suc pages} {y = n + (per - 1)} p).1 (omega arith) in
    absurd (omega arith)

enough : (n per : ℕ) → 1 ≤ per → n ≤ ((n + (per - 1)) / per) * per
enough n per p = enough_of n per ((n + (per - 1)) / per) p refl (cases_lt (((n + (per - 1)) / per) * per) n)

slice_get-take : {X : Type 0} (xs : List X) (n k : ℕ) → k < n → slice_get (take n xs) k ≡ slice_get xs k
slice_get-take xs zero k l = absurd (omega arith)
slice_get-take [] (suc n) k l = refl
slice_get-take (x ∷ xs) (suc n) zero l = refl
slice_get-take (x ∷ xs) (suc n) (suc k) l = slice_get-take xs n k (omega arith)

pub pages-all : (window : Window) → 1 ≤ window.per_page → flat_map (λ page. on_page (record window { page = page })) (range_with_len 1 (pages_of window)) ≡ rows_shown window
unfolding on_page
pages-all window p =
    let rows = rows_shown window in
    pages_joined window.per_page rows (pages_of window) 1 (omega arith)
    ∙ (ap (λ k. take (pages_of window * window.per_page) (drop k rows)) (let e : (1 - 1) * window.per_page ≡ 0 = omega arith in e)
    ∙ take_all (pages_of window * window.per_page) rows (enough (length rows) window.per_page p))

pub on_page-some : (window : Window) → is_window window ≡ true → 0 < length (on_page window)
unfolding on_page
on_page-some window e =
    let h = IsWindow-from window e in
    let rows = rows_shown window in
    let at = (window.page - 1) * window.per_page in
    let within : at < length rows = page-holds (length rows) window.per_page window.page h.some h.page h.within in
    let some = h.some in
    omega (arith, length-take window.per_page (drop at rows), length-drop at rows)

pub on_page-most : (window : Window) → length (on_page window) ≤ window.per_page
unfolding on_page
on_page-most window = omega (arith, length-take window.per_page (drop ((window.page - 1) * window.per_page) (rows_shown window)))

at_page : (window : Window) (page : ℕ) → page ≡ window.page → record window { page = page } ≡ window
at_page window page e = ap (λ (p : ℕ). record window { page = p }) e

pub back-next : (window : Window) → is_window window ≡ true → page_before (next_page window) ≡ window
unfolding page_before next_page
back-next window e =
    let h = IsWindow-from window e in
    let within = h.within in
    let page = h.page in
    elim (cases_eq window.page (pages_of window)) [
      | inl f ↦ ap page_before (ap (λ (p : ℕ). record window { page = p }) (cond-true (window.page == pages_of window) 1 (suc window.page) (eq-eqb window.page (pages_of window) f)))
          ∙ at_page window _ (sym f)
      | inr ne ↦ ap page_before (ap (λ (p : ℕ). record window { page = p }) (cond-false (window.page == pages_of window) 1 (suc window.page) (ne_eqb window.page (pages_of window) ne)))
          ∙ at_page window _ (cond-false (suc window.page == 1) (pages_of window) (suc window.page - 1) (ne_eqb (suc window.page) 1 (λ g. absurd (omega arith))) ∙ (let g : suc window.page - 1 ≡ window.page = omega arith in g))
    ]

pub next-back : (window : Window) → is_window window ≡ true → next_page (page_before window) ≡ window
unfolding page_before next_page
next-back window e =
    let h = IsWindow-from window e in
    let within = h.within in
    let page = h.page in
    elim (cases_eq window.page 1) [
      | inl f ↦ ap next_page (ap (λ (p : ℕ). record window { page = p }) (cond-true (window.page == 1) (pages_of window) (window.page - 1) (eq-eqb window.page 1 f)))
          ∙ at_page window _ (cond-true (pages_of window == pages_of window) 1 (suc (pages_of window)) (eq-eqb (pages_of window) (pages_of window) refl) ∙ sym f)
      | inr ne ↦ ap next_page (ap (λ (p : ℕ). record window { page = p }) (cond-false (window.page == 1) (pages_of window) (window.page - 1) (ne_eqb window.page 1 ne)))
          ∙ at_page window _ (cond-false (window.page - 1 == pages_of window) 1 (suc (window.page - 1)) (ne_eqb (window.page - 1) (pages_of window) (λ g. absurd (omega arith))) ∙ (let g : suc (window.page - 1) ≡ window.page = omega arith in g))
    ]

stepped_page : (window : Window) (page : ℕ) → page < pages_of window → next_page (record window { page = page }) ≡ record window { page = suc page }
unfolding next_page
stepped_page window page l = ap (λ (p : ℕ). record window { page = p }) (cond-false (page == pages_of window) 1 (suc page) (ne_eqb page (pages_of window) (λ g. absurd (omega arith))))

follow_pages : (window : Window) (k page : ℕ) (w : Window) → w ≡ record window { page = page } → page + k ≤ pages_of window → iterate next_page k w ≡ record window { page = page + k }
follow_pages window zero page w e m = e ∙ ap (λ (p : ℕ). record window { page = p }) (let f : page ≡ page + 0 = omega arith in f)
follow_pages window (suc k) page w e m =
    follow_pages window k (suc page) (next_page w) (ap next_page e ∙ stepped_page window page (omega arith)) (omega arith)
    ∙ ap (λ (p : ℕ). record window { page = p }) (let f : suc page + k ≡ page + suc k = omega arith in f)

pub pages-follow : (window : Window) (k : ℕ) → 1 ≤ window.page → window.page + k ≤ pages_of window → iterate next_page k window ≡ record window { page = window.page + k }
pages-follow window k l m = follow_pages window k window.page window refl m

stepped_list : (place : ℕ) (lists : List CandidateList) (per list : ℕ) → suc list < length lists → shorter (record (opened place lists per) { list = list }) ≡ record (opened place lists per) { list = suc list }
unfolding shorter
stepped_list place lists per list l = ap (λ (n : ℕ). record (opened place lists per) { list = n }) (cond-false (suc list == length lists) 0 (suc list) (ne_eqb (suc list) (length lists) (λ g. absurd (omega arith))))

follow_lists : (place : ℕ) (lists : List CandidateList) (per k list : ℕ) (w : Window) → w ≡ record (opened place lists per) { list = list } → list + k < length lists → iterate shorter k w ≡ record (opened place lists per) { list = list + k }
follow_lists place lists per zero list w e m = e ∙ ap (λ (n : ℕ). record (opened place lists per) { list = n }) (let f : list ≡ list + 0 = omega arith in f)
follow_lists place lists per (suc k) list w e m =
    follow_lists place lists per k (suc list) (shorter w) (ap shorter e ∙ stepped_list place lists per list (omega arith)) (omega arith)
    ∙ ap (λ (n : ℕ). record (opened place lists per) { list = n }) (let f : suc list + k ≡ list + suc k = omega arith in f)

pub lists-follow : (place : ℕ) (lists : List CandidateList) (per k : ℕ) → k < length lists → iterate shorter k (opened place lists per) ≡ record (opened place lists per) { list = k }
lists-follow place lists per k l =
    follow_lists place lists per k 0 (opened place lists per) refl (omega arith) ∙ ap (λ (n : ℕ). record (opened place lists per) { list = n }) (let f : 0 + k ≡ k = omega arith in f)

pub first-page : (window : Window) → window.page ≡ pages_of window → next_page window ≡ record window { page = 1 }
unfolding next_page
first-page window e = ap (λ (p : ℕ). record window { page = p }) (cond-true (window.page == pages_of window) 1 (suc window.page) (eq-eqb window.page (pages_of window) e))

pub longest-list : (window : Window) → window.list + 1 ≡ length window.lists → shorter window ≡ opened window.place window.lists window.per_page
unfolding shorter
longest-list window e = ap (λ (l : ℕ). record window { list = l; page = 1 }) (cond-true (suc window.list == length window.lists) 0 (suc window.list) (eq-eqb (suc window.list) (length window.lists) (omega arith)))

pub picked-some : (window : Window) (k : ℕ) (hit : Hit) → k < window.per_page → slice_get (rows_shown window) ((window.page - 1) * window.per_page + k) ≡ Some hit → picked window k ≡ Some (choice_of window.place hit)
unfolding picked on_page
picked-some window k hit l e =
    let at = (window.page - 1) * window.per_page in
    ap (option_map (choice_of window.place)) (slice_get-take (drop at (rows_shown window)) window.per_page k l ∙ (slice_get-drop (rows_shown window) at k (at + k) refl ∙ e))

pub picked-none : (window : Window) (k : ℕ) → (window.per_page ≤ k) ⊎ (length (rows_shown window) ≤ (window.page - 1) * window.per_page + k) → picked window k ≡ None
unfolding picked on_page
picked-none window k h =
    let at = (window.page - 1) * window.per_page in
    ap (option_map (choice_of window.place)) (slice_get_past (take window.per_page (drop at (rows_shown window))) k
    (elim h [
      | inl l ↦ omega (arith, length-take window.per_page (drop at (rows_shown window)))
      | inr l ↦ omega (arith, length-take window.per_page (drop at (rows_shown window)), length-drop at (rows_shown window))
    ]))
