-- The pages of a window, and what its moves keep.
use Rattle.std.proofs.Common.{◌≡◌, ℕ, zero, suc, ◌+◌, ◌-◌, ◌*◌, ◌/◌, ◌<◌, ◌≤◌, Bool, true, false, cond, List, [], ◌∷◌, length, refl, ap, subst, sym, ◌∙◌, arith}
use Rattle.std.specs.Prelude.{◌==◌, nat_le, nat_lt}
use Rattle.std.specs.List.{list_all, slice_get}
use Rattle.std.specs.Option.{option_map_or}
use Rattle.std.proofs.Math.Nat.{le-div_iff_mul-le}
use Rattle.std.proofs.lemmas.Bool.{and_from, and_parts, cond_both, eqb-false, eqb-true, le-leb, leb-true, lt-ltb, ltb-true}
use Rattle.chew_spec_dictionary.specs.Call.{Hit}
use Rattle.chew_spec_preedit.specs.Window.{CandidateList, Window, has_candidate, is_falling, is_window, next_page, opened, page_before, pages_of, rows_shown, shorter}

-- there is such a page just where a candidate stands behind those of the pages before it
pub page-holds : (n per page : ℕ) → 1 ≤ per → 1 ≤ page → page ≤ (n + (per - 1)) / per → (page - 1) * per < n
page-holds n per zero p q l = absurd (omega arith)
page-holds n per (suc page) p q l =
    let whole : suc page * per ≤ n + (per - 1) = (le-div_iff_mul-le {k = per} {x = suc page} {y = n + (per - 1)} p).0 l in
    let e : suc page - 1 ≡ page = omega arith in
    subst (λ k. k * per < n) (sym e) (omega arith)

pub page-is : (n per page : ℕ) → 1 ≤ per → 1 ≤ page → (page - 1) * per < n → page ≤ (n + (per - 1)) / per
page-is n per zero p q l = absurd (omega arith)
page-is n per (suc page) p q l =
    let e : suc page - 1 ≡ page = omega arith in
    let m : page * per < n = subst (λ k. k * per < n) e l in
    (le-div_iff_mul-le {k = per} {x = suc page} {y = n + (per - 1)} p).1 (omega arith)

pub record IsWindow (window : Window) : Type 0 where
  pub falling : is_falling window.lists ≡ true
  pub filled : list_all has_candidate window.lists ≡ true
  pub some : 1 ≤ window.per_page
  pub few : window.per_page ≤ 10
  pub list : window.list < length window.lists
  pub page : 1 ≤ window.page
  pub within : window.page ≤ pages_of window

pub IsWindow-from : (window : Window) → is_window window ≡ true → IsWindow window
unfolding is_window
IsWindow-from window e =
    let falling = and_parts (is_falling window.lists) _ e in
    let filled = and_parts (list_all has_candidate window.lists) _ falling.1 in
    let some = and_parts (nat_le 1 window.per_page) _ filled.1 in
    let few = and_parts (nat_le window.per_page 10) _ some.1 in
    let list = and_parts (nat_lt window.list (length window.lists)) _ few.1 in
    let page = and_parts (nat_le 1 window.page) (nat_le window.page (pages_of window)) list.1 in
    record {
      falling = falling.0;
      filled = filled.0;
      some = leb-true 1 window.per_page some.0;
      few = leb-true window.per_page 10 few.0;
      list = ltb-true window.list (length window.lists) list.0;
      page = leb-true 1 window.page page.0;
      within = leb-true window.page (pages_of window) page.1;
    }

pub is_window-from : (window : Window) → IsWindow window → is_window window ≡ true
unfolding is_window
is_window-from window h =
    and_from (is_falling window.lists) _ h.falling
    (and_from (list_all has_candidate window.lists) _ h.filled
    (and_from (nat_le 1 window.per_page) _ (le-leb 1 window.per_page h.some)
    (and_from (nat_le window.per_page 10) _ (le-leb window.per_page 10 h.few)
    (and_from (nat_lt window.list (length window.lists)) _ (lt-ltb window.list (length window.lists) h.list)
    (and_from (nat_le 1 window.page) _ (le-leb 1 window.page h.page) (le-leb window.page (pages_of window) h.within))))))

filled_at : (lists : List CandidateList) (list : ℕ) → list_all has_candidate lists ≡ true → list < length lists → 0 < length (option_map_or (λ l. l.rows) (slice_get lists list) [])
filled_at [] list e l = absurd (omega arith)
filled_at (first ∷ lists) zero e l = ltb-true 0 (length first.rows) ((and_parts (has_candidate first) (list_all has_candidate lists) e).0)
filled_at (first ∷ lists) (suc list) e l = filled_at lists list ((and_parts (has_candidate first) (list_all has_candidate lists) e).1) (omega arith)

-- each list has a first page
pub pages-some : (window : Window) → list_all has_candidate window.lists ≡ true → 1 ≤ window.per_page → window.list < length window.lists → 1 ≤ pages_of window
pages-some window filled some l =
    let rows = filled_at window.lists window.list filled l in
    page-is (length (rows_shown window)) window.per_page 1 some (omega arith) (omega arith)

pub is_window-opened : (place : ℕ) (lists : List CandidateList) (per : ℕ) → is_falling lists ≡ true → list_all has_candidate lists ≡ true → 0 < length lists → 1 ≤ per → per ≤ 10 → is_window (opened place lists per) ≡ true
is_window-opened place lists per falling filled some p q =
    is_window-from (opened place lists per) (record {
      falling = falling;
      filled = filled;
      some = p;
      few = q;
      list = some;
      page = omega arith;
      within = pages-some (opened place lists per) filled p some;
    })

at_list : (window : Window) → IsWindow window → (list : ℕ) → list < length window.lists → is_window (record window { list = list; page = 1 }) ≡ true
at_list window h list l =
    is_window-from (record window { list = list; page = 1 }) (record {
      falling = h.falling;
      filled = h.filled;
      some = h.some;
      few = h.few;
      list = l;
      page = omega arith;
      within = pages-some (record window { list = list; page = 1 }) h.filled h.some l;
    })

pub is_window-shorter : (window : Window) → is_window window ≡ true → is_window (shorter window) ≡ true
unfolding shorter
is_window-shorter window e =
    let h = IsWindow-from window e in
    let l = h.list in
    cond_both (suc window.list == length window.lists) 0 (suc window.list) (λ list. is_window (record window { list = list; page = 1 }) ≡ true)
    (λ _. at_list window h 0 (omega arith))
    (λ n. at_list window h (suc window.list) (let m = eqb-false (suc window.list) (length window.lists) n in omega arith))

pub at_page : (window : Window) → IsWindow window → (page : ℕ) → 1 ≤ page → page ≤ pages_of window → is_window (record window { page = page }) ≡ true
at_page window h page l m =
    is_window-from (record window { page = page }) (record {
      falling = h.falling;
      filled = h.filled;
      some = h.some;
      few = h.few;
      list = h.list;
      page = l;
      within = m;
    })

pub is_window-next_page : (window : Window) → is_window window ≡ true → is_window (next_page window) ≡ true
unfolding next_page
is_window-next_page window e =
    let h = IsWindow-from window e in
    let first = pages-some window h.filled h.some h.list in
    let within = h.within in
    cond_both (window.page == pages_of window) 1 (suc window.page) (λ page. is_window (record window { page = page }) ≡ true)
    (λ _. at_page window h 1 (omega arith) first)
    (λ n. at_page window h (suc window.page) (omega arith) (let m = eqb-false window.page (pages_of window) n in omega arith))

pub is_window-page_before : (window : Window) → is_window window ≡ true → is_window (page_before window) ≡ true
unfolding page_before
is_window-page_before window e =
    let h = IsWindow-from window e in
    let first = pages-some window h.filled h.some h.list in
    let within = h.within in
    let from = h.page in
    cond_both (window.page == 1) (pages_of window) (window.page - 1) (λ page. is_window (record window { page = page }) ≡ true)
    (λ _. at_page window h (pages_of window) first (omega arith))
    (λ n. at_page window h (window.page - 1) (let m = eqb-false window.page 1 n in omega arith) (omega arith))
