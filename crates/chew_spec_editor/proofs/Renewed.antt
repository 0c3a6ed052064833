-- Pieces of which those of one run are new cover the same places.
use Rattle.std.specs.Prelude.{◌≡◌, ℕ, suc, ◌+◌, ◌-◌, ◌<◌, ◌≤◌, Bool, true, false, not, List, [], ◌∷◌, ◌++◌, filter, flat_map, length, ◌==◌, nat_le, nat_lt}
use Rattle.std.specs.List.{list_all}
use Rattle.std.proofs.Common.{refl, ap, ap₂, sym, ◌∙◌, arith, append-nil}
use Rattle.std.proofs.lemmas.Bool.{and_from, and_parts, both_ways, cond_both, eq-eqb, leb-false, leb-true, le-leb, lt-leb, le-ltb, lt-ltb, ltb-true, not-true}
use Rattle.std.proofs.lemmas.List.Concat.{flat_map-append}
use Rattle.std.proofs.lemmas.List.Elements.{filter-append}
use Rattle.std.proofs.lemmas.List.Folds.{list_all-append}
use Rattle.chew_spec_phrasing.specs.Usable.{Piece, phrase_len}
use Rattle.chew_spec_preedit.specs.PlacedRun.{PlacedRun, run_end}
use Rattle.chew_spec_preedit.proofs.Kept.{list_all-join, list_all-weaker}
use Rattle.chew_spec_preedit.proofs.Parts.{filter-all, filter-none}
use Rattle.chew_spec_editor.specs.Finish.{renewed}
use Rattle.chew_spec_editor.specs.Invariant.{is_piece, piece_places, run_places}
use Rattle.chew_spec_editor.proofs.PlacedRuns.{IsAmong, apart-end, apart-start}
use Rattle.chew_spec_editor.proofs.SoundPlaces.{range-all, range-each}

-- where a piece ends
abbrev pub piece_end : Piece → ℕ
piece_end piece = piece.start + phrase_len piece.phrase

-- a piece without the place before an end reaches to it or not beyond its start
pub not-across : (piece : Piece) (end : ℕ) → list_all (λ p. not (suc p == end)) (piece_places piece) ≡ true → end < piece_end piece → end ≤ piece.start
not-across piece end e l =
    by_cases (nat_le end piece.start) refl
  where
    by_cases : (b : Bool) → nat_le end piece.start ≡ b → end ≤ piece.start
    by_cases true f = leb-true end piece.start f
    by_cases false f =
        let m = leb-false end piece.start f in
        let apart = range-each (λ p. not (suc p == end)) piece.start (phrase_len piece.phrase) (end - 1) e (omega arith) (omega arith) in
        absurd (both_ways (suc (end - 1) == end) (not-true (suc (end - 1) == end) apart) (eq-eqb (suc (end - 1)) end (omega arith)))

not-over : (piece : Piece) (end : ℕ) → list_all (λ p. not (p == end)) (piece_places piece) ≡ true → piece.start < end → piece_end piece ≤ end
not-over piece end e l =
    by_cases (nat_le (piece_end piece) end) refl
  where
    by_cases : (b : Bool) → nat_le (piece_end piece) end ≡ b → piece_end piece ≤ end
    by_cases true f = leb-true (piece_end piece) end f
    by_cases false f =
        let m = leb-false (piece_end piece) end f in
        let apart = range-each (λ p. not (p == end)) piece.start (phrase_len piece.phrase) end e (omega arith) (omega arith) in
        absurd (both_ways (end == end) (not-true (end == end) apart) (eq-eqb end end refl))

-- the pieces before a place have the places before it
pub front-pieces : (end : ℕ) (pieces : List Piece) → list_all (λ p. not (suc p == end)) (flat_map piece_places pieces) ≡ true
    → flat_map piece_places (filter (λ piece. nat_le (piece_end piece) end) pieces) ≡ filter (λ p. nat_lt p end) (flat_map piece_places pieces)
front-pieces end [] e = refl
front-pieces end (piece ∷ pieces) e =
    let q = λ (p : ℕ). not (suc p == end) in
    let below = λ (p : ℕ). nat_lt p end in
    let parts = and_parts (list_all q (piece_places piece)) (list_all q (flat_map piece_places pieces)) (sym (list_all-append q (piece_places piece) (flat_map piece_places pieces)) ∙ e) in
    let rest = front-pieces end pieces parts.1 in
    let len = phrase_len piece.phrase in
    let places = piece_places piece in
    cond_both (nat_le (piece_end piece) end) (piece ∷ filter (λ piece. nat_le (piece_end piece) end) pieces) (filter (λ piece. nat_le (piece_end piece) end) pieces)
    (λ ps. flat_map piece_places ps ≡ filter (λ p. nat_lt p end) (piece_places piece ++ flat_map piece_places pieces))
    (λ f. let l = leb-true (piece_end piece) end f in
    ap₂ (λ ps qs. ps ++ qs)
    (sym (filter-all below below (λ p m. m) places (range-all below piece.start len (λ k _ m. lt-ltb k end (omega arith))))) rest
    ∙ sym (filter-append below places (flat_map piece_places pieces)))
    (λ f. let l = leb-false (piece_end piece) end f in
    let m = not-across piece end parts.0 l in
    let above = λ (p : ℕ). nat_le end p in
    ap₂ (λ ps qs. ps ++ qs)
    (sym (filter-none above below (λ p n. le-ltb p end (leb-true end p n)) places (range-all above piece.start len (λ k n _. le-leb end k (omega arith))))) rest
    ∙ sym (filter-append below places (flat_map piece_places pieces)))

-- and those behind a place the places behind it
pub back-pieces : (end : ℕ) (pieces : List Piece) → list_all (λ p. not (p == end)) (flat_map piece_places pieces) ≡ true
    → flat_map piece_places (filter (λ piece. nat_le end piece.start) pieces) ≡ filter (λ p. nat_le end p) (flat_map piece_places pieces)
back-pieces end [] e = refl
back-pieces end (piece ∷ pieces) e =
    let q = λ (p : ℕ). not (p == end) in
    let above = λ (p : ℕ). nat_le end p in
    let parts = and_parts (list_all q (piece_places piece)) (list_all q (flat_map piece_places pieces)) (sym (list_all-append q (piece_places piece) (flat_map piece_places pieces)) ∙ e) in
    let rest = back-pieces end pieces parts.1 in
    let len = phrase_len piece.phrase in
    let places = piece_places piece in
    cond_both (nat_le end piece.start) (piece ∷ filter (λ piece. nat_le end piece.start) pieces) (filter (λ piece. nat_le end piece.start) pieces)
    (λ ps. flat_map piece_places ps ≡ filter (λ p. nat_le end p) (piece_places piece ++ flat_map piece_places pieces))
    (λ f. let l = leb-true end piece.start f in
    ap₂ (λ ps qs. ps ++ qs)
    (sym (filter-all above above (λ p m. m) places (range-all above piece.start len (λ k m _. le-leb end k (omega arith))))) rest
    ∙ sym (filter-append above places (flat_map piece_places pieces)))
    (λ f. let l = leb-false end piece.start f in
    let m = not-over piece end parts.0 l in
    let below = λ (p : ℕ). nat_lt p end in
    ap₂ (λ ps qs. ps ++ qs)
    (sym (filter-none below above (λ p n. lt-leb end p (ltb-true p end n)) places (range-all below piece.start len (λ k _ n. lt-ltb k end (omega arith))))) rest
    ∙ sym (filter-append above places (flat_map piece_places pieces)))

-- of the places of runs, those before a run are those of the runs before it
front-places : (before : List PlacedRun) (run : PlacedRun) (behind : List PlacedRun) → IsAmong before run behind
    → filter (λ p. nat_lt p run.start) (flat_map run_places (before ++ run ∷ behind)) ≡ flat_map run_places before
front-places before run behind h =
    let keep = λ (p : ℕ). nat_lt p run.start in
    let front = flat_map run_places before in
    let rest = run_places run ++ flat_map run_places behind in
    let above = λ (p : ℕ). nat_le run.start p in
    ap (filter keep) (flat_map-append run_places before (run ∷ behind))
    ∙ (filter-append keep front rest
    ∙ (ap₂ (λ ps qs. ps ++ qs)
    (filter-all (λ p. nat_lt (suc p) run.start) keep (λ p l. lt-ltb p run.start (let m = ltb-true (suc p) run.start l in omega arith)) front h.front)
    (filter-none above keep (λ p l. le-ltb p run.start (leb-true run.start p l)) rest
    (list_all-join above (run_places run) (flat_map run_places behind)
    (range-all above run.start (length run.codes) (λ k l _. le-leb run.start k l))
    (list_all-weaker (λ p. nat_le (suc (run_end run)) p) above (λ p l. le-leb run.start p (let m = leb-true (suc (run_end run)) p l in omega arith)) (flat_map run_places behind) h.back)))
    ∙ append-nil front))

back-places : (before : List PlacedRun) (run : PlacedRun) (behind : List PlacedRun) → IsAmong before run behind
    → filter (λ p. nat_le (run_end run) p) (flat_map run_places (before ++ run ∷ behind)) ≡ flat_map run_places behind
back-places before run behind h =
    let keep = λ (p : ℕ). nat_le (run_end run) p in
    let front = flat_map run_places before in
    let back = flat_map run_places behind in
    let own = run_places run in
    let below = λ (p : ℕ). nat_lt p (run_end run) in
    ap (filter keep) (flat_map-append run_places before (run ∷ behind))
    ∙ (filter-append keep front (own ++ back)
    ∙ ap₂ (λ ps qs. ps ++ qs)
    (filter-none (λ p. nat_lt (suc p) run.start) keep (λ p l. lt-leb (run_end run) p (let m = ltb-true (suc p) run.start l in omega arith)) front h.front)
    (filter-append keep own back
    ∙ ap₂ (λ ps qs. ps ++ qs)
    (filter-none below keep (λ p l. lt-leb (run_end run) p (ltb-true p (run_end run) l)) own (range-all below run.start (length run.codes) (λ k _ l. lt-ltb k (run_end run) l)))
    (filter-all (λ p. nat_le (suc (run_end run)) p) keep (λ p l. le-leb (run_end run) p (let m = leb-true (suc (run_end run)) p l in omega arith)) back h.back)))

-- pieces that cover runs cover them still with others of one run
pub renewed-covers : (before : List PlacedRun) (run : PlacedRun) (behind : List PlacedRun) (best pieces : List Piece) → IsAmong before run behind
    → flat_map piece_places pieces ≡ flat_map run_places (before ++ run ∷ behind) → flat_map piece_places best ≡ run_places run
    → flat_map piece_places (renewed run best pieces) ≡ flat_map run_places (before ++ run ∷ behind)
renewed-covers before run behind best pieces h all own =
    let front = filter (λ piece. nat_le (piece_end piece) run.start) pieces in
    let back = filter (λ piece. nat_le (run_end run) piece.start) pieces in
    let front_places : flat_map piece_places front ≡ flat_map run_places before =
    front-pieces run.start pieces (ap (list_all (λ p. not (suc p == run.start))) all ∙ apart-start before run behind h)
    ∙ (ap (filter (λ p. nat_lt p run.start)) all ∙ front-places before run behind h) in
    let back_places : flat_map piece_places back ≡ flat_map run_places behind =
    back-pieces (run_end run) pieces (ap (list_all (λ p. not (p == run_end run))) all ∙ apart-end before run behind h)
    ∙ (ap (filter (λ p. nat_le (run_end run) p)) all ∙ back-places before run behind h) in
    flat_map-append piece_places front (best ++ back)
    ∙ (ap₂ (λ ps qs. ps ++ qs) front_places (flat_map-append piece_places best back ∙ ap₂ (λ ps qs. ps ++ qs) own back_places)
    ∙ sym (flat_map-append run_places before (run ∷ behind)))

-- behind pieces that end before a run, its own follow
pub renewed-behind : (place : ℕ) (run : PlacedRun) (best pieces : List Piece) → place ≤ run.start → 0 < length run.codes
    → list_all (λ piece. nat_le (piece_end piece) place) pieces ≡ true → renewed run best pieces ≡ pieces ++ best
renewed-behind place run best pieces l some e =
    ap₂ (λ ps qs. ps ++ qs)
    (filter-all (λ piece. nat_le (piece_end piece) place) (λ piece. nat_le (piece_end piece) run.start)
    (λ piece m. le-leb (piece_end piece) run.start (let n = leb-true (piece_end piece) place m in omega arith)) pieces e)
    (ap (λ ps. best ++ ps)
    (filter-none (λ piece. nat_le (piece_end piece) place) (λ piece. nat_le (run_end run) piece.start)
    (λ piece m. lt-leb (run_end run) piece.start (let n = leb-true (piece_end piece) place m in omega arith)) pieces e)
    ∙ append-nil best)

-- pieces whose places are before an end do end there
pub ends-from_places : (end : ℕ) (pieces : List Piece) → list_all (λ p. nat_lt p end) (flat_map piece_places pieces) ≡ true
    → ((piece : Piece) → is_piece piece ≡ true → 1 ≤ phrase_len piece.phrase) → list_all is_piece pieces ≡ true
    → list_all (λ piece. nat_le (piece_end piece) end) pieces ≡ true
ends-from_places end [] e some p = refl
ends-from_places end (piece ∷ pieces) e some p =
    let q = λ (k : ℕ). nat_lt k end in
    let own = and_parts (is_piece piece) (list_all is_piece pieces) p in
    let parts = and_parts (list_all q (piece_places piece)) (list_all q (flat_map piece_places pieces)) (sym (list_all-append q (piece_places piece) (flat_map piece_places pieces)) ∙ e) in
    let l = some piece own.0 in
    let last = ltb-true (piece_end piece - 1) end (range-each q piece.start (phrase_len piece.phrase) (piece_end piece - 1) parts.0 (omega arith) (omega arith)) in
    and_from (nat_le (piece_end piece) end) _ (le-leb (piece_end piece) end (omega arith)) (ends-from_places end pieces parts.1 some own.1)
