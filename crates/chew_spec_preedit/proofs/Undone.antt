-- An insert and then a backspace, and a break toggled twice.
use Rattle.std.proofs.Common.{◌≡◌, ℕ, suc, ◌+◌, ◌-◌, ◌<◌, ◌≤◌, Bool, true, false, not, cond, ◌&&◌, ◌||◌, List, [], ◌∷◌, ◌++◌, length, take, drop, map, filter, refl, ap, sym, subst, ◌∙◌, arith}
use Rattle.std.specs.Prelude.{◌==◌, nat_le, nat_lt}
use Rattle.std.specs.List.{list_all, list_any}
use Rattle.std.proofs.lemmas.Bool.{and_from, and_parts, cond-false, cond-true, eq-eqb, eqb-false, eqb-true, le-leb, le-ltb, leb-true, lt-leb, lt-ltb, ltb-true, ne_eqb, not-true, not_from_false, not_from_true}
use Rattle.std.proofs.lemmas.Bool.Decides.{nat_tests}
use Rattle.std.proofs.lemmas.List.{append-nil, append_assoc, drop_at, length-append, length-take-le, take-append-drop, take_at}
use Rattle.std.proofs.lemmas.List.Elements.{filter-append}
use Rattle.chew_spec_phrasing.specs.Usable.{Choice, choice_end, phrase_len}
use Rattle.chew_spec_preedit.specs.InTurn.{is_in_turn}
use Rattle.chew_spec_preedit.specs.Buffer.{Buffer, choice_back, choice_on, is_buffer, is_choice_of, is_rising}
use Rattle.chew_spec_preedit.specs.Cell.{Cell, is_between_sounds}
use Rattle.chew_spec_preedit.specs.Edit.{backspaced, break_toggled, broken, can_break, has_break, has_inside, inserted, mended, without_cell}
use Rattle.chew_spec_preedit.proofs.Inserted.{put_in}
use Rattle.chew_spec_preedit.proofs.IsBuffer.{IsBuffer-from, IsChoice-from}
use Rattle.chew_spec_preedit.proofs.Kept.{list_all-filter, list_all-moved, list_all-true, list_all-weaker}
use Rattle.chew_spec_preedit.proofs.Parts.{filter-all, filter-none}
use Rattle.chew_spec_preedit.proofs.Phrases.{phrase_len-some}
use Rattle.chew_spec_preedit.proofs.Spliced.{moved}

map_back : {X : Type 0} (f g : X → X) → ((x : X) → g (f x) ≡ x) → (xs : List X) → map g (map f xs) ≡ xs
map_back f g h [] = refl
map_back f g h (x ∷ xs) = ap (λ y. y ∷ map g (map f xs)) (h x) ∙ ap (λ ys. x ∷ ys) (map_back f g h xs)

-- what was kept and moved is kept and moved back
undone : {X : Type 0} (b1 h1 b2 h2 : X → Bool) (f g : X → X)
    → ((x : X) → b1 x ≡ true → b2 x ≡ true) → ((x : X) → h1 x ≡ true → b2 (f x) ≡ false)
    → ((x : X) → b1 x ≡ true → h2 x ≡ false) → ((x : X) → h1 x ≡ true → h2 (f x) ≡ true) → ((x : X) → g (f x) ≡ x)
    → (xs : List X) → filter b2 (filter b1 xs ++ map f (filter h1 xs)) ++ map g (filter h2 (filter b1 xs ++ map f (filter h1 xs))) ≡ filter b1 xs ++ filter h1 xs
undone b1 h1 b2 h2 f g bb hb bh hh back xs =
    let before = filter b1 xs in
    let behind = map f (filter h1 xs) in
    let own = list_all-filter (λ x. true) b1 b1 (λ x _ k. k) xs (list_all-true xs) in
    let front : filter b2 (before ++ behind) ≡ before =
    filter-append b2 before behind
    ∙ (ap (λ ys. ys ++ filter b2 behind) (filter-all b1 b2 bb before own)
    ∙ (ap (λ ys. before ++ ys) (filter-none (λ y. not (b2 y)) b2 (λ y n. not-true (b2 y) n) behind
    (list_all-moved (λ x. true) h1 f (λ y. not (b2 y)) (λ x _ k. not_from_false (b2 (f x)) (hb x k)) xs (list_all-true xs)))
    ∙ append-nil before)) in
    let rest : filter h2 (before ++ behind) ≡ behind =
    filter-append h2 before behind
    ∙ (ap (λ ys. ys ++ filter h2 behind) (filter-none b1 h2 bh before own)
    ∙ filter-all h2 h2 (λ y k. k) behind (list_all-moved (λ x. true) h1 f h2 (λ x _ k. hh x k) xs (list_all-true xs))) in
    ap (λ ys. ys ++ map g (filter h2 (before ++ behind))) front
    ∙ ap (λ ys. before ++ ys) (ap (map g) rest ∙ map_back f g back (filter h1 xs))

list_all-both : {X : Type 0} (p q : X → Bool) (xs : List X) → list_all p xs ≡ true → list_all q xs ≡ true → list_all (λ x. p x && q x) xs ≡ true
list_all-both p q [] e f = refl
list_all-both p q (x ∷ xs) e f =
    let a = and_parts (p x) (list_all p xs) e in
    let b = and_parts (q x) (list_all q xs) f in
    and_from (p x && q x) _ (and_from (p x) (q x) a.0 b.0) (list_all-both p q xs a.1 b.1)

parted_of : {X : Type 0} (a b k : Bool) (x : X) (front back kept : List X) → a ≡ true → b ≡ false → k ≡ true → front ++ back ≡ kept
    → cond a (x ∷ front) front ++ cond b (x ∷ back) back ≡ cond k (x ∷ kept) kept
parted_of a b k x front back kept e f g h =
    ap (λ ys. ys ++ cond b (x ∷ back) back) (cond-true a (x ∷ front) front e)
    ∙ (ap (λ ys. (x ∷ front) ++ ys) (cond-false b (x ∷ back) back f) ∙ (ap (λ ys. x ∷ ys) h ∙ sym (cond-true k (x ∷ kept) kept g)))

parted_none : {X : Type 0} (a b k : Bool) (x : X) (front back kept : List X) → a ≡ false → b ≡ false → k ≡ false → front ++ back ≡ kept
    → cond a (x ∷ front) front ++ cond b (x ∷ back) back ≡ cond k (x ∷ kept) kept
parted_none a b k x front back kept e f g h =
    ap (λ ys. ys ++ cond b (x ∷ back) back) (cond-false a (x ∷ front) front e)
    ∙ (ap (λ ys. front ++ ys) (cond-false b (x ∷ back) back f) ∙ (h ∙ sym (cond-false k (x ∷ kept) kept g)))

parted_behind : {X : Type 0} (a b k : Bool) (x : X) (front back kept : List X) → a ≡ false → b ≡ true → k ≡ true → front ≡ [] → front ++ back ≡ kept
    → cond a (x ∷ front) front ++ cond b (x ∷ back) back ≡ cond k (x ∷ kept) kept
parted_behind a b k x front back kept e f g n h =
    ap (λ ys. ys ++ cond b (x ∷ back) back) (cond-false a (x ∷ front) front e ∙ n)
    ∙ (cond-true b (x ∷ back) back f ∙ (ap (λ ys. x ∷ ys) (sym (ap (λ ys. ys ++ back) n) ∙ h) ∙ sym (cond-true k (x ∷ kept) kept g)))

-- of a list in turn, what is before a place and what is behind it are what is kept
pub parted : {X : Type 0} (R : X → X → Bool) (q before behind keep : X → Bool)
    → ((x : X) → keep x ≡ (before x || behind x)) → ((x : X) → q x ≡ true → before x ≡ true → behind x ≡ false)
    → ((x y : X) → q y ≡ true → R x y ≡ true → behind x ≡ true → before y ≡ false)
    → (xs : List X) → list_all q xs ≡ true → is_in_turn R xs ≡ true → filter before xs ++ filter behind xs ≡ filter keep xs
parted R q before behind keep either one later [] e t = refl
parted {X} R q before behind keep either one later (x ∷ xs) e t =
    let own = and_parts (q x) (list_all q xs) e in
    let turn = and_parts (list_all (R x) xs) (is_in_turn R xs) t in
    by_tests (before x) (behind x) refl refl own.0 own.1 turn.0 (parted R q before behind keep either one later xs own.1 turn.1)
  where
    by_tests : (a b : Bool) → before x ≡ a → behind x ≡ b → q x ≡ true → list_all q xs ≡ true → list_all (R x) xs ≡ true → filter before xs ++ filter behind xs ≡ filter keep xs
        → filter before (x ∷ xs) ++ filter behind (x ∷ xs) ≡ filter keep (x ∷ xs)
    by_tests true b f g own owns turn rest =
        parted_of (before x) (behind x) (keep x) x (filter before xs) (filter behind xs) (filter keep xs) f (one x own f) (either x ∙ ap (λ a. a || behind x) f) rest
    by_tests false true f g own owns turn rest =
        let both = list_all-both q (R x) xs owns turn in
        parted_behind (before x) (behind x) (keep x) x (filter before xs) (filter behind xs) (filter keep xs) f g (either x ∙ (ap (λ a. a || behind x) f ∙ g))
        (filter-none (λ y. q y && R x y) before (λ y h. let parts = and_parts (q y) (R x y) h in later x y parts.0 parts.1 g) xs both) rest
    by_tests false false f g own owns turn rest =
        parted_none (before x) (behind x) (keep x) x (filter before xs) (filter behind xs) (filter keep xs) f g (either x ∙ (ap (λ a. a || behind x) f ∙ g)) rest

cells_back : (cells : List Cell) (at : ℕ) (cell : Cell) → at ≤ length cells → take at (put_in cells at cell) ++ drop (suc at) (put_in cells at cell) ≡ cells
cells_back cells at cell l =
    let front = take at cells in
    let long = length-take-le at cells l in
    let back : drop (suc at) (put_in cells at cell) ≡ drop at cells =
    ap (drop (suc at)) (sym (append_assoc front (cell ∷ []) (drop at cells)))
    ∙ drop_at (front ++ (cell ∷ [])) (drop at cells) (suc at) (let e = length-append front (cell ∷ []) in omega arith) in
    ap (λ xs. xs ++ drop (suc at) (put_in cells at cell)) (take_at front (cell ∷ drop at cells) at long)
    ∙ (ap (λ xs. front ++ xs) back ∙ take-append-drop at cells)

back_same : (had : Buffer) (cells : List Cell) (breaks breaks' : List ℕ) (choices choices' : List Choice) → cells ≡ had.cells → breaks ≡ breaks' → choices ≡ choices'
    → (let now : Buffer = record { limit = had.limit; cells = cells; cursor = had.cursor; breaks = breaks; choices = choices } in now ≡ record had { breaks = breaks'; choices = choices' })
back_same had cells breaks breaks' choices choices' e f g =
    ap (λ (cs : List Cell). let now : Buffer = record { limit = had.limit; cells = cs; cursor = had.cursor; breaks = breaks; choices = choices } in now) e
    ∙ (ap (λ (bs : List ℕ). record had { breaks = bs; choices = choices }) f ∙ ap (λ (hs : List Choice). record had { breaks = breaks'; choices = hs }) g)

outside_either : (c start end : ℕ) → not (nat_lt start c && nat_lt c end) ≡ (nat_le end c || nat_le c start)
outside_either c start end = grind (arith, nat_tests)

-- an insert and a backspace take away what they touched, and nothing else
pub inserted-backspaced : (had : Buffer) (cell : Cell) → is_buffer had ≡ true
    → backspaced (inserted had cell) ≡ record had { breaks = filter (λ at. not (at == had.cursor)) had.breaks; choices = filter (λ choice. not (has_inside had.cursor choice)) had.choices }
unfolding inserted backspaced
inserted-backspaced had cell valid =
    let h = IsBuffer-from had valid in
    let c = had.cursor in
    let place : suc c - 1 ≡ c = omega arith in
    ap (λ (at : ℕ). record (without_cell at (inserted had cell)) { cursor = at }) place
    ∙ back_same had _ _ _ _ _ (cells_back had.cells c cell h.stands)
    (undone (λ at. nat_lt at c) (nat_lt c) (λ at. nat_lt at c) (nat_lt (suc c)) (λ at. at + 1) (λ at. at - 1)
    (λ x k. k) (λ x k. let l = ltb-true c x k in le-ltb (x + 1) c (omega arith)) (λ x k. let l = ltb-true x c k in le-ltb (suc c) x (omega arith))
    (λ x k. let l = ltb-true c x k in lt-ltb (suc c) (x + 1) (omega arith)) (λ x. omega arith) had.breaks
    ∙ parted nat_lt (λ at. true) (λ at. nat_lt at c) (nat_lt c) (λ at. not (at == c))
    (λ at. grind (arith, nat_tests)) (λ x _ k. let l = ltb-true x c k in le-ltb c x (omega arith))
    (λ x y _ r k. let l = ltb-true x y r in let m = ltb-true c x k in le-ltb y c (omega arith)) had.breaks (list_all-true had.breaks) h.rising)
    (undone (λ x. nat_le (choice_end x) c) (λ x. nat_le c x.start) (λ x. nat_le (choice_end x) c) (λ x. nat_le (suc c) x.start) (choice_on 1) (choice_back 1)
    (λ x k. k) (λ x k. let l = leb-true c x.start k in lt-leb (x.start + 1 + phrase_len x.phrase) c (omega arith))
    (λ x k. let l = leb-true (choice_end x) c k in lt-leb (suc c) x.start (omega arith))
    (λ x k. let l = leb-true c x.start k in le-leb (suc c) (x.start + 1) (omega arith)) (λ x. ap (λ (k : ℕ). moved (λ _. k) x) (let e : x.start + 1 - 1 ≡ x.start = omega arith in e)) had.choices
    ∙ parted (λ x y. nat_le (choice_end x) y.start) (is_choice_of had.cells had.breaks) (λ x. nat_le (choice_end x) c) (λ x. nat_le c x.start) (λ x. not (has_inside c x))
    (λ x. outside_either c x.start (choice_end x))
    (λ x q k. let some = phrase_len-some x.phrase (IsChoice-from had.cells had.breaks x q).phrase in let l = leb-true (choice_end x) c k in lt-leb c x.start (omega arith))
    (λ x y q r k. let some = phrase_len-some y.phrase (IsChoice-from had.cells had.breaks y q).phrase in let l = leb-true (choice_end x) y.start r in let m = leb-true c x.start k in lt-leb (choice_end y) c (omega arith))
    had.choices h.chosen h.apart)
