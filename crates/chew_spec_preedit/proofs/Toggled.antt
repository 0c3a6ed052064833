-- A break that is toggled twice.
use Rattle.std.proofs.Common.{◌≡◌, ℕ, ◌<◌, Bool, true, false, not, cond, ◌||◌, List, [], ◌∷◌, ◌++◌, filter, refl, ap, sym, subst, ◌∙◌, arith}
use Rattle.std.specs.Prelude.{◌==◌, nat_lt}
use Rattle.std.specs.List.{list_all, list_any}
use Rattle.std.proofs.lemmas.Bool.{and_parts, both_ways, cond-false, cond-true, cond_both, eq-eqb, eqb-false, eqb-true, le-ltb, lt-ltb, ltb-true, ne_eqb, not-true, not_from_false, not_from_true, or_parts, or_right}
use Rattle.std.proofs.lemmas.Bool.Decides.{nat_tests}
use Rattle.std.proofs.lemmas.List.Elements.{filter-append}
use Rattle.std.proofs.lemmas.List.Folds.{list_any-append}
use Rattle.chew_spec_preedit.specs.InTurn.{is_in_turn}
use Rattle.chew_spec_preedit.specs.Buffer.{Buffer, is_buffer, is_rising}
use Rattle.chew_spec_preedit.specs.Edit.{break_toggled, breaks_before, breaks_behind, broken, has_break, mended}
use Rattle.chew_spec_preedit.proofs.IsBuffer.{IsBuffer-from}
use Rattle.chew_spec_preedit.proofs.Kept.{list_all-filter, list_all-true}
use Rattle.chew_spec_preedit.proofs.Parts.{filter-all, filter-none}
use Rattle.chew_spec_preedit.proofs.Undone.{parted}

-- what stands before a place and behind it is all but the place
pub around_others : (breaks : List ℕ) (place : ℕ) → is_rising breaks ≡ true → breaks_before place breaks ++ breaks_behind place breaks ≡ filter (λ at. not (at == place)) breaks
around_others breaks c r =
    parted nat_lt (λ at. true) (λ at. nat_lt at c) (nat_lt c) (λ at. not (at == c))
    (λ at. grind (arith, nat_tests)) (λ x _ k. let l = ltb-true x c k in le-ltb c x (omega arith))
    (λ x y _ rr k. let l = ltb-true x y rr in let m = ltb-true c x k in le-ltb y c (omega arith)) breaks (list_all-true breaks) r

-- where the place is not among them, that is all
absent_all : (breaks : List ℕ) (place : ℕ) → has_break breaks place ≡ false → filter (λ at. not (at == place)) breaks ≡ breaks
absent_all [] place e = refl
absent_all (at ∷ breaks) place e =
    let parts = or_parts (at == place) (has_break breaks place) e in
    cond-true (not (at == place)) (at ∷ filter (λ b. not (b == place)) breaks) _ (not_from_false (at == place) parts.0) ∙ ap (λ bs. at ∷ bs) (absent_all breaks place parts.1)

-- what is left has it no more
others_lack : (breaks : List ℕ) (place : ℕ) → has_break (filter (λ at. not (at == place)) breaks) place ≡ false
others_lack [] place = refl
others_lack (at ∷ breaks) place = by_test (at == place) refl (others_lack breaks place)
  where
    by_test : (b : Bool) → (at == place) ≡ b → has_break (filter (λ x. not (x == place)) breaks) place ≡ false → has_break (filter (λ x. not (x == place)) (at ∷ breaks)) place ≡ false
    by_test true e rest = ap (λ bs. has_break bs place) (cond-false (not (at == place)) (at ∷ filter (λ x. not (x == place)) breaks) _ (not_from_true (at == place) e)) ∙ rest
    by_test false e rest =
        ap (λ bs. has_break bs place) (cond-true (not (at == place)) (at ∷ filter (λ x. not (x == place)) breaks) _ (not_from_false (at == place) e))
        ∙ (ap (λ b. b || has_break (filter (λ x. not (x == place)) breaks) place) e ∙ rest)

above_found : (at : ℕ) (breaks : List ℕ) (place : ℕ) → list_all (nat_lt at) breaks ≡ true → has_break breaks place ≡ true → at < place
above_found at [] place l h = absurd (cc)
above_found at (b ∷ breaks) place l h =
    let parts = and_parts (nat_lt at b) (list_all (nat_lt at) breaks) l in
    by_test (b == place) refl (ltb-true at b parts.0) (above_found at breaks place parts.1)
  where
    by_test : (t : Bool) → (b == place) ≡ t → at < b → (has_break breaks place ≡ true → at < place) → at < place
    by_test true f low rest = let same = eqb-true b place f in omega arith
    by_test false f low rest = rest (sym (ap (λ t. t || has_break breaks place) f) ∙ h)

-- and where it is among them, it stands between the two
present_between : (breaks : List ℕ) (place : ℕ) → is_rising breaks ≡ true → has_break breaks place ≡ true → breaks_before place breaks ++ (place ∷ breaks_behind place breaks) ≡ breaks
present_between [] place r e = absurd (cc)
present_between (at ∷ breaks) place r e =
    let turn = and_parts (list_all (nat_lt at) breaks) (is_rising breaks) r in
    by_test (at == place) refl turn.0 (present_between breaks place turn.1)
  where
    by_test : (b : Bool) → (at == place) ≡ b → list_all (nat_lt at) breaks ≡ true → (has_break breaks place ≡ true → breaks_before place breaks ++ (place ∷ breaks_behind place breaks) ≡ breaks)
        → breaks_before place (at ∷ breaks) ++ (place ∷ breaks_behind place (at ∷ breaks)) ≡ at ∷ breaks
    by_test true f above rest =
        let same = eqb-true at place f in
        let none : breaks_before place breaks ≡ [] = filter-none (nat_lt at) (λ x. nat_lt x place) (λ x l. let m = ltb-true at x l in le-ltb x place (omega arith)) breaks above in
        let all : breaks_behind place breaks ≡ breaks = filter-all (nat_lt at) (nat_lt place) (λ x l. let m = ltb-true at x l in lt-ltb place x (omega arith)) breaks above in
        ap (λ bs. bs ++ (place ∷ breaks_behind place (at ∷ breaks))) (cond-false (nat_lt at place) (at ∷ breaks_before place breaks) (breaks_before place breaks) (le-ltb at place (omega arith)) ∙ none)
        ∙ (ap (λ bs. place ∷ bs) (cond-false (nat_lt place at) (at ∷ breaks_behind place breaks) (breaks_behind place breaks) (le-ltb place at (omega arith)) ∙ all) ∙ ap (λ x. x ∷ breaks) (sym same))
    by_test false f above rest =
        let later : has_break breaks place ≡ true = sym (ap (λ b. b || has_break breaks place) f) ∙ e in
        let below : at < place = above_found at breaks place above later in
        ap (λ bs. bs ++ (place ∷ breaks_behind place (at ∷ breaks))) (cond-true (nat_lt at place) (at ∷ breaks_before place breaks) (breaks_before place breaks) (lt-ltb at place below))
        ∙ (ap (λ bs. (at ∷ breaks_before place breaks) ++ (place ∷ bs)) (cond-false (nat_lt place at) (at ∷ breaks_behind place breaks) (breaks_behind place breaks) (le-ltb place at (omega arith)))
        ∙ ap (λ bs. at ∷ bs) (rest later))

-- what passes one test of those that pass another, where the one implies the other
filter_both : (breaks : List ℕ) (p keep : ℕ → Bool) → ((x : ℕ) → p x ≡ true → keep x ≡ true) → filter p (filter keep breaks) ≡ filter p breaks
filter_both [] p keep h = refl
filter_both (at ∷ breaks) p keep h = by_test (keep at) refl (filter_both breaks p keep h)
  where
    fails : (b : Bool) → p at ≡ b → keep at ≡ false → p at ≡ false
    fails false f e = f
    fails true f e = absurd (both_ways (keep at) e (h at f))

    by_test : (b : Bool) → keep at ≡ b → filter p (filter keep breaks) ≡ filter p breaks → filter p (filter keep (at ∷ breaks)) ≡ filter p (at ∷ breaks)
    by_test true e rest = ap (filter p) (cond-true (keep at) (at ∷ filter keep breaks) (filter keep breaks) e) ∙ ap (λ bs. cond (p at) (at ∷ bs) bs) rest
    by_test false e rest =
        ap (filter p) (cond-false (keep at) (at ∷ filter keep breaks) (filter keep breaks) e)
        ∙ (rest ∙ sym (cond-false (p at) (at ∷ filter p breaks) (filter p breaks) (fails (p at) refl e)))

has_own : (front : List ℕ) (place : ℕ) (back : List ℕ) → has_break (front ++ (place ∷ back)) place ≡ true
has_own [] place back = ap (λ b. b || has_break back place) (eq-eqb place place refl)
has_own (at ∷ front) place back = or_right (at == place) (has_break (front ++ (place ∷ back)) place) (has_own front place back)

own_others : (had : Buffer) → is_rising had.breaks ≡ true → has_break had.breaks had.cursor ≡ false → filter (λ at. not (at == had.cursor)) (broken had).breaks ≡ had.breaks
own_others had r e =
    let c = had.cursor in
    let keep = λ (at : ℕ). not (at == c) in
    let front = breaks_before c had.breaks in
    let back = breaks_behind c had.breaks in
    filter-append keep front (c ∷ back)
    ∙ (ap (λ bs. bs ++ filter keep (c ∷ back)) (filter-all (λ at. nat_lt at c) keep (λ x l. not_from_false (x == c) (ne_eqb x c (λ s. let m = ltb-true x c l in absurd (omega arith)))) front
    (list_all-filter (λ x. true) (λ at. nat_lt at c) (λ at. nat_lt at c) (λ x _ k. k) had.breaks (list_all-true had.breaks)))
    ∙ (ap (λ bs. front ++ bs) (cond-false (keep c) (c ∷ filter keep back) (filter keep back) (not_from_true (c == c) (eq-eqb c c refl))
    ∙ filter-all (nat_lt c) keep (λ x l. not_from_false (x == c) (ne_eqb x c (λ s. let m = ltb-true c x l in absurd (omega arith)))) back
    (list_all-filter (λ x. true) (nat_lt c) (nat_lt c) (λ x _ k. k) had.breaks (list_all-true had.breaks)))
    ∙ (around_others had.breaks c r ∙ absent_all had.breaks c e)))

-- the break that is set is cleared
pub broken-mended : (had : Buffer) → is_buffer had ≡ true → has_break had.breaks had.cursor ≡ false → (break_toggled (broken had)).breaks ≡ had.breaks
unfolding break_toggled
broken-mended had valid e =
    let h = IsBuffer-from had valid in
    ap (λ (b : Buffer). b.breaks) (cond-true (has_break (broken had).breaks had.cursor) (mended (broken had)) (broken (broken had)) (has_own (breaks_before had.cursor had.breaks) had.cursor (breaks_behind had.cursor had.breaks)))
    ∙ own_others had h.rising e

-- and the break that is cleared is set
pub mended-broken : (had : Buffer) → is_buffer had ≡ true → has_break had.breaks had.cursor ≡ true → (break_toggled (mended had)).breaks ≡ had.breaks
unfolding break_toggled
mended-broken had valid e =
    let h = IsBuffer-from had valid in
    let c = had.cursor in
    let keep = λ (at : ℕ). not (at == c) in
    let before : breaks_before c (filter keep had.breaks) ≡ breaks_before c had.breaks = filter_both had.breaks (λ x. nat_lt x c) keep (λ x l. not_from_false (x == c) (ne_eqb x c (λ s. let m = ltb-true x c l in absurd (omega arith)))) in
    let behind : breaks_behind c (filter keep had.breaks) ≡ breaks_behind c had.breaks = filter_both had.breaks (nat_lt c) keep (λ x l. not_from_false (x == c) (ne_eqb x c (λ s. let m = ltb-true c x l in absurd (omega arith)))) in
    ap (λ (b : Buffer). b.breaks) (cond-false (has_break (mended had).breaks c) (mended (mended had)) (broken (mended had)) (others_lack had.breaks c))
    ∙ (ap (λ bs. bs ++ (c ∷ breaks_behind c (filter keep had.breaks))) before
    ∙ (ap (λ bs. breaks_before c had.breaks ++ (c ∷ bs)) behind ∙ present_between had.breaks c h.rising e))

pub toggled-twice : (had : Buffer) → is_buffer had ≡ true → (break_toggled (break_toggled had)).breaks ≡ had.breaks
unfolding break_toggled
toggled-twice had valid =
    cond_both (has_break had.breaks had.cursor) (mended had) (broken had) (λ (b : Buffer). (break_toggled b).breaks ≡ had.breaks)
    (λ e. mended-broken had valid e) (λ e. broken-mended had valid e)
