-- What holds where lines are taken one after another.
use Rattle.std.proofs.Common.{◌≡◌, ℕ, zero, suc, ◌+◌, ◌<◌, ◌≤◌, Bool, false, List, [], ◌∷◌, ◌++◌, length, map, take, Result, Ok, Err, refl, ap, ◌∙◌, subst, arith}
use Rattle.std.specs.List.{filter, fold}
use Rattle.std.proofs.lemmas.Bool.{cond_both}
use Rattle.chew_spec_text.specs.Lines.{Fault, but_for_line, go_on, each_line}

-- a value went on from an earlier one
went_on : {V C W : Type 0} (n : ℕ) (next : V → Result W (Fault C)) (r : Result V C) (w : W) → go_on n next r ≡ Ok w
    → (u : V) × (r ≡ Ok u) × (next u ≡ Ok w)
went_on n next (Ok u) w h = (u, refl, h)
went_on n next (Err cause) w h = absurd cc

-- what a line keeps, lines keep
pub keeps : {V C : Type 0} (P : V → Type 0) (taken : V → List ℕ → Result V C)
    → ((u t : V) (line : List ℕ) → taken u line ≡ Ok t → P u → P t)
    → (n : ℕ) (v w : V) (lines : List (List ℕ)) → each_line taken n v lines ≡ Ok w → P v → P w
keeps P taken one n v w [] h p = let same : v ≡ w = cc in subst P same p
keeps P taken one n v w (line ∷ lines) h p =
    let g = went_on n _ (taken v line) w h in keeps P taken one (suc n) g.0 w lines g.2 (one v g.0 line g.1 p)

-- what each line does to a part of the value, lines do one after another
pub folded : {V C B : Type 0} (part : V → B) (step : B → List ℕ → B) (taken : V → List ℕ → Result V C)
    → ((u t : V) (line : List ℕ) → taken u line ≡ Ok t → part t ≡ step (part u) line)
    → (n : ℕ) (v w : V) (lines : List (List ℕ)) → each_line taken n v lines ≡ Ok w → part w ≡ fold step (part v) lines
folded part step taken one n v w [] h = let same : w ≡ v = cc in ap part same
folded part step taken one n v w (line ∷ lines) h =
    let g = went_on n _ (taken v line) w h in
    folded part step taken one (suc n) g.0 w lines g.2 ∙ ap (λ b. fold step b lines) (one v g.0 line g.1)

-- lines behind others are taken by what those made
pub behind : {V C : Type 0} (taken : V → List ℕ → Result V C) (n : ℕ) (v w : V) (lines more : List (List ℕ))
    → each_line taken n v lines ≡ Ok w → each_line taken n v (lines ++ more) ≡ each_line taken (n + length lines) w more
behind taken n v w [] more h =
    let number : n ≡ n + 0 = omega arith in
    let same : v ≡ w = cc in
    ap (λ u. each_line taken n u more) same ∙ ap (λ m. each_line taken m w more) number
behind taken n v w (line ∷ lines) more h =
    let g = went_on n _ (taken v line) w h in
    let number : suc n + length lines ≡ n + suc (length lines) = omega arith in
    ap (go_on n (λ next. each_line taken (suc n) next (lines ++ more))) g.1
    ∙ (behind taken (suc n) g.0 w lines more g.2 ∙ ap (λ m. each_line taken m w more) number)

-- the line is one of so many from n on
pub record Within (n count line : ℕ) : Type 0 where
  pub low : n ≤ line
  pub high : line < n + count

-- a fault in this line, or in a later one
told : {V C W : Type 0} (n count : ℕ) (next : V → Result W (Fault C)) (r : Result V C) (f : Fault C)
    → ((u : V) → next u ≡ Err f → Within (suc n) count f.line) → go_on n next r ≡ Err f → Within n (suc count) f.line
told n count next (Ok u) f p h = let w = p u h in record { low = omega arith; high = omega arith }
told n count next (Err cause) f p h =
    let same : record { line = n; cause = cause } ≡ f = cc in
    let line : n ≡ f.line = ap (λ g. g.line) same in
    record { low = omega arith; high = omega arith }

-- a fault is in one of the lines
pub within : {V C : Type 0} (taken : V → List ℕ → Result V C) (n : ℕ) (v : V) (lines : List (List ℕ)) (f : Fault C)
    → each_line taken n v lines ≡ Err f → Within n (length lines) f.line
within taken n v [] f h = absurd cc
within taken n v (line ∷ lines) f h = told n (length lines) _ (taken v line) f (λ u. within taken (suc n) u lines f) h

-- a fault's cause is what a line gave
gave : {V C W : Type 0} (Q : C → Type 0) (n : ℕ) (next : V → Result W (Fault C)) (r : Result V C) (f : Fault C)
    → ((cause : C) → r ≡ Err cause → Q cause) → ((u : V) → next u ≡ Err f → Q f.cause) → go_on n next r ≡ Err f → Q f.cause
gave Q n next (Ok u) f here later h = later u h
gave Q n next (Err cause) f here later h =
    let same : record { line = n; cause = cause } ≡ f = cc in subst (λ g. Q g.cause) same (here cause refl)

-- what holds of each cause that a line gives holds of the fault's
pub caused : {V C : Type 0} (Q : C → Type 0) (taken : V → List ℕ → Result V C)
    → ((u : V) (line : List ℕ) (cause : C) → taken u line ≡ Err cause → Q cause)
    → (n : ℕ) (v : V) (lines : List (List ℕ)) (f : Fault C) → each_line taken n v lines ≡ Err f → Q f.cause
caused Q taken one n v [] f h = absurd cc
caused Q taken one n v (line ∷ lines) f h =
    gave Q n _ (taken v line) f (one v line) (λ u. caused Q taken one (suc n) u lines f) h

-- a fault in this line is told whatever follows
again : {V C W : Type 0} (n : ℕ) (next other : V → Result W (Fault C)) (r : Result V C) (f : Fault C)
    → ((u : V) → next u ≡ Err f → other u ≡ Err f) → go_on n next r ≡ Err f → go_on n other r ≡ Err f
again n next other (Ok u) f p h = p u h
again n next other (Err cause) f p h = h

-- lines that agree up to the faulty one have the same fault
pub same_fault : {V C : Type 0} (taken : V → List ℕ → Result V C) (n count : ℕ) (v : V) (f : Fault C) (lines other : List (List ℕ))
    → n + count ≡ suc f.line → take count lines ≡ take count other
    → each_line taken n v lines ≡ Err f → each_line taken n v other ≡ Err f
same_fault taken n count v f [] other e s h = absurd cc
same_fault taken n zero v f (line ∷ lines) other e s h =
    let low : n ≤ f.line = (within taken n v (line ∷ lines) f h).low in absurd (omega arith)
same_fault taken n (suc count) v f (line ∷ lines) [] e s h = absurd cc
same_fault taken n (suc count) v f (line ∷ lines) (first ∷ rest) e s h =
    let one : line ≡ first = cc in
    let more : take count lines ≡ take count rest = cc in
    let number : suc n + count ≡ suc f.line = omega arith in
    subst (λ l. go_on n (λ next. each_line taken (suc n) next rest) (taken v l) ≡ Err f) one
    (again n _ _ (taken v line) f (λ u. same_fault taken (suc n) count u f lines rest number more) h)

-- the numbers of the lines don't matter to what they make
alike : {V C W : Type 0} (n m : ℕ) (next other : V → Result W (Fault C)) (r : Result V C)
    → ((u : V) → but_for_line (next u) ≡ but_for_line (other u)) → but_for_line (go_on n next r) ≡ but_for_line (go_on m other r)
alike n m next other (Ok u) p = p u
alike n m next other (Err cause) p = refl

-- lines that change nothing may be left out
pub left_out : {V C : Type 0} (counts : List ℕ → Bool) (taken : V → List ℕ → Result V C)
    → ((v : V) (line : List ℕ) → counts line ≡ false → taken v line ≡ Ok v)
    → (n m : ℕ) (v : V) (lines : List (List ℕ)) → but_for_line (each_line taken n v lines) ≡ but_for_line (each_line taken m v (filter counts lines))
left_out counts taken none n m v [] = refl
left_out counts taken none n m v (line ∷ lines) =
    cond_both (counts line) (line ∷ filter counts lines) (filter counts lines)
    (λ left. but_for_line (each_line taken n v (line ∷ lines)) ≡ but_for_line (each_line taken m v left))
    (λ _. alike n m _ _ (taken v line) (λ u. left_out counts taken none (suc n) (suc m) u lines))
    (λ e. ap (λ r. but_for_line (go_on n (λ next. each_line taken (suc n) next lines) r)) (none v line e) ∙ left_out counts taken none (suc n) m v lines)

-- what is made of a value next
same_next : {V C W : Type 0} (n : ℕ) (next other : V → Result W (Fault C)) (r : Result V C) → ((u : V) → next u ≡ other u) → go_on n next r ≡ go_on n other r
same_next n next other (Ok u) p = p u
same_next n next other (Err cause) p = refl

-- lines that have the same parts make the same
pub by_parts : {V C X : Type 0} (parts : List ℕ → X) (taken : V → X → Result V C) (n : ℕ) (v : V) (lines other : List (List ℕ))
    → map parts lines ≡ map parts other → each_line (λ u line. taken u (parts line)) n v lines ≡ each_line (λ u line. taken u (parts line)) n v other
by_parts parts taken n v [] [] h = refl
by_parts parts taken n v [] (first ∷ rest) h = absurd cc
by_parts parts taken n v (line ∷ lines) [] h = absurd cc
by_parts parts taken n v (line ∷ lines) (first ∷ rest) h =
    let one : parts line ≡ parts first = cc in
    let more : map parts lines ≡ map parts rest = cc in
    same_next n _ _ (taken v (parts line)) (λ u. by_parts parts taken (suc n) u lines rest more)
    ∙ ap (λ x. go_on n (λ next. each_line (λ u l. taken u (parts l)) (suc n) next rest) (taken v x)) one
