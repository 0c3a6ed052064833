-- What holds of a text whose lines are taken one after another where it isn't too long.
use Rattle.std.proofs.Common.{◌≡◌, ℕ, suc, ◌+◌, ◌<◌, ◌≤◌, Bool, true, false, cond, leb, List, length, take, Result, Ok, Err, sym, ap, ◌∙◌, arith}
use Rattle.std.specs.List.{filter}
use Rattle.std.proofs.lemmas.Bool.{cond-true, cond-false, le-leb, leb-false, lt-leb}
use Rattle.chew_spec_text.specs.Lines.{Fault, but_for_line, each_line, lines_of}
use Rattle.chew_spec_text.proofs.EachLine.{within, caused, same_fault, left_out}

-- the fault of a text that is too long
abbrev pub too_long : {C : Type 0} → C → Fault C
too_long size = record { line = 0; cause = size }

-- the lines where the test lets them through
abbrev pub let_in : {V C : Type 0} → Bool → C → (V → List ℕ → Result V C) → V → List ℕ → Result V (Fault C)
let_in test size taken start text = cond test (each_line taken 1 start (lines_of text)) (Err (too_long size))

-- the lines of a text of at most this length
abbrev pub limited : {V C : Type 0} → ℕ → C → (V → List ℕ → Result V C) → V → List ℕ → Result V (Fault C)
limited limit size taken start text = let_in (leb (length text) limit) size taken start text

-- a text that is too long
pub refused : {V C : Type 0} (limit : ℕ) (size : C) (taken : V → List ℕ → Result V C) (start : V) (text : List ℕ)
    → limit < length text → limited limit size taken start text ≡ Err (too_long size)
refused limit size taken start text h = cond-false _ _ _ (lt-leb _ _ h)

-- a text that isn't
pub accepted : {V C : Type 0} (limit : ℕ) (size : C) (taken : V → List ℕ → Result V C) (start : V) (text : List ℕ)
    → length text ≤ limit → limited limit size taken start text ≡ each_line taken 1 start (lines_of text)
accepted limit size taken start text h = cond-true _ _ _ (le-leb _ _ h)

-- a value is what the lines made
pub of_lines : {V C : Type 0} (test : Bool) (size : C) (taken : V → List ℕ → Result V C) (start v : V) (text : List ℕ)
    → let_in test size taken start text ≡ Ok v → each_line taken 1 start (lines_of text) ≡ Ok v
of_lines true size taken start v text h = h
of_lines false size taken start v text h = absurd cc

-- the fault's line is one of the text's, or 0
pub at_most : {V C : Type 0} (test : Bool) (size : C) (taken : V → List ℕ → Result V C) (start : V) (text : List ℕ) (f : Fault C)
    → let_in test size taken start text ≡ Err f → f.line ≤ length (lines_of text)
at_most true size taken start text f h = let high : f.line < 1 + length (lines_of text) = (within taken 1 start (lines_of text) f h).high in omega arith
at_most false size taken start text f h =
    let same : f ≡ too_long size = cc in let zero_is : f.line ≡ 0 = ap (λ g. g.line) same in omega arith

-- line 0 is told of the whole text alone
pub whole : {V C : Type 0} (test : Bool) (size : C) (taken : V → List ℕ → Result V C) (start : V) (text : List ℕ) (f : Fault C)
    → let_in test size taken start text ≡ Err f → f.line ≡ 0 → f.cause ≡ size
whole true size taken start text f h zero_is = let low : 1 ≤ f.line = (within taken 1 start (lines_of text) f h).low in absurd (omega arith)
whole false size taken start text f h zero_is = let same : f ≡ too_long size = cc in ap (λ g. g.cause) same

-- the size is told of a text that is too long alone
pub sized : {V C : Type 0} (test : Bool) (limit : ℕ) (size : C) (taken : V → List ℕ → Result V C) (start : V) (text : List ℕ) (f : Fault C)
    → leb (length text) limit ≡ test → ((u : V) (line : List ℕ) (cause : C) → taken u line ≡ Err cause → cause ≡ size → ⊥)
    → let_in test size taken start text ≡ Err f → f.cause ≡ size → limit < length text
sized true limit size taken start text f t free h e = absurd (caused (λ cause. cause ≡ size → ⊥) taken free 1 start (lines_of text) f h e)
sized false limit size taken start text f t free h e = leb-false _ _ t

-- what stands behind the faulty line doesn't matter
pub later : {V C : Type 0} (test : Bool) (limit : ℕ) (size : C) (taken : V → List ℕ → Result V C) (start : V) (text other : List ℕ) (f : Fault C)
    → let_in test size taken start text ≡ Err f → 0 < f.line → length other ≤ limit
    → take f.line (lines_of other) ≡ take f.line (lines_of text) → limited limit size taken start other ≡ Err f
later true limit size taken start text other f h low short same =
    let number : 1 + f.line ≡ suc f.line = omega arith in
    accepted limit size taken start other short ∙ same_fault taken 1 f.line start f (lines_of text) (lines_of other) number (sym same) h
later false limit size taken start text other f h low short same =
    let is : f ≡ too_long size = cc in let zero_is : f.line ≡ 0 = ap (λ g. g.line) is in absurd (omega arith)

-- texts of the same lines say the same
pub same_lines : {V C : Type 0} (limit : ℕ) (size : C) (taken : V → List ℕ → Result V C) (start : V) (text other : List ℕ)
    → length text ≤ limit → length other ≤ limit → lines_of text ≡ lines_of other
    → limited limit size taken start text ≡ limited limit size taken start other
same_lines limit size taken start text other short too same =
    accepted limit size taken start text short ∙ (ap (each_line taken 1 start) same ∙ sym (accepted limit size taken start other too))

-- so do texts that differ in lines that change nothing, but for the number of a faulty line
pub same_counting : {V C : Type 0} (counts : List ℕ → Bool) (limit : ℕ) (size : C) (taken : V → List ℕ → Result V C) (start : V) (text other : List ℕ)
    → ((v : V) (line : List ℕ) → counts line ≡ false → taken v line ≡ Ok v)
    → length text ≤ limit → length other ≤ limit → filter counts (lines_of text) ≡ filter counts (lines_of other)
    → but_for_line (limited limit size taken start text) ≡ but_for_line (limited limit size taken start other)
same_counting counts limit size taken start text other none short too same =
    ap but_for_line (accepted limit size taken start text short)
    ∙ (left_out counts taken none 1 1 start (lines_of text)
    ∙ (ap (λ lines. but_for_line (each_line taken 1 start lines)) same
    ∙ (sym (left_out counts taken none 1 1 start (lines_of other)) ∙ ap but_for_line (sym (accepted limit size taken start other too)))))
