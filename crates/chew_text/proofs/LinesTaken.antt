-- A loop over the lines of a text, which takes them one after another: the value so far and the lines that are left make
-- what the whole text makes.
use Rattle.std.proofs.Common.{◌≡◌, ℕ, suc, ◌+◌, ◌≤◌, List, [], ◌∷◌, length, Result, Ok, Err, ap, sym, ◌∙◌, arith, ◌==◌}
use Rattle.std.specs.List.{slice_split}
use Rattle.std.proofs.lemmas.List.{length-map}
use Rattle.std.proofs.lemmas.List.Splits.{length-slice_split}
use Rattle.std.proofs.lemmas.List.Sums.{count_by-le-length}
use Rattle.chew_spec_text.specs.Lines.{Fault, each_line, go_on, lines_of}

-- what the whole text makes, a value and the lines left, of which the next has the number after this one
pub record Leaves {V C : Type 0} (taken : V → List ℕ → Result V C) (all : Result V (Fault C)) (number : ℕ) (value : V) (left : List (List ℕ)) : Type 0 where
  pub is : all ≡ each_line taken (number + 1) value left

-- before the first line
pub leaves_all : {V C : Type 0} (taken : V → List ℕ → Result V C) (all : Result V (Fault C)) (start value : V) (left lines : List (List ℕ))
    → all ≡ each_line taken 1 start lines → value ≡ start → left ≡ lines → Leaves taken all 0 value left
leaves_all taken all start value left lines h v l = record { is = h ∙ (ap (λ u. each_line taken 1 u lines) (sym v) ∙ ap (each_line taken 1 value) (sym l)) }

-- a line is taken
pub leaves_less : {V C : Type 0} (taken : V → List ℕ → Result V C) (all : Result V (Fault C)) (number : ℕ) (value next : V) (line : List ℕ) (left rest : List (List ℕ))
    → Leaves taken all number value left → left ≡ line ∷ rest → taken value line ≡ Ok next → Leaves taken all (number + 1) next rest
leaves_less taken all number value next line left rest h l t =
    let more : suc (number + 1) ≡ number + 1 + 1 = omega arith in
    record {
      is = h.is ∙ (ap (each_line taken (number + 1) value) l
          ∙ (ap (go_on (number + 1) (λ u. each_line taken (suc (number + 1)) u rest)) t ∙ ap (λ n. each_line taken n next rest) more));
    }

-- a line is refused
pub line_refused : {V C : Type 0} (taken : V → List ℕ → Result V C) (all : Result V (Fault C)) (number : ℕ) (value : V) (cause : C) (line : List ℕ) (left rest : List (List ℕ))
    → Leaves taken all number value left → left ≡ line ∷ rest → taken value line ≡ Err cause → all ≡ Err (record { line = number + 1; cause = cause })
line_refused taken all number value cause line left rest h l t =
    h.is ∙ (ap (each_line taken (number + 1) value) l ∙ ap (go_on (number + 1) (λ u. each_line taken (suc (number + 1)) u rest)) t)

-- no line is left
pub all_taken : {V C : Type 0} (taken : V → List ℕ → Result V C) (all : Result V (Fault C)) (number : ℕ) (value : V) (left : List (List ℕ))
    → Leaves taken all number value left → left ≡ [] → all ≡ Ok value
all_taken taken all number value left h l = h.is ∙ ap (each_line taken (number + 1) value) l

-- a text has at most one line more than bytes
pub few_lines : (text : List ℕ) → length (lines_of text) ≤ length text + 1
few_lines text =
    let parts : length (slice_split (λ byte. byte == 10) text) ≤ length text + 1 = omega (arith, length-slice_split (λ byte. byte == 10) text, count_by-le-length (λ byte. byte == 10) text) in
    rw length-map parts
