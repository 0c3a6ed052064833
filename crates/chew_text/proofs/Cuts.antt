-- A text that is cut at the first of a byte.
use Rattle.std.proofs.Common.{◌≡◌, ℕ, suc, ◌+◌, ◌<◌, Bool, true, false, cond, List, [], ◌∷◌, ◌++◌, length, take, drop, get_or, position, ◌==◌, Some, None, refl, ap, sym, ◌∙◌, arith, add-one, drop-cons, All}
use Rattle.std.specs.List.{after_first, before_first, list_any, position_or_len}
use Rattle.std.proofs.Math.Seq.{take-append_seam, drop-append-add}
use Rattle.std.proofs.lemmas.Bool.{eqb-true, ltb-false, eq-eqb}
use Rattle.std.proofs.lemmas.List.{take-append-drop, length-take, get_or-take}
use Rattle.std.proofs.lemmas.List.Elements.{All-from_get_or, All-head, All-tail}
use Rattle.std.proofs.lemmas.List.Sums.{fails_before_first}
use Rattle.std.proofs.lemmas.List.Quantifiers.{position-Some}

-- the byte stands nowhere in the text
abbrev pub Lacks : ℕ → List ℕ → Type 0
Lacks byte text = All (λ other. (other == byte) ≡ false) text

pub lacks_head : (byte x : ℕ) (xs : List ℕ) → Lacks byte (x ∷ xs) → (x == byte) ≡ false
lacks_head byte x xs h = All-head (λ other. (other == byte) ≡ false) x xs h

pub lacks_tail : (byte x : ℕ) (xs : List ℕ) → Lacks byte (x ∷ xs) → Lacks byte xs
lacks_tail byte x xs h = All-tail (λ other. (other == byte) ≡ false) x xs h

-- where it was found
pub found_whole : (byte : ℕ) (text : List ℕ) (place : ℕ) → position (λ other. other == byte) text ≡ Some place → text ≡ take place text ++ byte ∷ drop (place + 1) text
found_whole byte text place e =
    let found = position-Some (λ other. other == byte) text place 0 e in
    let is : get_or text place 0 ≡ byte = eqb-true _ _ found.1 in
    let rest : drop place text ≡ byte ∷ drop (place + 1) text = rw add-one (drop-cons text place 0 found.0 ∙ ap (λ (b : ℕ). b ∷ drop (suc place) text) is) in
    sym (take-append-drop place text) ∙ ap (λ (l : List ℕ). take place text ++ l) rest

pub found_first : (byte : ℕ) (text : List ℕ) (place : ℕ) → position (λ other. other == byte) text ≡ Some place → Lacks byte (take place text)
found_first byte text place e =
    let found = position-Some (λ other. other == byte) text place 0 e in
    All-from_get_or (λ other. (other == byte) ≡ false) (take place text) 0
    (λ i h. let short : i < place = omega (arith, length-take place text) in rw get_or-take (found.2 i short))

chose_none : (b : Bool) (n : ℕ) → cond b (Some n) None ≡ None → b ≡ false
chose_none true n e = absurd cc
chose_none false n e = refl

pub none_found : (byte : ℕ) (text : List ℕ) → position (λ other. other == byte) text ≡ None → Lacks byte text
none_found byte text e =
    let past = ltb-false (position_or_len (λ other. other == byte) text) (length text) (chose_none _ _ e) in
    All-from_get_or (λ other. (other == byte) ≡ false) text 0 (λ i h. fails_before_first (λ other. other == byte) text i 0 (omega arith))

-- what stands before it and behind it
at : (byte : ℕ) (front rest : List ℕ) → Lacks byte front → position_or_len (λ other. other == byte) (front ++ byte ∷ rest) ≡ length front
at byte [] rest h = rw (eq-eqb byte byte refl) refl
at byte (x ∷ front) rest h = rw (lacks_head byte x front h) (let more = at byte front rest (lacks_tail byte x front h) in omega arith)

pub before_it : (byte : ℕ) (front rest : List ℕ) → Lacks byte front → before_first (λ other. other == byte) (front ++ byte ∷ rest) ≡ front
before_it byte front rest h = ap (λ (n : ℕ). take n (front ++ byte ∷ rest)) (at byte front rest h) ∙ take-append_seam front (byte ∷ rest)

pub behind_it : (byte : ℕ) (front rest : List ℕ) → Lacks byte front → after_first (λ other. other == byte) (front ++ byte ∷ rest) ≡ rest
behind_it byte front rest h = ap (λ (n : ℕ). drop (n + 1) (front ++ byte ∷ rest)) (at byte front rest h) ∙ drop-append-add front (byte ∷ rest) 1

-- whether it stands anywhere
pub stands : (byte : ℕ) (front rest : List ℕ) → Lacks byte front → list_any (λ other. other == byte) (front ++ byte ∷ rest) ≡ true
stands byte [] rest h = rw (eq-eqb byte byte refl) refl
stands byte (x ∷ front) rest h = rw (lacks_head byte x front h) (stands byte front rest (lacks_tail byte x front h))

pub stands_not : (byte : ℕ) (text : List ℕ) → Lacks byte text → list_any (λ other. other == byte) text ≡ false
stands_not byte [] h = refl
stands_not byte (x ∷ text) h = rw (lacks_head byte x text h) (stands_not byte text (lacks_tail byte x text h))
