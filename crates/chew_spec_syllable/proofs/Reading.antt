-- A syllable and its text determine each other.
use Rattle.std.proofs.Common.{◌≡◌, ℕ, zero, suc, ◌+◌, ◌≤◌, Bool, true, false, cond, eqb, List, [], ◌++◌, length, take, drop, get_or, Option, Some, None, Ok, Err, refl, sym, ap, ◌∙◌, ◌⊎◌, inl, inr, arith}
use Rattle.std.specs.Prelude.{encode_utf8, nat_eq, position}
use Rattle.std.specs.Option.{option_map_or}
use Rattle.std.specs.List.{starts_with}
use Rattle.std.proofs.Math.Seq.{drop-append_seam, take-append_seam}
use Rattle.std.proofs.lemmas.Bool.{cond-true, eqb-true}
use Rattle.std.proofs.lemmas.Bool.Decides.{Decides-eqb}
use Rattle.std.proofs.lemmas.List.{append-nil, append_assoc, length-append, nil_from_length}
use Rattle.std.proofs.lemmas.List.Quantifiers.{position-Some}
use Rattle.std.proofs.lemmas.Slice.Eq.{starts_is}
use Rattle.chew_spec_syllable.specs.Syllable.{Parts, is_syllable}
use Rattle.chew_spec_syllable.specs.SyllableText.{initial_marks, medial_marks, final_marks, tone_marks, mark_text, mark_number, after_mark, text_of, front_parts, after_parts, syllable_reading}
use Rattle.chew_spec_syllable.proofs.CodeParts.{InRange, in_range, same_parts}
use Rattle.chew_spec_syllable.proofs.Marks.{Each, at, IsRead, IsNone, initials_read, medials_read, finals_read, tones_read, medials_no_initial, finals_no_initial, finals_no_medial, tones_no_initial, tones_no_medial, tones_no_final, nothing_initial, nothing_medial, nothing_final, nothing_tone}

-- a mark, or none, at the front of a text that begins with none of its kind
read_mark : (marks : List ℕ) (bound n : ℕ) (rest : List ℕ) → Each (IsRead marks) 0 bound → n ≤ bound → mark_number marks rest ≡ 0
    → mark_number marks (mark_text marks n ++ rest) ≡ n
read_mark marks bound zero rest all h e = e
read_mark marks bound (suc n) rest all h e = at (IsRead marks) bound n all (omega arith) rest

-- before a text that begins with none of these stands none of the others
none_before : (marks others : List ℕ) (bound n : ℕ) (rest : List ℕ) → Each (IsNone marks others) 0 bound → n ≤ bound → mark_number marks rest ≡ 0
    → mark_number marks (mark_text others n ++ rest) ≡ 0
none_before marks others bound zero rest all h e = e
none_before marks others bound (suc n) rest all h e = at (IsNone marks others) bound n all (omega arith) rest

-- behind the mark that was read stands the rest
behind : (marks : List ℕ) (n : ℕ) (rest : List ℕ) → mark_number marks (mark_text marks n ++ rest) ≡ n → after_mark marks (mark_text marks n ++ rest) ≡ rest
behind marks n rest e =
    ap (λ k. drop (length (mark_text marks k)) (mark_text marks n ++ rest)) e ∙ drop-append_seam (mark_text marks n) rest

-- a text is the mark that it begins with, and what follows
split_at : (marks text : List ℕ) (o : Option ℕ) → position (λ mark. starts_with nat_eq text (encode_utf8 mark)) marks ≡ o
    → text ≡ mark_text marks (option_map_or suc o 0) ++ drop (length (mark_text marks (option_map_or suc o 0))) text
split_at marks text None e = refl
split_at marks text (Some i) e =
    let begins = (position-Some (λ mark. starts_with nat_eq text (encode_utf8 mark)) marks i 0 e).1 in
    (starts_is Decides-eqb text (encode_utf8 (get_or marks i 0)) true (sym begins)).0 refl

-- the same of the mark that it has
split : (marks text : List ℕ) → text ≡ mark_text marks (mark_number marks text) ++ after_mark marks text
split marks text = split_at marks text _ refl

-- the marks from the tone on, from the final on and from the medial on
abbrev tone_text : Parts → List ℕ
tone_text p = mark_text tone_marks p.tone

-- from the final on
abbrev final_text : Parts → List ℕ
final_text p = mark_text final_marks p.final ++ tone_text p

-- from the medial on
abbrev medial_text : Parts → List ℕ
medial_text p = mark_text medial_marks p.medial ++ final_text p

-- no mark of these stands before a tone
no_mark_at_tone : (marks : List ℕ) (p : Parts) → InRange p → Each (IsNone marks tone_marks) 0 4 → mark_number marks [] ≡ 0 → mark_number marks (tone_text p) ≡ 0
no_mark_at_tone marks p r all e =
    ap (mark_number marks) (sym (append-nil (tone_text p))) ∙ none_before marks tone_marks 4 p.tone [] all r.tone e

-- the part of each kind is read
tone_number : (p : Parts) → InRange p → mark_number tone_marks (tone_text p ++ []) ≡ p.tone
tone_number p r = read_mark tone_marks 4 p.tone [] tones_read r.tone nothing_tone

-- the final is read
final_number : (p : Parts) → InRange p → mark_number final_marks (final_text p) ≡ p.final
final_number p r = read_mark final_marks 13 p.final (tone_text p) finals_read r.final (no_mark_at_tone final_marks p r tones_no_final nothing_final)

-- the medial is read
medial_number : (p : Parts) → InRange p → mark_number medial_marks (medial_text p) ≡ p.medial
medial_number p r =
    read_mark medial_marks 3 p.medial (final_text p) medials_read r.medial
    (none_before medial_marks final_marks 13 p.final (tone_text p) finals_no_medial r.final (no_mark_at_tone medial_marks p r tones_no_medial nothing_medial))

-- the initial is read
initial_number : (p : Parts) → InRange p → mark_number initial_marks (text_of p) ≡ p.initial
unfolding text_of
initial_number p r =
    read_mark initial_marks 21 p.initial (medial_text p) initials_read r.initial
    (none_before initial_marks medial_marks 3 p.medial (final_text p) medials_no_initial r.medial
    (none_before initial_marks final_marks 13 p.final (tone_text p) finals_no_initial r.final (no_mark_at_tone initial_marks p r tones_no_initial nothing_initial)))

-- what stands behind each
after_initial : (p : Parts) → InRange p → after_mark initial_marks (text_of p) ≡ medial_text p
unfolding text_of
after_initial p r = behind initial_marks p.initial (medial_text p) (initial_number p r)

-- behind the medial stands the final
after_medial : (p : Parts) → InRange p → after_mark medial_marks (medial_text p) ≡ final_text p
after_medial p r = behind medial_marks p.medial (final_text p) (medial_number p r)

-- behind the final stands the tone
after_final : (p : Parts) → InRange p → after_mark final_marks (final_text p) ≡ tone_text p
after_final p r = behind final_marks p.final (tone_text p) (final_number p r)

-- behind the tone stands nothing
after_tone : (p : Parts) → InRange p → after_mark tone_marks (tone_text p) ≡ []
after_tone p r =
    ap (after_mark tone_marks) (sym (append-nil (tone_text p))) ∙ behind tone_marks p.tone [] (tone_number p r)

-- two marks behind each other
from_final : (p : Parts) → InRange p → after_mark medial_marks (after_mark initial_marks (text_of p)) ≡ final_text p
from_final p r = ap (after_mark medial_marks) (after_initial p r) ∙ after_medial p r

-- three marks behind each other
from_tone : (p : Parts) → InRange p → after_mark final_marks (after_mark medial_marks (after_mark initial_marks (text_of p))) ≡ tone_text p
from_tone p r = ap (after_mark final_marks) (from_final p r) ∙ after_final p r

-- the parts of a syllable's text are its parts
pub parts_read : (p : Parts) → InRange p → front_parts (text_of p) ≡ p
parts_read p r =
    same_parts _ _
    (initial_number p r)
    (ap (mark_number medial_marks) (after_initial p r) ∙ medial_number p r)
    (ap (mark_number final_marks) (from_final p r) ∙ final_number p r)
    (ap (mark_number tone_marks) (from_tone p r ∙ sym (append-nil (tone_text p))) ∙ tone_number p r)

-- nothing follows them
pub nothing_after : (p : Parts) → InRange p → after_parts (text_of p) ≡ []
nothing_after p r = ap (after_mark tone_marks) (from_tone p r) ∙ after_tone p r

-- a syllable's text is read as the syllable
pub text_read : (p : Parts) → is_syllable p ≡ true → syllable_reading (text_of p) ≡ Ok p
unfolding syllable_reading
text_read p h =
    let r = in_range p h in
    cond-true _ _ _ (ap (λ (rest : List ℕ). eqb (length rest) 0) (nothing_after p r))
    ∙ (cond-true _ _ _ (ap is_syllable (parts_read p r) ∙ h) ∙ ap Ok (parts_read p r))

-- the last of five lists, taken apart
regroup : (a b c d e : List ℕ) → a ++ (b ++ (c ++ (d ++ e))) ≡ (a ++ (b ++ (c ++ d))) ++ e
regroup a b c d e = sym (simp append_assoc)

-- a text is the marks at its front, and what follows
pub front_and_rest : (text : List ℕ) → text ≡ text_of (front_parts text) ++ after_parts text
unfolding text_of
front_and_rest text =
    let a = after_mark initial_marks text in
    let b = after_mark medial_marks a in
    let d = after_mark final_marks b in
    let i = mark_text initial_marks (mark_number initial_marks text) in
    let m = mark_text medial_marks (mark_number medial_marks a) in
    let f = mark_text final_marks (mark_number final_marks b) in
    let t = mark_text tone_marks (mark_number tone_marks d) in
    let rest = after_mark tone_marks d in
    split initial_marks text
    ∙ (ap (λ x. i ++ x) (split medial_marks a)
    ∙ (ap (λ x. i ++ (m ++ x)) (split final_marks b)
    ∙ (ap (λ x. i ++ (m ++ (f ++ x))) (split tone_marks d)
    ∙ regroup i m f t rest)))

-- what a reading says of the two tests
read_tests : (whole valid : Bool) (q p : Parts) (n m : ℕ) → cond whole (cond valid (Ok q) (Err n)) (Err m) ≡ Ok p → (whole ≡ true) × (valid ≡ true) × (q ≡ p)
read_tests true true q p n m h = (refl, refl, cc)
read_tests true false q p n m h = absurd cc
read_tests false valid q p n m h = absurd cc

-- a text that is read as a syllable is that syllable's text
pub read_text : (text : List ℕ) (p : Parts) → syllable_reading text ≡ Ok p → text_of p ≡ text
unfolding syllable_reading
read_text text p h =
    let s = read_tests _ _ _ _ _ _ h in
    let none = nil_from_length (after_parts text) (eqb-true _ _ s.0) in
    ap text_of (sym s.2) ∙ sym (front_and_rest text ∙ (ap (λ rest. text_of (front_parts text) ++ rest) none ∙ append-nil _))

-- what is read is a syllable
pub read_valid : (text : List ℕ) (p : Parts) → syllable_reading text ≡ Ok p → is_syllable p ≡ true
unfolding syllable_reading
read_valid text p h = let s = read_tests _ _ _ _ _ _ h in ap is_syllable (sym s.2) ∙ s.1

-- the place of a refusal, by the two tests
refused_place : (whole valid : Bool) (q : Parts) (n m place : ℕ) → cond whole (cond valid (Ok q) (Err n)) (Err m) ≡ Err place → ((whole ≡ true) × (n ≡ place)) ⊎ (m ≡ place)
refused_place true true q n m place h = absurd cc
refused_place true false q n m place h = inl (refl, cc)
refused_place false valid q n m place h = inr cc

-- the place of a refusal is at most the length
pub place_within : (text : List ℕ) (place : ℕ) → syllable_reading text ≡ Err place → place ≤ length text
unfolding syllable_reading
place_within text place h = elim (refused_place _ _ _ _ _ _ h) [ inl w ↦ let e = w.1 in omega arith | inr e ↦ omega arith ]

-- before the place of a refusal stand the marks that were read
pub before_place : (text : List ℕ) (place : ℕ) → syllable_reading text ≡ Err place → take place text ≡ text_of (front_parts text)
unfolding syllable_reading
before_place text place h =
    let front = text_of (front_parts text) in
    let rest = after_parts text in
    let sum : length text ≡ length front + length rest = ap length (front_and_rest text) ∙ length-append front rest in
    let seam : take (length front) text ≡ front = ap (λ xs. take (length front) xs) (front_and_rest text) ∙ take-append_seam front rest in
    let at_front : length front ≡ place → take place text ≡ front = λ e. ap (λ n. take n text) (sym e) ∙ seam in
    elim (refused_place _ _ _ _ _ _ h) [
      | inl w ↦ at_front (let none = eqb-true _ _ w.0 in let e = w.1 in omega arith)
      | inr e ↦ at_front (omega arith)
    ]
