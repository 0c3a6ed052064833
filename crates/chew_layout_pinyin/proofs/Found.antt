-- What is found in lists of spellings.
use Rattle.std.proofs.Common.{◌≡◌, ◌≢◌, ℕ, ◌+◌, ◌<◌, length, drop, get_or, sym, flat_map, add-one, drop-cons, List, [], ◌∷◌, ◌++◌, Option, Some, None, refl, ap, ◌∙◌, map, cond, true, false}
use Rattle.std.specs.Prelude.{bytes_eq}
use Rattle.std.proofs.lemmas.Bool.{cond_both, eq-eqb}
use Rattle.std.proofs.lemmas.Slice.Eq.{bytes_eq-Decides}
use Rattle.std.specs.Option.{option_map, option_or}
use Rattle.std.specs.List.{find}
use Rattle.std.proofs.lemmas.List.Folds.{find-append}
use Rattle.chew_spec_layout.specs.Spelling.{Spelling, joined}
use Rattle.chew_layout_pinyin.specs.Tables.{marks_in}

-- a map of the first of two options that there is
map_or : {A B : Type 0} (f : A → B) (o p : Option A) → option_map f (option_or o p) ≡ option_or (option_map f o) (option_map f p)
map_or f None p = refl
map_or f (Some x) p = refl

-- a spelling is found in the first of two lists, or else in the second
found_in_two : (first second : List Spelling) (letters : List ℕ) → marks_in (first ++ second) letters ≡ option_or (marks_in first letters) (marks_in second letters)
found_in_two first second letters =
    ap (option_map (λ (s : Spelling). s.marks)) (find-append (λ s. bytes_eq s.letters letters) first second) ∙ map_or (λ (s : Spelling). s.marks) _ _

-- a list from its i-th element on
from_here : {X : Type 0} (F : X → List Spelling) (list : List X) (i : ℕ) (d : X) (letters : List ℕ) → i < length list
    → marks_in (flat_map F (drop i list)) letters ≡ option_or (marks_in (F (get_or list i d)) letters) (marks_in (flat_map F (drop (i + 1) list)) letters)
from_here {X = X} F list i d letters h =
    let e : drop i list ≡ get_or list i d ∷ drop (i + 1) list = rw add-one (drop-cons list i d h) in
    ap (λ (l : List X). marks_in (flat_map F l) letters) e ∙ found_in_two (F (get_or list i d)) (flat_map F (drop (i + 1) list)) letters

-- what the i-th element has is found, where nothing was before
pub found_here : {X : Type 0} (F : X → List Spelling) (list : List X) (i : ℕ) (d : X) (letters : List ℕ) (whole : Option (List ℕ)) (marks : List ℕ)
    → i < length list → whole ≡ marks_in (flat_map F (drop i list)) letters → Some marks ≡ marks_in (F (get_or list i d)) letters → Some marks ≡ whole
found_here F list i d letters whole marks h before here =
    sym (before ∙ (from_here F list i d letters h ∙ ap (λ (o : Option (List ℕ)). option_or o (marks_in (flat_map F (drop (i + 1) list)) letters)) (sym here)))

-- and where it has nothing, nothing was found up to the next
pub not_here : {X : Type 0} (F : X → List Spelling) (list : List X) (i : ℕ) (d : X) (letters : List ℕ) (whole : Option (List ℕ))
    → i < length list → whole ≡ marks_in (flat_map F (drop i list)) letters → None ≡ marks_in (F (get_or list i d)) letters
    → whole ≡ marks_in (flat_map F (drop (i + 1) list)) letters
not_here F list i d letters whole h before here =
    before ∙ (from_here F list i d letters h ∙ ap (λ (o : Option (List ℕ)). option_or o (marks_in (flat_map F (drop (i + 1) list)) letters)) (sym here))

-- letters that are not an initial's and more are no spelling with it
pub with_other : (initial : Spelling) (endings : List Spelling) (letters : List ℕ) → ((rest : List ℕ) → letters ≢ initial.letters ++ rest)
    → marks_in (map (joined initial) endings) letters ≡ None
with_other initial [] letters h = refl
with_other initial (e ∷ endings) letters h =
    cond_both (bytes_eq (initial.letters ++ e.letters) letters) _ _ (λ o. option_map (λ (s : Spelling). s.marks) o ≡ None)
    (λ t. absurd (h e.letters (sym ((bytes_eq-Decides _ _).0 t)))) (λ f. with_other initial endings letters h)

-- behind the same letters the rest decides
same_front : (front a b : List ℕ) → bytes_eq (front ++ a) (front ++ b) ≡ bytes_eq a b
same_front [] a b = refl
same_front (x ∷ front) a b = rw (eq-eqb x x refl) (same_front front a b)

-- behind an initial's letters the rest decides
behind_front : (initial : Spelling) (endings : List Spelling) (rest : List ℕ)
    → marks_in (map (joined initial) endings) (initial.letters ++ rest) ≡ option_map (λ marks. initial.marks ++ marks) (marks_in endings rest)
behind_front initial [] rest = refl
behind_front initial (e ∷ endings) rest =
    rw (same_front initial.letters e.letters rest)
    (elim (bytes_eq e.letters rest) as (λ t.
    option_map (λ (s : Spelling). s.marks) (cond t (Some (joined initial e)) (find (λ s. bytes_eq s.letters (initial.letters ++ rest)) (map (joined initial) endings)))
    ≡ option_map (λ marks. initial.marks ++ marks) (option_map (λ (s : Spelling). s.marks) (cond t (Some e) (find (λ s. bytes_eq s.letters rest) endings))))
    [ true ↦ refl | false ↦ behind_front initial endings rest ])

-- so the marks are the initial's and the ending's
pub with_initial : (initial : Spelling) (endings : List Spelling) (letters rest : List ℕ) (ending : Option (List ℕ)) → letters ≡ initial.letters ++ rest → ending ≡ marks_in endings rest
    → option_map (λ marks. initial.marks ++ marks) ending ≡ marks_in (map (joined initial) endings) letters
with_initial initial endings letters rest ending e h =
    ap (option_map (λ marks. initial.marks ++ marks)) h ∙ sym (ap (marks_in (map (joined initial) endings)) e ∙ behind_front initial endings rest)
