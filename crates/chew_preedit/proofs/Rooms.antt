-- What of a buffer's breaks and choices is kept fits, and its places are below 40.
use Rattle.std.proofs.Common.{◌≡◌, ℕ, ◌+◌, ◌-◌, ◌<◌, ◌≤◌, Bool, true, false, cond, List, [], ◌∷◌, length, filter, All, refl, subst, sym, arith}
use Rattle.std.specs.Prelude.{nat_le, nat_lt}
use Rattle.std.specs.List.{list_all}
use Rattle.std.proofs.lemmas.Bool.{and_parts, leb-true, lt-leb, ltb-true, le-ltb}
use Rattle.std.proofs.lemmas.List.Elements.{All-cons, All-nil}
use Rattle.chew_spec_phrasing.specs.Usable.{Choice, choice_end}
use Rattle.chew_spec_preedit.specs.Buffer.{Buffer, is_buffer, is_choice_of}
use Rattle.chew_spec_preedit.specs.Cell.{Cell, is_between_sounds}
use Rattle.chew_spec_preedit.specs.Edit.{breaks_before, breaks_behind, choices_before, choices_behind}
use Rattle.chew_spec_preedit.proofs.Counts.{length-breaks, length-choices}
use Rattle.chew_spec_preedit.proofs.IsBuffer.{IsBuffer-from, IsBetween-from, IsChoice-from}
use Rattle.chew_spec_preedit.proofs.Phrases.{phrase_len-some}
use Rattle.chew_spec_preedit.proofs.Places.{has_sound-within}

two_of : {X : Type 0} (a b : Bool) (x : X) (xs ys zs : List X) → (a ≡ true → b ≡ false) → length xs + length ys ≤ length zs
    → length (cond a (x ∷ xs) xs) + length (cond b (x ∷ ys) ys) ≤ length (x ∷ zs)
two_of true true x xs ys zs h l = absurd (let e = h refl in cc)
two_of true false x xs ys zs h l = omega arith
two_of false true x xs ys zs h l = omega arith
two_of false false x xs ys zs h l = omega arith

-- what passes one of two tests that don't pass together is no more than all
pub length-two_filters : {X : Type 0} (q p r : X → Bool) → ((x : X) → q x ≡ true → p x ≡ true → r x ≡ false) → (xs : List X) → list_all q xs ≡ true → length (filter p xs) + length (filter r xs) ≤ length xs
length-two_filters q p r h [] e = omega arith
length-two_filters q p r h (x ∷ xs) e =
    let parts = and_parts (q x) (list_all q xs) e in
    two_of (p x) (r x) x (filter p xs) (filter r xs) xs (h x parts.0) (length-two_filters q p r h xs parts.1)

pub room-breaks : (had : Buffer) (from to : ℕ) → is_buffer had ≡ true → from ≤ to → length (breaks_before from had.breaks) + length (breaks_behind to had.breaks) ≤ length had.cells
room-breaks had from to e l =
    let h = IsBuffer-from had e in
    let few = length-breaks had e in
    let two = length-two_filters (is_between_sounds had.cells) (λ at. nat_lt at from) (nat_lt to) (λ at _ m. le-ltb to at (let n = ltb-true at from m in omega arith)) had.breaks h.between in
    omega arith

pub room-choices : (had : Buffer) (from to : ℕ) → is_buffer had ≡ true → from ≤ to → length (choices_before from had.choices) + length (choices_behind to had.choices) ≤ length had.cells
room-choices had from to e l =
    let h = IsBuffer-from had e in
    let few = length-choices had e in
    let two = length-two_filters (is_choice_of had.cells had.breaks) (λ choice. nat_le (choice_end choice) from) (λ choice. nat_le to choice.start)
    (λ choice c m.
    let n = leb-true (choice_end choice) from m in
    let some = phrase_len-some choice.phrase (IsChoice-from had.cells had.breaks choice c).phrase in
    lt-leb to choice.start (omega arith)) had.choices h.chosen in
    omega arith

all_from : {X : Type 0} (q : X → Bool) (P : X → Type 0) → ((x : X) → q x ≡ true → P x) → (xs : List X) → list_all q xs ≡ true → All P xs
all_from q P h [] e = All-nil P
all_from q P h (x ∷ xs) e =
    let parts = and_parts (q x) (list_all q xs) e in
    All-cons P x xs (h x parts.0) (all_from q P h xs parts.1)

pub places-within : (had : Buffer) → is_buffer had ≡ true → All (λ place. place ≤ 39) had.breaks
places-within had e =
    let h = IsBuffer-from had e in
    all_from (is_between_sounds had.cells) (λ place. place ≤ 39)
    (λ place b.
    let l = has_sound-within had.cells place (IsBetween-from had.cells place b).right in
    let few = h.few in
    let most = h.most in
    omega arith) had.breaks h.between

pub starts-within : (had : Buffer) → is_buffer had ≡ true → All (λ choice. choice.start ≤ 39) had.choices
starts-within had e =
    let h = IsBuffer-from had e in
    all_from (is_choice_of had.cells had.breaks) (λ choice. choice.start ≤ 39)
    (λ choice c.
    let l = (IsChoice-from had.cells had.breaks choice c).within in
    let few = h.few in
    let most = h.most in
    omega arith) had.choices h.chosen

pub few_cells : (had : Buffer) → is_buffer had ≡ true → length had.cells ≤ 39
few_cells had e =
    let h = IsBuffer-from had e in
    let few = h.few in
    let most = h.most in
    omega arith

-- the same of lists that are a buffer's
pub room-breaks_of : (breaks : List ℕ) (had : Buffer) (from to : ℕ) → breaks ≡ had.breaks → is_buffer had ≡ true → from ≤ to → length (breaks_before from breaks) + length (breaks_behind to breaks) ≤ 39
room-breaks_of breaks had from to same e l =
    subst (λ (bs : List ℕ). length (breaks_before from bs) + length (breaks_behind to bs) ≤ 39) (sym same)
    (let room = room-breaks had from to e l in let few = few_cells had e in omega arith)

pub room-choices_of : (choices : List Choice) (had : Buffer) (from to : ℕ) → choices ≡ had.choices → is_buffer had ≡ true → from ≤ to → length (choices_before from choices) + length (choices_behind to choices) ≤ 39
room-choices_of choices had from to same e l =
    subst (λ (cs : List Choice). length (choices_before from cs) + length (choices_behind to cs) ≤ 39) (sym same)
    (let room = room-choices had from to e l in let few = few_cells had e in omega arith)

pub places-within_of : (breaks : List ℕ) (had : Buffer) → breaks ≡ had.breaks → is_buffer had ≡ true → All (λ place. place ≤ 39) breaks
places-within_of breaks had same e = subst (λ (bs : List ℕ). All (λ place. place ≤ 39) bs) (sym same) (places-within had e)

pub starts-within_of : (choices : List Choice) (had : Buffer) → choices ≡ had.choices → is_buffer had ≡ true → All (λ choice. choice.start ≤ 39) choices
starts-within_of choices had same e = subst (λ (cs : List Choice). All (λ choice. choice.start ≤ 39) cs) (sym same) (starts-within had e)

pub is_buffer-same : (seen had : Buffer) → seen ≡ had → is_buffer seen ≡ true → is_buffer had ≡ true
is_buffer-same seen had same e = subst (λ (b : Buffer). is_buffer b ≡ true) same e
