-- A buffer has no more breaks and choices than cells.
use Rattle.std.proofs.Common.{◌≡◌, ℕ, suc, ◌+◌, ◌-◌, ◌<◌, ◌≤◌, Bool, true, List, [], ◌∷◌, length, refl, arith}
use Rattle.std.specs.Prelude.{nat_le, nat_lt}
use Rattle.std.specs.List.{list_all}
use Rattle.std.proofs.lemmas.Bool.{and_from, and_parts, le-leb, leb-true, lt-ltb, ltb-true}
use Rattle.chew_spec_phrasing.specs.Usable.{Choice, choice_end}
use Rattle.chew_spec_preedit.specs.Buffer.{Buffer, are_apart, is_buffer, is_choice_of, is_rising}
use Rattle.chew_spec_preedit.specs.Cell.{Cell, is_between_sounds}
use Rattle.chew_spec_preedit.proofs.IsBuffer.{IsBuffer, IsBuffer-from, IsBetween-from, IsChoice-from}
use Rattle.chew_spec_preedit.proofs.Phrases.{phrase_len-some}
use Rattle.chew_spec_preedit.proofs.Places.{has_sound-within}

-- as many places as follow from one on and stay below another
few_places : (places : List ℕ) (from to : ℕ) → is_rising places ≡ true → list_all (nat_le from) places ≡ true → list_all (λ place. nat_lt place to) places ≡ true → length places ≤ to - from
few_places [] from to r a b = omega arith
few_places (place ∷ places) from to r a b =
    let rising = and_parts (list_all (nat_lt place) places) (is_rising places) r in
    let above = and_parts (nat_le from place) (list_all (nat_le from) places) a in
    let below = and_parts (nat_lt place to) (list_all (λ p. nat_lt p to) places) b in
    let rest = few_places places (suc place) to rising.1 rising.0 below.1 in
    let l = leb-true from place above.0 in
    let m = ltb-true place to below.0 in
    omega arith

below_all : (cells : List Cell) (breaks : List ℕ) → list_all (is_between_sounds cells) breaks ≡ true → list_all (λ place. nat_lt place (length cells)) breaks ≡ true
below_all cells [] e = refl
below_all cells (place ∷ places) e =
    let parts = and_parts (is_between_sounds cells place) (list_all (is_between_sounds cells) places) e in
    and_from (nat_lt place (length cells)) (list_all (λ p. nat_lt p (length cells)) places)
    (within place (has_sound-within cells place (IsBetween-from cells place parts.0).right)) (below_all cells places parts.1)
  where
    within : (place : ℕ) → place < length cells → nat_lt place (length cells) ≡ true
    within place l = lt-ltb place (length cells) l

at_least_all : (breaks : List ℕ) → list_all (nat_le 0) breaks ≡ true
at_least_all [] = refl
at_least_all (place ∷ places) = and_from (nat_le 0 place) (list_all (nat_le 0) places) (le-leb 0 place (omega arith)) (at_least_all places)

pub length-breaks : (had : Buffer) → is_buffer had ≡ true → length had.breaks ≤ length had.cells
length-breaks had e =
    let h = IsBuffer-from had e in
    let few = few_places had.breaks 0 (length had.cells) h.rising (at_least_all had.breaks) (below_all had.cells had.breaks h.between) in
    omega arith

few_choices : (cells : List Cell) (breaks : List ℕ) (choices : List Choice) (from : ℕ) → are_apart choices ≡ true
    → list_all (λ choice. nat_le from choice.start) choices ≡ true → list_all (is_choice_of cells breaks) choices ≡ true → length choices ≤ length cells - from
few_choices cells breaks [] from r a b = omega arith
few_choices cells breaks (choice ∷ choices) from r a b =
    let apart = and_parts (list_all (λ later. nat_le (choice_end choice) later.start) choices) (are_apart choices) r in
    let above = and_parts (nat_le from choice.start) (list_all (λ other. nat_le from other.start) choices) a in
    let own = and_parts (is_choice_of cells breaks choice) (list_all (is_choice_of cells breaks) choices) b in
    let rest = few_choices cells breaks choices (choice_end choice) apart.1 apart.0 own.1 in
    let is = IsChoice-from cells breaks choice own.0 in
    let some = phrase_len-some choice.phrase is.phrase in
    let within = is.within in
    let l = leb-true from choice.start above.0 in
    omega arith

starts_all : (choices : List Choice) → list_all (λ choice. nat_le 0 choice.start) choices ≡ true
starts_all [] = refl
starts_all (choice ∷ choices) = and_from (nat_le 0 choice.start) (list_all (λ other. nat_le 0 other.start) choices) (le-leb 0 choice.start (omega arith)) (starts_all choices)

pub length-choices : (had : Buffer) → is_buffer had ≡ true → length had.choices ≤ length had.cells
length-choices had e =
    let h = IsBuffer-from had e in
    let few = few_choices had.cells had.breaks had.choices 0 h.apart (starts_all had.choices) h.chosen in
    omega arith
