-- Which breaks and choices each edit leaves.
use Rattle.std.proofs.Common.{◌≡◌, ◌≢◌, ◌↔◌, ◌⊎◌, inl, inr, ℕ, suc, ◌+◌, ◌-◌, ◌<◌, ◌≤◌, Bool, true, false, not, ◌&&◌, List, ◌∷◌, ◌++◌, length, map, filter, Contains, refl, ap, sym, subst, ◌∙◌, arith}
use Rattle.std.specs.Prelude.{◌==◌, nat_le, nat_lt}
use Rattle.std.specs.List.{list_all}
use Rattle.std.proofs.lemmas.Bool.{cases_Bool, cases_order, eqb-false, le-leb, leb-true, lt-ltb, ltb-true, ne_eqb, not-true, not_from_false, both_ways}
use Rattle.std.proofs.lemmas.Bool.Decides.{nat_tests}
use Rattle.chew_spec_phrasing.specs.CanSegment.{interval_of}
use Rattle.chew_spec_phrasing.specs.Usable.{Choice, choice_end, meets, phrase_len}
use Rattle.chew_spec_phrasing.proofs.Membership.{Contains-filter, Contains-from_filter}
use Rattle.chew_spec_preedit.specs.Buffer.{Buffer, choice_back, choice_on, is_buffer, is_choice_of}
use Rattle.chew_spec_preedit.specs.Cell.{Cell}
use Rattle.chew_spec_preedit.specs.Edit.{backspaced, breaks_behind, broken, choices_behind, chosen, deleted, has_inside, inserted, mended, released, without_cell}
use Rattle.chew_spec_preedit.proofs.Edited.{IsBefore, IsMoved, around_before, around_behind, around_cases, around_own, edited_before, edited_cases, edited_moved, moved_from, moved_to}
use Rattle.chew_spec_preedit.proofs.IsBuffer.{IsBuffer-from, IsChoice-from}
use Rattle.chew_spec_preedit.proofs.Phrases.{phrase_len-some}
use Rattle.chew_spec_preedit.proofs.Spliced.{moved}

-- a choice at another place that is the same
at_place : (choice : Choice) (place : ℕ) → place ≡ choice.start → moved (λ _. place) choice ≡ choice
at_place choice place e = ap (λ (k : ℕ). moved (λ _. k) choice) e

pub inserted-breaks : (had : Buffer) (cell : Cell) (place : ℕ) → Contains (inserted had cell).breaks place
    ↔ (((place < had.cursor) × Contains had.breaks place) ⊎ ((had.cursor + 1 < place) × Contains had.breaks (place - 1)))
unfolding inserted
inserted-breaks had cell place = (
  λ i. elim (edited_cases (λ at. nat_lt at had.cursor) (nat_lt had.cursor) (λ at. at + 1) had.breaks place i) [
    | inl b ↦ inl (ltb-true place had.cursor b.kept, b.among)
    | inr b ↦ let l = ltb-true had.cursor b.from b.kept in let to = b.to in inr (omega arith, subst (Contains had.breaks) (let e : b.from ≡ place - 1 = omega arith in e) b.among)
  ],
  λ h. elim h [
    | inl b ↦ edited_before (λ at. nat_lt at had.cursor) (nat_lt had.cursor) (λ at. at + 1) had.breaks place (lt-ltb place had.cursor b.0) b.1
    | inr b ↦ let l = b.0 in subst (Contains _) (let e : (place - 1) + 1 ≡ place = omega arith in e) (edited_moved (λ at. nat_lt at had.cursor) (nat_lt had.cursor) (λ at. at + 1) had.breaks (place - 1) (lt-ltb had.cursor (place - 1) (omega arith)) b.1)
  ],
)

pub inserted-choices : (had : Buffer) (cell : Cell) (choice : Choice) → Contains (inserted had cell).choices choice
    ↔ (((choice_end choice ≤ had.cursor) × Contains had.choices choice) ⊎ ((had.cursor < choice.start) × Contains had.choices (choice_back 1 choice)))
unfolding inserted
inserted-choices had cell choice = (
  λ i. elim (edited_cases (λ c. nat_le (choice_end c) had.cursor) (λ c. nat_le had.cursor c.start) (choice_on 1) had.choices choice i) [
    | inl b ↦ inl (leb-true (choice_end choice) had.cursor b.kept, b.among)
    | inr b ↦
        let l = leb-true had.cursor b.from.start b.kept in
        let to : b.from.start + 1 ≡ choice.start = ap (λ (c : Choice). c.start) b.to in
        inr (omega arith, subst (Contains had.choices) (sym (at_place b.from (b.from.start + 1 - 1) (omega arith)) ∙ ap (choice_back 1) b.to) b.among)
  ],
  λ h. elim h [
    | inl b ↦ edited_before (λ c. nat_le (choice_end c) had.cursor) (λ c. nat_le had.cursor c.start) (choice_on 1) had.choices choice (le-leb (choice_end choice) had.cursor b.0) b.1
    | inr b ↦
        let l = b.0 in
        subst (Contains _) (at_place choice (choice.start - 1 + 1) (omega arith))
        (edited_moved (λ c. nat_le (choice_end c) had.cursor) (λ c. nat_le had.cursor c.start) (choice_on 1) had.choices (choice_back 1 choice) (le-leb had.cursor (choice.start - 1) (omega arith)) b.1)
  ],
)

pub deleted-breaks : (had : Buffer) (place : ℕ) → Contains (deleted had).breaks place
    ↔ (((place < had.cursor) × Contains had.breaks place) ⊎ ((had.cursor < place) × Contains had.breaks (place + 1)))
unfolding deleted
deleted-breaks had place = (
  λ i. elim (edited_cases (λ at. nat_lt at had.cursor) (nat_lt (suc had.cursor)) (λ at. at - 1) had.breaks place i) [
    | inl b ↦ inl (ltb-true place had.cursor b.kept, b.among)
    | inr b ↦ let l = ltb-true (suc had.cursor) b.from b.kept in let to = b.to in inr (omega arith, subst (Contains had.breaks) (let e : b.from ≡ place + 1 = omega arith in e) b.among)
  ],
  λ h. elim h [
    | inl b ↦ edited_before (λ at. nat_lt at had.cursor) (nat_lt (suc had.cursor)) (λ at. at - 1) had.breaks place (lt-ltb place had.cursor b.0) b.1
    | inr b ↦ let l = b.0 in subst (Contains _) (let e : (place + 1) - 1 ≡ place = omega arith in e) (edited_moved (λ at. nat_lt at had.cursor) (nat_lt (suc had.cursor)) (λ at. at - 1) had.breaks (place + 1) (lt-ltb (suc had.cursor) (place + 1) (omega arith)) b.1)
  ],
)

pub deleted-choices : (had : Buffer) (choice : Choice) → Contains (deleted had).choices choice
    ↔ (((choice_end choice ≤ had.cursor) × Contains had.choices choice) ⊎ ((had.cursor ≤ choice.start) × Contains had.choices (choice_on 1 choice)))
unfolding deleted
deleted-choices had choice = (
  λ i. elim (edited_cases (λ c. nat_le (choice_end c) had.cursor) (λ c. nat_le (suc had.cursor) c.start) (choice_back 1) had.choices choice i) [
    | inl b ↦ inl (leb-true (choice_end choice) had.cursor b.kept, b.among)
    | inr b ↦
        let l = leb-true (suc had.cursor) b.from.start b.kept in
        let to : b.from.start - 1 ≡ choice.start = ap (λ (c : Choice). c.start) b.to in
        inr (omega arith, subst (Contains had.choices) (sym (at_place b.from (b.from.start - 1 + 1) (omega arith)) ∙ ap (choice_on 1) b.to) b.among)
  ],
  λ h. elim h [
    | inl b ↦ edited_before (λ c. nat_le (choice_end c) had.cursor) (λ c. nat_le (suc had.cursor) c.start) (choice_back 1) had.choices choice (le-leb (choice_end choice) had.cursor b.0) b.1
    | inr b ↦
        let l = b.0 in
        subst (Contains _) (at_place choice (choice.start + 1 - 1) (omega arith))
        (edited_moved (λ c. nat_le (choice_end c) had.cursor) (λ c. nat_le (suc had.cursor) c.start) (choice_back 1) had.choices (choice_on 1 choice) (le-leb (suc had.cursor) (choice.start + 1) (omega arith)) b.1)
  ],
)

pub backspaced-deleted : (had : Buffer) → 0 < had.cursor → backspaced had ≡ deleted (record had { cursor = had.cursor - 1 })
unfolding backspaced deleted
backspaced-deleted had l = refl

pub released-breaks : (had : Buffer) (count place : ℕ) → Contains (released count had).breaks place ↔ ((0 < place) × Contains had.breaks (place + count))
unfolding released
released-breaks had count place = (
  λ i.
      let b = moved_from (nat_lt count) (λ at. at - count) had.breaks place i in
      let l = ltb-true count b.from b.kept in
      let to = b.to in
      (omega arith, subst (Contains had.breaks) (let e : b.from ≡ place + count = omega arith in e) b.among),
  λ h.
      let l = h.0 in
      subst (Contains _) (let e : (place + count) - count ≡ place = omega arith in e) (moved_to (nat_lt count) (λ at. at - count) had.breaks (place + count) (lt-ltb count (place + count) (omega arith)) h.1),
)

pub released-choices : (had : Buffer) (count : ℕ) (choice : Choice) → Contains (released count had).choices choice ↔ Contains had.choices (choice_on count choice)
unfolding released
released-choices had count choice = (
  λ i.
      let b = moved_from (λ c. nat_le count c.start) (choice_back count) had.choices choice i in
      let l = leb-true count b.from.start b.kept in
      subst (Contains had.choices) (sym (at_place b.from (b.from.start - count + count) (omega arith)) ∙ ap (choice_on count) b.to) b.among,
  λ i.
      subst (Contains _) (at_place choice (choice.start + count - count) (omega arith))
      (moved_to (λ c. nat_le count c.start) (choice_back count) had.choices (choice_on count choice) (le-leb count (choice.start + count) (omega arith)) i),
)

pub broken-breaks : (had : Buffer) (place : ℕ) → Contains (broken had).breaks place ↔ ((place ≡ had.cursor) ⊎ Contains had.breaks place)
broken-breaks had place = (
  λ i. elim (around_cases (λ at. nat_lt at had.cursor) (nat_lt had.cursor) had.cursor had.breaks place i) [ inl e ↦ inl (sym e) | inr b ↦ elim b [ inl c ↦ inr c.among | inr c ↦ inr c.among ] ],
  λ h. elim h [
    | inl e ↦ subst (Contains _) (sym e) (around_own (λ at. nat_lt at had.cursor) (nat_lt had.cursor) had.cursor had.breaks)
    | inr i ↦ elim (cases_order place had.cursor) [
      | inl e ↦ subst (Contains _) (sym e) (around_own (λ at. nat_lt at had.cursor) (nat_lt had.cursor) had.cursor had.breaks)
      | inr o ↦ elim o [
        | inl l ↦ around_before (λ at. nat_lt at had.cursor) (nat_lt had.cursor) had.cursor had.breaks place (lt-ltb place had.cursor l) i
        | inr l ↦ around_behind (λ at. nat_lt at had.cursor) (nat_lt had.cursor) had.cursor had.breaks place (lt-ltb had.cursor place l) i
      ]
    ]
  ],
)

pub broken-choices : (had : Buffer) (choice : Choice) → Contains (broken had).choices choice ↔ (Contains had.choices choice × (has_inside had.cursor choice ≡ false))
broken-choices had choice = (
  λ i. let k = Contains-from_filter (λ c. not (has_inside had.cursor c)) had.choices choice i in (k.0, not-true (has_inside had.cursor choice) k.1),
  λ h. Contains-filter (λ c. not (has_inside had.cursor c)) had.choices choice h.0 (not_from_false (has_inside had.cursor choice) h.1),
)

pub mended-breaks : (had : Buffer) (place : ℕ) → Contains (mended had).breaks place ↔ ((place ≢ had.cursor) × Contains had.breaks place)
mended-breaks had place = (
  λ i. let k = Contains-from_filter (λ at. not (at == had.cursor)) had.breaks place i in (eqb-false place had.cursor (not-true (place == had.cursor) k.1), k.0),
  λ h. Contains-filter (λ at. not (at == had.cursor)) had.breaks place h.1 (not_from_false (place == had.cursor) (ne_eqb place had.cursor h.0)),
)

apart_meets : (choice other : Choice) → (choice_end other ≤ choice.start) ⊎ (choice_end choice ≤ other.start) → meets (interval_of choice) other ≡ false
apart_meets choice other (inl l) = grind (arith, nat_tests)
apart_meets choice other (inr l) = grind (arith, nat_tests)

meets_apart : (choice other : Choice) → 1 ≤ phrase_len choice.phrase → meets (interval_of choice) other ≡ false → (choice_end other ≤ choice.start) ⊎ (choice_end choice ≤ other.start)
meets_apart choice other l e = grind (arith, nat_tests)

pub chosen-choices : (had : Buffer) (choice other : Choice) → is_buffer had ≡ true → is_choice_of had.cells had.breaks choice ≡ true → Contains (chosen choice had).choices other
    ↔ ((other ≡ choice) ⊎ (Contains had.choices other × (meets (interval_of choice) other ≡ false)))
unfolding chosen
chosen-choices had choice other valid own = (
  λ i. elim (around_cases (λ c. nat_le (choice_end c) choice.start) (λ c. nat_le (choice_end choice) c.start) choice had.choices other i) [
    | inl e ↦ inl (sym e)
    | inr b ↦ elim b [
      | inl c ↦ inr (c.among, apart_meets choice other (inl (leb-true (choice_end other) choice.start c.kept)))
      | inr c ↦ inr (c.among, apart_meets choice other (inr (leb-true (choice_end choice) other.start c.kept)))
    ]
  ],
  λ h. elim h [
    | inl e ↦ subst (Contains _) (sym e) (around_own (λ c. nat_le (choice_end c) choice.start) (λ c. nat_le (choice_end choice) c.start) choice had.choices)
    | inr b ↦ elim (meets_apart choice other (phrase_len-some choice.phrase (IsChoice-from had.cells had.breaks choice own).phrase) b.1) [
      | inl l ↦ around_before (λ c. nat_le (choice_end c) choice.start) (λ c. nat_le (choice_end choice) c.start) choice had.choices other (le-leb (choice_end other) choice.start l) b.0
      | inr l ↦ around_behind (λ c. nat_le (choice_end c) choice.start) (λ c. nat_le (choice_end choice) c.start) choice had.choices other (le-leb (choice_end choice) other.start l) b.0
    ]
  ],
)
