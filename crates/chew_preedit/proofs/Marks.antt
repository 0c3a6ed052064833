-- What a break or a choice leaves is what its definition says.
use Rattle.std.proofs.Common.{◌≡◌, ℕ, ◌+◌, ◌-◌, ◌<◌, ◌≤◌, Bool, true, false, not, ◌&&◌, take, drop, List, [], ◌∷◌, ◌++◌, length, map, filter, All, refl, ap, subst, sym, ◌∙◌, arith}
use Rattle.std.specs.Prelude.{◌==◌, nat_le, nat_lt}
use Rattle.std.specs.List.{list_all}
use Rattle.std.proofs.lemmas.Bool.{and_from, le-leb}
use Rattle.std.proofs.lemmas.List.{append_assoc, length-append, map-id}
use Rattle.chew_spec_syllable.specs.Phrase.{is_phrase}
use Rattle.chew_spec_syllable.specs.Row.{greatest_freq}
use Rattle.chew_spec_phrasing.specs.CanSegment.{interval_of}
use Rattle.chew_spec_phrasing.specs.Usable.{Choice, choice_end, is_unbroken, phrase_len}
use Rattle.chew_spec_preedit.specs.Buffer.{Buffer, is_buffer, is_choice_of, is_choosable}
use Rattle.chew_spec_preedit.specs.Cell.{Cell, is_sound}
use Rattle.chew_spec_preedit.specs.Edit.{breaks_before, breaks_behind, broken, can_break, choices_before, choices_behind, chosen, has_inside, mended}
use Rattle.chew_spec_preedit.proofs.Counts.{length-breaks, length-choices}
use Rattle.chew_spec_preedit.proofs.IsBuffer.{IsBetween-from, IsBuffer-from, IsChoice-from}
use Rattle.chew_spec_preedit.proofs.Marked.{is_buffer-broken, is_buffer-chosen}
use Rattle.chew_spec_preedit.proofs.Places.{has_sound-within}
use Rattle.chew_spec_preedit.proofs.Spliced.{moved}
use Rattle.chew_preedit.specs.Splice.{moved_choice, moved_place}
use Rattle.chew_preedit.proofs.Edits.{map_agree}
use Rattle.chew_preedit.proofs.Rooms.{few_cells}

-- where no cell is cut out or put in, nothing moves
pub place_stays : (place : ℕ) → moved_place 0 0 place ≡ place
place_stays place = omega arith

pub choice_stays : (choice : Choice) → moved_choice 0 0 choice ≡ choice
choice_stays choice = ap (λ k. moved (λ _. k) choice) (place_stays choice.start)

-- what is before a place, then one more, then what is behind another
pub around_is : {X : Type 0} (before_of behind_of : ℕ → List X) (move : ℕ → ℕ → X → X) (x : X) (place end from from' removed added : ℕ) (none before middle all : List X)
    → none ≡ [] → from ≡ place → from' ≡ end → removed ≡ 0 → added ≡ 0 → ((y : X) → move 0 0 y ≡ y)
    → before ≡ none ++ before_of from → middle ≡ before ++ (x ∷ []) → all ≡ middle ++ map (move removed added) (behind_of (from' + removed))
    → all ≡ before_of place ++ (x ∷ behind_of end)
around_is {X} before_of behind_of move x place end from from' removed added none before middle all n f g r a stays b m e =
    let front : before ≡ before_of place = b ∙ (ap (λ xs. xs ++ before_of from) n ∙ ap before_of f) in
    let to : from' + removed ≡ end = omega arith in
    let back : map (move removed added) (behind_of (from' + removed)) ≡ behind_of end =
    ap (λ k. map (move k added) (behind_of (from' + removed))) r ∙ (ap (λ k. map (move 0 k) (behind_of (from' + removed))) a
    ∙ (map_agree (move 0 0) (λ (y : X). y) stays (behind_of (from' + removed)) ∙ (map-id (behind_of (from' + removed)) ∙ ap behind_of to))) in
    e ∙ (ap (λ xs. xs ++ map (move removed added) (behind_of (from' + removed))) (m ∙ ap (λ xs. xs ++ (x ∷ [])) front)
    ∙ (append_assoc (before_of place) (x ∷ []) (map (move removed added) (behind_of (from' + removed))) ∙ ap (λ xs. before_of place ++ (x ∷ xs)) back))

pub mended_same : (had : Buffer) (limit cursor : ℕ) (cells : List Cell) (breaks left : List ℕ) (choices : List Choice)
    → (let seen : Buffer = record { limit = limit; cells = cells; cursor = cursor; breaks = breaks; choices = choices } in seen ≡ had)
    → left ≡ filter (λ at. not (at == cursor)) breaks
    → (let now : Buffer = record { limit = limit; cells = cells; cursor = cursor; breaks = left; choices = choices } in now ≡ mended had)
mended_same had limit cursor cells breaks left choices same e =
    ap (λ (bs : List ℕ). let now : Buffer = record { limit = limit; cells = cells; cursor = cursor; breaks = bs; choices = choices } in now) e ∙ ap mended same

pub broken_same : (had : Buffer) (limit cursor : ℕ) (cells : List Cell) (breaks left : List ℕ) (choices stay : List Choice)
    → (let seen : Buffer = record { limit = limit; cells = cells; cursor = cursor; breaks = breaks; choices = choices } in seen ≡ had)
    → left ≡ breaks_before cursor breaks ++ (cursor ∷ breaks_behind cursor breaks) → stay ≡ filter (λ choice. not (has_inside cursor choice)) choices
    → (let now : Buffer = record { limit = limit; cells = cells; cursor = cursor; breaks = left; choices = stay } in now ≡ broken had)
broken_same had limit cursor cells breaks left choices stay same e f =
    ap (λ (bs : List ℕ). let now : Buffer = record { limit = limit; cells = cells; cursor = cursor; breaks = bs; choices = stay } in now) e
    ∙ (ap (λ (cs : List Choice). let now : Buffer = record { limit = limit; cells = cells; cursor = cursor; breaks = breaks_before cursor breaks ++ (cursor ∷ breaks_behind cursor breaks); choices = cs } in now) f
    ∙ ap broken same)

pub chosen_same : (had : Buffer) (choice : Choice) (limit cursor : ℕ) (cells : List Cell) (breaks : List ℕ) (choices stay : List Choice)
    → (let seen : Buffer = record { limit = limit; cells = cells; cursor = cursor; breaks = breaks; choices = choices } in seen ≡ had)
    → stay ≡ choices_before choice.start choices ++ (choice ∷ choices_behind (choice_end choice) choices)
    → (let now : Buffer = record { limit = limit; cells = cells; cursor = cursor; breaks = breaks; choices = stay } in now ≡ chosen choice had)
unfolding chosen
chosen_same had choice limit cursor cells breaks choices stay same e =
    ap (λ (cs : List Choice). let now : Buffer = record { limit = limit; cells = cells; cursor = cursor; breaks = breaks; choices = cs } in now) e
    ∙ ap (λ (b : Buffer). record b { choices = choices_before choice.start b.choices ++ (choice ∷ choices_behind (choice_end choice) b.choices) }) same

-- there is room for one break more, where one may stand, and for one choice more
pub room-broken : (had : Buffer) (breaks : List ℕ) (cursor : ℕ) → breaks ≡ had.breaks → cursor ≡ had.cursor → is_buffer had ≡ true → can_break had ≡ true
    → length (breaks_before cursor breaks) + (length (breaks_behind cursor breaks) + 1) ≤ 39
room-broken had breaks cursor same at e can =
    subst (λ (bs : List ℕ). length (breaks_before cursor bs) + (length (breaks_behind cursor bs) + 1) ≤ 39) (sym same)
    (subst (λ (k : ℕ). length (breaks_before k had.breaks) + (length (breaks_behind k had.breaks) + 1) ≤ 39) (sym at)
    (let new = is_buffer-broken had e can in
    let few = length-breaks (broken had) new in
    let cells = few_cells (broken had) new in
    omega (arith, length-append (breaks_before had.cursor had.breaks) (had.cursor ∷ breaks_behind had.cursor had.breaks))))

pub room-chosen : (had : Buffer) (choice : Choice) (choices : List Choice) → choices ≡ had.choices → is_buffer had ≡ true → is_choice_of had.cells had.breaks choice ≡ true
    → length (choices_before choice.start choices) + (length (choices_behind (choice_end choice) choices) + 1) ≤ 39
unfolding chosen
room-chosen had choice choices same e own =
    subst (λ (cs : List Choice). length (choices_before choice.start cs) + (length (choices_behind (choice_end choice) cs) + 1) ≤ 39) (sym same)
    (let new = is_buffer-chosen had choice e own in
    let few = length-choices (chosen choice had) new in
    let cells = few_cells (chosen choice had) new in
    omega (arith, length-append (choices_before choice.start had.choices) (choice ∷ choices_behind (choice_end choice) had.choices)))

pub cursor-broken : (had : Buffer) (cursor : ℕ) → cursor ≡ had.cursor → is_buffer had ≡ true → can_break had ≡ true → cursor ≤ 39
cursor-broken had cursor at e can =
    let within = has_sound-within had.cells had.cursor (IsBetween-from had.cells had.cursor can).right in
    let few = few_cells had e in
    omega arith

pub end-chosen : (had : Buffer) (choice : Choice) → is_buffer had ≡ true → is_choice_of had.cells had.breaks choice ≡ true → choice_end choice ≤ 39
end-chosen had choice e own =
    let within = (IsChoice-from had.cells had.breaks choice own).within in
    let few = few_cells had e in
    omega arith

pub is_choice_of-chosen : (had : Buffer) (choice : Choice) → is_phrase choice.phrase ≡ true → choice.freq ≤ 99_999_999 → is_choosable had.cells had.breaks choice ≡ true → is_choice_of had.cells had.breaks choice ≡ true
is_choice_of-chosen had choice phrase freq own =
    and_from (is_phrase choice.phrase) _ phrase (and_from (nat_le choice.freq greatest_freq) _ (le-leb choice.freq greatest_freq freq) own)
