-- Cells that are cut out leave a buffer.
use Rattle.std.proofs.Common.{◌≡◌, ℕ, suc, ◌+◌, ◌-◌, ◌<◌, ◌≤◌, Bool, true, false, List, [], ◌∷◌, ◌++◌, length, take, drop, map, filter, refl, ap, sym, subst, ◌∙◌, arith, length-append, length-drop}
use Rattle.std.specs.Option.{option_map_or}
use Rattle.std.specs.Prelude.{nat_le, nat_lt}
use Rattle.std.specs.List.{list_all, slice_get}
use Rattle.std.proofs.lemmas.Bool.{and_from, lt-leb, le-ltb}
use Rattle.std.proofs.lemmas.List.{length-take-le}
use Rattle.chew_spec_phrasing.specs.Usable.{Choice, choice_end, phrase_len}
use Rattle.chew_spec_preedit.specs.Buffer.{Buffer, are_apart, choice_back, is_buffer, is_choice_of, is_rising}
use Rattle.chew_spec_preedit.specs.Cell.{Cell, has_sound, is_between_sounds, is_cell, is_sound}
use Rattle.chew_spec_preedit.specs.Edit.{backspaced, breaks_behind, choices_behind, deleted, released, without_cell}
use Rattle.chew_spec_preedit.proofs.IsBuffer.{IsBuffer, IsBuffer-from, IsChoice-from, is_buffer-from}
use Rattle.chew_spec_preedit.proofs.Kept.{list_all-join, list_all-true}
use Rattle.chew_spec_preedit.proofs.Parts.{filter-none, list_all-drop, list_all-take}
use Rattle.chew_spec_preedit.proofs.Phrases.{phrase_len-some}
use Rattle.chew_spec_preedit.proofs.Places.{slice_get-behind, slice_get-drop, slice_get-front}
use Rattle.chew_spec_preedit.proofs.Spliced.{IsSpliced, are_apart-spliced, between-spliced, chosen-spliced, is_rising-spliced, moved}

abbrev pub cut_at : List Cell → ℕ → List Cell
cut_at cells at = take at cells ++ drop (suc at) cells

pub length-cut_at : (cells : List Cell) (at : ℕ) → at < length cells → length (cut_at cells at) + 1 ≡ length cells
length-cut_at cells at l = omega (arith, length-append (take at cells) (drop (suc at) cells), length-take-le at cells (omega arith), length-drop (suc at) cells)

pub IsSpliced-cut_at : (cells : List Cell) (at : ℕ) → at < length cells → IsSpliced cells (cut_at cells at) at (suc at) (λ k. k - 1)
IsSpliced-cut_at cells at l =
    let long = length-cut_at cells at l in
    record {
      front = omega arith;
      before = λ k m. ap (λ found. option_map_or is_sound found false) (slice_get-front cells (drop (suc at) cells) at k m (omega arith));
      behind = λ k m. ap (λ found. option_map_or is_sound found false)
          (slice_get-behind cells (drop (suc at) cells) at (k - suc at) (k - 1) (omega arith) (omega arith)
          ∙ slice_get-drop cells (suc at) (k - suc at) k (omega arith));
      within = λ k m n. omega arith;
      above = λ k m. omega arith;
      step = λ k n m. omega arith;
    }

pub is_buffer-without_cell : (had : Buffer) (at cursor : ℕ) → is_buffer had ≡ true → at < length had.cells → cursor < length had.cells
    → is_buffer (record (without_cell at had) { cursor = cursor }) ≡ true
is_buffer-without_cell had at cursor e l m =
    let h = IsBuffer-from had e in
    let long = length-cut_at had.cells at l in
    let s = IsSpliced-cut_at had.cells at l in
    let few = h.few in
    is_buffer-from (record (without_cell at had) { cursor = cursor }) (record {
      some = h.some;
      most = h.most;
      few = omega arith;
      stands = omega arith;
      cells = list_all-join is_cell (take at had.cells) (drop (suc at) had.cells) (list_all-take is_cell at had.cells h.cells) (list_all-drop is_cell (suc at) had.cells h.cells);
      rising = is_rising-spliced had.cells (cut_at had.cells at) at (suc at) (λ k. k - 1) s had.breaks h.rising;
      between = between-spliced had.cells (cut_at had.cells at) at (suc at) (λ k. k - 1) s had.breaks h.between;
      apart = are_apart-spliced had.cells (cut_at had.cells at) at (suc at) (λ k. k - 1) s had.choices h.apart;
      chosen = chosen-spliced had.cells (cut_at had.cells at) at (suc at) (λ k. k - 1) s had.breaks had.choices h.chosen;
    })

pub is_buffer-deleted : (had : Buffer) → is_buffer had ≡ true → had.cursor < length had.cells → is_buffer (deleted had) ≡ true
unfolding deleted
is_buffer-deleted had e l = is_buffer-without_cell had had.cursor had.cursor e l l

pub is_buffer-backspaced : (had : Buffer) → is_buffer had ≡ true → 0 < had.cursor → is_buffer (backspaced had) ≡ true
unfolding backspaced
is_buffer-backspaced had e l =
    let h = IsBuffer-from had e in
    let stands = h.stands in
    is_buffer-without_cell had (had.cursor - 1) (had.cursor - 1) e (omega arith) (omega arith)

pub IsSpliced-drop : (cells : List Cell) (count : ℕ) → count ≤ length cells → IsSpliced cells (drop count cells) 0 count (λ k. k - count)
IsSpliced-drop cells count l =
    let long = length-drop count cells in
    record {
      front = omega arith;
      before = λ k m. absurd (omega arith);
      behind = λ k m. ap (λ found. option_map_or is_sound found false) (slice_get-drop cells count (k - count) k (omega arith));
      within = λ k m n. omega arith;
      above = λ k m. omega arith;
      step = λ k n m. omega arith;
    }

-- nothing is before the first place
pub breaks-before_none : (breaks : List ℕ) → filter (λ at. nat_lt at 0) breaks ≡ []
breaks-before_none breaks = filter-none (λ x. true) (λ at. nat_lt at 0) (λ x _. le-ltb x 0 (omega arith)) breaks (list_all-true breaks)

pub choices-before_none : (cells : List Cell) (breaks : List ℕ) (choices : List Choice) → list_all (is_choice_of cells breaks) choices ≡ true → filter (λ choice. nat_le (choice_end choice) 0) choices ≡ []
choices-before_none cells breaks choices e =
    filter-none (is_choice_of cells breaks) (λ choice. nat_le (choice_end choice) 0)
    (λ choice c. let some = phrase_len-some choice.phrase (IsChoice-from cells breaks choice c).phrase in lt-leb (choice_end choice) 0 (omega arith))
    choices e

pub is_buffer-released : (had : Buffer) (count : ℕ) → is_buffer had ≡ true → count ≤ length had.cells → is_buffer (released count had) ≡ true
unfolding released
is_buffer-released had count e l =
    let h = IsBuffer-from had e in
    let long = length-drop count had.cells in
    let s = IsSpliced-drop had.cells count l in
    let few = h.few in
    let stands = h.stands in
    let no_breaks = breaks-before_none had.breaks in
    let no_choices = choices-before_none had.cells had.breaks had.choices h.chosen in
    let move = λ (k : ℕ). k - count in
    is_buffer-from (released count had) (record {
      some = h.some;
      most = h.most;
      few = omega arith;
      stands = omega arith;
      cells = list_all-drop is_cell count had.cells h.cells;
      rising = subst (λ front. is_rising (front ++ map move (breaks_behind count had.breaks)) ≡ true) no_breaks
          (is_rising-spliced had.cells (drop count had.cells) 0 count move s had.breaks h.rising);
      between = subst (λ front. list_all (is_between_sounds (drop count had.cells)) (front ++ map move (breaks_behind count had.breaks)) ≡ true) no_breaks
          (between-spliced had.cells (drop count had.cells) 0 count move s had.breaks h.between);
      apart = subst (λ front. are_apart (front ++ map (choice_back count) (choices_behind count had.choices)) ≡ true) no_choices
          (are_apart-spliced had.cells (drop count had.cells) 0 count move s had.choices h.apart);
      chosen = subst (λ front. list_all (is_choice_of (drop count had.cells) (front ++ map move (breaks_behind count had.breaks))) (map (choice_back count) (choices_behind count had.choices)) ≡ true) no_breaks
          (subst (λ front. list_all (is_choice_of (drop count had.cells) (filter (λ at. nat_lt at 0) had.breaks ++ map move (breaks_behind count had.breaks))) (front ++ map (choice_back count) (choices_behind count had.choices)) ≡ true) no_choices
          (chosen-spliced had.cells (drop count had.cells) 0 count move s had.breaks had.choices h.chosen));
    })
