-- An insert leaves a buffer.
use Rattle.std.proofs.Common.{◌≡◌, ℕ, suc, ◌+◌, ◌-◌, ◌<◌, ◌≤◌, Bool, true, false, List, [], ◌∷◌, ◌++◌, length, take, drop, refl, ap, ◌∙◌, arith, length-append, length-drop, length-take}
use Rattle.std.specs.Option.{option_map_or}
use Rattle.std.specs.List.{list_all, slice_get}
use Rattle.std.proofs.lemmas.Bool.{and_from, leb-false}
use Rattle.std.proofs.lemmas.List.{length-take-le}
use Rattle.chew_spec_preedit.specs.Buffer.{Buffer, is_buffer}
use Rattle.chew_spec_preedit.specs.Cell.{Cell, has_sound, is_cell, is_sound}
use Rattle.chew_spec_preedit.specs.Edit.{inserted, is_full}
use Rattle.chew_spec_preedit.proofs.IsBuffer.{IsBuffer, IsBuffer-from, is_buffer-from}
use Rattle.chew_spec_preedit.proofs.Kept.{list_all-join}
use Rattle.chew_spec_preedit.proofs.Parts.{list_all-drop, list_all-take}
use Rattle.chew_spec_preedit.proofs.Places.{slice_get-behind, slice_get-drop, slice_get-front}
use Rattle.chew_spec_preedit.proofs.Spliced.{IsSpliced, are_apart-spliced, between-spliced, chosen-spliced, is_rising-spliced}

abbrev pub put_in : List Cell → ℕ → Cell → List Cell
put_in cells at cell = take at cells ++ (cell ∷ drop at cells)

pub length-put_in : (cells : List Cell) (at : ℕ) (cell : Cell) → at ≤ length cells → length (put_in cells at cell) ≡ length cells + 1
length-put_in cells at cell l = omega (arith, length-append (take at cells) (cell ∷ drop at cells), length-take-le at cells l, length-drop at cells)

pub IsSpliced-put_in : (cells : List Cell) (at : ℕ) (cell : Cell) → at ≤ length cells → IsSpliced cells (put_in cells at cell) at at (λ k. k + 1)
IsSpliced-put_in cells at cell l =
    let rest = cell ∷ drop at cells in
    let long = length-put_in cells at cell l in
    record {
      front = omega arith;
      before = λ k m. ap (λ found. option_map_or is_sound found false) (slice_get-front cells rest at k m l);
      behind = λ k m. ap (λ found. option_map_or is_sound found false)
          (slice_get-behind cells rest at (suc (k - at)) (k + 1) (omega arith) l ∙ slice_get-drop cells at (k - at) k (omega arith));
      within = λ k m n. omega arith;
      above = λ k m. omega arith;
      step = λ k n m. omega arith;
    }

pub is_buffer-inserted : (had : Buffer) (cell : Cell) → is_buffer had ≡ true → is_full had ≡ false → is_cell cell ≡ true → is_buffer (inserted had cell) ≡ true
unfolding inserted
is_buffer-inserted had cell e f g =
    let h = IsBuffer-from had e in
    let room = leb-false had.limit (length had.cells) f in
    let long = length-put_in had.cells had.cursor cell h.stands in
    let s = IsSpliced-put_in had.cells had.cursor cell h.stands in
    let stands = h.stands in
    is_buffer-from (inserted had cell) (record {
      some = h.some;
      most = h.most;
      few = omega arith;
      stands = omega arith;
      cells = list_all-join is_cell (take had.cursor had.cells) (cell ∷ drop had.cursor had.cells)
          (list_all-take is_cell had.cursor had.cells h.cells)
          (and_from (is_cell cell) (list_all is_cell (drop had.cursor had.cells)) g (list_all-drop is_cell had.cursor had.cells h.cells));
      rising = is_rising-spliced had.cells (put_in had.cells had.cursor cell) had.cursor had.cursor (λ k. k + 1) s had.breaks h.rising;
      between = between-spliced had.cells (put_in had.cells had.cursor cell) had.cursor had.cursor (λ k. k + 1) s had.breaks h.between;
      apart = are_apart-spliced had.cells (put_in had.cells had.cursor cell) had.cursor had.cursor (λ k. k + 1) s had.choices h.apart;
      chosen = chosen-spliced had.cells (put_in had.cells had.cursor cell) had.cursor had.cursor (λ k. k + 1) s had.breaks had.choices h.chosen;
    })
