-- The shown pieces of each run are its best segmentation.
use Rattle.std.specs.Prelude.{◌≡◌, ℕ, zero, suc, ◌+◌, ◌-◌, ◌<◌, ◌≤◌, Bool, true, false, Option, ◌&&◌, List, [], ◌∷◌, ◌++◌, drop, take, filter, flat_map, map, length, slice_get, nat_le, nat_lt, None, Some}
use Rattle.std.specs.List.{list_all}
use Rattle.std.proofs.Common.{refl, ap, ap₂, sym, subst, ◌∙◌, arith, append-nil}
use Rattle.std.proofs.lemmas.Bool.{and_from, and_left, and_parts, and_right, leb-true, le-leb, le-ltb, lt-leb, lt-ltb, ltb-true}
use Rattle.std.proofs.lemmas.List.Elements.{filter-append}
use Rattle.std.proofs.lemmas.List.Folds.{list_all-append}
use Rattle.std.proofs.lemmas.Option.{none-some, same_Some}
use Rattle.chew_spec_syllable.specs.Row.{Row, is_row}
use Rattle.chew_spec_dictionary.specs.Call.{Reply}
use Rattle.chew_spec_phrasing.specs.Best.{IsBest, best_pieces}
use Rattle.chew_spec_phrasing.specs.CanSegment.{CanSegment}
use Rattle.chew_spec_phrasing.specs.CombinedRows.{combined_hits}
use Rattle.chew_spec_phrasing.specs.Usable.{Piece, phrase_len}
use Rattle.chew_spec_phrasing.proofs.CanSegment.{IsBest-from_CanSegment}
use Rattle.chew_spec_preedit.specs.Buffer.{Buffer}
use Rattle.chew_spec_preedit.specs.PlacedRun.{PlacedRun, breaks_in, choices_in, is_in_run, piece_on, run_end, runs_of}
use Rattle.chew_spec_preedit.proofs.IsBuffer.{IsBuffer-from}
use Rattle.chew_spec_preedit.proofs.Kept.{list_all-join, list_all-weaker}
use Rattle.chew_spec_preedit.proofs.Parts.{filter-all, filter-none}
use Rattle.chew_spec_editor.specs.Answers.{AreAnswers}
use Rattle.chew_spec_editor.specs.Finish.{best_of_run, finish, hits_in}
use Rattle.chew_spec_editor.specs.Invariant.{HasSingles, asks_rightly, is_pending, is_piece, is_steady, piece_places}
use Rattle.chew_spec_editor.specs.Pending.{Pending, runs_asked}
use Rattle.chew_spec_editor.specs.Phrasings.{best_of_runs}
use Rattle.chew_spec_editor.specs.RunPieces.{AreBestIn, piece_back, pieces_in, usable_in}
use Rattle.chew_spec_editor.proofs.BestPieces.{AreCovered, CanSegment-run}
use Rattle.chew_spec_editor.proofs.Finished.{AreBest, found-covers}
use Rattle.chew_spec_editor.proofs.Leading.{piece-some}
use Rattle.chew_spec_editor.proofs.Phrasing.{finish-best}
use Rattle.chew_spec_editor.proofs.PlacedRuns.{are_placed, placed-runs_of, split-at}
use Rattle.chew_spec_editor.proofs.RunsAt.{IsRunIn-split}
use Rattle.chew_spec_editor.proofs.SoundPlaces.{range-all, range-each}
use Rattle.chew_spec_editor.proofs.Steady.{IsSteady-from}

-- what the places of pieces pass, their first places pass
pub starts-pass : (q : ℕ → Bool) (pieces : List Piece) → list_all is_piece pieces ≡ true → list_all q (flat_map piece_places pieces) ≡ true
    → list_all (λ piece. q piece.start) pieces ≡ true
starts-pass q [] e f = refl
starts-pass q (piece ∷ pieces) e f =
    let own = and_parts (is_piece piece) (list_all is_piece pieces) e in
    let parts = and_parts (list_all q (piece_places piece)) (list_all q (flat_map piece_places pieces)) (sym (list_all-append q (piece_places piece) (flat_map piece_places pieces)) ∙ f) in
    let some = piece-some piece own.0 in
    and_from (q piece.start) (list_all (λ p. q p.start) pieces)
    (range-each q piece.start (phrase_len piece.phrase) piece.start parts.0 (omega arith) (omega arith)) (starts-pass q pieces own.1 parts.1)

-- the piece begins in the run
abbrev pub begins_in : PlacedRun → Piece → Bool
begins_in run piece = is_in_run run piece.start

-- pieces that cover a run begin in it
pub covered-begin : (run : PlacedRun) (pieces : List Piece) → AreCovered pieces run.start (length run.codes) → list_all (begins_in run) pieces ≡ true
covered-begin run pieces c =
    starts-pass (is_in_run run) pieces c.are_pieces
    (ap (list_all (is_in_run run)) c.places
    ∙ range-all (is_in_run run) run.start (length run.codes)
    (λ k l m. and_from (nat_le run.start k) (nat_lt k (run_end run)) (le-leb run.start k l) (lt-ltb k (run_end run) m)))

-- the bounds of a place in a run
pub from-in_run : (run : PlacedRun) (place : ℕ) → is_in_run run place ≡ true → (run.start ≤ place) × (place < run_end run)
from-in_run run place e =
    let parts = and_parts (nat_le run.start place) (nat_lt place (run_end run)) e in
    (leb-true run.start place parts.0, ltb-true place (run_end run) parts.1)

pub before-run : (run : PlacedRun) (place : ℕ) → place < run.start → is_in_run run place ≡ false
before-run run place l = and_left (nat_le run.start place) (nat_lt place (run_end run)) (lt-leb run.start place l)

pub behind-run : (run : PlacedRun) (place : ℕ) → run_end run ≤ place → is_in_run run place ≡ false
behind-run run place l = and_right (nat_le run.start place) (nat_lt place (run_end run)) (le-ltb place (run_end run) l)

-- the best pieces of runs behind a place begin behind it
later-pieces : (system : List Row) (buffer : Buffer) (place : ℕ) (runs : List PlacedRun) (replies : List Reply) → are_placed place runs ≡ true
    → AreBest system buffer runs replies → list_all (λ piece. nat_le place piece.start) (best_of_runs system buffer runs replies) ≡ true
later-pieces system buffer place [] replies p b = refl
later-pieces system buffer place (run ∷ runs) [] p b = refl
later-pieces system buffer place (run ∷ runs) (reply ∷ replies) p b =
    let starts = and_parts (nat_le place run.start) _ p in
    let l = leb-true place run.start starts.0 in
    let some = and_parts (nat_lt 0 (length run.codes)) (are_placed (suc (run_end run)) runs) starts.1 in
    let best = best_of_run system buffer run (hits_in reply) in
    let rest = best_of_runs system buffer runs replies in
    list_all-join (λ piece. nat_le place piece.start) best rest
    (list_all-weaker (begins_in run) (λ piece. nat_le place piece.start)
    (λ piece e. let m = (from-in_run run piece.start e).0 in le-leb place piece.start (omega arith)) best (covered-begin run best (b.each 0 run reply refl refl)))
    (list_all-weaker (λ piece. nat_le (suc (run_end run)) piece.start) (λ piece. nat_le place piece.start)
    (λ piece e. let m = leb-true (suc (run_end run)) piece.start e in le-leb place piece.start (omega arith)) rest
    (later-pieces system buffer (suc (run_end run)) runs replies some.1 (record { each = λ k r s f g. b.each (suc k) r s f g })))

-- a run of those behind a place begins behind it
pub later-run : (place : ℕ) (runs : List PlacedRun) (k : ℕ) (run : PlacedRun) → are_placed place runs ≡ true → slice_get runs k ≡ Some run → place ≤ run.start
later-run place [] k run p e = absurd (none-some run e)
later-run place (first ∷ runs) zero run p e =
    let starts = and_parts (nat_le place first.start) _ p in
    subst (λ (r : PlacedRun). place ≤ r.start) (same_Some first run e) (leb-true place first.start starts.0)
later-run place (first ∷ runs) (suc k) run p e =
    let starts = and_parts (nat_le place first.start) _ p in
    let l = leb-true place first.start starts.0 in
    let some = and_parts (nat_lt 0 (length first.codes)) (are_placed (suc (run_end first)) runs) starts.1 in
    let m = later-run (suc (run_end first)) runs k run some.1 e in
    omega arith

-- of the best pieces of all runs, those that begin in a run are its own
own-pieces : (system : List Row) (buffer : Buffer) (place : ℕ) (runs : List PlacedRun) (replies : List Reply) (k : ℕ) (run : PlacedRun) (reply : Reply)
    → are_placed place runs ≡ true → AreBest system buffer runs replies → slice_get runs k ≡ Some run → slice_get replies k ≡ Some reply
    → filter (begins_in run) (best_of_runs system buffer runs replies) ≡ best_of_run system buffer run (hits_in reply)
own-pieces system buffer place [] replies k run reply p b f g = absurd (none-some run f)
own-pieces system buffer place (first ∷ runs) [] k run reply p b f g = absurd (none-some reply g)
own-pieces system buffer place (first ∷ runs) (answer ∷ replies) zero run reply p b f g =
    let starts = and_parts (nat_le place first.start) _ p in
    let some = and_parts (nat_lt 0 (length first.codes)) (are_placed (suc (run_end first)) runs) starts.1 in
    let best = best_of_run system buffer first (hits_in answer) in
    let rest = best_of_runs system buffer runs replies in
    let here : filter (begins_in first) (best ++ rest) ≡ best =
    filter-append (begins_in first) best rest
    ∙ (ap₂ (λ ps qs. ps ++ qs)
    (filter-all (begins_in first) (begins_in first) (λ piece e. e) best (covered-begin first best (b.each 0 first answer refl refl)))
    (filter-none (λ piece. nat_le (suc (run_end first)) piece.start) (begins_in first)
    (λ piece e. let m = leb-true (suc (run_end first)) piece.start e in behind-run first piece.start (omega arith)) rest
    (later-pieces system buffer (suc (run_end first)) runs replies some.1 (record { each = λ k r s f g. b.each (suc k) r s f g })))
    ∙ append-nil best) in
    subst (λ (r : PlacedRun). filter (begins_in r) (best ++ rest) ≡ best_of_run system buffer r (hits_in reply)) (same_Some first run f)
    (subst (λ (s : Reply). filter (begins_in first) (best ++ rest) ≡ best_of_run system buffer first (hits_in s)) (same_Some answer reply g) here)
own-pieces system buffer place (first ∷ runs) (answer ∷ replies) (suc k) run reply p b f g =
    let starts = and_parts (nat_le place first.start) _ p in
    let some = and_parts (nat_lt 0 (length first.codes)) (are_placed (suc (run_end first)) runs) starts.1 in
    let best = best_of_run system buffer first (hits_in answer) in
    let rest = best_of_runs system buffer runs replies in
    let l = later-run (suc (run_end first)) runs k run some.1 f in
    filter-append (begins_in run) best rest
    ∙ (ap (λ ps. ps ++ filter (begins_in run) rest)
    (filter-none (begins_in first) (begins_in run)
    (λ piece e. let m = (from-in_run first piece.start e).1 in before-run run piece.start (omega arith)) best (covered-begin first best (b.each 0 first answer refl refl)))
    ∙ own-pieces system buffer (suc (run_end first)) runs replies k run reply some.1 (record { each = λ k r s f g. b.each (suc k) r s f g }) f g)

-- pieces moved on and back
pub on-and-back : (cells : ℕ) (pieces : List Piece) → map (piece_back cells) (map (piece_on cells) pieces) ≡ pieces
on-and-back cells [] = refl
on-and-back cells (piece ∷ pieces) =
    ap₂ (λ p ps. p ∷ ps)
    (ap (λ (start : ℕ). let p : Piece = record piece { start = start } in p) (let f : cells + piece.start - cells ≡ piece.start = omega arith in f))
    (on-and-back cells pieces)

-- what each reply makes of its run covers it, where the replies are answers
pub AreBest-answers : (system : List Row) (pending : Pending) (replies : List Reply) → list_all is_row system ≡ true → HasSingles system pending.editor.buffer.cells
    → is_steady pending.editor ≡ true → runs_asked pending ≡ runs_of pending.editor.buffer.cells → AreAnswers pending replies
    → AreBest system pending.editor.buffer (runs_of pending.editor.buffer.cells) (drop (length pending.changes) replies)
AreBest-answers system pending replies e singles s asked a =
    let buffer = pending.editor.buffer in
    let runs = runs_of buffer.cells in
    let b = IsBuffer-from buffer (IsSteady-from pending.editor s).buffer in
    record {
      each = λ k run answer f g.
          found-covers system buffer (take k runs) run (drop (suc k) runs) answer e b
          (IsRunIn-split system buffer (take k runs) run (drop (suc k) runs) singles (split-at runs k run f)) (a.found k run answer (ap (λ rs. slice_get rs k) asked ∙ f) g);
    }

-- where no window opens, all runs are asked
pub all-runs-asked : (pending : Pending) → pending.opens ≡ None → runs_asked pending ≡ runs_of pending.editor.buffer.cells
all-runs-asked pending none = ap (λ (o : Option ℕ). runs_asked (record pending { opens = o })) none

pub shown-best : (system : List Row) (pending : Pending) (replies : List Reply) (k : ℕ) (run : PlacedRun) (reply : Reply) → list_all is_row system ≡ true
    → HasSingles system pending.editor.buffer.cells → is_pending pending ≡ true → pending.opens ≡ None → AreAnswers pending replies
    → slice_get (runs_of pending.editor.buffer.cells) k ≡ Some run → slice_get (drop (length pending.changes) replies) k ≡ Some reply
    → AreBestIn system pending.editor.buffer run (hits_in reply) (finish system pending replies).editor.pieces
unfolding is_pending
shown-best system pending replies k run reply e singles p none a f g =
    let buffer = pending.editor.buffer in
    let runs = runs_of buffer.cells in
    let looked = drop (length pending.changes) replies in
    let steady = (and_parts (is_steady pending.editor) (asks_rightly pending) p).0 in
    let b = IsBuffer-from buffer (IsSteady-from pending.editor steady).buffer in
    let asked = all-runs-asked pending none in
    let in_run = IsRunIn-split system buffer (take k runs) run (drop (suc k) runs) singles (split-at runs k run f) in
    let answer = a.found k run reply (ap (λ rs. slice_get rs k) asked ∙ f) g in
    let hits = combined_hits system run.codes (hits_in reply) in
    let breaks = breaks_in run buffer.breaks in
    let choices = choices_in run buffer.choices in
    let n = length run.codes in
    let can : CanSegment hits choices n =
    subst (λ (r : Reply). CanSegment (combined_hits system run.codes (hits_in r)) choices n) (sym answer.is)
    (CanSegment-run system answer.rows buffer run e answer.are_rows b in_run.of) in
    let same : pieces_in run (finish system pending replies).editor.pieces ≡ best_pieces hits breaks choices n =
    ap (pieces_in run) (finish-best system pending replies e singles p none a)
    ∙ (ap (map (piece_back run.start))
    (own-pieces system buffer 0 runs looked k run reply (placed-runs_of buffer.cells) (AreBest-answers system pending replies e singles steady asked a) f g)
    ∙ on-and-back run.start (best_pieces hits breaks choices n)) in
    subst (IsBest (usable_in system buffer run (hits_in reply)) n) (sym same) (IsBest-from_CanSegment hits breaks choices n can)
