-- The replies to its calls make an editor of a pending one.
use Rattle.std.specs.Prelude.{◌≡◌, ℕ, suc, ◌≤◌, true, List, [], ◌∷◌, ◌++◌, drop, take, filter, flat_map, map, length, slice_get, nat_le, nat_lt, option_to_list, Option, Some, None}
use Rattle.std.specs.Option.{option_map_or}
use Rattle.std.specs.List.{list_all}
use Rattle.std.proofs.Common.{refl, ap, ap₂, sym, subst, ◌∙◌, arith, append-nil, append_assoc, eqb-true, length-append, length-drop}
use Rattle.std.proofs.lemmas.Bool.{and_parts, leb-true, le-leb, lt-ltb, ltb-true}
use Rattle.std.proofs.lemmas.List.{length-map, nil_from_length}
use Rattle.std.proofs.lemmas.List.Concat.{flat_map-append}
use Rattle.chew_spec_syllable.specs.Row.{Row, is_row}
use Rattle.chew_spec_dictionary.specs.Call.{Call, Look, Reply}
use Rattle.chew_spec_dictionary.specs.Look.{hits_of}
use Rattle.chew_spec_phrasing.specs.CombinedRows.{combined_hits}
use Rattle.chew_spec_phrasing.specs.Usable.{Piece}
use Rattle.chew_spec_preedit.specs.Buffer.{Buffer}
use Rattle.chew_spec_preedit.specs.Cell.{has_sound}
use Rattle.chew_spec_preedit.specs.PlacedRun.{PlacedRun, run_at, run_end, runs_of}
use Rattle.chew_spec_preedit.proofs.IsBuffer.{IsBuffer, IsBuffer-from}
use Rattle.chew_spec_preedit.proofs.Kept.{list_all-filter, list_all-join, list_all-weaker}
use Rattle.chew_spec_text.specs.Line.{Note}
use Rattle.chew_spec_editor.specs.Answers.{AreAnswers, IsFound}
use Rattle.chew_spec_editor.specs.Editor.{Editor}
use Rattle.chew_spec_editor.specs.Finish.{best_of_run, finish, hits_in, phrased, renewed, window_at}
use Rattle.chew_spec_editor.specs.Invariant.{HasSingles, asks_rightly, covers, is_editor, is_pending, is_piece, is_steady, is_window_over, piece_places, run_places}
use Rattle.chew_spec_editor.specs.Pending.{Pending}
use Rattle.chew_spec_editor.proofs.BestPieces.{AreCovered, best-covers}
use Rattle.chew_spec_editor.proofs.Leading.{piece-some}
use Rattle.chew_spec_editor.proofs.Opened.{over-window_of_lists}
use Rattle.chew_spec_editor.proofs.PlacedRuns.{are_placed, placed-runs_of, split-at}
use Rattle.chew_spec_editor.proofs.Renewed.{ends-from_places, piece_end, renewed-behind, renewed-covers}
use Rattle.chew_spec_editor.proofs.RunsAt.{HasRun-sound, IsRunIn, IsRunIn-split}
use Rattle.chew_spec_editor.proofs.ShownRows.{IsShown-combined}
use Rattle.chew_spec_editor.proofs.SoundPlaces.{covers-from_same, places-runs_of, range-all, same-from_covers}
use Rattle.chew_spec_editor.proofs.Steady.{HasRanges-from, IsEditor, IsSteady, IsSteady-from, is_editor-from}

-- as many replies to look-ups as runs
pub looked-length : (changes : List Call) (runs : List PlacedRun) (replies : List Reply) → length replies ≡ length (changes ++ map (λ (run : PlacedRun). Look run.codes) runs)
    → length (drop (length changes) replies) ≡ length runs
looked-length changes runs replies e =
    omega (arith, length-append changes (map (λ (run : PlacedRun). Look run.codes) runs), length-map runs (λ (run : PlacedRun). Look run.codes), length-drop (length changes) replies)

-- the pieces are of all runs up to a place
pub record AreUpTo (place : ℕ) (pieces : List Piece) : Type 0 where
  pub ends : list_all (λ piece. nat_le (piece_end piece) place) pieces ≡ true
  pub are_pieces : list_all is_piece pieces ≡ true

-- pieces of some places
record HavePlaces (pieces : List Piece) (these : List ℕ) : Type 0 where
  pub places : flat_map piece_places pieces ≡ these
  pub are_pieces : list_all is_piece pieces ≡ true

-- what each reply makes of its run covers it
pub record AreBest (system : List Row) (buffer : Buffer) (runs : List PlacedRun) (replies : List Reply) : Type 0 where
  pub each : (k : ℕ) (run : PlacedRun) (reply : Reply) → slice_get runs k ≡ Some run → slice_get replies k ≡ Some reply
      → AreCovered (best_of_run system buffer run (hits_in reply)) run.start (length run.codes)

pub up-to-run : (place : ℕ) (run : PlacedRun) (best pieces : List Piece) → place ≤ run.start → AreUpTo place pieces → AreCovered best run.start (length run.codes)
    → AreUpTo (suc (run_end run)) (pieces ++ best)
up-to-run place run best pieces l h b =
    let end = suc (run_end run) in
    record {
      ends = list_all-join (λ piece. nat_le (piece_end piece) end) pieces best
          (list_all-weaker (λ piece. nat_le (piece_end piece) place) (λ piece. nat_le (piece_end piece) end)
          (λ piece m. le-leb (piece_end piece) end (let n = leb-true (piece_end piece) place m in omega arith)) pieces h.ends)
          (ends-from_places end best
          (ap (list_all (λ p. nat_lt p end)) b.places ∙ range-all (λ p. nat_lt p end) run.start (length run.codes) (λ k _ m. lt-ltb k end (omega arith)))
          piece-some b.are_pieces);
      are_pieces = list_all-join is_piece pieces best h.are_pieces b.are_pieces;
    }

phrased-places : (system : List Row) (buffer : Buffer) (place : ℕ) (pieces : List Piece) (runs : List PlacedRun) (replies : List Reply)
    → are_placed place runs ≡ true → AreUpTo place pieces → AreBest system buffer runs replies → length replies ≡ length runs
    → HavePlaces (phrased system buffer pieces runs replies) (flat_map piece_places pieces ++ flat_map run_places runs)
unfolding phrased
phrased-places system buffer place pieces [] replies p h b e = record { places = sym (append-nil (flat_map piece_places pieces)); are_pieces = h.are_pieces }
phrased-places system buffer place pieces (run ∷ runs) [] p h b e = absurd (omega arith)
phrased-places system buffer place pieces (run ∷ runs) (reply ∷ replies) p h b e =
    let starts = and_parts (nat_le place run.start) _ p in
    let l = leb-true place run.start starts.0 in
    let some = and_parts (nat_lt 0 (length run.codes)) (are_placed (suc (run_end run)) runs) starts.1 in
    let best = best_of_run system buffer run (hits_in reply) in
    let own = b.each 0 run reply refl refl in
    let same = renewed-behind place run best pieces l (ltb-true 0 (length run.codes) some.0) h.ends in
    let upto = subst (AreUpTo (suc (run_end run))) (sym same) (up-to-run place run best pieces l h own) in
    let rest = phrased-places system buffer (suc (run_end run)) (renewed run best pieces) runs replies some.1 upto
    (record { each = λ k r s f g. b.each (suc k) r s f g }) (omega arith) in
    record {
      places = rest.places
          ∙ (ap (λ ps. flat_map piece_places ps ++ flat_map run_places runs) same
          ∙ (ap (λ ps. ps ++ flat_map run_places runs) (flat_map-append piece_places pieces best ∙ ap (λ ps. flat_map piece_places pieces ++ ps) own.places)
          ∙ append_assoc (flat_map piece_places pieces) (run_places run) (flat_map run_places runs)));
      are_pieces = rest.are_pieces;
    }

-- what is found at a run makes the best pieces of it
pub found-covers : (system : List Row) (buffer : Buffer) (before : List PlacedRun) (run : PlacedRun) (behind : List PlacedRun) (reply : Reply)
    → list_all is_row system ≡ true → IsBuffer buffer → IsRunIn system buffer before run behind → IsFound run reply
    → AreCovered (best_of_run system buffer run (hits_in reply)) run.start (length run.codes)
found-covers system buffer before run behind reply e b h f =
    subst (λ r. AreCovered (best_of_run system buffer run (hits_in r)) run.start (length run.codes)) (sym f.is)
    (best-covers system f.rows buffer run e f.are_rows b h.of)

-- all runs asked
all-asked : (system : List Row) (editor : Editor) (changes : List Call) (commit : List ℕ) (note : Note) (replies : List Reply)
    → list_all is_row system ≡ true → HasSingles system editor.buffer.cells → IsSteady editor → editor.pieces ≡ []
    → AreAnswers (record { editor = editor; changes = changes; commit = commit; note = note; opens = None }) replies
    → IsEditor (finish system (record { editor = editor; changes = changes; commit = commit; note = note; opens = None }) replies).editor
unfolding finish
all-asked system editor changes commit note replies e singles h none a =
    let buffer = editor.buffer in
    let runs = runs_of buffer.cells in
    let looked = drop (length changes) replies in
    let b = IsBuffer-from buffer h.buffer in
    let nothing = subst (AreUpTo 0) (sym none) (record { ends = refl; are_pieces = refl }) in
    let phrases = phrased-places system buffer 0 editor.pieces runs looked (placed-runs_of buffer.cells) nothing
    (record {
      each = λ k run reply f g.
          found-covers system buffer (take k runs) run (drop (suc k) runs) reply e b
          (IsRunIn-split system buffer (take k runs) run (drop (suc k) runs) singles (split-at runs k run f)) (a.found k run reply f g);
    })
    (looked-length changes runs replies a.one_each) in
    record {
      steady = record {
        settings = h.settings;
        layout = h.layout;
        buffer = h.buffer;
        limit = h.limit;
        pieces = phrases.are_pieces;
        window = refl;
      };
      covered = covers-from_same buffer.cells (phrased system buffer editor.pieces runs looked)
          (phrases.places ∙ (ap (λ ps. flat_map piece_places ps ++ flat_map run_places runs) none ∙ places-runs_of buffer.cells));
    }

-- a list of one
pub record IsOne (replies : List Reply) : Type 0 where
  pub reply : Reply
  pub is : replies ≡ reply ∷ []

pub IsOne-length : (replies : List Reply) → length replies ≡ 1 → IsOne replies
IsOne-length [] e = absurd (omega arith)
IsOne-length (reply ∷ replies) e = record { reply = reply; is = ap (λ rs. reply ∷ rs) (nil_from_length replies (omega arith)) }

-- the run at a place asked, and its window opened
one-asked : (system : List Row) (editor : Editor) (changes : List Call) (commit : List ℕ) (note : Note) (place : ℕ) (replies : List Reply)
    → list_all is_row system ≡ true → HasSingles system editor.buffer.cells → IsSteady editor
    → has_sound editor.buffer.cells place ≡ true → covers editor.buffer.cells editor.pieces ≡ true
    → AreAnswers (record { editor = editor; changes = changes; commit = commit; note = note; opens = Some place }) replies
    → IsEditor (finish system (record { editor = editor; changes = changes; commit = commit; note = note; opens = Some place }) replies).editor
unfolding finish phrased
one-asked system editor changes commit note place replies e singles h sound covered a =
    let buffer = editor.buffer in
    let looked = drop (length changes) replies in
    let asked = option_to_list (run_at buffer.cells place) in
    let found = HasRun-sound buffer.cells place sound in
    let run = found.run in
    let runs : asked ≡ run ∷ [] = ap option_to_list found.is in
    let one = IsOne-length looked (looked-length changes asked replies a.one_each ∙ ap length runs) in
    let reply = one.reply in
    let b = IsBuffer-from buffer h.buffer in
    let ranges = HasRanges-from editor.settings h.settings in
    let in_run = IsRunIn-split system buffer found.before run found.behind singles found.parts in
    let answer = a.found 0 run reply (ap (λ rs. slice_get rs 0) runs) (ap (λ rs. slice_get rs 0) one.is) in
    let own = found-covers system buffer found.before run found.behind reply e b in_run answer in
    let best = best_of_run system buffer run (hits_in reply) in
    let pieces : phrased system buffer editor.pieces asked looked ≡ renewed run best editor.pieces = ap₂ (λ rs ls. phrased system buffer editor.pieces rs ls) runs one.is in
    let window : window_at system editor asked looked place ≡ window_at system editor (run ∷ []) (reply ∷ []) place = ap₂ (λ rs ls. window_at system editor rs ls place) runs one.is in
    record {
      steady = record {
        settings = h.settings;
        layout = h.layout;
        buffer = h.buffer;
        limit = h.limit;
        pieces = subst (λ ps. list_all is_piece ps ≡ true) (sym pieces)
            (list_all-join is_piece (filter (λ piece. nat_le (piece_end piece) run.start) editor.pieces) (best ++ filter (λ piece. nat_le (run_end run) piece.start) editor.pieces)
            (list_all-filter is_piece (λ piece. nat_le (piece_end piece) run.start) is_piece (λ piece p _. p) editor.pieces h.pieces)
            (list_all-join is_piece best (filter (λ piece. nat_le (run_end run) piece.start) editor.pieces) own.are_pieces
            (list_all-filter is_piece (λ piece. nat_le (run_end run) piece.start) is_piece (λ piece p _. p) editor.pieces h.pieces)));
        window = subst (λ w. option_map_or (is_window_over buffer) w true ≡ true) (sym window)
            (subst (λ r. option_map_or (is_window_over buffer) (window_at system editor (run ∷ []) (r ∷ []) place) true ≡ true) (sym answer.is)
            (over-window_of_lists buffer run (combined_hits system run.codes (hits_of answer.rows run.codes)) place editor.settings.page
            (λ hit i. IsShown-combined system answer.rows run.codes hit e answer.are_rows i)
            found.from found.to in_run.within in_run.sounds ranges.some_a_page ranges.few_a_page));
      };
      covered = subst (λ ps. covers buffer.cells ps ≡ true) (sym pieces)
          (covers-from_same buffer.cells (renewed run best editor.pieces)
          (renewed-covers found.before run found.behind best editor.pieces in_run.among
          (same-from_covers buffer.cells editor.pieces covered ∙ (sym (places-runs_of buffer.cells) ∙ ap (flat_map run_places) found.parts)) own.places
          ∙ (ap (flat_map run_places) (sym found.parts) ∙ places-runs_of buffer.cells)));
    }

by-opens : (system : List Row) (editor : Editor) (changes : List Call) (commit : List ℕ) (note : Note) (opens : Option ℕ) (replies : List Reply)
    → list_all is_row system ≡ true → HasSingles system editor.buffer.cells → IsSteady editor
    → asks_rightly (record { editor = editor; changes = changes; commit = commit; note = note; opens = opens }) ≡ true
    → AreAnswers (record { editor = editor; changes = changes; commit = commit; note = note; opens = opens }) replies
    → IsEditor (finish system (record { editor = editor; changes = changes; commit = commit; note = note; opens = opens }) replies).editor
by-opens system editor changes commit note None replies e singles h r a =
    all-asked system editor changes commit note replies e singles h (nil_from_length editor.pieces (eqb-true (length editor.pieces) 0 r)) a
by-opens system editor changes commit note (Some place) replies e singles h r a =
    let parts = and_parts (has_sound editor.buffer.cells place) (covers editor.buffer.cells editor.pieces) r in
    one-asked system editor changes commit note place replies e singles h parts.0 parts.1 a

pub is_editor-finish : (system : List Row) (pending : Pending) (replies : List Reply) → list_all is_row system ≡ true
    → HasSingles system pending.editor.buffer.cells → is_pending pending ≡ true → AreAnswers pending replies
    → is_editor (finish system pending replies).editor ≡ true
unfolding is_pending
is_editor-finish system pending replies e singles p a =
    let parts = and_parts (is_steady pending.editor) (asks_rightly pending) p in
    is_editor-from (finish system pending replies).editor
    (by-opens system pending.editor pending.changes pending.commit pending.note pending.opens replies e singles (IsSteady-from pending.editor parts.0) parts.1 a)
