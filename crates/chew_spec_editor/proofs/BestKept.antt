-- The shown pieces of every run are its best ones, over a whole talk.
use Rattle.std.specs.Prelude.{◌≡◌, ℕ, zero, suc, ◌+◌, ◌-◌, ◌<◌, ◌≤◌, Bool, true, false, not, cond, ◌&&◌, ◌⊎◌, List, [], ◌∷◌, ◌++◌, drop, take, filter, flat_map, map, length, slice_get, ◌==◌, nat_le, nat_lt, option_to_list, Option, Some, None}
use Rattle.std.specs.List.{list_all}
use Rattle.std.proofs.Common.{refl, ap, ap₂, sym, subst, ◌∙◌, arith, append-nil, eqb-true, inl, inr, ⊎_elim}
use Rattle.std.proofs.lemmas.Bool.{and_from, and_parts, both_ways, cases_lt, cond-false, cond_both, eqb-false, false_from_ne_true, leb-true, leb-false, le-leb, lt-leb, lt-ltb}
use Rattle.std.proofs.lemmas.List.Elements.{filter-append}
use Rattle.std.proofs.lemmas.List.Folds.{list_all-append}
use Rattle.std.proofs.lemmas.Option.{none-some, same_Some, slice_get_within}
use Rattle.chew_spec_syllable.specs.Row.{Row, is_row}
use Rattle.chew_spec_dictionary.specs.Call.{Call, Reply}
use Rattle.chew_spec_dictionary.specs.Look.{hits_of}
use Rattle.chew_spec_phrasing.specs.Best.{IsBest, best_pieces}
use Rattle.chew_spec_phrasing.specs.CanSegment.{CanSegment}
use Rattle.chew_spec_phrasing.specs.CombinedRows.{combined_hits}
use Rattle.chew_spec_phrasing.specs.Usable.{Choice, Piece, phrase_len}
use Rattle.chew_spec_phrasing.proofs.CanSegment.{IsBest-from_CanSegment}
use Rattle.chew_spec_preedit.specs.Buffer.{Buffer}
use Rattle.chew_spec_preedit.specs.Cell.{Cell, has_sound}
use Rattle.chew_spec_preedit.specs.PlacedRun.{PlacedRun, breaks_in, choices_in, is_in_run, run_at, run_end, runs_of}
use Rattle.chew_spec_preedit.proofs.IsBuffer.{IsBuffer, IsBuffer-from}
use Rattle.chew_spec_preedit.proofs.Kept.{list_all-filter}
use Rattle.chew_spec_preedit.proofs.Parts.{filter-all, filter-none}
use Rattle.chew_spec_text.specs.KeyStroke.{KeyStroke, is_key_stroke}
use Rattle.chew_spec_text.specs.Line.{Line, Note}
use Rattle.chew_spec_editor.specs.Answers.{AreAnswers, AreFoundBefore, IsFound}
use Rattle.chew_spec_editor.specs.Editor.{Editor, empty_editor}
use Rattle.chew_spec_editor.specs.Finish.{best_of_run, finish, hits_in, phrased, renewed}
use Rattle.chew_spec_editor.specs.Invariant.{HasSingles, asks_rightly, covers, is_editor, is_pending, is_piece, is_steady, piece_places, run_places}
use Rattle.chew_spec_editor.specs.Keys.{calls_asked, press}
use Rattle.chew_spec_editor.specs.Pending.{Pending, calls_of, runs_asked}
use Rattle.chew_spec_editor.specs.BestPieces.{IsBestFor, IsPhrased}
use Rattle.chew_spec_editor.specs.Press.{Pressed, Done, Ask}
use Rattle.chew_spec_editor.specs.RunPieces.{AreBestIn, piece_back, pieces_in, usable_in}
use Rattle.chew_spec_editor.specs.Settings.{Settings}
use Rattle.chew_spec_editor.specs.Talk.{Turn, talk_from, turn_after, turn_of}
use Rattle.chew_spec_editor.proofs.Asked.{MayAsk, answers-found, turn_of-may}
use Rattle.chew_spec_editor.proofs.BestPieces.{AreCovered, CanSegment-run}
use Rattle.chew_spec_editor.proofs.ChoicesShown.{HasReply, HasReply-at, at-middle}
use Rattle.chew_spec_editor.proofs.Finished.{IsOne, IsOne-length, found-covers, looked-length}
use Rattle.chew_spec_editor.proofs.Keeping.{is_pending-ask}
use Rattle.chew_spec_editor.proofs.Leading.{piece-some}
use Rattle.chew_spec_editor.proofs.LeftPieces.{IsKept, Leaves, LeavesPieces, press-pieces}
use Rattle.chew_spec_editor.proofs.PlacedRuns.{IsAmong, apart-start, are_placed, placed-runs_of}
use Rattle.chew_spec_editor.proofs.Renewed.{not-across, piece_end}
use Rattle.chew_spec_editor.proofs.RunPieces.{all-runs-asked, before-run, begins_in, behind-run, covered-begin, from-in_run, later-run, on-and-back, shown-best}
use Rattle.chew_spec_editor.proofs.RunsAt.{HasRun-sound, IsRunIn, IsRunIn-split}
use Rattle.chew_spec_editor.proofs.Singles.{HasSingles-ask}
use Rattle.chew_spec_editor.proofs.SoundPlaces.{places-runs_of, same-from_covers}
use Rattle.chew_spec_editor.proofs.Steady.{IsEditor-from, IsSteady, IsSteady-from}
use Rattle.chew_spec_editor.proofs.Turns.{turn_of-calls, turn_of-enough}
use Rattle.chew_spec_editor.proofs.WholeTalks.{AllFound, Keeps, talk-keeps}

-- the same pieces over the same cells, breaks and choices are the best still
IsPhrased-kept : (system : List Row) (before after : Editor) → IsKept before after → IsPhrased system before → IsPhrased system after
IsPhrased-kept system before after k h = record {
  each = λ place run e.
      let was = h.each place run (ap (λ (cells : List Cell). slice_get (runs_of cells) place) (sym k.cells) ∙ e) in
      record {
        rows = was.rows;
        are_rows = was.are_rows;
        best = subst (λ pieces. AreBestIn system after.buffer run (hits_of was.rows run.codes) pieces) (sym k.pieces)
            (subst (λ (breaks : List ℕ). AreBestIn system (record after.buffer { breaks = breaks }) run (hits_of was.rows run.codes) before.pieces) (sym k.breaks)
            (subst (λ (choices : List Choice). AreBestIn system (record after.buffer { breaks = before.buffer.breaks; choices = choices }) run (hits_of was.rows run.codes) before.pieces) (sym k.choices) was.best));
      };
}

no-runs : (system : List Row) (editor : Editor) → runs_of editor.buffer.cells ≡ [] → IsPhrased system editor
no-runs system editor none = record { each = λ place run e. absurd (none-some run (ap (λ runs. slice_get runs place) (sym none) ∙ e)) }

pub IsPhrased-empty : (system : List Row) (settings : Settings) → IsPhrased system (empty_editor settings)
unfolding runs_of
IsPhrased-empty system settings = no-runs system (empty_editor settings) refl

-- runs stand one behind the other
behind-each : (place : ℕ) (runs : List PlacedRun) (k j : ℕ) (run other : PlacedRun) → are_placed place runs ≡ true → slice_get runs k ≡ Some run → slice_get runs j ≡ Some other → k < j
    → run_end run < other.start
behind-each place [] k j run other p e f l = absurd (none-some run e)
behind-each place (first ∷ runs) k zero run other p e f l = absurd (omega arith)
behind-each place (first ∷ runs) zero (suc j) run other p e f l =
    let starts = and_parts (nat_le place first.start) _ p in
    let some = and_parts (nat_lt 0 (length first.codes)) (are_placed (suc (run_end first)) runs) starts.1 in
    let m = later-run (suc (run_end first)) runs j other some.1 f in
    subst (λ (r : PlacedRun). run_end r < other.start) (same_Some first run e) (omega arith)
behind-each place (first ∷ runs) (suc k) (suc j) run other p e f l =
    let starts = and_parts (nat_le place first.start) _ p in
    let some = and_parts (nat_lt 0 (length first.codes)) (are_placed (suc (run_end first)) runs) starts.1 in
    behind-each (suc (run_end first)) runs k j run other some.1 e f (omega arith)

-- of what is kept, those that pass a narrower test
filter-narrow : {X : Type 0} (t q r : X → Bool) → ((x : X) → t x ≡ true → q x ≡ true → r x ≡ true) → (xs : List X) → list_all t xs ≡ true → filter q (filter r xs) ≡ filter q xs
filter-narrow t q r h [] e = refl
filter-narrow t q r h (x ∷ xs) e =
    let parts = and_parts (t x) (list_all t xs) e in
    let rest = filter-narrow t q r h xs parts.1 in
    cond_both (r x) (x ∷ filter r xs) (filter r xs) (λ ys. filter q ys ≡ filter q (x ∷ xs))
    (λ f. ap (λ ys. cond (q x) (x ∷ ys) ys) rest)
    (λ f. rest ∙ sym (cond-false (q x) (x ∷ filter q xs) (filter q xs) (false_from_ne_true _ (λ g. both_ways (r x) f (h x parts.0 g)))))

-- what all places of pieces pass, those of each pass
places-each : (q : ℕ → Bool) (pieces : List Piece) → list_all q (flat_map piece_places pieces) ≡ true → list_all (λ piece. list_all q (piece_places piece)) pieces ≡ true
places-each q [] e = refl
places-each q (piece ∷ pieces) e =
    let parts = and_parts (list_all q (piece_places piece)) (list_all q (flat_map piece_places pieces)) (sym (list_all-append q (piece_places piece) (flat_map piece_places pieces)) ∙ e) in
    and_from (list_all q (piece_places piece)) (list_all (λ p. list_all q (piece_places p)) pieces) parts.0 (places-each q pieces parts.1)

abbrev front_of : PlacedRun → List Piece → List Piece
front_of run pieces = filter (λ piece. nat_le (piece_end piece) run.start) pieces

abbrev back_of : PlacedRun → List Piece → List Piece
back_of run pieces = filter (λ piece. nat_le (run_end run) piece.start) pieces

-- of the renewed pieces those that begin in the run are the new ones
renewed-own : (run : PlacedRun) (best pieces : List Piece) → list_all is_piece pieces ≡ true → list_all (begins_in run) best ≡ true
    → filter (begins_in run) (renewed run best pieces) ≡ best
renewed-own run best pieces p b =
    let front = front_of run pieces in
    let back = back_of run pieces in
    filter-append (begins_in run) front (best ++ back)
    ∙ (ap₂ (λ ps qs. ps ++ qs)
    (filter-none (λ piece. is_piece piece && nat_le (piece_end piece) run.start) (begins_in run)
    (λ piece e.
    let parts = and_parts (is_piece piece) (nat_le (piece_end piece) run.start) e in
    let some = piece-some piece parts.0 in
    let l = leb-true (piece_end piece) run.start parts.1 in
    before-run run piece.start (omega arith)) front
    (list_all-filter is_piece (λ piece. nat_le (piece_end piece) run.start) (λ piece. is_piece piece && nat_le (piece_end piece) run.start)
    (λ piece e f. and_from (is_piece piece) (nat_le (piece_end piece) run.start) e f) pieces p))
    (filter-append (begins_in run) best back
    ∙ (ap₂ (λ ps qs. ps ++ qs)
    (filter-all (begins_in run) (begins_in run) (λ piece e. e) best b)
    (filter-none (λ piece. nat_le (run_end run) piece.start) (begins_in run)
    (λ piece e. behind-run run piece.start (leb-true (run_end run) piece.start e)) back
    (list_all-filter is_piece (λ piece. nat_le (run_end run) piece.start) (λ piece. nat_le (run_end run) piece.start) (λ piece _ f. f) pieces p))
    ∙ append-nil best)))

-- and those that begin in another run are the old ones
renewed-behind-run : (run other : PlacedRun) (best pieces : List Piece) → run_end run < other.start → list_all is_piece pieces ≡ true → list_all (begins_in run) best ≡ true
    → filter (begins_in other) (renewed run best pieces) ≡ filter (begins_in other) pieces
renewed-behind-run run other best pieces l p b =
    let front = front_of run pieces in
    let back = back_of run pieces in
    filter-append (begins_in other) front (best ++ back)
    ∙ (ap₂ (λ ps qs. ps ++ qs)
    (filter-none (λ piece. nat_le (piece_end piece) run.start) (begins_in other)
    (λ piece e. let m = leb-true (piece_end piece) run.start e in before-run other piece.start (omega arith)) front
    (list_all-filter is_piece (λ piece. nat_le (piece_end piece) run.start) (λ piece. nat_le (piece_end piece) run.start) (λ piece _ f. f) pieces p))
    (filter-append (begins_in other) best back
    ∙ ap₂ (λ ps qs. ps ++ qs)
    (filter-none (begins_in run) (begins_in other) (λ piece e. let m = (from-in_run run piece.start e).1 in before-run other piece.start (omega arith)) best b)
    (filter-narrow is_piece (begins_in other) (λ piece. nat_le (run_end run) piece.start)
    (λ piece _ e. let m = (from-in_run other piece.start e).0 in le-leb (run_end run) piece.start (omega arith)) pieces p)))

renewed-before-run : (run other : PlacedRun) (best pieces : List Piece) → run_end other < run.start → list_all is_piece pieces ≡ true → list_all (begins_in run) best ≡ true
    → list_all (λ p. not (suc p == run.start)) (flat_map piece_places pieces) ≡ true
    → filter (begins_in other) (renewed run best pieces) ≡ filter (begins_in other) pieces
renewed-before-run run other best pieces l p b apart =
    let front = front_of run pieces in
    let back = back_of run pieces in
    let q = λ (k : ℕ). not (suc k == run.start) in
    filter-append (begins_in other) front (best ++ back)
    ∙ (ap₂ (λ ps qs. ps ++ qs)
    (filter-narrow (λ piece. list_all (λ k. not (suc k == run.start)) (piece_places piece)) (begins_in other) (λ piece. nat_le (piece_end piece) run.start)
    (λ piece t e.
    let m = (from-in_run other piece.start e).1 in
    ⊎_elim
    (λ across. absurd (let n = not-across piece run.start t across in omega arith))
    (λ within. le-leb (piece_end piece) run.start within)
    (cases_lt run.start (piece_end piece)))
    pieces (places-each q pieces apart))
    (filter-append (begins_in other) best back
    ∙ ap₂ (λ ps qs. ps ++ qs)
    (filter-none (begins_in run) (begins_in other) (λ piece e. let m = (from-in_run run piece.start e).0 in behind-run other piece.start (omega arith)) best b)
    (filter-none (λ piece. nat_le (run_end run) piece.start) (begins_in other)
    (λ piece e. let m = leb-true (run_end run) piece.start e in behind-run other piece.start (omega arith)) back
    (list_all-filter is_piece (λ piece. nat_le (run_end run) piece.start) (λ piece. nat_le (run_end run) piece.start) (λ piece _ f. f) pieces p)))
    ∙ append-nil (filter (begins_in other) pieces))

-- the run that is asked by itself has its best pieces
own-best : (system : List Row) (buffer : Buffer) (run : PlacedRun) (reply : Reply) (pieces after : List Piece) → list_all is_piece pieces ≡ true
    → AreCovered (best_of_run system buffer run (hits_in reply)) run.start (length run.codes)
    → CanSegment (combined_hits system run.codes (hits_in reply)) (choices_in run buffer.choices) (length run.codes)
    → after ≡ renewed run (best_of_run system buffer run (hits_in reply)) pieces → AreBestIn system buffer run (hits_in reply) after
own-best system buffer run reply pieces after p own can e =
    let hits = combined_hits system run.codes (hits_in reply) in
    let breaks = breaks_in run buffer.breaks in
    let choices = choices_in run buffer.choices in
    let n = length run.codes in
    let best = best_of_run system buffer run (hits_in reply) in
    let same : pieces_in run after ≡ best_pieces hits breaks choices n =
    ap (pieces_in run) e
    ∙ (ap (map (piece_back run.start)) (renewed-own run best pieces p (covered-begin run best own)) ∙ on-and-back run.start (best_pieces hits breaks choices n)) in
    subst (IsBest (usable_in system buffer run (hits_in reply)) n) (sym same) (IsBest-from_CanSegment hits breaks choices n can)

-- where a window opens, the run at its place has its best pieces
one-best : (system : List Row) (editor : Editor) (changes : List Call) (commit : List ℕ) (note : Note) (place : ℕ) (replies : List Reply)
    (run : PlacedRun) (reply : Reply) → list_all is_row system ≡ true → HasSingles system editor.buffer.cells → IsSteady editor
    → has_sound editor.buffer.cells place ≡ true
    → AreAnswers (record { editor = editor; changes = changes; commit = commit; note = note; opens = Some place }) replies
    → option_to_list (run_at editor.buffer.cells place) ≡ run ∷ [] → drop (length changes) replies ≡ reply ∷ []
    → AreBestIn system editor.buffer run (hits_in reply)
    (finish system (record { editor = editor; changes = changes; commit = commit; note = note; opens = Some place }) replies).editor.pieces
unfolding finish phrased
one-best system editor changes commit note place replies run reply e singles h sound a runs one =
    let buffer = editor.buffer in
    let cells = buffer.cells in
    let found = HasRun-sound cells place sound in
    let is : found.run ≡ run = same_Some found.run run (ap (λ rs. slice_get rs 0) (sym (ap option_to_list found.is) ∙ runs)) in
    let parts : runs_of cells ≡ found.before ++ run ∷ found.behind = found.parts ∙ ap (λ r. found.before ++ r ∷ found.behind) is in
    let b = IsBuffer-from buffer h.buffer in
    let in_run = IsRunIn-split system buffer found.before run found.behind singles parts in
    let answer = a.found 0 run reply (ap (λ rs. slice_get rs 0) runs) (ap (λ rs. slice_get rs 0) one) in
    let own = found-covers system buffer found.before run found.behind reply e b in_run answer in
    let can = subst (λ (r : Reply). CanSegment (combined_hits system run.codes (hits_in r)) (choices_in run buffer.choices) (length run.codes)) (sym answer.is)
    (CanSegment-run system answer.rows buffer run e answer.are_rows b in_run.of) in
    own-best system buffer run reply editor.pieces
    (finish system (record { editor = editor; changes = changes; commit = commit; note = note; opens = Some place }) replies).editor.pieces h.pieces own can
    (ap₂ (λ rs ls. phrased system buffer editor.pieces rs ls) runs one)

-- where a window opens
phrased-one : (system : List Row) (editor : Editor) (changes : List Call) (commit : List ℕ) (note : Note) (place : ℕ) (replies : List Reply)
    → list_all is_row system ≡ true → HasSingles system editor.buffer.cells → IsSteady editor
    → has_sound editor.buffer.cells place ≡ true → covers editor.buffer.cells editor.pieces ≡ true
    → AreAnswers (record { editor = editor; changes = changes; commit = commit; note = note; opens = Some place }) replies → IsPhrased system editor
    → IsPhrased system (finish system (record { editor = editor; changes = changes; commit = commit; note = note; opens = Some place }) replies).editor
unfolding finish phrased
phrased-one system editor changes commit note place replies e singles h sound covered a was =
    let buffer = editor.buffer in
    let cells = buffer.cells in
    let looked = drop (length changes) replies in
    let asked = option_to_list (run_at cells place) in
    let found = HasRun-sound cells place sound in
    let run = found.run in
    let runs : asked ≡ run ∷ [] = ap option_to_list found.is in
    let one = IsOne-length looked (looked-length changes asked replies a.one_each ∙ ap length runs) in
    let reply = one.reply in
    let b = IsBuffer-from buffer h.buffer in
    let in_run = IsRunIn-split system buffer found.before run found.behind singles found.parts in
    let answer = a.found 0 run reply (ap (λ rs. slice_get rs 0) runs) (ap (λ rs. slice_get rs 0) one.is) in
    let own = found-covers system buffer found.before run found.behind reply e b in_run answer in
    let best = best_of_run system buffer run (hits_in reply) in
    let begin = covered-begin run best own in
    let after = (finish system (record { editor = editor; changes = changes; commit = commit; note = note; opens = Some place }) replies).editor in
    let pieces : after.pieces ≡ renewed run best editor.pieces = ap₂ (λ rs ls. phrased system buffer editor.pieces rs ls) runs one.is in
    let j = length found.before in
    let at : slice_get (runs_of cells) j ≡ Some run = ap (λ rs. slice_get rs j) found.parts ∙ at-middle found.before run found.behind in
    let apart = ap (list_all (λ p. not (suc p == run.start))) (same-from_covers cells editor.pieces covered ∙ (sym (places-runs_of cells) ∙ ap (flat_map run_places) found.parts))
    ∙ apart-start found.before run found.behind in_run.among in
    let asked_best : IsBestFor system after run = record {
      rows = answer.rows;
      are_rows = answer.are_rows;
      best = subst (λ (r : Reply). AreBestIn system buffer run (hits_in r) after.pieces) answer.is
          (one-best system editor changes commit note place replies run reply e singles h sound a runs one.is);
    } in
    let other_best : (k : ℕ) (other : PlacedRun) → slice_get (runs_of cells) k ≡ Some other
    → filter (begins_in other) (renewed run best editor.pieces) ≡ filter (begins_in other) editor.pieces → IsBestFor system after other =
    λ k other f same.
    let had = was.each k other f in
    record {
      rows = had.rows;
      are_rows = had.are_rows;
      best = subst (IsBest (usable_in system buffer other (hits_of had.rows other.codes)) (length other.codes))
          (sym (ap (pieces_in other) pieces ∙ ap (map (piece_back other.start)) same)) had.best;
    } in
    record {
      each = λ k other f.
          ⊎_elim
          (λ early. other_best k other f
          (renewed-before-run run other best editor.pieces (behind-each 0 (runs_of cells) k j other run (placed-runs_of cells) f at early) h.pieces begin apart))
          (λ late. ⊎_elim
          (λ behind. other_best k other f
          (renewed-behind-run run other best editor.pieces (behind-each 0 (runs_of cells) j k run other (placed-runs_of cells) at f behind) h.pieces begin))
          (λ not_behind.
          let here : k ≡ j = omega arith in
          let same : run ≡ other = same_Some run other (sym at ∙ (ap (slice_get (runs_of cells)) (sym here) ∙ f)) in
          subst (IsBestFor system after) same asked_best)
          (cases_lt j k))
          (cases_lt k j);
    }

-- where all runs are asked
phrased-all : (system : List Row) (pending : Pending) (replies : List Reply) → list_all is_row system ≡ true → HasSingles system pending.editor.buffer.cells
    → is_pending pending ≡ true → pending.opens ≡ None → AreAnswers pending replies → IsPhrased system (finish system pending replies).editor
unfolding finish
phrased-all system pending replies e singles p none a =
    let buffer = pending.editor.buffer in
    let looked = drop (length pending.changes) replies in
    let asked = all-runs-asked pending none in
    let count = looked-length pending.changes (runs_asked pending) replies a.one_each in
    let many = ap length asked in
    let pieces = (finish system pending replies).editor.pieces in
    record {
      each = λ k run f.
          let l = slice_get_within (runs_of buffer.cells) k run f in
          let reply = HasReply-at looked k (omega arith) in
          let answer = a.found k run reply.reply (ap (λ rs. slice_get rs k) asked ∙ f) reply.is in
          record {
            rows = answer.rows;
            are_rows = answer.are_rows;
            best = subst (λ (r : Reply). AreBestIn system buffer run (hits_in r) pieces) answer.is
                (shown-best system pending replies k run reply.reply e singles p none a f reply.is);
          };
    }

-- so has each run that is asked
asked-by-opens : (system : List Row) (editor : Editor) (changes : List Call) (commit : List ℕ) (note : Note) (opens : Option ℕ) (replies : List Reply)
    (k : ℕ) (run : PlacedRun) (reply : Reply) → list_all is_row system ≡ true → HasSingles system editor.buffer.cells
    → is_pending (record { editor = editor; changes = changes; commit = commit; note = note; opens = opens }) ≡ true
    → AreAnswers (record { editor = editor; changes = changes; commit = commit; note = note; opens = opens }) replies
    → slice_get (runs_asked (record { editor = editor; changes = changes; commit = commit; note = note; opens = opens })) k ≡ Some run
    → slice_get (drop (length changes) replies) k ≡ Some reply
    → AreBestIn system editor.buffer run (hits_in reply)
    (finish system (record { editor = editor; changes = changes; commit = commit; note = note; opens = opens }) replies).editor.pieces
unfolding is_pending
asked-by-opens system editor changes commit note None replies k run reply e singles p a f g =
    shown-best system (record { editor = editor; changes = changes; commit = commit; note = note; opens = None }) replies k run reply e singles p refl a f g
asked-by-opens system editor changes commit note (Some place) replies k run reply e singles p a f g =
    let parts = and_parts (is_steady editor) _ p in
    let asks = and_parts (has_sound editor.buffer.cells place) (covers editor.buffer.cells editor.pieces) parts.1 in
    let asked = option_to_list (run_at editor.buffer.cells place) in
    let looked = drop (length changes) replies in
    let found = HasRun-sound editor.buffer.cells place asks.0 in
    let runs : asked ≡ found.run ∷ [] = ap option_to_list found.is in
    let one = IsOne-length looked (looked-length changes asked replies a.one_each ∙ ap length runs) in
    let within : k < length asked = slice_get_within asked k run f in
    let count : length asked ≡ 1 = ap length runs in
    let first : k ≡ 0 = omega arith in
    let run_is : found.run ≡ run = same_Some found.run run (sym (ap₂ (λ rs i. slice_get rs i) runs first) ∙ f) in
    let reply_is : one.reply ≡ reply = same_Some one.reply reply (sym (ap₂ (λ rs i. slice_get rs i) one.is first) ∙ g) in
    one-best system editor changes commit note place replies run reply e singles (IsSteady-from editor parts.0) asks.0 a
    (runs ∙ ap (λ r. r ∷ []) run_is) (one.is ∙ ap (λ r. r ∷ []) reply_is)

pub asked-best : (system : List Row) (pending : Pending) (replies : List Reply) (k : ℕ) (run : PlacedRun) (reply : Reply) → list_all is_row system ≡ true
    → HasSingles system pending.editor.buffer.cells → is_pending pending ≡ true → AreAnswers pending replies
    → slice_get (runs_asked pending) k ≡ Some run → slice_get (drop (length pending.changes) replies) k ≡ Some reply
    → AreBestIn system pending.editor.buffer run (hits_in reply) (finish system pending replies).editor.pieces
asked-best system pending = asked-by-opens system pending.editor pending.changes pending.commit pending.note pending.opens

by-opens : (system : List Row) (before editor : Editor) (changes : List Call) (commit : List ℕ) (note : Note) (opens : Option ℕ) (replies : List Reply)
    → list_all is_row system ≡ true → HasSingles system editor.buffer.cells
    → is_pending (record { editor = editor; changes = changes; commit = commit; note = note; opens = opens }) ≡ true
    → AreAnswers (record { editor = editor; changes = changes; commit = commit; note = note; opens = opens }) replies
    → Leaves before (Ask (record { editor = editor; changes = changes; commit = commit; note = note; opens = opens })) → IsPhrased system before
    → IsPhrased system (finish system (record { editor = editor; changes = changes; commit = commit; note = note; opens = opens }) replies).editor
unfolding is_pending
by-opens system before editor changes commit note None replies e singles p a left was =
    phrased-all system (record { editor = editor; changes = changes; commit = commit; note = note; opens = None }) replies e singles p refl a
by-opens system before editor changes commit note (Some place) replies e singles p a left was =
    let parts = and_parts (is_steady editor) _ p in
    let asks = and_parts (has_sound editor.buffer.cells place) (covers editor.buffer.cells editor.pieces) parts.1 in
    ⊎_elim
    (λ none. absurd (none-some place (sym none)))
    (λ kept. phrased-one system editor changes commit note place replies e singles (IsSteady-from editor parts.0) asks.0 asks.1 a (IsPhrased-kept system before editor kept was))
    left

-- so it is after a turn
turn_after-phrased : (system : List Row) (before : Editor) (pressed : Pressed) (replies : List Reply) (turn : Turn) → list_all is_row system ≡ true
    → LeavesPieces before pressed → IsPhrased system before
    → ((pending : Pending) → pressed ≡ Ask pending → is_pending pending ≡ true)
    → ((pending : Pending) → pressed ≡ Ask pending → HasSingles system pending.editor.buffer.cells)
    → ((pending : Pending) → pressed ≡ Ask pending → AreAnswers pending (take (length (calls_of pending)) replies))
    → turn_after system pressed replies ≡ Some turn → IsPhrased system turn.editor
turn_after-phrased system before (Done editor line) replies turn rows left was asked singles answers h =
    let same : editor ≡ turn.editor = cc in
    subst (IsPhrased system) same (⊎_elim (λ kept. IsPhrased-kept system before editor kept was) (λ none. no-runs system editor none) left.left)
turn_after-phrased system before (Ask pending) replies turn rows left was asked singles answers h =
    let heard = take (length (calls_of pending)) replies in
    let same : (finish system pending heard).editor ≡ turn.editor = grind arith in
    subst (IsPhrased system) same
    (by-opens system before pending.editor pending.changes pending.commit pending.note pending.opens heard rows (singles pending refl) (asked pending refl) (answers pending refl) left.left was)

turn_of-phrased : (system : List Row) (editor : Editor) (key : KeyStroke) (replies : List Reply) (turn : Turn) → list_all is_row system ≡ true → is_key_stroke key ≡ true
    → MayAsk system editor → IsPhrased system editor → AreFoundBefore (length turn.calls) turn.calls replies → turn_of system editor key replies ≡ Some turn
    → IsPhrased system turn.editor
turn_of-phrased system editor key replies turn rows k may was found h =
    let calls = turn_of-calls system editor key replies turn h in
    let enough = turn_of-enough system editor key replies turn h in
    turn_after-phrased system editor (press system editor key) replies turn rows (press-pieces system editor key) was
    (λ pending d. is_pending-ask system editor key pending may.is k d)
    (λ pending d. HasSingles-ask system editor key pending may.singles d)
    (λ pending d.
    let same : turn.calls ≡ calls_of pending = calls ∙ ap calls_asked d in
    answers-found pending replies (subst (λ (c : List Call). length c ≤ length replies) same enough)
    (subst (λ (c : List Call). AreFoundBefore (length c) c replies) same found)) h

-- and over a whole talk
record IsBoth (system : List Row) (editor : Editor) : Type 0 where
  may : MayAsk system editor
  best : IsPhrased system editor

pub talk-phrased : (system : List Row) (editor : Editor) (keys : List KeyStroke) (replies : List Reply) → list_all is_row system ≡ true → is_editor editor ≡ true
    → HasSingles system editor.buffer.cells → IsPhrased system editor → list_all is_key_stroke keys ≡ true → AllFound (talk_from system editor keys replies).calls replies
    → IsPhrased system (talk_from system editor keys replies).editor
talk-phrased system editor keys replies rows e singles was k found =
    (talk-keeps system (IsBoth system) editor keys replies
    (record {
      turn = λ before key heard turn s both f is. record {
        may = turn_of-may system before key heard turn rows s both.may f is;
        best = turn_of-phrased system before key heard turn rows s both.may both.best f is;
      };
    })
    (record { may = record { is = e; singles = singles }; best = was }) k found).best
