-- A choice's characters are shown at its place, by the piece of its run that has them.
use Rattle.std.specs.Prelude.{◌≡◌, ℕ, zero, suc, ◌+◌, ◌-◌, ◌<◌, ◌≤◌, true, List, [], ◌∷◌, ◌++◌, Any, Contains, chars, drop, filter, take, length, slice_get, nat_le, nat_lt, Option, Some, None}
use Rattle.std.specs.List.{list_all}
use Rattle.std.proofs.Common.{refl, ap, sym, subst, ◌∙◌, arith, length-append}
use Rattle.std.proofs.lemmas.Bool.{and_from, and_parts, leb-true, le-leb, lt-ltb}
use Rattle.std.proofs.lemmas.List.Elements.{Contains-append_left, Contains-append_right}
use Rattle.std.proofs.lemmas.Option.{none-some, same_Some}
use Rattle.chew_spec_syllable.specs.Row.{Row, is_row}
use Rattle.chew_spec_dictionary.specs.Call.{Reply}
use Rattle.chew_spec_dictionary.specs.Look.{hits_of}
use Rattle.chew_spec_phrasing.specs.Best.{best_pieces}
use Rattle.chew_spec_phrasing.specs.CanSegment.{Shows}
use Rattle.chew_spec_phrasing.specs.CombinedRows.{combined_hits}
use Rattle.chew_spec_phrasing.specs.Usable.{Choice, Piece, choice_end, phrase_len}
use Rattle.chew_spec_phrasing.proofs.CanSegment.{IsBest-from_CanSegment}
use Rattle.chew_spec_phrasing.proofs.Chosen.{shown-IsSegmentation}
use Rattle.chew_spec_phrasing.proofs.Combined.{same_from_bytes_eq}
use Rattle.chew_spec_phrasing.proofs.Membership.{Contains-filter, Contains-map}
use Rattle.chew_spec_preedit.specs.Buffer.{Buffer, choice_back, is_choice_of}
use Rattle.chew_spec_preedit.specs.PlacedRun.{PlacedRun, breaks_in, choices_in, is_in_run, piece_on, run_end, runs_of}
use Rattle.chew_spec_preedit.proofs.IsBuffer.{IsBuffer, IsBuffer-from, IsChoice-from}
use Rattle.chew_spec_preedit.proofs.Phrases.{phrase_len-some}
use Rattle.chew_spec_preedit.proofs.Places.{slice_get-drop, sounds-from}
use Rattle.chew_spec_editor.specs.Answers.{AreAnswers}
use Rattle.chew_spec_editor.specs.Editor.{characters_of}
use Rattle.chew_spec_editor.specs.Finish.{best_of_run, finish, hits_in}
use Rattle.chew_spec_editor.specs.Invariant.{HasSingles, asks_rightly, is_pending, is_steady}
use Rattle.chew_spec_editor.specs.Pending.{Pending, runs_asked}
use Rattle.chew_spec_editor.specs.Phrasings.{best_of_runs}
use Rattle.chew_spec_editor.proofs.BestPieces.{CanSegment-run}
use Rattle.chew_spec_editor.proofs.Finished.{is_editor-finish, looked-length}
use Rattle.chew_spec_editor.proofs.Phrasing.{finish-best}
use Rattle.chew_spec_editor.proofs.RunsAt.{HasRun-sound, IsRunIn, IsRunIn-split}
use Rattle.chew_spec_editor.proofs.ShownChoices.{shown-of_piece}
use Rattle.chew_spec_editor.proofs.ShownRows.{passes}
use Rattle.chew_spec_editor.proofs.Steady.{IsEditor-from, IsSteady-from}

slice_get-take : {X : Type 0} (xs : List X) (n k : ℕ) → k < n → slice_get (take n xs) k ≡ slice_get xs k
slice_get-take xs zero k l = absurd (omega arith)
slice_get-take [] (suc n) k l = refl
slice_get-take (x ∷ xs) (suc n) zero l = refl
slice_get-take (x ∷ xs) (suc n) (suc k) l = slice_get-take xs n k (omega arith)

-- the element behind others, and what stands at a place of a list
pub at-middle : {X : Type 0} (before : List X) (x : X) (after : List X) → slice_get (before ++ x ∷ after) (length before) ≡ Some x
at-middle [] x after = refl
at-middle (y ∷ before) x after = at-middle before x after

pub record HasReply (replies : List Reply) (k : ℕ) : Type 0 where
  pub reply : Reply
  pub is : slice_get replies k ≡ Some reply

pub HasReply-at : (replies : List Reply) (k : ℕ) → k < length replies → HasReply replies k
HasReply-at [] k l = absurd (omega arith)
HasReply-at (reply ∷ replies) zero l = record { reply = reply; is = refl }
HasReply-at (reply ∷ replies) (suc k) l = let rest = HasReply-at replies k (omega arith) in record { reply = rest.reply; is = rest.is }

-- the best pieces of a run are among those of all
among-best : (system : List Row) (buffer : Buffer) (runs : List PlacedRun) (replies : List Reply) (k : ℕ) (run : PlacedRun) (reply : Reply) (piece : Piece)
    → slice_get runs k ≡ Some run → slice_get replies k ≡ Some reply → Contains (best_of_run system buffer run (hits_in reply)) piece → Contains (best_of_runs system buffer runs replies) piece
among-best system buffer [] replies k run reply piece e f i = absurd (none-some run e)
among-best system buffer (first ∷ runs) [] k run reply piece e f i = absurd (none-some reply f)
among-best system buffer (first ∷ runs) (answer ∷ replies) zero run reply piece e f i =
    Contains-append_left (best_of_run system buffer first (hits_in answer)) (best_of_runs system buffer runs replies) piece
    (subst (λ r. Contains (best_of_run system buffer first (hits_in r)) piece) (sym (same_Some answer reply f))
    (subst (λ r. Contains (best_of_run system buffer r (hits_in reply)) piece) (sym (same_Some first run e)) i))
among-best system buffer (first ∷ runs) (answer ∷ replies) (suc k) run reply piece e f i =
    Contains-append_right (best_of_run system buffer first (hits_in answer)) (best_of_runs system buffer runs replies) piece
    (among-best system buffer runs replies k run reply piece e f i)

-- a piece of the run, by its places there, that shows the choice
record HasShown (best : List Piece) (choice : Choice) : Type 0 where
  pub piece : Piece
  pub among : Contains best piece
  pub shows : Shows piece choice

HasShown-any : (best : List Piece) (choice : Choice) → Any (λ piece. Shows piece choice) best → HasShown best choice
HasShown-any best choice any = record { piece = any.1; among = (any.0, any.2, any.3); shows = any.4 }

run-shows : (system rows : List Row) (buffer : Buffer) (before : List PlacedRun) (run : PlacedRun) (behind : List PlacedRun) (choice : Choice)
    → list_all is_row system ≡ true → list_all is_row rows ≡ true → IsBuffer buffer → IsRunIn system buffer before run behind
    → Contains buffer.choices choice → run.start ≤ choice.start → choice.start < run_end run
    → HasShown (best_pieces (combined_hits system run.codes (hits_of rows run.codes)) (breaks_in run buffer.breaks) (choices_in run buffer.choices) (length run.codes)) (choice_back run.start choice)
run-shows system rows buffer before run behind choice e f b h i l m =
    let hits = combined_hits system run.codes (hits_of rows run.codes) in
    let choices = choices_in run buffer.choices in
    let breaks = breaks_in run buffer.breaks in
    let n = length run.codes in
    let can = CanSegment-run system rows buffer run e f b h.of in
    let one = (IsBest-from_CanSegment hits breaks choices n can).is_one in
    let own = Contains-map (choice_back run.start) (filter (λ c. is_in_run run c.start) buffer.choices) choice
    (Contains-filter (λ c. is_in_run run c.start) buffer.choices choice i
    (and_from (nat_le run.start choice.start) (nat_lt choice.start (run_end run)) (le-leb run.start choice.start l) (lt-ltb choice.start (run_end run) m))) in
    HasShown-any (best_pieces hits breaks choices n) (choice_back run.start choice)
    (shown-IsSegmentation hits breaks choices n (best_pieces hits breaks choices n) (choice_back run.start choice) can one own)

pub choice-shown : (system : List Row) (pending : Pending) (replies : List Reply) (choice : Choice) → list_all is_row system ≡ true
    → HasSingles system pending.editor.buffer.cells → is_pending pending ≡ true → pending.opens ≡ None → AreAnswers pending replies
    → Contains pending.editor.buffer.choices choice
    → take (phrase_len choice.phrase) (drop choice.start (characters_of (finish system pending replies).editor)) ≡ chars choice.phrase
unfolding is_pending finish
choice-shown system pending replies choice e singles p none a i =
    let editor = (finish system pending replies).editor in
    let buffer = pending.editor.buffer in
    let cells = buffer.cells in
    let steady = IsSteady-from pending.editor ((and_parts (is_steady pending.editor) (asks_rightly pending) p).0) in
    let b = IsBuffer-from buffer steady.buffer in
    let after = IsEditor-from editor (is_editor-finish system pending replies e singles p a) in
    let is = IsChoice-from cells buffer.breaks choice (passes (is_choice_of cells buffer.breaks) buffer.choices choice b.chosen i) in
    let some = phrase_len-some choice.phrase is.phrase in
    let found = HasRun-sound cells choice.start (is.sounds choice.start (omega arith) (omega arith)) in
    let run = found.run in
    let in_run = IsRunIn-split system buffer found.before run found.behind singles found.parts in
    let k = length found.before in
    let asked : runs_asked pending ≡ runs_of cells = ap (λ (o : Option ℕ). runs_asked (record pending { opens = o })) none in
    let at : slice_get (runs_of cells) k ≡ Some run = ap (λ rs. slice_get rs k) found.parts ∙ at-middle found.before run found.behind in
    let looked = drop (length pending.changes) replies in
    let count = looked-length pending.changes (runs_asked pending) replies a.one_each in
    let many = ap length asked ∙ (ap length found.parts ∙ length-append found.before (run ∷ found.behind)) in
    let reply = HasReply-at looked k (omega arith) in
    let answer = a.found k run reply.reply (ap (λ rs. slice_get rs k) asked ∙ at) reply.is in
    let shown = run-shows system answer.rows buffer found.before run found.behind choice e answer.are_rows b in_run i found.from found.to in
    let piece = piece_on run.start shown.piece in
    let here = Contains-map (piece_on run.start)
    (best_pieces (combined_hits system run.codes (hits_of answer.rows run.codes)) (breaks_in run buffer.breaks) (choices_in run buffer.choices) (length run.codes)) shown.piece shown.among in
    let own = subst (λ r. Contains (best_of_run system buffer run (hits_in r)) piece) (sym answer.is) here in
    let among = subst (λ ps. Contains ps piece) (sym (finish-best system pending replies e singles p none a))
    (among-best system buffer (runs_of cells) looked k run reply.reply piece at reply.is own) in
    let inside = and_parts (nat_le shown.piece.start (choice.start - run.start)) (nat_le (choice_end (choice_back run.start choice)) (shown.piece.start + phrase_len shown.piece.phrase)) shown.shows.lies in
    let low = leb-true shown.piece.start (choice.start - run.start) inside.0 in
    let high = leb-true (choice_end (choice_back run.start choice)) (shown.piece.start + phrase_len shown.piece.phrase) inside.1 in
    let from = found.from in
    let away = choice.start - run.start - shown.piece.start in
    let same : take (phrase_len choice.phrase) (drop away (chars shown.piece.phrase)) ≡ chars choice.phrase =
    same_from_bytes_eq (take (phrase_len choice.phrase) (drop away (chars shown.piece.phrase))) (chars choice.phrase) shown.shows.same in
    shown-of_piece cells editor.pieces piece choice.start (chars choice.phrase) after.covered after.steady.pieces among
    (record { within = is.within; sounds = sounds-from cells choice.start (phrase_len choice.phrase) is.sounds })
    (omega arith) (omega arith)
    (λ k l. sym (slice_get-drop (chars shown.piece.phrase) away k (choice.start + k - (run.start + shown.piece.start)) (omega arith))
    ∙ (sym (slice_get-take (drop away (chars shown.piece.phrase)) (phrase_len choice.phrase) k l) ∙ ap (λ cs. slice_get cs k) same))
