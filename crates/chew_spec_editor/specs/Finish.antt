-- What the replies to a key's calls make of the editor.
use Rattle.std.specs.Prelude.{ℕ, ◌+◌, ◌-◌, Bool, true, false, List, [], ◌∷◌, ◌++◌, filter, length, take, drop, ◌==◌, nat_le, Option, Some, None, option_and_then, if◌then◌else◌}
use Rattle.std.specs.List.{list_any}
use Rattle.chew_spec_syllable.specs.Row.{Row}
use Rattle.chew_spec_dictionary.specs.Call.{Hit, Reply, Rows, Full, NotThere}
use Rattle.chew_spec_phrasing.specs.Best.{best_pieces}
use Rattle.chew_spec_phrasing.specs.CombinedRows.{combined_hits}
use Rattle.chew_spec_phrasing.specs.Usable.{Piece, phrase_len}
use Rattle.chew_spec_preedit.specs.Buffer.{Buffer}
use Rattle.chew_spec_preedit.specs.PlacedRun.{PlacedRun, breaks_in, choices_in, placed, run_end}
use Rattle.chew_spec_preedit.specs.Window.{CandidateList, Window, candidate_lists, opened}
use Rattle.chew_spec_text.specs.Line as line
use Rattle.chew_spec_text.specs.Line.{Line, Note}
use Rattle.chew_spec_editor.specs.Editor.{Editor, line_of}
use Rattle.chew_spec_editor.specs.Pending.{Pending, runs_asked}

-- the editor, and the line that shows it
pub record Finished : Type 0 where
  pub editor : Editor
  pub line : Line

-- the rows that a look-up found
abbrev pub hits_in : Reply → List Hit
hits_in (Rows hits) = hits
hits_in _ = []

-- the best pieces of a run, given what its look-up found, by their places in the buffer
abbrev pub best_of_run : List Row → Buffer → PlacedRun → List Hit → List Piece
best_of_run system buffer run hits =
    placed run (best_pieces (combined_hits system run.codes hits) (breaks_in run buffer.breaks) (choices_in run buffer.choices) (length run.codes))

-- the pieces with those of a run anew: those before it and those behind it stay
abbrev pub renewed : PlacedRun → List Piece → List Piece → List Piece
renewed run best pieces =
    filter (λ piece. nat_le (piece.start + phrase_len piece.phrase) run.start) pieces
    ++ (best ++ filter (λ piece. nat_le (run_end run) piece.start) pieces)

-- the pieces once the runs are phrased, each by the reply to its look-up
unfoldable pub phrased : List Row → Buffer → List Piece → List PlacedRun → List Reply → List Piece
phrased system buffer pieces (run ∷ runs) (reply ∷ replies) =
    phrased system buffer (renewed run (best_of_run system buffer run (hits_in reply)) pieces) runs replies
phrased system buffer pieces _ _ = pieces

-- the window at a place of the run that was looked up, where there is any candidate
abbrev pub window_of_lists : ℕ → ℕ → List CandidateList → Option Window
window_of_lists per_page place lists = if length lists == 0 then None else Some (opened place lists per_page)

abbrev pub window_at : List Row → Editor → List PlacedRun → List Reply → ℕ → Option Window
window_at system editor (run ∷ _) (reply ∷ _) place =
    window_of_lists editor.settings.page place
    (candidate_lists (combined_hits system run.codes (hits_in reply)) (breaks_in run editor.buffer.breaks) (length run.codes) (place - run.start))
window_at system editor _ _ place = None

-- something that was to be learnt or hidden found the dictionary full
abbrev pub is_full_reply : Reply → Bool
is_full_reply Full = true
is_full_reply _ = false

-- what was to be forgotten or hidden was not there
abbrev pub is_not_there : Reply → Bool
is_not_there NotThere = true
is_not_there _ = false

-- the note of a key by the replies to what it changes
abbrev pub note_after : Note → List Reply → Note
note_after note replies =
    if list_any is_full_reply replies then line.Full else if list_any is_not_there replies then line.Missing else note

-- what the replies, one a call, make of a pending editor
unfoldable pub finish : List Row → Pending → List Reply → Finished
finish system pending replies =
    let changed = take (length pending.changes) replies in
    let looked = drop (length pending.changes) replies in
    let editor = record pending.editor {
      pieces = phrased system pending.editor.buffer pending.editor.pieces (runs_asked pending) looked;
      window = option_and_then (window_at system pending.editor (runs_asked pending) looked) pending.opens;
    } in
    record { editor = editor; line = line_of editor pending.commit (note_after pending.note changed) }
