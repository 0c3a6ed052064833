-- What a look-up finds at the runs of a pending editor lets them be phrased.
use Rattle.std.specs.Prelude.{◌≡◌, ℕ, zero, suc, ◌<◌, ◌≤◌, Bool, true, ◌&&◌, List, [], ◌∷◌, ◌++◌, drop, take, length, slice_get, ◌==◌, option_to_list, Option, Some, None}
use Rattle.std.specs.Option.{option_map_or}
use Rattle.std.specs.List.{list_all}
use Rattle.std.proofs.Common.{refl, ap, sym, subst, ◌∙◌, arith}
use Rattle.std.proofs.lemmas.Bool.{and_parts}
use Rattle.std.proofs.lemmas.Option.{none-some, same_Some}
use Rattle.chew_spec_syllable.specs.Row.{Row, is_row}
use Rattle.chew_spec_dictionary.specs.Call.{Reply}
use Rattle.chew_spec_phrasing.specs.CanSegment.{CanSegment}
use Rattle.chew_spec_phrasing.specs.CombinedRows.{combined_hits}
use Rattle.chew_spec_preedit.specs.Buffer.{Buffer}
use Rattle.chew_spec_preedit.specs.Cell.{Cell, has_sound}
use Rattle.chew_spec_preedit.specs.PlacedRun.{PlacedRun, choices_in, run_at, run_end, runs_of}
use Rattle.chew_spec_preedit.proofs.IsBuffer.{IsBuffer, IsBuffer-from}
use Rattle.chew_spec_editor.specs.Answers.{AreAnswers, IsFound}
use Rattle.chew_spec_editor.specs.Finish.{hits_in}
use Rattle.chew_spec_editor.specs.Invariant.{HasSingles, asks_rightly, covers, is_pending, is_steady}
use Rattle.chew_spec_editor.specs.Pending.{Pending, runs_asked}
use Rattle.chew_spec_editor.proofs.BestPieces.{CanSegment-run}
use Rattle.chew_spec_editor.proofs.PlacedRuns.{split-at}
use Rattle.chew_spec_editor.proofs.RunsAt.{HasRun-sound, IsRunIn, IsRunIn-split}
use Rattle.chew_spec_editor.proofs.Steady.{IsSteady, IsSteady-from}
use Rattle.chew_editor.specs.Phrasable.{ArePhrasable, HasPlace, IsPhrasable}

-- what is found at a run of the buffer
phrasable-found : (system : List Row) (buffer : Buffer) (before : List PlacedRun) (run : PlacedRun) (behind : List PlacedRun) (reply : Reply)
    → list_all is_row system ≡ true → IsBuffer buffer → IsRunIn system buffer before run behind → IsFound run reply
    → IsPhrasable system buffer run (hits_in reply)
phrasable-found system buffer before run behind reply e b h f =
    let few = b.few in
    let most = b.most in
    let within = h.within in
    record {
      some = h.among.some;
      within = omega arith;
      possible = subst (λ (r : Reply). CanSegment (combined_hits system run.codes (hits_in r)) (choices_in run buffer.choices) (length run.codes)) (sym f.is)
          (CanSegment-run system f.rows buffer run e f.are_rows b h.of);
    }

-- the only run of a list
only-run : (first : PlacedRun) (k : ℕ) (run : PlacedRun) → slice_get (first ∷ []) k ≡ Some run → first ≡ run
only-run first zero run e = same_Some first run e
only-run first (suc k) run e = absurd (none-some run e)

-- a run of the cells
record IsOf (cells : List Cell) (run : PlacedRun) : Type 0 where
  pub before : List PlacedRun
  pub behind : List PlacedRun
  pub parts : runs_of cells ≡ before ++ run ∷ behind

-- where a window opens there is a syllable
record OpensAtSound (cells : List Cell) (opens : Option ℕ) : Type 0 where
  pub each : (place : ℕ) → opens ≡ Some place → has_sound cells place ≡ true

by_opens : (cells : List Cell) (also none : Bool) (opens : Option ℕ) → option_map_or (λ place. has_sound cells place && also) opens none ≡ true → OpensAtSound cells opens
by_opens cells also none None e = record { each = λ place f. absurd (none-some place f) }
by_opens cells also none (Some at) e = record {
  each = λ place f. subst (λ (k : ℕ). has_sound cells k ≡ true) (same_Some at place f) ((and_parts (has_sound cells at) also e).0);
}

opens-pending : (pending : Pending) → is_pending pending ≡ true → OpensAtSound pending.editor.buffer.cells pending.opens
unfolding is_pending
opens-pending pending e =
    by_opens pending.editor.buffer.cells (covers pending.editor.buffer.cells pending.editor.pieces) (length pending.editor.pieces == 0) pending.opens
    ((and_parts (is_steady pending.editor) (asks_rightly pending) e).1)

pub steady-pending : (pending : Pending) → is_pending pending ≡ true → IsSteady pending.editor
unfolding is_pending
steady-pending pending e = IsSteady-from pending.editor ((and_parts (is_steady pending.editor) (asks_rightly pending) e).0)

-- each run that is asked is one of the cells
is_of-asked : (cells : List Cell) (opens : Option ℕ) (k : ℕ) (run : PlacedRun) → OpensAtSound cells opens
    → slice_get (option_map_or (λ place. option_to_list (run_at cells place)) opens (runs_of cells)) k ≡ Some run → IsOf cells run
is_of-asked cells None k run o e = record { before = take k (runs_of cells); behind = drop (suc k) (runs_of cells); parts = split-at (runs_of cells) k run e }
is_of-asked cells (Some place) k run o e =
    let found = HasRun-sound cells place (o.each place refl) in
    let same = only-run found.run k run (ap (λ rs. slice_get rs k) (sym (ap option_to_list found.is)) ∙ e) in
    record { before = found.before; behind = found.behind; parts = found.parts ∙ ap (λ r. found.before ++ r ∷ found.behind) same }

pub phrasable-asked : (system : List Row) (pending : Pending) (replies : List Reply) → list_all is_row system ≡ true → HasSingles system pending.editor.buffer.cells
    → is_pending pending ≡ true → AreAnswers pending replies
    → ArePhrasable system pending.editor.buffer (runs_asked pending) (drop (length pending.changes) replies)
phrasable-asked system pending replies e singles p a =
    let buffer = pending.editor.buffer in
    let b = IsBuffer-from buffer (steady-pending pending p).buffer in
    record {
      each = λ k run reply f g.
          let of = is_of-asked buffer.cells pending.opens k run (opens-pending pending p) f in
          phrasable-found system buffer of.before run of.behind reply e b
          (IsRunIn-split system buffer of.before run of.behind singles of.parts) (a.found k run reply f g);
    }

-- and where a window opens, its place is one of the run's
record HasIt (run : PlacedRun) (place : ℕ) : Type 0 where
  pub from : run.start ≤ place
  pub to : place < run_end run

place-of : (cells : List Cell) (opens : Option ℕ) (place : ℕ) (run : PlacedRun) → OpensAtSound cells opens → opens ≡ Some place
    → slice_get (option_map_or (λ at. option_to_list (run_at cells at)) opens (runs_of cells)) 0 ≡ Some run → HasIt run place
place-of cells None place run o f e = absurd (none-some place f)
place-of cells (Some at) place run o f e =
    let found = HasRun-sound cells at (o.each at refl) in
    let same = only-run found.run 0 run (ap (λ rs. slice_get rs 0) (sym (ap option_to_list found.is)) ∙ e) in
    subst (λ (r : PlacedRun). HasIt r place) same (subst (λ (k : ℕ). HasIt found.run k) (same_Some at place f) (record { from = found.from; to = found.to }))

pub place-asked : (pending : Pending) → is_pending pending ≡ true → HasPlace (runs_asked pending) pending.opens
place-asked pending p =
    let o = opens-pending pending p in
    record {
      from = λ place run f e. (place-of pending.editor.buffer.cells pending.opens place run o f e).from;
      to = λ place run f e. (place-of pending.editor.buffer.cells pending.opens place run o f e).to;
    }
