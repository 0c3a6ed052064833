-- The best pieces of a run begin in it.
use Rattle.std.specs.Prelude.{◌≡◌, ℕ, ◌+◌, ◌≤◌, List, [], ◌∷◌, All, length, sum, Option, Some}
use Rattle.std.proofs.Common.{arith, subst, sym}
use Rattle.std.proofs.lemmas.List.Elements.{All-cons, All-nil}
use Rattle.std.proofs.lemmas.Option.{same_Some}
use Rattle.chew_spec_syllable.specs.Row.{Row}
use Rattle.chew_spec_dictionary.specs.Call.{Hit}
use Rattle.chew_spec_dictionary.specs.Look.{Interval}
use Rattle.chew_spec_phrasing.specs.Best.{best_pieces}
use Rattle.chew_spec_phrasing.specs.CombinedRows.{combined_hits}
use Rattle.chew_spec_phrasing.specs.Segmentation.{GivesOwn, lengths, pieces_from}
use Rattle.chew_spec_phrasing.specs.Usable.{Piece, piece_at}
use Rattle.chew_spec_phrasing.proofs.CanSegment.{IsBest-from_CanSegment}
use Rattle.chew_spec_phrasing.proofs.Lengths.{sum-cons}
use Rattle.chew_spec_phrasing.proofs.Pieces.{pieces_from-split}
use Rattle.chew_spec_phrasing.proofs.Usable.{GivesOwn-piece_at}
use Rattle.chew_spec_preedit.specs.Buffer.{Buffer}
use Rattle.chew_spec_preedit.specs.PlacedRun.{PlacedRun, breaks_in, choices_in}
use Rattle.chew_editor.specs.Phrasable.{IsPhrasable}

-- pieces of these lengths, one behind the other, begin before their end
starts-before : (usable : Interval → Option Piece) → GivesOwn usable → (moved start : ℕ) (lens : List ℕ) (pieces : List Piece) → pieces_from usable start lens ≡ Some pieces
    → moved + (start + sum lens) ≤ 255 → All (λ piece. moved + piece.start ≤ 255) pieces
starts-before usable own moved start [] pieces e l =
    subst (All (λ piece. moved + piece.start ≤ 255)) (same_Some [] pieces e) (All-nil (λ piece. moved + piece.start ≤ 255))
starts-before usable own moved start (len ∷ lens) pieces e l =
    let split = pieces_from-split usable start len lens pieces e in
    let whole = sum-cons len lens in
    let from = (own.own (record { start = start; len = len }) split.piece split.is_usable).start in
    subst (All (λ piece. moved + piece.start ≤ 255)) (sym split.joined)
    (All-cons (λ piece. moved + piece.start ≤ 255) split.piece split.others (omega arith)
    (starts-before usable own moved (start + len) lens split.others split.rest (omega arith)))

-- so their places in the buffer are small
pub best-fit : (system : List Row) (buffer : Buffer) (run : PlacedRun) (hits : List Hit) → IsPhrasable system buffer run hits
    → All (λ piece. run.start + piece.start ≤ 255) (best_pieces (combined_hits system run.codes hits) (breaks_in run buffer.breaks) (choices_in run buffer.choices) (length run.codes))
best-fit system buffer run hits h =
    let rows = combined_hits system run.codes hits in
    let breaks = breaks_in run buffer.breaks in
    let choices = choices_in run buffer.choices in
    let n = length run.codes in
    let best = best_pieces rows breaks choices n in
    let one = (IsBest-from_CanSegment rows breaks choices n h.possible).is_one in
    let whole = one.adds_up.whole in
    let within = h.within in
    starts-before (piece_at rows breaks choices) (GivesOwn-piece_at rows breaks choices h.possible.rows_have_lengths) run.start 0 (lengths best) best one.are_usable (omega arith)
