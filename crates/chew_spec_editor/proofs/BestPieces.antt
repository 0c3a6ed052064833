-- The best pieces of a run cover it.
use Rattle.std.specs.Prelude.{◌≡◌, ℕ, ◌+◌, ◌<◌, ◌≤◌, Bool, true, false, not, ◌&&◌, List, [], ◌∷◌, ◌++◌, AllPairs, Contains, find, flat_map, map, sum, length, ◌==◌, nat_le, nat_lt, Option, Some, None}
use Rattle.std.specs.Option.{option_map_or}
use Rattle.std.specs.List.{list_all, range_with_len}
use Rattle.std.proofs.Common.{refl, ap, ap₂, sym, subst, ◌∙◌, arith, ⊎_elim}
use Rattle.std.proofs.lemmas.Bool.{and_from, and_parts, both_ways, cases_lt, eq-eqb, leb-true, le-leb, le-ltb, ltb-true, not-true}
use Rattle.std.proofs.lemmas.List.Kept.{AllPairs-cons}
use Rattle.std.proofs.lemmas.Option.{same_Some}
use Rattle.chew_spec_syllable.specs.Phrase.{is_phrase}
use Rattle.chew_spec_syllable.specs.Row.{Row, greatest_freq, is_row}
use Rattle.chew_spec_dictionary.specs.Call.{Hit}
use Rattle.chew_spec_dictionary.specs.Look.{Interval, hits_of}
use Rattle.chew_spec_dictionary.specs.System.{has_single}
use Rattle.chew_spec_phrasing.specs.Best.{best_pieces}
use Rattle.chew_spec_phrasing.specs.CanSegment.{CanSegment, interval_of}
use Rattle.chew_spec_phrasing.specs.CombinedRows.{combined_hits}
use Rattle.chew_spec_phrasing.specs.Segmentation.{GivesOwn, lengths, pieces_from}
use Rattle.chew_spec_phrasing.specs.Usable.{Choice, Piece, choice_end, is_exactly, meets, phrase_len, piece_at, piece_by_rows, piece_of_choice}
use Rattle.chew_spec_phrasing.proofs.CanSegment.{IsBest-from_CanSegment}
use Rattle.chew_spec_phrasing.proofs.CombinedSegment.{CanSegment-combined_hits}
use Rattle.chew_spec_phrasing.proofs.Lengths.{sum-cons}
use Rattle.chew_spec_phrasing.proofs.Membership.{Contains-head, Contains-tail}
use Rattle.chew_spec_phrasing.proofs.Pieces.{pieces_from-split}
use Rattle.chew_spec_phrasing.proofs.Usable.{GivesOwn-piece_at, Passes-from_find, first-from_piece_by_rows}
use Rattle.chew_spec_preedit.specs.Buffer.{Buffer, are_apart, choice_back, is_choice_of}
use Rattle.chew_spec_preedit.specs.Cell.{Cell}
use Rattle.chew_spec_preedit.specs.PlacedRun.{PlacedRun, breaks_in, choices_in, is_in_run, piece_on, run_end}
use Rattle.chew_spec_preedit.proofs.IsBuffer.{IsBuffer, IsChoice-from}
use Rattle.chew_spec_preedit.proofs.Kept.{is_in_turn-moved, list_all-moved}
use Rattle.chew_spec_preedit.proofs.Phrases.{phrase_len-some}
use Rattle.chew_spec_editor.specs.Finish.{best_of_run}
use Rattle.chew_spec_editor.specs.Invariant.{is_piece, piece_places}
use Rattle.chew_spec_editor.proofs.ShownRows.{IsShown, IsShown-combined, all-from_test, hits-as_long, passes, rows-as_long}
use Rattle.chew_spec_editor.proofs.SoundPlaces.{place_passes, range-joined, sound_places}

-- pieces cover places one after another
pub record AreCovered (pieces : List Piece) (start n : ℕ) : Type 0 where
  pub places : flat_map piece_places pieces ≡ range_with_len start n
  pub are_pieces : list_all is_piece pieces ≡ true

-- each usable interval gives a piece
record GivesPieces (usable : Interval → Option Piece) : Type 0 where
  pub each : (at : Interval) (piece : Piece) → usable at ≡ Some piece → is_piece piece ≡ true

segmentation-covers : (usable : Interval → Option Piece) → GivesOwn usable → GivesPieces usable → (moved start : ℕ) (lens : List ℕ) (pieces : List Piece)
    → pieces_from usable start lens ≡ Some pieces → AreCovered (map (piece_on moved) pieces) (moved + start) (sum lens)
segmentation-covers usable own gives moved start [] pieces e =
    subst (λ ps. AreCovered (map (piece_on moved) ps) (moved + start) (sum [])) (same_Some [] pieces e) (record { places = refl; are_pieces = refl })
segmentation-covers usable own gives moved start (len ∷ lens) pieces e =
    let split = pieces_from-split usable start len lens pieces e in
    let rest = segmentation-covers usable own gives moved (start + len) lens split.others split.rest in
    let is = own.own (record { start = start; len = len }) split.piece split.is_usable in
    let from = is.start in
    let long = is.len in
    let first = gives.each (record { start = start; len = len }) split.piece split.is_usable in
    subst (λ ps. AreCovered (map (piece_on moved) ps) (moved + start) (sum (len ∷ lens))) (sym split.joined) (record {
      places = ap₂ (λ ps qs. ps ++ qs) (ap₂ range_with_len (let f : moved + split.piece.start ≡ moved + start = omega arith in f) long) rest.places
          ∙ (range-joined (moved + start) len (sum lens) (moved + (start + len)) (omega arith) ∙ ap (range_with_len (moved + start)) (sym (sum-cons len lens)));
      are_pieces = and_from (is_piece split.piece) (list_all is_piece (map (piece_on moved) split.others)) first rest.are_pieces;
    })

-- a choice is a piece, and so is a row that is shown
chosen-piece : (choices : List Choice) (at : Interval) (choice : Choice) → list_all (λ c. is_piece (piece_of_choice c)) choices ≡ true
    → find (is_exactly at) choices ≡ Some choice → is_piece (piece_of_choice choice) ≡ true
chosen-piece choices at choice e f = passes (λ c. is_piece (piece_of_choice c)) choices choice e ((Passes-from_find (is_exactly at) choices choice f).among)

pub middle : {X : Type 0} (before : List X) (x : X) (after : List X) → Contains (before ++ x ∷ after) x
middle [] x after = Contains-head x after
middle (y ∷ before) x after = Contains-tail y (before ++ x ∷ after) x (middle before x after)

GivesPieces-piece_at : (rows : List Hit) (breaks : List ℕ) (choices : List Choice) (n : ℕ) → ((hit : Hit) → Contains rows hit → IsShown n hit)
    → list_all (λ c. is_piece (piece_of_choice c)) choices ≡ true → GivesPieces (piece_at rows breaks choices)
unfolding piece_at
GivesPieces-piece_at rows breaks choices n h e = record { each = λ at piece f. by_choice at piece (find (is_exactly at) choices) refl f }
  where
    by_row : (at : Interval) (piece : Piece) → piece_by_rows rows breaks choices at ≡ Some piece → is_piece piece ≡ true
    by_row at piece f =
        let row = first-from_piece_by_rows rows breaks choices at piece f in
        let is = h row.0 (subst (λ hits. Contains hits row.0) (sym row.1.parts) (middle row.1.before row.0 row.1.after)) in
        subst (λ p. is_piece p ≡ true) (sym row.2) (and_from (is_phrase row.0.phrase) (nat_le row.0.freq greatest_freq) is.phrase is.freq)

    by_choice : (at : Interval) (piece : Piece) (found : Option Choice) → find (is_exactly at) choices ≡ found
        → option_map_or (λ choice. Some (piece_of_choice choice)) found (piece_by_rows rows breaks choices at) ≡ Some piece → is_piece piece ≡ true
    by_choice at piece None is f = by_row at piece f
    by_choice at piece (Some choice) is f = subst (λ p. is_piece p ≡ true) (same_Some (piece_of_choice choice) piece f) (chosen-piece choices at choice e is)

-- a choice that begins in a run ends in it
pub choice-within : (cells : List Cell) (breaks : List ℕ) (run : PlacedRun) (choice : Choice) → list_all (λ p. not (p == run_end run)) (sound_places 0 cells) ≡ true
    → is_choice_of cells breaks choice ≡ true → choice.start < run_end run → choice_end choice ≤ run_end run
choice-within cells breaks run choice apart e l =
    let is = IsChoice-from cells breaks choice e in
    ⊎_elim
    (λ beyond.
    let sound = is.sounds (run_end run) (omega arith) beyond in
    let passed = place_passes (λ p. not (p == run_end run)) 0 cells (run_end run) (run_end run) (omega arith) apart sound in
    absurd (both_ways (run_end run == run_end run) (not-true (run_end run == run_end run) passed) (eq-eqb (run_end run) (run_end run) refl)))
    (λ within. within)
    (cases_lt (run_end run) (choice_end choice))

-- a choice of a run of n syllables, by its places in the run
abbrev is_run_choice : ℕ → Choice → Bool
is_run_choice n choice = is_piece (piece_of_choice choice) && nat_le (choice_end choice) n

choices-within : (cells : List Cell) (breaks : List ℕ) (choices : List Choice) (run : PlacedRun) → list_all (λ p. not (p == run_end run)) (sound_places 0 cells) ≡ true
    → list_all (is_choice_of cells breaks) choices ≡ true → list_all (is_run_choice (length run.codes)) (choices_in run choices) ≡ true
choices-within cells breaks choices run apart e =
    list_all-moved (is_choice_of cells breaks) (λ choice. is_in_run run choice.start) (choice_back run.start) (is_run_choice (length run.codes))
    (λ choice c k.
    let is = IsChoice-from cells breaks choice c in
    let inside = and_parts (nat_le run.start choice.start) (nat_lt choice.start (run_end run)) k in
    let l = leb-true run.start choice.start inside.0 in
    let m = choice-within cells breaks run choice apart c (ltb-true choice.start (run_end run) inside.1) in
    and_from (is_piece (piece_of_choice choice)) (nat_le (choice_end (choice_back run.start choice)) (length run.codes))
    (and_from (is_phrase choice.phrase) (nat_le choice.freq greatest_freq) is.phrase is.freq)
    (le-leb (choice_end (choice_back run.start choice)) (length run.codes) (omega arith)))
    choices e

choices-apart : (choices : List Choice) (run : PlacedRun) → are_apart choices ≡ true → are_apart (choices_in run choices) ≡ true
choices-apart choices run e =
    is_in_turn-moved (λ choice later. nat_le (choice_end choice) later.start) (λ choice. is_in_run run choice.start) (choice_back run.start)
    (λ x y k l m.
    let first = leb-true run.start x.start ((and_parts (nat_le run.start x.start) (nat_lt x.start (run_end run)) k).0) in
    let n = leb-true (choice_end x) y.start m in
    le-leb (choice_end (choice_back run.start x)) (choice_back run.start y).start (omega arith))
    choices e

pairs-apart : (choices : List Choice) → are_apart choices ≡ true → AllPairs (λ choice other. meets (interval_of choice) other ≡ false) choices
pairs-apart [] e = λ i j d l m. absurd (omega arith)
pairs-apart (choice ∷ choices) e =
    let parts = and_parts (list_all (λ later. nat_le (choice_end choice) later.start) choices) (are_apart choices) e in
    AllPairs-cons (λ choice other. meets (interval_of choice) other ≡ false) choice choices
    (all-from_test (λ other. meets (interval_of choice) other ≡ false) (λ later. nat_le (choice_end choice) later.start)
    (λ other l. ap (λ b. b && nat_lt choice.start (choice_end other)) (le-ltb other.start (choice_end choice) (leb-true (choice_end choice) other.start l)))
    choices parts.0)
    (pairs-apart choices parts.1)

-- a run of a buffer, with a row for each of its syllables
pub record IsRunOf (system : List Row) (buffer : Buffer) (run : PlacedRun) : Type 0 where
  pub apart : list_all (λ p. not (p == run_end run)) (sound_places 0 buffer.cells) ≡ true
  pub singles : list_all (has_single system) run.codes ≡ true

only-pieces : (choices : List Choice) (n : ℕ) → list_all (is_run_choice n) choices ≡ true → list_all (λ c. is_piece (piece_of_choice c)) choices ≡ true
only-pieces [] n e = refl
only-pieces (choice ∷ choices) n e =
    let parts = and_parts (is_run_choice n choice) (list_all (is_run_choice n) choices) e in
    and_from (is_piece (piece_of_choice choice)) _ ((and_parts (is_piece (piece_of_choice choice)) (nat_le (choice_end choice) n) parts.0).0) (only-pieces choices n parts.1)

-- its combined rows can be segmented
pub CanSegment-run : (system rows : List Row) (buffer : Buffer) (run : PlacedRun) → list_all is_row system ≡ true → list_all is_row rows ≡ true
    → IsBuffer buffer → IsRunOf system buffer run
    → CanSegment (combined_hits system run.codes (hits_of rows run.codes)) (choices_in run buffer.choices) (length run.codes)
CanSegment-run system rows buffer run e f b h =
    let choices = choices_in run buffer.choices in
    let n = length run.codes in
    let within = choices-within buffer.cells buffer.breaks buffer.choices run h.apart b.chosen in
    CanSegment-combined_hits system run.codes (hits_of rows run.codes) choices (rows-as_long system e) (hits-as_long rows run.codes f)
    (all-from_test (λ code. has_single system code ≡ true) (has_single system) (λ code s. s) run.codes h.singles)
    (all-from_test (λ choice. 0 < phrase_len choice.phrase) (is_run_choice n)
    (λ choice c. let is = and_parts (is_piece (piece_of_choice choice)) (nat_le (choice_end choice) n) c in
    let l = phrase_len-some choice.phrase ((and_parts (is_phrase choice.phrase) (nat_le choice.freq greatest_freq) is.0).0) in omega arith) choices within)
    (all-from_test (λ choice. choice_end choice ≤ n) (is_run_choice n)
    (λ choice c. leb-true (choice_end choice) n ((and_parts (is_piece (piece_of_choice choice)) (nat_le (choice_end choice) n) c).1)) choices within)
    (pairs-apart choices (choices-apart buffer.choices run b.apart))

-- its best pieces cover it
pub best-covers : (system rows : List Row) (buffer : Buffer) (run : PlacedRun) → list_all is_row system ≡ true → list_all is_row rows ≡ true
    → IsBuffer buffer → IsRunOf system buffer run → AreCovered (best_of_run system buffer run (hits_of rows run.codes)) run.start (length run.codes)
best-covers system rows buffer run e f b h =
    let hits = combined_hits system run.codes (hits_of rows run.codes) in
    let choices = choices_in run buffer.choices in
    let breaks = breaks_in run buffer.breaks in
    let n = length run.codes in
    let within = choices-within buffer.cells buffer.breaks buffer.choices run h.apart b.chosen in
    let can : CanSegment hits choices n = CanSegment-run system rows buffer run e f b h in
    let best = best_pieces hits breaks choices n in
    let one = (IsBest-from_CanSegment hits breaks choices n can).is_one in
    let gives = GivesPieces-piece_at hits breaks choices n (λ hit i. IsShown-combined system rows run.codes hit e f i) (only-pieces choices n within) in
    let covered = segmentation-covers (piece_at hits breaks choices) (GivesOwn-piece_at hits breaks choices can.rows_have_lengths) gives run.start 0 (lengths best) best one.are_usable in
    record {
      places = covered.places ∙ ap₂ range_with_len (let g : run.start + 0 ≡ run.start = omega arith in g) one.adds_up.whole;
      are_pieces = covered.are_pieces;
    }
