-- The run at the place of a syllable.
use Rattle.std.specs.Prelude.{◌≡◌, ℕ, ◌+◌, ◌-◌, ◌<◌, ◌≤◌, Bool, true, false, not, cond, List, [], ◌∷◌, ◌++◌, Contains, find, flat_map, length, ◌==◌, nat_le, nat_lt, Option, Some, None}
use Rattle.std.specs.List.{list_all}
use Rattle.std.proofs.Common.{refl, ap, sym, subst, ◌∙◌, arith}
use Rattle.std.proofs.lemmas.Bool.{and_from, and_parts, both_ways, eq-eqb, leb-true, le-leb, lt-ltb, ltb-true, ne_eqb, not-true, not_from_false}
use Rattle.std.proofs.lemmas.List.Concat.{flat_map-append}
use Rattle.std.proofs.lemmas.List.Folds.{list_all-append}
use Rattle.std.proofs.lemmas.Option.{none-some}
use Rattle.chew_spec_syllable.specs.Row.{Row}
use Rattle.chew_spec_dictionary.specs.System.{has_single}
use Rattle.chew_spec_phrasing.proofs.Usable.{IsFirst-from_find}
use Rattle.chew_spec_preedit.specs.Buffer.{Buffer}
use Rattle.chew_spec_preedit.specs.Cell.{Cell, has_sound}
use Rattle.chew_spec_preedit.specs.PlacedRun.{PlacedRun, is_in_run, run_at, run_end, runs_of}
use Rattle.chew_spec_preedit.proofs.Kept.{list_all-join}
use Rattle.chew_spec_editor.specs.Invariant.{HasSingles, run_places}
use Rattle.chew_spec_editor.proofs.BestPieces.{IsRunOf, middle}
use Rattle.chew_spec_editor.proofs.PlacedRuns.{IsAmong, IsAmong-placed, apart-end, are_placed, placed-runs_of, runs-pass, sounds-pass}
use Rattle.chew_spec_editor.proofs.ShownRows.{passes}
use Rattle.chew_spec_editor.proofs.SoundPlaces.{place_passes, places-below, places-runs_of, places-sound, range-all, range-each, sound_places}

-- a run among the runs of a buffer
pub record IsRunIn (system : List Row) (buffer : Buffer) (before : List PlacedRun) (run : PlacedRun) (behind : List PlacedRun) : Type 0 where
  pub among : IsAmong before run behind
  pub of : IsRunOf system buffer run
  pub within : run_end run ≤ length buffer.cells
  pub sounds : (k : ℕ) → run.start ≤ k → k < run_end run → has_sound buffer.cells k ≡ true

-- what the places of all runs pass, those of one pass
own-places : (q : ℕ → Bool) (before : List PlacedRun) (run : PlacedRun) (behind : List PlacedRun) → list_all q (flat_map run_places (before ++ run ∷ behind)) ≡ true
    → list_all q (run_places run) ≡ true
own-places q before run behind e =
    let front = flat_map run_places before in
    let rest = run_places run ++ flat_map run_places behind in
    let parts = and_parts (list_all q front) (list_all q rest) (sym (list_all-append q front rest) ∙ (ap (list_all q) (sym (flat_map-append run_places before (run ∷ behind))) ∙ e)) in
    (and_parts (list_all q (run_places run)) (list_all q (flat_map run_places behind)) (sym (list_all-append q (run_places run) (flat_map run_places behind)) ∙ parts.1)).0

pub IsRunIn-split : (system : List Row) (buffer : Buffer) (before : List PlacedRun) (run : PlacedRun) (behind : List PlacedRun)
    → HasSingles system buffer.cells → runs_of buffer.cells ≡ before ++ run ∷ behind → IsRunIn system buffer before run behind
IsRunIn-split system buffer before run behind h e =
    let among = IsAmong-placed 0 before run behind (ap (are_placed 0) (sym e) ∙ placed-runs_of buffer.cells) in
    let places : flat_map run_places (before ++ run ∷ behind) ≡ sound_places 0 buffer.cells = ap (flat_map run_places) (sym e) ∙ places-runs_of buffer.cells in
    let some = among.some in
    let below = λ (p : ℕ). nat_lt p (0 + length buffer.cells) in
    let last = ltb-true (run_end run - 1) (0 + length buffer.cells)
    (range-each below run.start (length run.codes) (run_end run - 1)
    (own-places below before run behind (ap (list_all below) places ∙ places-below 0 buffer.cells)) (omega arith) (omega arith)) in
    let sound = own-places (has_sound buffer.cells) before run behind
    (ap (list_all (has_sound buffer.cells)) places ∙ places-sound buffer.cells 0 buffer.cells (λ k. ap (has_sound buffer.cells) (let f : k ≡ 0 + k = omega arith in f))) in
    record {
      among = among;
      of = record {
        apart = ap (list_all (λ p. not (p == run_end run))) (sym places) ∙ apart-end before run behind among;
        singles = passes (λ run. list_all (has_single system) run.codes) (runs_of buffer.cells) run
            (runs-pass (has_single system) buffer.cells (sounds-pass (has_single system) buffer.cells h.each))
            (subst (λ runs. Contains runs run) (sym e) (middle before run behind));
      };
      within = omega arith;
      sounds = λ k l m. range-each (has_sound buffer.cells) run.start (length run.codes) k sound l m;
    }

-- where nothing is found, nothing passes
fails-from_none : {X : Type 0} (q : X → Bool) (xs : List X) → find q xs ≡ None → list_all (λ x. not (q x)) xs ≡ true
fails-from_none q [] e = refl
fails-from_none q (x ∷ xs) e = fails_at q x xs (q x) refl (fails-from_none q xs) e
  where
    fails_at : {X : Type 0} (q : X → Bool) (x : X) (xs : List X) (b : Bool) → q x ≡ b → (find q xs ≡ None → list_all (λ y. not (q y)) xs ≡ true)
        → cond b (Some x) (find q xs) ≡ None → list_all (λ y. not (q y)) (x ∷ xs) ≡ true
    fails_at q x xs true f rest e = absurd (none-some x (sym e))
    fails_at q x xs false f rest e = and_from (not (q x)) (list_all (λ y. not (q y)) xs) (not_from_false (q x) f) (rest e)

-- no run has a place that is none of theirs
apart-runs : (place : ℕ) (runs : List PlacedRun) → list_all (λ run. not (is_in_run run place)) runs ≡ true → list_all (λ p. not (p == place)) (flat_map run_places runs) ≡ true
apart-runs place [] e = refl
apart-runs place (run ∷ runs) e =
    let parts = and_parts (not (is_in_run run place)) (list_all (λ r. not (is_in_run r place)) runs) e in
    list_all-join (λ p. not (p == place)) (run_places run) (flat_map run_places runs)
    (range-all (λ p. not (p == place)) run.start (length run.codes)
    (λ k l m. not_from_false (k == place) (ne_eqb k place (λ same.
    both_ways (is_in_run run place) (not-true (is_in_run run place) parts.0)
    (and_from (nat_le run.start place) (nat_lt place (run_end run)) (le-leb run.start place (omega arith)) (lt-ltb place (run_end run) (omega arith)))))))
    (apart-runs place runs parts.1)

-- there is a run at a syllable
pub record HasRun (cells : List Cell) (place : ℕ) : Type 0 where
  pub run : PlacedRun
  pub before : List PlacedRun
  pub behind : List PlacedRun
  pub is : run_at cells place ≡ Some run
  pub parts : runs_of cells ≡ before ++ run ∷ behind
  pub from : run.start ≤ place
  pub to : place < run_end run

pub HasRun-sound : (cells : List Cell) (place : ℕ) → has_sound cells place ≡ true → HasRun cells place
HasRun-sound cells place e = by_found (run_at cells place) refl
  where
    by_found : (found : Option PlacedRun) → run_at cells place ≡ found → HasRun cells place
    by_found None f =
        let apart = ap (list_all (λ p. not (p == place))) (sym (places-runs_of cells)) ∙ apart-runs place (runs_of cells) (fails-from_none (λ run. is_in_run run place) (runs_of cells) f) in
        absurd (both_ways (place == place) (not-true (place == place) (place_passes (λ p. not (p == place)) 0 cells place place (omega arith) apart e)) (eq-eqb place place refl))
    by_found (Some run) f =
        let first = IsFirst-from_find (λ run. is_in_run run place) (runs_of cells) run f in
        let inside = and_parts (nat_le run.start place) (nat_lt place (run_end run)) first.passes in
        record {
          run = run;
          before = first.before;
          behind = first.after;
          is = f;
          parts = first.parts;
          from = leb-true run.start place inside.0;
          to = ltb-true place (run_end run) inside.1;
        }
