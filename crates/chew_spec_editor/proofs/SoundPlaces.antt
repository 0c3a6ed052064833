-- The places of the syllables of a buffer, run by run and cell by cell.
use Rattle.std.specs.Prelude.{◌≡◌, ℕ, zero, suc, ◌+◌, ◌<◌, ◌≤◌, Bool, true, List, [], ◌∷◌, ◌++◌, flat_map, length, ◌==◌, nat_lt}
use Rattle.std.specs.List.{list_all, range_with_len}
use Rattle.std.proofs.Common.{refl, ap, sym, subst, ◌∙◌, arith, eqb-true, ⊎_elim}
use Rattle.std.proofs.lemmas.Bool.{and_from, and_parts, cases_eq, cond_both, false≢true, lt-ltb}
use Rattle.chew_spec_preedit.specs.Cell.{Cell, Sound, Symbol, has_sound}
use Rattle.chew_spec_preedit.specs.PlacedRun.{PlacedRun, runs_from, runs_of, with_sound}
use Rattle.chew_spec_phrasing.specs.Usable.{Piece}
use Rattle.chew_spec_phrasing.proofs.Combined.{bytes_eq_from_same, same_from_bytes_eq}
use Rattle.chew_spec_editor.specs.Invariant.{covers, piece_places, run_places}

-- the places of the syllables of cells of which the first stands at a place
abbrev pub sound_places : ℕ → List Cell → List ℕ
sound_places place [] = []
sound_places place (Sound code ∷ cells) = place ∷ sound_places (suc place) cells
sound_places place (Symbol byte ∷ cells) = sound_places (suc place) cells

places-joined : (place code : ℕ) (run : PlacedRun) (runs : List PlacedRun) → run.start ≡ suc place
    → flat_map run_places (record { start = place; codes = code ∷ run.codes } ∷ runs) ≡ place ∷ flat_map run_places (run ∷ runs)
places-joined place code run runs e =
    ap (λ n. place ∷ (range_with_len n (length run.codes) ++ flat_map run_places runs)) (let f : place + 1 ≡ run.start = omega arith in f)

places-with_sound : (place code : ℕ) (runs : List PlacedRun) → flat_map run_places (with_sound place code runs) ≡ place ∷ flat_map run_places runs
places-with_sound place code [] = refl
places-with_sound place code (run ∷ runs) =
    cond_both (run.start == suc place) (record { start = place; codes = code ∷ run.codes } ∷ runs) (record { start = place; codes = code ∷ [] } ∷ (run ∷ runs))
    (λ rs. flat_map run_places rs ≡ place ∷ flat_map run_places (run ∷ runs))
    (λ e. places-joined place code run runs (eqb-true run.start (suc place) e))
    (λ _. refl)

-- the places of the runs are those of the syllables
pub places-runs_from : (place : ℕ) (cells : List Cell) → flat_map run_places (runs_from place cells) ≡ sound_places place cells
places-runs_from place [] = refl
places-runs_from place (Sound code ∷ cells) = places-with_sound place code (runs_from (suc place) cells) ∙ ap (λ ps. place ∷ ps) (places-runs_from (suc place) cells)
places-runs_from place (Symbol byte ∷ cells) = places-runs_from (suc place) cells

pub places-runs_of : (cells : List Cell) → flat_map run_places (runs_of cells) ≡ sound_places 0 cells
unfolding runs_of
places-runs_of cells = places-runs_from 0 cells

-- pieces cover the syllables where their places are these
pub same-from_covers : (cells : List Cell) (pieces : List Piece) → covers cells pieces ≡ true → flat_map piece_places pieces ≡ sound_places 0 cells
same-from_covers cells pieces e = same_from_bytes_eq (flat_map piece_places pieces) (flat_map run_places (runs_of cells)) e ∙ places-runs_of cells

pub covers-from_same : (cells : List Cell) (pieces : List Piece) → flat_map piece_places pieces ≡ sound_places 0 cells → covers cells pieces ≡ true
covers-from_same cells pieces e = bytes_eq_from_same (flat_map piece_places pieces) (flat_map run_places (runs_of cells)) (e ∙ sym (places-runs_of cells))

-- the places lie among the cells
pub places-below : (place : ℕ) (cells : List Cell) → list_all (λ p. nat_lt p (place + length cells)) (sound_places place cells) ≡ true
places-below place [] = refl
places-below place (Sound code ∷ cells) =
    and_from (nat_lt place (place + suc (length cells))) _ (lt-ltb place (place + suc (length cells)) (omega arith))
    (subst (λ (n : ℕ). list_all (λ p. nat_lt p n) (sound_places (suc place) cells) ≡ true) (let e : suc place + length cells ≡ place + suc (length cells) = omega arith in e) (places-below (suc place) cells))
places-below place (Symbol byte ∷ cells) =
    subst (λ (n : ℕ). list_all (λ p. nat_lt p n) (sound_places (suc place) cells) ≡ true) (let e : suc place + length cells ≡ place + suc (length cells) = omega arith in e) (places-below (suc place) cells)

-- what all places pass, the place of each syllable passes
pub place_passes : (q : ℕ → Bool) (place : ℕ) (cells : List Cell) (k at : ℕ) → at ≡ place + k → list_all q (sound_places place cells) ≡ true → has_sound cells k ≡ true → q at ≡ true
place_passes q place [] k at e all h = absurd (false≢true h)
place_passes q place (Sound code ∷ cells) zero at e all h =
    subst (λ (n : ℕ). q n ≡ true) (let f : place ≡ at = omega arith in f) ((and_parts (q place) (list_all q (sound_places (suc place) cells)) all).0)
place_passes q place (Sound code ∷ cells) (suc k) at e all h =
    place_passes q (suc place) cells k at (omega arith) ((and_parts (q place) (list_all q (sound_places (suc place) cells)) all).1) h
place_passes q place (Symbol byte ∷ cells) zero at e all h = absurd (false≢true h)
place_passes q place (Symbol byte ∷ cells) (suc k) at e all h = place_passes q (suc place) cells k at (omega arith) all h

-- at each of the places stands a syllable
pub places-sound : (all : List Cell) (place : ℕ) (cells : List Cell) → ((k : ℕ) → has_sound cells k ≡ has_sound all (place + k)) → list_all (has_sound all) (sound_places place cells) ≡ true
places-sound all place [] h = refl
places-sound all place (Sound code ∷ cells) h =
    and_from (has_sound all place) _ (ap (has_sound all) (let e : place ≡ place + 0 = omega arith in e) ∙ sym (h 0))
    (places-sound all (suc place) cells (λ k. h (suc k) ∙ ap (has_sound all) (let e : place + suc k ≡ suc place + k = omega arith in e)))
places-sound all place (Symbol byte ∷ cells) h =
    places-sound all (suc place) cells (λ k. h (suc k) ∙ ap (has_sound all) (let e : place + suc k ≡ suc place + k = omega arith in e))

-- a test that each number of a range passes
pub range-each : (q : ℕ → Bool) (a n k : ℕ) → list_all q (range_with_len a n) ≡ true → a ≤ k → k < a + n → q k ≡ true
range-each q a zero k e l m = absurd (omega arith)
range-each q a (suc n) k e l m =
    let parts = and_parts (q a) (list_all q (range_with_len (a + 1) n)) e in
    ⊎_elim
    (λ same. subst (λ (i : ℕ). q i ≡ true) same parts.0)
    (λ other. let apart : a ≡ k → ⊥ = other in range-each q (a + 1) n k parts.1 (omega arith) (omega arith))
    (cases_eq a k)

pub range-all : (q : ℕ → Bool) (a n : ℕ) → ((k : ℕ) → a ≤ k → k < a + n → q k ≡ true) → list_all q (range_with_len a n) ≡ true
range-all q a zero h = refl
range-all q a (suc n) h = and_from (q a) _ (h a (omega arith) (omega arith)) (range-all q (a + 1) n (λ k l m. h k (omega arith) (omega arith)))

pub range-joined : (a m n b : ℕ) → b ≡ a + m → range_with_len a m ++ range_with_len b n ≡ range_with_len a (m + n)
range-joined a zero n b e = ap (λ k. range_with_len k n) (let f : b ≡ a = omega arith in f) ∙ ap (range_with_len a) (let f : n ≡ 0 + n = omega arith in f)
range-joined a (suc m) n b e =
    ap (λ ks. a ∷ ks) (range-joined (a + 1) m n b (omega arith)) ∙ ap (range_with_len a) (let f : suc (m + n) ≡ suc m + n = omega arith in f)
