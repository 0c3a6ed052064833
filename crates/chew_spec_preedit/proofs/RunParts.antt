-- What the runs of cells are.
use Rattle.std.proofs.Common.{◌≡◌, ◌⊎◌, inl, inr, ℕ, zero, suc, ◌+◌, ◌-◌, ◌<◌, ◌≤◌, Bool, true, false, ◌&&◌, List, [], ◌∷◌, ◌++◌, length, take, drop, map, Contains, refl, ap, sym, subst, ◌∙◌, arith}
use Rattle.std.specs.Prelude.{nat_le, nat_lt}
use Rattle.std.specs.List.{list_all, slice_get}
use Rattle.std.specs.Option.{option_map_or}
use Rattle.std.proofs.lemmas.Bool.{and_from, and_parts, both_ways, cases_lt, false≢true, le-leb, leb-true, lt-ltb, ltb-true}
use Rattle.std.proofs.lemmas.List.{drop-drop, length-drop}
use Rattle.std.proofs.lemmas.List.Elements.{Contains-append_cases, Contains-append_left, Contains-append_right}
use Rattle.chew_spec_phrasing.specs.Usable.{Choice, choice_end, phrase_len}
use Rattle.chew_spec_phrasing.proofs.Membership.{Contains-cases, Contains-head, Contains-nil, Contains-single}
use Rattle.chew_spec_preedit.specs.InTurn.{is_in_turn}
use Rattle.chew_spec_preedit.specs.Buffer.{Buffer, is_buffer, is_choice_of}
use Rattle.chew_spec_preedit.specs.Cell.{Cell, Sound, Symbol, has_sound, is_sound}
use Rattle.chew_spec_preedit.specs.PlacedRun.{PlacedRun, is_in_run, leading_codes, run_end, runs_from, runs_of}
use Rattle.chew_spec_preedit.proofs.IsBuffer.{IsBuffer-from, IsChoice-from}
use Rattle.chew_spec_preedit.proofs.Kept.{is_in_turn-two, list_all-at, list_all-weaker}
use Rattle.chew_spec_preedit.proofs.Phrases.{phrase_len-some}
use Rattle.chew_spec_preedit.proofs.Places.{has_sound-within, slice_get-drop}
use Rattle.chew_spec_preedit.proofs.Spliced.{is_outside, outside-from}
use Rattle.chew_spec_preedit.proofs.Runs.{run_of, runs_from-step, starts-runs_from, starts_at_least}

leading-take : (cells : List Cell) → map Sound (leading_codes cells) ≡ take (length (leading_codes cells)) cells
leading-take [] = refl
leading-take (Sound code ∷ cells) = ap (λ cs. Sound code ∷ cs) (leading-take cells)
leading-take (Symbol byte ∷ cells) = refl

leading-end : (cells : List Cell) → has_sound cells (length (leading_codes cells)) ≡ false
leading-end [] = refl
leading-end (Sound code ∷ cells) = leading-end cells
leading-end (Symbol byte ∷ cells) = refl

-- a run of cells that stand from a place on, k cells behind it
pub record IsRunOf (place : ℕ) (cells : List Cell) (run : PlacedRun) : Type 0 where
  pub behind : ℕ
  pub start : run.start ≡ place + behind
  pub some : 0 < length run.codes
  pub codes : map Sound run.codes ≡ take (length run.codes) (drop behind cells)
  pub ends : has_sound cells (behind + length run.codes) ≡ false
  pub begins : 0 < behind → has_sound cells (behind - 1) ≡ false

first_run : (place : ℕ) (cells : List Cell) (lead : List ℕ) (run : PlacedRun) → lead ≡ leading_codes cells → Contains (run_of place lead) run → IsRunOf place cells run
first_run place cells [] run e i = absurd (Contains-nil run i)
first_run place cells (code ∷ codes) run e i =
    let is : run ≡ record { start = place; codes = code ∷ codes } = sym (Contains-single _ run i) in
    subst (IsRunOf place cells) (sym is) (record {
      behind = 0;
      start = omega arith;
      some = omega arith;
      codes = ap (map Sound) e ∙ (leading-take cells ∙ ap (λ n. take n cells) (sym (ap length e)));
      ends = ap (has_sound cells) (let f : 0 + length (code ∷ codes) ≡ length (leading_codes cells) = (let g = ap length e in omega arith) in f) ∙ leading-end cells;
      begins = λ l. absurd (omega arith);
    })

has_sound-drop : (cells : List Cell) (n k i : ℕ) → i ≡ n + k → has_sound (drop n cells) k ≡ has_sound cells i
has_sound-drop cells n k i e = ap (λ found. option_map_or is_sound found false) (slice_get-drop cells n k i e)

later_run : (place len : ℕ) (cells : List Cell) (run : PlacedRun) → len ≡ length (leading_codes cells) → IsRunOf (place + len + 1) (drop (len + 1) cells) run → IsRunOf place cells run
later_run place len cells run e r = record {
  behind = len + 1 + r.behind;
  start = let s = r.start in omega arith;
  some = r.some;
  codes = r.codes ∙ ap (take (length run.codes)) (drop-drop r.behind (len + 1) cells);
  ends = sym (has_sound-drop cells (len + 1) (r.behind + length run.codes) (len + 1 + r.behind + length run.codes) (omega arith)) ∙ r.ends;
  begins = λ _. begins_of r.behind refl;
}
  where
    begins_of : (k : ℕ) → k ≡ r.behind → has_sound cells (len + 1 + r.behind - 1) ≡ false
    begins_of zero f = ap (has_sound cells) (let g : len + 1 + r.behind - 1 ≡ length (leading_codes cells) = omega arith in g) ∙ leading-end cells
    begins_of (suc k) f =
        sym (has_sound-drop cells (len + 1) (r.behind - 1) (len + 1 + r.behind - 1) (omega arith)) ∙ r.begins (omega arith)

-- each run of the cells is one
runs-are : (n place : ℕ) (cells : List Cell) (run : PlacedRun) → length cells ≤ n → Contains (runs_from place cells) run → IsRunOf place cells run
runs-are n place [] run l i = absurd (Contains-nil run i)
runs-are zero place (cell ∷ cells) run l i = absurd (omega arith)
runs-are (suc n) place (cell ∷ cells) run l i =
    let all = cell ∷ cells in
    let lead = leading_codes all in
    let len = length lead in
    elim (Contains-append_cases (run_of place lead) (runs_from (place + len + 1) (drop (len + 1) all)) run (subst (λ (rs : List PlacedRun). Contains rs run) (runs_from-step place all) i)) [
      | inl j ↦ first_run place all lead run refl j
      | inr j ↦ later_run place len all run refl (runs-are n (place + len + 1) (drop (len + 1) all) run (let d = length-drop (len + 1) all in omega arith) j)
    ]

-- each syllable is in a run
pub record IsIn (runs : List PlacedRun) (place : ℕ) : Type 0 where
  pub run : PlacedRun
  pub among : Contains runs run
  pub low : run.start ≤ place
  pub high : place < run_end run

in_first : (place : ℕ) (lead : List ℕ) (rest : List PlacedRun) (k : ℕ) → k < length lead → IsIn (run_of place lead ++ rest) (place + k)
in_first place [] rest k l = absurd (omega arith)
in_first place (code ∷ codes) rest k l = record {
  run = record { start = place; codes = code ∷ codes };
  among = Contains-head _ rest;
  low = omega arith;
  high = omega arith;
}

runs-cover : (n place : ℕ) (cells : List Cell) (k : ℕ) → length cells ≤ n → has_sound cells k ≡ true → IsIn (runs_from place cells) (place + k)
runs-cover n place [] k l e = absurd (false≢true e)
runs-cover zero place (cell ∷ cells) k l e = absurd (omega arith)
runs-cover (suc n) place (cell ∷ cells) k l e =
    let all = cell ∷ cells in
    let lead = leading_codes all in
    let len = length lead in
    let rest = runs_from (place + len + 1) (drop (len + 1) all) in
    subst (λ (rs : List PlacedRun). IsIn rs (place + k)) (sym (runs_from-step place all))
    (elim (cases_lt k len) [
      | inl m ↦ in_first place lead rest k m
      | inr m ↦
          let past : len ≤ k = m in
          in_later place len lead rest k (not_end all k len refl e) past
          (runs-cover n (place + len + 1) (drop (len + 1) all) (k - (len + 1)) (let d = length-drop (len + 1) all in omega arith)
          (has_sound-drop all (len + 1) (k - (len + 1)) k (let f = not_end all k len refl e in omega arith) ∙ e))
    ])
  where
    not_end : (all : List Cell) (k len : ℕ) → len ≡ length (leading_codes all) → has_sound all k ≡ true → (k ≡ len → ⊥)
    not_end all k len f e g = both_ways (has_sound all k) (ap (has_sound all) (g ∙ f) ∙ leading-end all) e

    in_later : (place len : ℕ) (lead : List ℕ) (rest : List PlacedRun) (k : ℕ) → (k ≡ len → ⊥) → len ≤ k → IsIn rest (place + len + 1 + (k - (len + 1))) → IsIn (run_of place lead ++ rest) (place + k)
    in_later place len lead rest k ne m r = record {
      run = r.run;
      among = Contains-append_right (run_of place lead) rest r.run r.among;
      low = let a = r.low in omega arith;
      high = let a = r.high in omega arith;
    }

abbrev pub run_before : PlacedRun → PlacedRun → Bool
run_before run later = nat_lt (run_end run) later.start

apart_first : (place : ℕ) (lead : List ℕ) (rest : List PlacedRun) → list_all (starts_at_least (place + length lead + 1)) rest ≡ true → is_in_turn run_before rest ≡ true → is_in_turn run_before (run_of place lead ++ rest) ≡ true
apart_first place [] rest s t = t
apart_first place (code ∷ codes) rest s t =
    let run : PlacedRun = record { start = place; codes = code ∷ codes } in
    and_from (list_all (run_before run) rest) (is_in_turn run_before rest)
    (list_all-weaker (starts_at_least (place + length (code ∷ codes) + 1)) (run_before run) (λ r l. lt-ltb (run_end run) r.start (let m = leb-true (place + length (code ∷ codes) + 1) r.start l in omega arith)) rest s) t

-- runs don't touch
runs-apart : (n place : ℕ) (cells : List Cell) → length cells ≤ n → is_in_turn run_before (runs_from place cells) ≡ true
runs-apart n place [] l = refl
runs-apart zero place (cell ∷ cells) l = absurd (omega arith)
runs-apart (suc n) place (cell ∷ cells) l =
    let all = cell ∷ cells in
    let lead = leading_codes all in
    let len = length lead in
    let rest = runs_from (place + len + 1) (drop (len + 1) all) in
    subst (λ (rs : List PlacedRun). is_in_turn run_before rs ≡ true) (sym (runs_from-step place all))
    (apart_first place lead rest (starts-runs_from (place + len + 1) (drop (len + 1) all)) (runs-apart n (place + len + 1) (drop (len + 1) all) (let d = length-drop (len + 1) all in omega arith)))

pub run-is : (cells : List Cell) (run : PlacedRun) → Contains (runs_of cells) run → IsRunOf 0 cells run
unfolding runs_of
run-is cells run i = runs-are (length cells) 0 cells run (omega arith) i

pub run-some : (cells : List Cell) (run : PlacedRun) → Contains (runs_of cells) run → 0 < length run.codes
run-some cells run i = (run-is cells run i).some

pub run-codes : (cells : List Cell) (run : PlacedRun) → Contains (runs_of cells) run → map Sound run.codes ≡ take (length run.codes) (drop run.start cells)
run-codes cells run i = let r = run-is cells run i in r.codes ∙ ap (λ n. take (length run.codes) (drop n cells)) (let s = r.start in let e : r.behind ≡ run.start = omega arith in e)

pub run-ends : (cells : List Cell) (run : PlacedRun) → Contains (runs_of cells) run → has_sound cells (run_end run) ≡ false
run-ends cells run i = let r = run-is cells run i in ap (has_sound cells) (let s = r.start in let e : run_end run ≡ r.behind + length run.codes = omega arith in e) ∙ r.ends

pub run-begins : (cells : List Cell) (run : PlacedRun) → Contains (runs_of cells) run → 0 < run.start → has_sound cells (run.start - 1) ≡ false
run-begins cells run i l = let r = run-is cells run i in let s = r.start in ap (has_sound cells) (let e : run.start - 1 ≡ r.behind - 1 = omega arith in e) ∙ r.begins (omega arith)

pub run-covers : (cells : List Cell) (place : ℕ) → has_sound cells place ≡ true → IsIn (runs_of cells) place
unfolding runs_of
run-covers cells place e = subst (IsIn (runs_from 0 cells)) (let f : 0 + place ≡ place = omega arith in f) (runs-cover (length cells) 0 cells place (omega arith) e)

pub run-with : (cells : List Cell) (place : ℕ) → has_sound cells place ≡ true → (run : PlacedRun) × Contains (runs_of cells) run × (is_in_run run place ≡ true)
run-with cells place e =
    let r = run-covers cells place e in
    (r.run, r.among, and_from (nat_le r.run.start place) (nat_lt place (run_end r.run)) (le-leb r.run.start place r.low) (lt-ltb place (run_end r.run) r.high))

pub runs-in_turn : (cells : List Cell) → is_in_turn (λ run later. nat_lt (run_end run) later.start) (runs_of cells) ≡ true
unfolding runs_of
runs-in_turn cells = runs-apart (length cells) 0 cells (omega arith)

-- a choice lies in the run of its first cell
pub choice-in_run : (had : Buffer) (choice : Choice) → is_buffer had ≡ true → Contains had.choices choice → (run : PlacedRun) × Contains (runs_of had.cells) run × (run.start ≤ choice.start) × (choice_end choice ≤ run_end run)
choice-in_run had choice e i =
    let h = IsBuffer-from had e in
    let c = IsChoice-from had.cells had.breaks choice (list_all-at (is_choice_of had.cells had.breaks) had.choices choice h.chosen i) in
    let some = phrase_len-some choice.phrase c.phrase in
    let r = run-covers had.cells choice.start (c.sounds choice.start (omega arith) (omega arith)) in
    (r.run, r.among, r.low, within r (cases_lt (run_end r.run) (choice_end choice)) c.sounds)
  where
    within : (r : IsIn (runs_of had.cells) choice.start) → (run_end r.run < choice_end choice) ⊎ (choice_end choice ≤ run_end r.run)
        → ((k : ℕ) → choice.start ≤ k → k < choice_end choice → has_sound had.cells k ≡ true) → choice_end choice ≤ run_end r.run
    within r (inl l) s = let high = r.high in absurd (both_ways (has_sound had.cells (run_end r.run)) (run-ends had.cells r.run r.among) (s (run_end r.run) (omega arith) l))
    within r (inr l) s = l

pub choice-unbroken : (had : Buffer) (choice : Choice) (place : ℕ) → is_buffer had ≡ true → Contains had.choices choice → Contains had.breaks place → (place ≤ choice.start) ⊎ (choice_end choice ≤ place)
choice-unbroken had choice place e i j =
    let h = IsBuffer-from had e in
    let c = IsChoice-from had.cells had.breaks choice (list_all-at (is_choice_of had.cells had.breaks) had.choices choice h.chosen i) in
    outside-from choice.start (choice_end choice) place (list_all-at (is_outside choice.start (choice_end choice)) had.breaks place c.unbroken j)

pub choices-apart : (had : Buffer) (choice other : Choice) → is_buffer had ≡ true → Contains had.choices choice → Contains had.choices other
    → (choice ≡ other) ⊎ ((choice_end choice ≤ other.start) ⊎ (choice_end other ≤ choice.start))
choices-apart had choice other e i j =
    let h = IsBuffer-from had e in
    elim (is_in_turn-two (λ c later. nat_le (choice_end c) later.start) had.choices choice other h.apart i j) [
      | inl f ↦ inl f
      | inr o ↦ elim o [
        | inl l ↦ inr (inl (leb-true (choice_end choice) other.start l))
        | inr l ↦ inr (inr (leb-true (choice_end other) choice.start l))
      ]
    ]
