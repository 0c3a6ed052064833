-- Cells of which some were cut out and some put in: what is kept of breaks and choices.
use Rattle.std.proofs.Common.{◌≡◌, ℕ, suc, ◌+◌, ◌-◌, ◌<◌, ◌≤◌, Bool, true, false, not, ◌&&◌, ◌⊎◌, inl, inr, List, ◌++◌, length, map, filter, refl, ap, sym, ◌∙◌, arith}
use Rattle.std.specs.Prelude.{nat_lt, nat_le}
use Rattle.std.specs.List.{list_all}
use Rattle.std.proofs.lemmas.Bool.{and_parts, le-leb, leb-true, lt-ltb, ltb-true}
use Rattle.std.proofs.lemmas.Bool.Decides.{nat_tests}
use Rattle.chew_spec_dictionary.specs.Look.{Interval}
use Rattle.chew_spec_phrasing.specs.CanSegment.{interval_of}
use Rattle.chew_spec_phrasing.specs.Usable.{Choice, choice_end, interval_end, is_unbroken, phrase_len}
use Rattle.chew_spec_preedit.specs.Buffer.{are_apart, is_choice_of, is_rising}
use Rattle.chew_spec_preedit.specs.Cell.{Cell, has_sound, is_between_sounds}
use Rattle.chew_spec_preedit.proofs.IsBuffer.{IsBetween, IsBetween-from, IsChoice, IsChoice-from, is_between_sounds-from, is_choice_of-from}
use Rattle.chew_spec_preedit.proofs.Kept.{is_in_turn-edited, list_all-edited}
use Rattle.chew_spec_preedit.proofs.Phrases.{phrase_len-some}

-- the cells before a place stand where they stood, and those from another on as far apart as before, none of them
-- before the first place
pub record IsSpliced (cells after : List Cell) (from to : ℕ) (move : ℕ → ℕ) : Type 0 where
  pub front : from ≤ length after
  pub before : (k : ℕ) → k < from → has_sound after k ≡ has_sound cells k
  pub behind : (k : ℕ) → to ≤ k → has_sound after (move k) ≡ has_sound cells k
  pub within : (k : ℕ) → to ≤ k → k ≤ length cells → move k ≤ length after
  pub above : (k : ℕ) → to ≤ k → from ≤ move k
  pub step : (k n : ℕ) → to ≤ k → move (k + n) ≡ move k + n

-- a choice whose place moves
abbrev pub moved : (ℕ → ℕ) → Choice → Choice
moved move choice = record choice { start = move choice.start }

abbrev pub is_outside : ℕ → ℕ → ℕ → Bool
is_outside start end place = not (nat_lt start place && nat_lt place end)

pub outside-from : (start end place : ℕ) → is_outside start end place ≡ true → (place ≤ start) ⊎ (end ≤ place)
outside-from start end place e = grind (arith, nat_tests)

pub is_outside-left : (start end place : ℕ) → place ≤ start → is_outside start end place ≡ true
is_outside-left start end place l = grind (arith, nat_tests)

pub is_outside-right : (start end place : ℕ) → end ≤ place → is_outside start end place ≡ true
is_outside-right start end place l = grind (arith, nat_tests)

-- what moves from the second place on keeps its order
pub move-order : (cells after : List Cell) (from to : ℕ) (move : ℕ → ℕ) → IsSpliced cells after from to move → (x y : ℕ) → to ≤ x → x ≤ y → move y ≡ move x + (y - x)
move-order cells after from to move h x y l m = ap move (let e : y ≡ x + (y - x) = omega arith in e) ∙ h.step x (y - x) l

pub is_rising-spliced : (cells after : List Cell) (from to : ℕ) (move : ℕ → ℕ) → IsSpliced cells after from to move
    → (breaks : List ℕ) → is_rising breaks ≡ true → is_rising (filter (λ at. nat_lt at from) breaks ++ map move (filter (nat_lt to) breaks)) ≡ true
is_rising-spliced cells after from to move h breaks e =
    is_in_turn-edited nat_lt (λ at. nat_lt at from) (nat_lt to) move
    (λ x y k l m.
    let a = ltb-true to x k in
    let b = ltb-true x y m in
    let o = move-order cells after from to move h x y (omega arith) (omega arith) in
    lt-ltb (move x) (move y) (omega arith))
    (λ x y k l.
    let a = ltb-true x from k in
    let b = ltb-true to y l in
    let o = h.above y (omega arith) in
    lt-ltb x (move y) (omega arith))
    breaks e

between_before : (cells after : List Cell) (from to : ℕ) (move : ℕ → ℕ) → IsSpliced cells after from to move
    → (at : ℕ) → IsBetween cells at → at < from → IsBetween after at
between_before cells after from to move h at b l = record {
  above = b.above;
  left = h.before (at - 1) (omega arith) ∙ b.left;
  right = h.before at l ∙ b.right;
}

between_behind : (cells after : List Cell) (from to : ℕ) (move : ℕ → ℕ) → IsSpliced cells after from to move
    → (at : ℕ) → IsBetween cells at → to < at → IsBetween after (move at)
between_behind cells after from to move h at b l =
    let e : move at ≡ move (at - 1) + 1 = ap move (let f : at ≡ (at - 1) + 1 = omega arith in f) ∙ h.step (at - 1) 1 (omega arith) in
    record {
      above = omega arith;
      left = ap (has_sound after) (let f : move at - 1 ≡ move (at - 1) = omega arith in f) ∙ (h.behind (at - 1) (omega arith) ∙ b.left);
      right = h.behind at (omega arith) ∙ b.right;
    }

pub between-spliced : (cells after : List Cell) (from to : ℕ) (move : ℕ → ℕ) → IsSpliced cells after from to move
    → (breaks : List ℕ) → list_all (is_between_sounds cells) breaks ≡ true
    → list_all (is_between_sounds after) (filter (λ at. nat_lt at from) breaks ++ map move (filter (nat_lt to) breaks)) ≡ true
between-spliced cells after from to move h breaks e =
    list_all-edited (is_between_sounds cells) (λ at. nat_lt at from) (nat_lt to) move (is_between_sounds after)
    (λ at b l. is_between_sounds-from after at (between_before cells after from to move h at (IsBetween-from cells at b) (ltb-true at from l)))
    (λ at b l. is_between_sounds-from after (move at) (between_behind cells after from to move h at (IsBetween-from cells at b) (ltb-true to at l)))
    breaks e

pub are_apart-spliced : (cells after : List Cell) (from to : ℕ) (move : ℕ → ℕ) → IsSpliced cells after from to move
    → (choices : List Choice) → are_apart choices ≡ true
    → are_apart (filter (λ choice. nat_le (choice_end choice) from) choices ++ map (moved move) (filter (λ choice. nat_le to choice.start) choices)) ≡ true
are_apart-spliced cells after from to move h choices e =
    is_in_turn-edited (λ choice later. nat_le (choice_end choice) later.start) (λ choice. nat_le (choice_end choice) from) (λ choice. nat_le to choice.start) (moved move)
    (λ x y k l m.
    let a = leb-true to x.start k in
    let b = leb-true (choice_end x) y.start m in
    let o = move-order cells after from to move h x.start y.start a (omega arith) in
    le-leb (move x.start + phrase_len x.phrase) (move y.start) (omega arith))
    (λ x y k l.
    let a = leb-true (choice_end x) from k in
    let o = h.above y.start (leb-true to y.start l) in
    le-leb (choice_end x) (move y.start) (omega arith))
    choices e

unbroken_before : (cells after : List Cell) (from to : ℕ) (move : ℕ → ℕ) → IsSpliced cells after from to move
    → (breaks : List ℕ) (at : Interval) → is_unbroken breaks at ≡ true → interval_end at ≤ from
    → is_unbroken (filter (λ at. nat_lt at from) breaks ++ map move (filter (nat_lt to) breaks)) at ≡ true
unbroken_before cells after from to move h breaks at e l =
    list_all-edited (is_outside at.start (interval_end at)) (λ place. nat_lt place from) (nat_lt to) move (is_outside at.start (interval_end at))
    (λ place o _. o)
    (λ place o k.
    let a = h.above place (let b = ltb-true to place k in omega arith) in
    is_outside-right at.start (interval_end at) (move place) (omega arith))
    breaks e

outside_behind : (cells after : List Cell) (from to : ℕ) (move : ℕ → ℕ) → IsSpliced cells after from to move
    → (start len place : ℕ) → to ≤ start → to < place → (place ≤ start) ⊎ (start + len ≤ place) → is_outside (move start) (move start + len) (move place) ≡ true
outside_behind cells after from to move h start len place l k (inl o) =
    let e = move-order cells after from to move h place start (omega arith) o in
    is_outside-left (move start) (move start + len) (move place) (omega arith)
outside_behind cells after from to move h start len place l k (inr o) =
    let e = move-order cells after from to move h start place l (omega arith) in
    is_outside-right (move start) (move start + len) (move place) (omega arith)

unbroken_behind : (cells after : List Cell) (from to : ℕ) (move : ℕ → ℕ) → IsSpliced cells after from to move
    → (breaks : List ℕ) (start len : ℕ) → is_unbroken breaks (record { start = start; len = len }) ≡ true → to ≤ start
    → is_unbroken (filter (λ at. nat_lt at from) breaks ++ map move (filter (nat_lt to) breaks)) (record { start = move start; len = len }) ≡ true
unbroken_behind cells after from to move h breaks start len e l =
    list_all-edited (is_outside start (start + len)) (λ place. nat_lt place from) (nat_lt to) move (is_outside (move start) (move start + len))
    (λ place _ k.
    let a = h.above start l in
    let b = ltb-true place from k in
    is_outside-left (move start) (move start + len) place (omega arith))
    (λ place o k. outside_behind cells after from to move h start len place l (ltb-true to place k) (outside-from start (start + len) place o))
    breaks e

choice_before : (cells after : List Cell) (from to : ℕ) (move : ℕ → ℕ) → IsSpliced cells after from to move
    → (breaks : List ℕ) (choice : Choice) → IsChoice cells breaks choice → choice_end choice ≤ from
    → IsChoice after (filter (λ at. nat_lt at from) breaks ++ map move (filter (nat_lt to) breaks)) choice
choice_before cells after from to move h breaks choice c l = record {
  phrase = c.phrase;
  freq = c.freq;
  within = let f = h.front in omega arith;
  sounds = λ k s e. h.before k (omega arith) ∙ c.sounds k s e;
  unbroken = unbroken_before cells after from to move h breaks (interval_of choice) c.unbroken l;
}

choice_behind : (cells after : List Cell) (from to : ℕ) (move : ℕ → ℕ) → IsSpliced cells after from to move
    → (breaks : List ℕ) (choice : Choice) → IsChoice cells breaks choice → to ≤ choice.start
    → IsChoice after (filter (λ at. nat_lt at from) breaks ++ map move (filter (nat_lt to) breaks)) (moved move choice)
choice_behind cells after from to move h breaks choice c l =
    let len = phrase_len choice.phrase in
    let end : move (choice.start + len) ≡ move choice.start + len = h.step choice.start len l in
    record {
      phrase = c.phrase;
      freq = c.freq;
      within = let w = h.within (choice.start + len) (omega arith) c.within in omega arith;
      sounds = λ k s e.
          let n = k - move choice.start in
          let at : move (choice.start + n) ≡ move choice.start + n = h.step choice.start n l in
          ap (has_sound after) (let f : k ≡ move (choice.start + n) = omega arith in f)
          ∙ (h.behind (choice.start + n) (omega arith) ∙ c.sounds (choice.start + n) (omega arith) (omega arith));
      unbroken = unbroken_behind cells after from to move h breaks choice.start len c.unbroken l;
    }

pub chosen-spliced : (cells after : List Cell) (from to : ℕ) (move : ℕ → ℕ) → IsSpliced cells after from to move
    → (breaks : List ℕ) (choices : List Choice) → list_all (is_choice_of cells breaks) choices ≡ true
    → list_all (is_choice_of after (filter (λ at. nat_lt at from) breaks ++ map move (filter (nat_lt to) breaks)))
    (filter (λ choice. nat_le (choice_end choice) from) choices ++ map (moved move) (filter (λ choice. nat_le to choice.start) choices)) ≡ true
chosen-spliced cells after from to move h breaks choices e =
    let kept = filter (λ at. nat_lt at from) breaks ++ map move (filter (nat_lt to) breaks) in
    list_all-edited (is_choice_of cells breaks) (λ choice. nat_le (choice_end choice) from) (λ choice. nat_le to choice.start) (moved move) (is_choice_of after kept)
    (λ choice c l. is_choice_of-from after kept choice (choice_before cells after from to move h breaks choice (IsChoice-from cells breaks choice c) (leb-true (choice_end choice) from l)))
    (λ choice c l. is_choice_of-from after kept (moved move choice) (choice_behind cells after from to move h breaks choice (IsChoice-from cells breaks choice c) (leb-true to choice.start l)))
    choices e
