-- Breaks, choices and moves leave a buffer.
use Rattle.std.proofs.Common.{◌≡◌, ℕ, ◌+◌, ◌<◌, ◌≤◌, Bool, true, false, not, ◌&&◌, List, [], ◌∷◌, ◌++◌, length, filter, refl, arith}
use Rattle.std.specs.Prelude.{◌==◌, nat_le, nat_lt}
use Rattle.std.specs.List.{list_all}
use Rattle.std.proofs.lemmas.Bool.{cond_both, le-leb, leb-true, lt-ltb, ltb-true}
use Rattle.chew_spec_phrasing.specs.Usable.{Choice, choice_end}
use Rattle.chew_spec_preedit.specs.Buffer.{Buffer, empty_buffer, is_buffer, is_choice_of}
use Rattle.chew_spec_preedit.specs.Cell.{Cell, is_between_sounds}
use Rattle.chew_spec_preedit.specs.Edit.{break_toggled, broken, can_break, chosen, emptied, has_break, has_inside, mended, moved_to}
use Rattle.chew_spec_preedit.proofs.IsBuffer.{IsBuffer, IsBuffer-from, IsChoice-from, is_buffer-from, is_choice_of-from}
use Rattle.chew_spec_preedit.proofs.Kept.{is_in_turn-around, is_in_turn-filter, list_all-around, list_all-filter, list_all-weaker}
use Rattle.chew_spec_preedit.proofs.Spliced.{is_outside}

pub is_buffer-empty : (limit : ℕ) → 1 ≤ limit → limit ≤ 39 → is_buffer (empty_buffer limit) ≡ true
is_buffer-empty limit l m = is_buffer-from (empty_buffer limit) (record {
  some = l;
  most = m;
  few = omega arith;
  stands = omega arith;
  cells = refl;
  rising = refl;
  between = refl;
  apart = refl;
  chosen = refl;
})

pub is_buffer-emptied : (had : Buffer) → is_buffer had ≡ true → is_buffer (emptied had) ≡ true
is_buffer-emptied had e =
    let h = IsBuffer-from had e in
    is_buffer-empty had.limit h.some h.most

pub is_buffer-moved_to : (had : Buffer) (place : ℕ) → is_buffer had ≡ true → place ≤ length had.cells → is_buffer (moved_to place had) ≡ true
is_buffer-moved_to had place e l =
    let h = IsBuffer-from had e in
    is_buffer-from (moved_to place had) (record {
      some = h.some;
      most = h.most;
      few = h.few;
      stands = l;
      cells = h.cells;
      rising = h.rising;
      between = h.between;
      apart = h.apart;
      chosen = h.chosen;
    })

pub is_buffer-mended : (had : Buffer) → is_buffer had ≡ true → is_buffer (mended had) ≡ true
is_buffer-mended had e =
    let h = IsBuffer-from had e in
    let keep = λ (at : ℕ). not (at == had.cursor) in
    is_buffer-from (mended had) (record {
      some = h.some;
      most = h.most;
      few = h.few;
      stands = h.stands;
      cells = h.cells;
      rising = is_in_turn-filter nat_lt keep had.breaks h.rising;
      between = list_all-filter (is_between_sounds had.cells) keep (is_between_sounds had.cells) (λ at b _. b) had.breaks h.between;
      apart = h.apart;
      chosen = list_all-weaker (is_choice_of had.cells had.breaks) (is_choice_of had.cells (filter keep had.breaks))
          (λ choice c. mended_choice keep choice c) had.choices h.chosen;
    })
  where
    mended_choice : (keep : ℕ → Bool) (choice : Choice) → is_choice_of had.cells had.breaks choice ≡ true → is_choice_of had.cells (filter keep had.breaks) choice ≡ true
    mended_choice keep choice c =
        let i = IsChoice-from had.cells had.breaks choice c in
        is_choice_of-from had.cells (filter keep had.breaks) choice (record {
          phrase = i.phrase;
          freq = i.freq;
          within = i.within;
          sounds = i.sounds;
          unbroken = list_all-filter (is_outside choice.start (choice_end choice)) keep (is_outside choice.start (choice_end choice)) (λ place o _. o) had.breaks i.unbroken;
        })

pub is_buffer-broken : (had : Buffer) → is_buffer had ≡ true → can_break had ≡ true → is_buffer (broken had) ≡ true
is_buffer-broken had e can =
    let h = IsBuffer-from had e in
    let c = had.cursor in
    let before = λ (at : ℕ). nat_lt at c in
    let behind = nat_lt c in
    let breaks = filter before had.breaks ++ (c ∷ filter behind had.breaks) in
    let keep = λ (choice : Choice). not (has_inside c choice) in
    is_buffer-from (broken had) (record {
      some = h.some;
      most = h.most;
      few = h.few;
      stands = h.stands;
      cells = h.cells;
      rising = is_in_turn-around nat_lt before behind c (λ x l. l) (λ x l. l)
          (λ x y l m. lt-ltb x y (let a = ltb-true x c l in let b = ltb-true c y m in omega arith)) had.breaks h.rising;
      between = list_all-around (is_between_sounds had.cells) before behind (is_between_sounds had.cells) c (λ at b _. b) (λ at b _. b) can had.breaks h.between;
      apart = is_in_turn-filter (λ choice later. nat_le (choice_end choice) later.start) keep had.choices h.apart;
      chosen = list_all-filter (is_choice_of had.cells had.breaks) keep (is_choice_of had.cells breaks)
          (λ choice b k. broken_choice choice b k) had.choices h.chosen;
    })
  where
    broken_choice : (choice : Choice) → is_choice_of had.cells had.breaks choice ≡ true → not (has_inside had.cursor choice) ≡ true
        → is_choice_of had.cells (filter (λ at. nat_lt at had.cursor) had.breaks ++ (had.cursor ∷ filter (nat_lt had.cursor) had.breaks)) choice ≡ true
    broken_choice choice b k =
        let i = IsChoice-from had.cells had.breaks choice b in
        let out = is_outside choice.start (choice_end choice) in
        is_choice_of-from had.cells (filter (λ at. nat_lt at had.cursor) had.breaks ++ (had.cursor ∷ filter (nat_lt had.cursor) had.breaks)) choice (record {
          phrase = i.phrase;
          freq = i.freq;
          within = i.within;
          sounds = i.sounds;
          unbroken = list_all-around out (λ at. nat_lt at had.cursor) (nat_lt had.cursor) out had.cursor (λ place o _. o) (λ place o _. o) k had.breaks i.unbroken;
        })

pub is_buffer-break_toggled : (had : Buffer) → is_buffer had ≡ true → can_break had ≡ true → is_buffer (break_toggled had) ≡ true
unfolding break_toggled
is_buffer-break_toggled had e can =
    cond_both (has_break had.breaks had.cursor) (mended had) (broken had) (λ b. is_buffer b ≡ true) (λ _. is_buffer-mended had e) (λ _. is_buffer-broken had e can)

pub is_buffer-chosen : (had : Buffer) (choice : Choice) → is_buffer had ≡ true → is_choice_of had.cells had.breaks choice ≡ true → is_buffer (chosen choice had) ≡ true
unfolding chosen
is_buffer-chosen had choice e own =
    let h = IsBuffer-from had e in
    let before = λ (other : Choice). nat_le (choice_end other) choice.start in
    let behind = λ (other : Choice). nat_le (choice_end choice) other.start in
    is_buffer-from (chosen choice had) (record {
      some = h.some;
      most = h.most;
      few = h.few;
      stands = h.stands;
      cells = h.cells;
      rising = h.rising;
      between = h.between;
      apart = is_in_turn-around (λ other later. nat_le (choice_end other) later.start) before behind choice (λ x l. l) (λ x l. l)
          (λ x y l m. le-leb (choice_end x) y.start (let a = leb-true (choice_end x) choice.start l in let b = leb-true (choice_end choice) y.start m in omega arith)) had.choices h.apart;
      chosen = list_all-around (is_choice_of had.cells had.breaks) before behind (is_choice_of had.cells had.breaks) choice (λ x q _. q) (λ x q _. q) own had.choices h.chosen;
    })
