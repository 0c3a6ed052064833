-- What every buffer keeps, part by part.
use Rattle.std.proofs.Common.{◌≡◌, ℕ, ◌+◌, ◌-◌, ◌<◌, ◌≤◌, Bool, true, ◌&&◌, List, length, take, drop, refl, arith}
use Rattle.std.specs.Prelude.{nat_lt, nat_le}
use Rattle.std.specs.List.{list_all}
use Rattle.std.proofs.lemmas.Bool.{and_from, and_parts, leb-true, le-leb, ltb-true, lt-ltb}
use Rattle.chew_spec_syllable.specs.Phrase.{is_phrase}
use Rattle.chew_spec_syllable.specs.Row.{greatest_freq}
use Rattle.chew_spec_phrasing.specs.CanSegment.{interval_of}
use Rattle.chew_spec_phrasing.specs.Usable.{Choice, choice_end, is_unbroken, phrase_len}
use Rattle.chew_spec_preedit.specs.Buffer.{Buffer, are_apart, cells_limit, has_room, is_buffer, is_choice_of, is_choosable, is_rising}
use Rattle.chew_spec_preedit.specs.Cell.{Cell, has_sound, is_between_sounds, is_cell, is_sound}
use Rattle.chew_spec_preedit.proofs.Places.{sounds-at, sounds-from}

pub record IsBuffer (buffer : Buffer) : Type 0 where
  pub some : 1 ≤ buffer.limit
  pub most : buffer.limit ≤ 39
  pub few : length buffer.cells ≤ buffer.limit
  pub stands : buffer.cursor ≤ length buffer.cells
  pub cells : list_all is_cell buffer.cells ≡ true
  pub rising : is_rising buffer.breaks ≡ true
  pub between : list_all (is_between_sounds buffer.cells) buffer.breaks ≡ true
  pub apart : are_apart buffer.choices ≡ true
  pub chosen : list_all (is_choice_of buffer.cells buffer.breaks) buffer.choices ≡ true

pub IsBuffer-from : (buffer : Buffer) → is_buffer buffer ≡ true → IsBuffer buffer
unfolding is_buffer
IsBuffer-from buffer e =
    let room = and_parts (has_room buffer) _ e in
    let limit = and_parts (nat_le 1 buffer.limit) _ room.0 in
    let most = and_parts (nat_le buffer.limit cells_limit) _ limit.1 in
    let few = and_parts (nat_le (length buffer.cells) buffer.limit) (nat_le buffer.cursor (length buffer.cells)) most.1 in
    let cells = and_parts (list_all is_cell buffer.cells) _ room.1 in
    let rising = and_parts (is_rising buffer.breaks) _ cells.1 in
    let between = and_parts (list_all (is_between_sounds buffer.cells) buffer.breaks) _ rising.1 in
    let apart = and_parts (are_apart buffer.choices) (list_all (is_choice_of buffer.cells buffer.breaks) buffer.choices) between.1 in
    record {
      some = leb-true 1 buffer.limit limit.0;
      most = leb-true buffer.limit cells_limit most.0;
      few = leb-true (length buffer.cells) buffer.limit few.0;
      stands = leb-true buffer.cursor (length buffer.cells) few.1;
      cells = cells.0;
      rising = rising.0;
      between = between.0;
      apart = apart.0;
      chosen = apart.1;
    }

pub is_buffer-from : (buffer : Buffer) → IsBuffer buffer → is_buffer buffer ≡ true
unfolding is_buffer
is_buffer-from buffer h =
    and_from (has_room buffer) _
    (and_from (nat_le 1 buffer.limit) _ (le-leb 1 buffer.limit h.some)
    (and_from (nat_le buffer.limit cells_limit) _ (le-leb buffer.limit cells_limit h.most)
    (and_from (nat_le (length buffer.cells) buffer.limit) _ (le-leb (length buffer.cells) buffer.limit h.few)
    (le-leb buffer.cursor (length buffer.cells) h.stands))))
    (and_from (list_all is_cell buffer.cells) _ h.cells
    (and_from (is_rising buffer.breaks) _ h.rising
    (and_from (list_all (is_between_sounds buffer.cells) buffer.breaks) _ h.between
    (and_from (are_apart buffer.choices) _ h.apart h.chosen))))

-- there are syllables on both sides of a place
pub record IsBetween (cells : List Cell) (place : ℕ) : Type 0 where
  pub above : 0 < place
  pub left : has_sound cells (place - 1) ≡ true
  pub right : has_sound cells place ≡ true

pub IsBetween-from : (cells : List Cell) (place : ℕ) → is_between_sounds cells place ≡ true → IsBetween cells place
IsBetween-from cells place e =
    let above = and_parts (nat_lt 0 place) _ e in
    let sides = and_parts (has_sound cells (place - 1)) (has_sound cells place) above.1 in
    record { above = ltb-true 0 place above.0; left = sides.0; right = sides.1 }

pub is_between_sounds-from : (cells : List Cell) (place : ℕ) → IsBetween cells place → is_between_sounds cells place ≡ true
is_between_sounds-from cells place h =
    and_from (nat_lt 0 place) _ (lt-ltb 0 place h.above) (and_from (has_sound cells (place - 1)) (has_sound cells place) h.left h.right)

-- what a choice of some cells keeps
pub record IsChoice (cells : List Cell) (breaks : List ℕ) (choice : Choice) : Type 0 where
  pub phrase : is_phrase choice.phrase ≡ true
  pub freq : nat_le choice.freq greatest_freq ≡ true
  pub within : choice_end choice ≤ length cells
  pub sounds : (k : ℕ) → choice.start ≤ k → k < choice_end choice → has_sound cells k ≡ true
  pub unbroken : is_unbroken breaks (interval_of choice) ≡ true

pub IsChoice-from : (cells : List Cell) (breaks : List ℕ) (choice : Choice) → is_choice_of cells breaks choice ≡ true → IsChoice cells breaks choice
IsChoice-from cells breaks choice e =
    let phrase = and_parts (is_phrase choice.phrase) _ e in
    let freq = and_parts (nat_le choice.freq greatest_freq) (is_choosable cells breaks choice) phrase.1 in
    let within = and_parts (nat_le (choice_end choice) (length cells)) _ freq.1 in
    let sounds = and_parts (list_all is_sound (take (phrase_len choice.phrase) (drop choice.start cells))) (is_unbroken breaks (interval_of choice)) within.1 in
    let end = leb-true (choice_end choice) (length cells) within.0 in
    record {
      phrase = phrase.0;
      freq = freq.0;
      within = end;
      sounds = λ k l m. sounds-at cells choice.start (phrase_len choice.phrase) k end sounds.0 l m;
      unbroken = sounds.1;
    }

pub is_choice_of-from : (cells : List Cell) (breaks : List ℕ) (choice : Choice) → IsChoice cells breaks choice → is_choice_of cells breaks choice ≡ true
is_choice_of-from cells breaks choice h =
    and_from (is_phrase choice.phrase) _ h.phrase
    (and_from (nat_le choice.freq greatest_freq) _ h.freq
    (and_from (nat_le (choice_end choice) (length cells)) _ (le-leb (choice_end choice) (length cells) h.within)
    (and_from (list_all is_sound (take (phrase_len choice.phrase) (drop choice.start cells))) _
    (sounds-from cells choice.start (phrase_len choice.phrase) h.sounds) h.unbroken)))
