-- The pre-edit buffer: the cells that are typed and not committed yet, with what the user has said of them.
use Rattle.std.specs.Prelude.{ℕ, ◌+◌, ◌-◌, Bool, ◌&&◌, List, [], length, take, drop, nat_lt, nat_le}
use Rattle.std.specs.List.{list_all}
use Rattle.chew_spec_syllable.specs.Phrase.{is_phrase}
use Rattle.chew_spec_syllable.specs.Row.{greatest_freq}
use Rattle.chew_spec_phrasing.specs.CanSegment.{interval_of}
use Rattle.chew_spec_phrasing.specs.Usable.{Choice, choice_end, is_unbroken, phrase_len}
use Rattle.chew_spec_preedit.specs.Cell.{Cell, is_between_sounds, is_cell, is_sound}
use Rattle.chew_spec_preedit.specs.InTurn.{is_in_turn}

-- at most limit cells; the cursor, a place from 0 to their number; the places at which no piece may reach across; and
-- the phrases that the user chose for some cells. Breaks and choices stand in the order of their places.
pub record Buffer : Type 0 where
  pub limit : ℕ
  pub cells : List Cell
  pub cursor : ℕ
  pub breaks : List ℕ
  pub choices : List Choice

-- the most cells of any buffer
abbrev pub cells_limit : ℕ
cells_limit = 39

-- a buffer of at most so many cells, with nothing in it
abbrev pub empty_buffer : ℕ → Buffer
empty_buffer limit = record { limit = limit; cells = []; cursor = 0; breaks = []; choices = [] }

-- each place is below those that follow it
abbrev pub is_rising : List ℕ → Bool
is_rising places = is_in_turn nat_lt places

-- each choice ends before those that follow it begin
abbrev pub are_apart : List Choice → Bool
are_apart choices = is_in_turn (λ choice later. nat_le (choice_end choice) later.start) choices

-- all cells of the choice are syllables of the buffer, so that they lie in one run, and no break is strictly inside
abbrev pub is_choosable : List Cell → List ℕ → Choice → Bool
is_choosable cells breaks choice =
    nat_le (choice_end choice) (length cells)
    && (list_all is_sound (take (phrase_len choice.phrase) (drop choice.start cells)) && is_unbroken breaks (interval_of choice))

-- a choice of these cells
abbrev pub is_choice_of : List Cell → List ℕ → Choice → Bool
is_choice_of cells breaks choice = is_phrase choice.phrase && (nat_le choice.freq greatest_freq && is_choosable cells breaks choice)

-- the choice so many cells further on, or further back
abbrev pub choice_on : ℕ → Choice → Choice
choice_on cells choice = record choice { start = choice.start + cells }

abbrev pub choice_back : ℕ → Choice → Choice
choice_back cells choice = record choice { start = choice.start - cells }

-- the cells are few enough, and the cursor stands among them
abbrev pub has_room : Buffer → Bool
has_room buffer =
    nat_le 1 buffer.limit && (nat_le buffer.limit cells_limit && (nat_le (length buffer.cells) buffer.limit && nat_le buffer.cursor (length buffer.cells)))

-- what every buffer keeps
unfoldable pub is_buffer : Buffer → Bool
is_buffer buffer =
    has_room buffer && (list_all is_cell buffer.cells
    && (is_rising buffer.breaks && (list_all (is_between_sounds buffer.cells) buffer.breaks
    && (are_apart buffer.choices && list_all (is_choice_of buffer.cells buffer.breaks) buffer.choices))))
