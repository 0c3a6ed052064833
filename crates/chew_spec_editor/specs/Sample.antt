-- Known runs of an editor alone, over the five rows and an empty dictionary.
use Rattle.std.specs.Prelude.{ℕ, ◌-◌, List, [], ◌∷◌, length, drop, map, unwrap_or, true, false}
use Rattle.std.specs.List.{range_with_len}
use Rattle.chew_spec_dictionary.specs.FiveRows.{ce4, five_rows, shi4}
use Rattle.chew_spec_dictionary.specs.History.{Point, start_of}
use Rattle.chew_spec_phrasing.specs.Usable.{Piece}
use Rattle.chew_spec_preedit.specs.Cell.{Cell, Sound}
use Rattle.chew_spec_text.specs.KeyStroke.{KeyStroke, keys_in}
use Rattle.chew_spec_text.specs.Line.{line_text}
use Rattle.chew_spec_text.specs.Sample.{bytes_of}
use Rattle.chew_spec_editor.specs.Alone.{Alone, alone}
use Rattle.chew_spec_editor.specs.Editor.{empty_editor}
use Rattle.chew_spec_editor.specs.Settings.{Settings, standard_settings}

-- the keys as a script writes them
abbrev pub typed : List ℕ → List KeyStroke
typed text = unwrap_or (keys_in text) []

-- a dictionary without a pair
abbrev pub nothing_learnt : Settings → Point
nothing_learnt settings = start_of (record { pairs = []; life = 0; cap = settings.cap })

-- these keys, typed in an empty editor
abbrev pub after_typing : Settings → List ℕ → Alone
after_typing settings text = alone five_rows (empty_editor settings) (nothing_learnt settings) (typed text)

-- the last n of some lines
abbrev pub last_of : {X : Type 0} → ℕ → List X → List X
last_of n xs = drop (length xs - n) xs

-- the last n lines of these keys, as they are printed
abbrev pub last_lines : ℕ → Settings → List ℕ → List (List ℕ)
last_lines n settings text = map line_text (last_of n (after_typing settings text).lines)

-- the standard settings but for so many cells, candidates on a page, or pairs
abbrev pub with_cells : ℕ → Settings
with_cells cells = record standard_settings { buffer = cells }

abbrev pub with_page : ℕ → Settings
with_page candidates = record standard_settings { page = candidates }

abbrev pub with_cap : ℕ → Settings
with_cap cap = record standard_settings { cap = cap }

abbrev pub without_learning : Settings
without_learning = record standard_settings { learn = false }

abbrev pub with_escape : Settings
with_escape = record standard_settings { escape_clears = true }

-- a dictionary in which 策試 was learnt once
abbrev pub one_learnt : Point
one_learnt = start_of (record {
  pairs = record { key = ce4 ∷ shi4 ∷ []; phrase = bytes_of "策試"; freq = 1; time = 0 } ∷ [];
  life = 1;
  cap = standard_settings.cap;
})

-- an editor over it, after these keys
abbrev pub after_one : List ℕ → Alone
after_one text = alone five_rows (empty_editor standard_settings) one_learnt (typed text)

-- the last n lines of these keys over it
abbrev pub lines_then : ℕ → List ℕ → List (List ℕ)
lines_then n text = map line_text (last_of n (after_one text).lines)

-- the lines of more keys, typed once the pair was forgotten by somebody else
abbrev pub after_forgetting : List ℕ → List ℕ → List (List ℕ)
after_forgetting text more =
    map line_text (alone five_rows (after_one text).editor (nothing_learnt standard_settings) (typed more)).lines

-- so many pieces of 策, one behind the other, and the cells below them
abbrev pub plans : ℕ → List Piece
plans n = map (λ start. record { start = start; phrase = bytes_of "策"; freq = 200 }) (range_with_len 0 n)

abbrev pub plans_cells : ℕ → List Cell
plans_cells n = map (λ start. Sound ce4) (range_with_len 0 n)
