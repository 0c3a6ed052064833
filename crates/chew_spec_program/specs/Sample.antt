-- What laws speak of: a run over the five rows, and two contexts whose calls stand among each other.
use Rattle.std.specs.Prelude.{ℕ, List, [], ◌∷◌, ◌++◌, codes, map}
use Rattle.chew_spec_syllable.specs.Row.{image_cmp}
use Rattle.chew_spec_dictionary.specs.Call.{Learn, Look}
use Rattle.chew_spec_dictionary.specs.FiveRows.{ce4, five_rows, shi4}
use Rattle.chew_spec_dictionary.specs.History.{Entry}
use Rattle.chew_spec_dictionary.specs.Order.{in_order}
use Rattle.chew_spec_text.specs.KeyStroke.{KeyStroke, Char, Home, Down}
use Rattle.chew_spec_text.specs.Line.{Line, Quiet}
use Rattle.chew_spec_text.specs.Sample.{bytes_of}
use Rattle.chew_spec_editor.specs.Settings.{standard_settings}
use Rattle.chew_spec_session.specs.Context.{Basis}
use Rattle.chew_spec_slots.specs.Slot.{no_checkpoint}
use Rattle.chew_spec_program.specs.Opening.{start_from}
use Rattle.chew_spec_program.specs.Slots.{Slots}

-- the words of a run
abbrev pub run_words : List (List ℕ)
run_words = codes "run" ∷ (codes "s" ∷ (codes "k" ∷ (codes "f" ∷ [])))

-- and those of a run that names settings
abbrev pub words_with_settings : List (List ℕ)
words_with_settings = run_words ++ codes "t" ∷ []

-- and those of one that asks for the trace
abbrev pub words_with_trace : List (List ℕ)
words_with_trace = run_words ++ codes "--trace" ∷ []

-- two slots of which nothing was ever written
abbrev pub empty_slots : Slots
empty_slots = record { zero = []; one = [] }

-- what a run over the five rows stands on, where nothing was ever learnt
abbrev pub five_basis : Basis
five_basis = record { system = in_order image_cmp five_rows; settings = standard_settings; start = start_from standard_settings no_checkpoint }

-- a quiet line with this pre-edit text, column, and text that the layout holds
abbrev pub plain_line : List ℕ → ℕ → List ℕ → Line
plain_line preedit column held = record { preedit = preedit; column = column; held = held; commit = []; window = []; note = Quiet }

-- the keys of a context, and their lines: one syllable, and another behind it
abbrev pub first_keys : List KeyStroke
first_keys = map Char (codes "hk4g4")

abbrev pub first_lines : List Line
first_lines = plain_line [] 0 (bytes_of "ㄘ") ∷ (plain_line [] 0 (bytes_of "ㄘㄜ") ∷ (plain_line (bytes_of "策") 2 []
    ∷ (plain_line (bytes_of "策") 2 (bytes_of "ㄕ") ∷ (plain_line (bytes_of "測試") 4 [] ∷ []))))

-- of another
abbrev pub second_keys : List KeyStroke
second_keys = map Char (codes "g4")

abbrev pub second_lines : List Line
second_lines = plain_line [] 0 (bytes_of "ㄕ") ∷ (plain_line (bytes_of "是") 2 [] ∷ [])

-- a look-up by a number
abbrev pub look_by : ℕ → List ℕ → Entry
look_by who run = record { who = who; call = Look run }

-- a learn by a number, with the system's frequency of the pair and its greatest for the key
abbrev pub learn_by : ℕ → List ℕ → List ℕ → ℕ → ℕ → Entry
learn_by who key phrase orig peak = record { who = who; call = Learn key phrase orig peak }

-- the second context's look-up stands between those of the first
abbrev pub both_journal : List Entry
both_journal = look_by 1 (ce4 ∷ []) ∷ (look_by 2 (shi4 ∷ []) ∷ (look_by 1 (ce4 ∷ (shi4 ∷ [])) ∷ []))

-- the look-ups of the first in the other order
abbrev pub swapped_journal : List Entry
swapped_journal = look_by 1 (ce4 ∷ (shi4 ∷ [])) ∷ (look_by 2 (shi4 ∷ []) ∷ (look_by 1 (ce4 ∷ []) ∷ []))

-- the second of them left out, and one more
abbrev pub short_journal : List Entry
short_journal = look_by 1 (ce4 ∷ []) ∷ (look_by 2 (shi4 ∷ []) ∷ [])

abbrev pub long_journal : List Entry
long_journal = both_journal ++ look_by 1 (ce4 ∷ (shi4 ∷ [])) ∷ []

-- keys that open the candidates of two syllables, and their lines where somebody learnt 策是 before
abbrev pub opening_keys : List KeyStroke
opening_keys = first_keys ++ (Home ∷ (Down ∷ []))

abbrev pub opening_lines : List Line
opening_lines = first_lines ++ (plain_line (bytes_of "測試") 0 [] ∷ (record (plain_line (bytes_of "測試") 0 []) { window = bytes_of "1/1 1測試 2策是" } ∷ []))

-- their look-ups, and what the second context learnt before them
abbrev pub opening_journal : List Entry
opening_journal = look_by 1 (ce4 ∷ []) ∷ (look_by 1 (ce4 ∷ (shi4 ∷ [])) ∷ (look_by 1 (ce4 ∷ (shi4 ∷ [])) ∷ []))

abbrev pub taught_journal : List Entry
taught_journal = learn_by 2 (ce4 ∷ (shi4 ∷ [])) (bytes_of "策是") 0 9318 ∷ opening_journal
