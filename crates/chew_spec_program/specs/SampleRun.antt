-- What laws speak of: a run over the five rows.
use Rattle.std.specs.Prelude.{ℕ, List, [], ◌∷◌, ◌++◌, Some, codes, flat_map, map, true}
use Rattle.chew_spec_dictionary.specs.Call.{Freeze, Install}
use Rattle.chew_spec_dictionary.specs.FiveRows.{ce4, shi4}
use Rattle.chew_spec_dictionary.specs.History.{Entry}
use Rattle.chew_spec_text.specs.KeyStroke.{KeyStroke, Char, Enter}
use Rattle.chew_spec_text.specs.Line.{with_line_feed}
use Rattle.chew_spec_text.specs.Sample.{bytes_of, five_lines}
use Rattle.chew_spec_slots.specs.Sample.{one_row_plain_slot}
use Rattle.chew_spec_rounds.specs.Known.{by_keeper, disk_with}
use Rattle.chew_spec_rounds.specs.Round.{Round, Saved}
use Rattle.chew_spec_program.specs.Opening.{Inputs}
use Rattle.chew_spec_program.specs.Reading.{watched}
use Rattle.chew_spec_program.specs.Run.{Ended, Outside}
use Rattle.chew_spec_program.specs.Sample.{five_basis, learn_by, look_by}
use Rattle.chew_spec_program.specs.Slots.{Kept, kept}
use Rattle.chew_spec_program.specs.Writing.{sunk}

-- the texts of its inputs
abbrev pub five_text : List ℕ
five_text = flat_map with_line_feed five_lines

abbrev pub keys_text : List ℕ
keys_text = with_line_feed (codes "1:hk4g4<E>")

-- its keys, and its inputs
abbrev pub five_keys : List KeyStroke
five_keys = map Char (codes "hk4g4") ++ Enter ∷ []

abbrev pub five_inputs : Inputs
five_inputs = record { basis = five_basis; script = record { contexts = five_keys ∷ []; rounds = 0 }; seq = 0 }

-- its look-ups; and the calls of its context: Enter learns what it commits
abbrev pub five_looks : List Entry
five_looks = look_by 1 (ce4 ∷ []) ∷ (look_by 1 (ce4 ∷ (shi4 ∷ [])) ∷ [])

abbrev pub five_calls : List Entry
five_calls = five_looks ++ learn_by 1 (ce4 ∷ (shi4 ∷ [])) (bytes_of "測試") 9318 9318 ∷ []

-- all its calls: a last round saves what was learnt
abbrev pub five_journal : List Entry
five_journal = five_calls ++ (by_keeper Freeze ∷ (by_keeper (Install 3) ∷ []))

abbrev pub five_rounds : List Round
five_rounds = Saved 3 ∷ []

-- its context's output without the line of Enter, and with it
abbrev pub before_enter : List ℕ
before_enter = bytes_of "context 1\n\t0\tㄘ\t\t\t\n\t0\tㄘㄜ\t\t\t\n策\t2\t\t\t\t\n策\t2\tㄕ\t\t\t\n測試\t4\t\t\t\t\n"

abbrev pub without_round : List ℕ
without_round = bytes_of "context 1\n\t0\tㄘ\t\t\t\n\t0\tㄘㄜ\t\t\t\n策\t2\t\t\t\t\n策\t2\tㄕ\t\t\t\n測試\t4\t\t\t\t\n\t0\t\t測試\t\t\n"

-- its output, and what follows where the trace is asked for
abbrev pub round_text : List ℕ
round_text = bytes_of "round 1 saved 3\n"

abbrev pub five_output : List ℕ
five_output = without_round ++ round_text

abbrev pub five_trace : List ℕ
five_trace = bytes_of "1 look 10268\n1 look 10268,8708\n1 learn 10268,8708 測試 9318 9318\n0 freeze\n0 install 3\n"

-- a disk whose slots are empty at first, and whose slot 0 has 測試 then
abbrev pub five_disk : Kept
five_disk = kept true (disk_with ([] ∷ (one_row_plain_slot ∷ [])) 0) (disk_with ([] ∷ (one_row_plain_slot ∷ [])) 1) 0 0

-- the system and the script were read out, no settings were read, and the sink took this
abbrev pub five_outside : List ℕ → Outside
five_outside taken = record {
  settings = watched (Some []) (Some []) 0 0;
  system = watched (Some five_text) (Some []) 0 0;
  script = watched (Some keys_text) (Some []) 0 0;
  sink = sunk (Some []) (Some taken) 0 0;
  disk = five_disk;
}

-- all six keys were handled, with these calls and rounds
abbrev pub five_ended : List Entry → List Round → Ended
five_ended journal rounds = record { status = 0; journal = journal; handled = 6 ∷ []; rounds = rounds; last_from = 0 }

-- the same with another status
abbrev pub with_status : ℕ → Ended → Ended
with_status status ended = record ended { status = status }
