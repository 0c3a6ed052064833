-- The output of a run.
use Rattle.std.specs.Prelude.{ℕ, suc, Bool, List, [], ◌∷◌, ◌++◌, flat_map, codes, decimal, if◌then◌else◌}
use Rattle.chew_spec_dictionary.specs.History.{Entry}
use Rattle.chew_spec_text.specs.Entry.{entry_text}
use Rattle.chew_spec_text.specs.Line.{with_line_feed}
use Rattle.chew_spec_rounds.specs.Round.{Round, Saved, DiskFault, NoMemory, SeqSpent}

-- the line before a context's lines
abbrev pub header : ℕ → List ℕ
header number = codes "context " ++ with_line_feed (decimal number)

-- the lines of each context behind its header, numbered from this one
abbrev pub contexts_from : ℕ → List (List ℕ) → List ℕ
contexts_from number [] = []
contexts_from number (lines ∷ rest) = header number ++ (lines ++ contexts_from (suc number) rest)

-- what a round answered
abbrev pub answer_words : Round → List ℕ
answer_words (Saved number) = codes "saved " ++ decimal number
answer_words (DiskFault step) = codes "disk fault " ++ decimal step
answer_words NoMemory = codes "no memory"
answer_words (SeqSpent seq) = codes "seq spent"

-- the line of a round
abbrev pub round_line : ℕ → Round → List ℕ
round_line number round = codes "round " ++ (decimal number ++ (32 ∷ with_line_feed (answer_words round)))

-- a line for each round, numbered from this one
abbrev pub rounds_from : ℕ → List Round → List ℕ
rounds_from number [] = []
rounds_from number (round ∷ rest) = round_line number round ++ rounds_from (suc number) rest

-- the entries that are printed: those of the history where the trace is asked for, else none
abbrev pub traced : (trace : Bool) → List Entry → List Entry
traced trace journal = if trace then journal else []

-- the output of a run: the contexts' lines, the rounds, and a line for each of these entries
abbrev pub output : (contexts : List (List ℕ)) → List Round → List Entry → List ℕ
output contexts rounds entries = contexts_from 1 contexts ++ (rounds_from 1 rounds ++ flat_map entry_text entries)
