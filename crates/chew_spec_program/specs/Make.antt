-- What `make` does: one editor types the script that is generated for a number, and what came of it is counted.
use Rattle.std.specs.Prelude.{◌≡◌, ◌⊎◌, ℕ, ◌*◌, Bool, not, List, [], ◌∷◌, ◌++◌, codes, count_by, decimal, length, map, ◌==◌, Result, Ok, Err}
use Rattle.chew_spec_syllable.specs.Row.{image_cmp}
use Rattle.chew_spec_dictionary.specs.Call.{Call}
use Rattle.chew_spec_dictionary.specs.FiveRows.{five_rows}
use Rattle.chew_spec_dictionary.specs.History.{Entry, start_of}
use Rattle.chew_spec_dictionary.specs.Order.{in_order}
use Rattle.chew_spec_text.specs.KeyStroke.{KeyStroke}
use Rattle.chew_spec_text.specs.Line.{Line, with_line_feed}
use Rattle.chew_spec_editor.specs.Alone.{Alone, alone}
use Rattle.chew_spec_editor.specs.Editor.{empty_editor}
use Rattle.chew_spec_editor.specs.Settings.{standard_settings}
use Rattle.chew_spec_generator.specs.Generator.{generated_keys, line_count, line_steps}
use Rattle.chew_spec_program.specs.Answer.{Tells}
use Rattle.chew_spec_session.specs.Context.{Basis}
use Rattle.chew_spec_program.specs.Refusal.{Refusal, NoMemory}
use Rattle.chew_spec_program.specs.Writing.{Sunk}

-- it types with the standard settings, over the five rows and a dictionary without a pair
abbrev pub make_basis : Basis
make_basis = record {
  system = in_order image_cmp five_rows;
  settings = standard_settings;
  start = start_of (record { pairs = []; life = 0; cap = standard_settings.cap });
}

-- an editor alone that typed these keys
abbrev pub typed_over : Basis → List KeyStroke → Alone
typed_over basis keys = alone basis.system (empty_editor basis.settings) basis.start keys

-- the history of calls that it makes alone, as number 1
abbrev pub alone_by : List Call → List Entry
alone_by calls = map (λ call. record { who = 1; call = call }) calls

-- the line committed something
abbrev pub has_commit : Line → Bool
has_commit line = not (length line.commit == 0)

-- a line that tells a number
abbrev pub number_line : List ℕ → ℕ → List ℕ
number_line word number = word ++ (32 ∷ with_line_feed (decimal number))

-- what came of a script: its steps and keys, the lines that committed something, the entries of the dictionary's history,
-- and its life and pairs then
pub record Summary : Type 0 where
  pub steps : ℕ
  pub keys : ℕ
  pub commits : ℕ
  pub entries : ℕ
  pub life : ℕ
  pub pairs : ℕ

-- of an editor alone that typed so many steps in so many keys
abbrev pub summary_of : (steps keys : ℕ) → Alone → Summary
summary_of steps keys typed = record {
  steps = steps;
  keys = keys;
  commits = count_by has_commit typed.lines;
  entries = length typed.calls;
  life = typed.point.dictionary.life;
  pairs = length typed.point.dictionary.pairs;
}

-- its six lines
abbrev pub summary_text : Summary → List ℕ
summary_text summary =
    number_line (codes "steps") summary.steps ++ (number_line (codes "keys") summary.keys
    ++ (number_line (codes "commits") summary.commits ++ (number_line (codes "entries") summary.entries
    ++ (number_line (codes "life") summary.life ++ number_line (codes "pairs") summary.pairs))))

-- the summary of a number's script
unfoldable pub made_of : ℕ → List ℕ
made_of number =
    summary_text (summary_of (line_count * line_steps) (length (generated_keys number)) (typed_over make_basis (generated_keys number)))

-- a call of `make`: the summary is told, or that memory was wanting
pub record IsMake (number : ℕ) (sink : Sunk) (status : ℕ) : Type 0 where
  pub given : Result (List ℕ) Refusal
  pub made : (given ≡ Ok (made_of number)) ⊎ (given ≡ Err NoMemory)
  pub tells : Tells given sink status
