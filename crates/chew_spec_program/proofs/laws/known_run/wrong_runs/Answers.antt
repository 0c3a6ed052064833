-- By computing the inputs, the talk and the output.
use Rattle.std.specs.Char.{encode_utf8}
use Rattle.std.specs.Str.{is_utf8}
use Rattle.chew_spec_syllable.specs.Phrase.{is_phrase}
use Rattle.chew_spec_syllable.specs.SyllableText.{syllable_reading}
use Rattle.chew_spec_text.specs.DictionaryText.{dictionary_rows}
use Rattle.chew_spec_text.specs.Entry.{entry_text}
use Rattle.chew_spec_text.specs.Script.{script_of}
use Rattle.unicode_width.proofs.Computing.{unicode_width}
use Rattle.chew_spec_editor.specs.Talk.{talk_from}
use Rattle.chew_spec_editor.proofs.Computing.{typing}
use Rattle.chew_spec_slots.specs.Recovery.{recovered}
use Rattle.chew_spec_program.specs.Command.{command_of}
use Rattle.chew_spec_program.specs.Opening.{opening}
use Rattle.std.specs.Prelude.{◌≡◌, ◌<◌, ◌++◌, ◌∷◌, [], ℕ, List, Option, Some, None, flat_map, length}
use Rattle.std.proofs.Common.{ap, arith, refl, subst, sym}
use Rattle.chew_spec_dictionary.specs.FiveRows.{ce4}
use Rattle.chew_spec_dictionary.specs.History.{Entry, calls_of}
use Rattle.chew_spec_text.specs.Line.{line_text}
use Rattle.chew_spec_rounds.specs.Known.{nothing}
use Rattle.chew_spec_rounds.specs.Round.{Round}
use Rattle.chew_spec_session.specs.Context.{talk_in}
use Rattle.chew_spec_session.specs.LastRounds.{AreRounds}
use Rattle.chew_spec_program.specs.Output.{output}
use Rattle.chew_spec_program.specs.Run.{Ended, IsRun}
use Rattle.chew_spec_program.specs.Sample.{five_basis, look_by, run_words, words_with_trace}
use Rattle.chew_spec_program.specs.SampleRun.{before_enter, five_calls, five_ended, five_inputs, five_journal, five_keys, five_looks, five_outside, five_output, five_rounds, five_text, five_trace, keys_text, round_text, without_round}
use Rattle.chew_spec_program.proofs.KnownRun.{unsaved}
use Rattle.chew_spec_program.proofs.OneContext.{IsToldRun, told-done, told-one}
use Rattle.chew_spec_program.proofs.laws.known_run.wrong_runs.Goals as goal

plain-run : (taken : List ℕ) (journal : List Entry) (rounds : List Round) → IsRun run_words (five_outside taken) (five_ended journal rounds)
    → IsToldRun run_words (five_outside taken) (five_ended journal rounds) five_inputs
unfolding command_of opening dictionary_rows is_phrase is_utf8 syllable_reading script_of encode_utf8 typing recovered
plain-run taken journal rounds run = record {
  run = run;
  zero = refl;
  set = [];
  left = five_text;
  keys = keys_text;
  settings = record { told = refl; calm = λ rose. omega arith };
  system = record { told = refl; calm = λ rose. omega arith };
  script = record { told = refl; calm = λ rose. omega arith };
  disk = record { told = refl; calm = λ rose. omega arith };
  gives = refl;
}

traced-run : (taken : List ℕ) (journal : List Entry) (rounds : List Round) → IsRun words_with_trace (five_outside taken) (five_ended journal rounds)
    → IsToldRun words_with_trace (five_outside taken) (five_ended journal rounds) five_inputs
unfolding command_of opening dictionary_rows is_phrase is_utf8 syllable_reading script_of encode_utf8 typing recovered
traced-run taken journal rounds run = record {
  run = run;
  zero = refl;
  set = [];
  left = five_text;
  keys = keys_text;
  settings = record { told = refl; calm = λ rose. omega arith };
  system = record { told = refl; calm = λ rose. omega arith };
  script = record { told = refl; calm = λ rose. omega arith };
  disk = record { told = refl; calm = λ rose. omega arith };
  gives = refl;
}

-- what such a run would have taken, and what its calls would be
plain : (taken : List ℕ) (journal : List Entry) (rounds : List Round) → IsRun run_words (five_outside taken) (five_ended journal rounds)
    → (Some taken ≡ Some (output (flat_map line_text (talk_in five_basis journal 1 five_keys).lines ∷ []) rounds [])) × (calls_of journal 1 ≡ (talk_in five_basis journal 1 five_keys).calls)
unfolding command_of
plain taken journal rounds run = told-one run_words (five_outside taken) (five_ended journal rounds) five_basis five_keys 0 0 (plain-run taken journal rounds run)

asked : (taken : List ℕ) (journal : List Entry) (rounds : List Round) → IsRun words_with_trace (five_outside taken) (five_ended journal rounds)
    → (Some taken ≡ Some (output (flat_map line_text (talk_in five_basis journal 1 five_keys).lines ∷ []) rounds journal)) × (calls_of journal 1 ≡ (talk_in five_basis journal 1 five_keys).calls)
unfolding command_of
asked taken journal rounds run = told-one words_with_trace (five_outside taken) (five_ended journal rounds) five_basis five_keys 0 0 (traced-run taken journal rounds run)

-- how long a text is that was taken
abbrev size : Option (List ℕ) → ℕ
size None = 0
size (Some text) = length text

-- a greater number is not the lesser one
apart : (n m : ℕ) → n < m → n ≡ m → ⊥
apart n m l e = omega arith

pub returns-clause-line_less : goal.returns-clause-line_less
unfolding talk_from typing unicode_width encode_utf8
returns-clause-line_less c = λ run.
    let sizes : length (before_enter ++ round_text) ≡ length five_output = ap size (plain (before_enter ++ round_text) five_journal five_rounds run).0 in
    apart (length (before_enter ++ round_text)) (length five_output) (omega arith) sizes

pub returns-clause-learn_less : goal.returns-clause-learn_less
unfolding talk_from typing unicode_width encode_utf8
returns-clause-learn_less c = λ run.
    let sizes : length five_output ≡ length (before_enter ++ round_text) = ap size (plain five_output five_looks five_rounds run).0 in
    apart (length (before_enter ++ round_text)) (length five_output) (omega arith) (sym sizes)

pub returns-clause-call_more : goal.returns-clause-call_more
unfolding talk_from typing unicode_width encode_utf8
returns-clause-call_more c = λ run.
    let four : ℕ = 4 in
    let count : four ≡ 3 = ap length (plain five_output (five_journal ++ look_by 1 (ce4 ∷ []) ∷ []) five_rounds run).1 in
    apart 3 4 (omega arith) (sym count)

pub returns-clause-byte_more : goal.returns-clause-byte_more
unfolding talk_from typing unicode_width encode_utf8
returns-clause-byte_more c = λ run.
    let sizes : length (five_output ++ 10 ∷ []) ≡ length five_output = ap size (plain (five_output ++ 10 ∷ []) five_journal five_rounds run).0 in
    apart (length five_output) (length (five_output ++ 10 ∷ [])) (omega arith) (sym sizes)

pub returns-clause-no_round : goal.returns-clause-no_round
returns-clause-no_round c = λ run.
    let done = told-done run_words (five_outside without_round) (five_ended five_calls []) five_inputs (plain-run without_round five_calls [] run) in
    unsaved (subst (λ (e : Ended). AreRounds nothing 0 e.journal e.rounds) (sym done.ends) done.is_session.rounds)

pub returns-clause-round_line_less : goal.returns-clause-round_line_less
unfolding talk_from typing unicode_width encode_utf8
returns-clause-round_line_less c = λ run.
    let sizes : length without_round ≡ length five_output = ap size (plain without_round five_journal five_rounds run).0 in
    apart (length without_round) (length five_output) (omega arith) sizes

pub returns-clause-untraced : goal.returns-clause-untraced
unfolding talk_from typing unicode_width encode_utf8 entry_text
returns-clause-untraced c = λ run.
    let sizes : length five_output ≡ length (five_output ++ five_trace) = ap size (asked five_output five_journal five_rounds run).0 in
    apart (length five_output) (length (five_output ++ five_trace)) (omega arith) sizes

pub returns-clause-trace_unasked : goal.returns-clause-trace_unasked
unfolding talk_from typing unicode_width encode_utf8
returns-clause-trace_unasked c = λ run.
    let sizes : length (five_output ++ five_trace) ≡ length five_output = ap size (plain (five_output ++ five_trace) five_journal five_rounds run).0 in
    apart (length five_output) (length (five_output ++ five_trace)) (omega arith) (sym sizes)
