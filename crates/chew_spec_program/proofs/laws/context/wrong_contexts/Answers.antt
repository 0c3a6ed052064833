-- By computing the talks.
use Rattle.std.specs.Char.{encode_utf8}
use Rattle.std.proofs.Common.{◌≡◌, ◌<◌, ℕ, List, [], ◌∷◌, ◌++◌, length, ap, sym, arith}
use Rattle.std.specs.Prelude.{flat_map}
use Rattle.chew_spec_dictionary.specs.Call.{Call, Look}
use Rattle.chew_spec_dictionary.specs.History.{calls_of}
use Rattle.unicode_width.proofs.Computing.{unicode_width}
use Rattle.chew_spec_editor.specs.Talk.{talk_from}
use Rattle.chew_spec_editor.proofs.Computing.{typing}
use Rattle.chew_spec_text.specs.Line.{Line, line_text}
use Rattle.chew_spec_text.specs.Sample.{bytes_of}
use Rattle.chew_spec_program.specs.Sample.{both_journal, first_lines, opening_lines, plain_line}
use Rattle.chew_spec_program.proofs.laws.context.wrong_contexts.Goals as goal

-- a greater number is not the lesser one
apart : (n m : ℕ) → n < m → m ≡ n → ⊥
apart n m l e = omega arith

-- the lines of the same keys where nobody learnt anything
abbrev untaught_lines : List Line
untaught_lines = first_lines ++ (plain_line (bytes_of "測試") 0 [] ∷ (record (plain_line (bytes_of "測試") 0 []) { window = bytes_of "1/1 1測試" } ∷ []))

-- the first syllable that the first call looks up
abbrev first_code : List Call → ℕ
first_code (Look (code ∷ codes) ∷ calls) = code
first_code _ = 0

pub returns-clause-swapped : goal.returns-clause-swapped
unfolding talk_from typing unicode_width encode_utf8
returns-clause-swapped c = λ handles. cc handles.made.joined

pub returns-clause-short : goal.returns-clause-short
unfolding talk_from typing unicode_width encode_utf8
returns-clause-short c = λ handles. let lines : length first_lines ≡ 4 = ap length handles.talked in apart 4 5 (omega arith) lines

pub returns-clause-long : goal.returns-clause-long
unfolding talk_from typing unicode_width encode_utf8
returns-clause-long c = λ handles. cc handles.next.joined

pub returns-clause-of_other : goal.returns-clause-of_other
unfolding talk_from typing unicode_width encode_utf8
returns-clause-of_other c = λ handles. let codes : first_code (calls_of both_journal 2) ≡ 10_268 = ap first_code handles.made.joined in apart 8708 10_268 (omega arith) (sym codes)

pub returns-clause-line_less : goal.returns-clause-line_less
returns-clause-line_less c = λ handles. cc handles.each

pub returns-clause-other_lines : goal.returns-clause-other_lines
unfolding talk_from typing unicode_width encode_utf8
returns-clause-other_lines c = λ handles. cc (handles.talked)

pub returns-clause-beyond_next : goal.returns-clause-beyond_next
unfolding talk_from typing unicode_width encode_utf8
returns-clause-beyond_next c = λ handles. cc handles.next.joined

pub returns-clause-too_many : goal.returns-clause-too_many
returns-clause-too_many c = λ handles. cc handles.each

pub returns-clause-untaught : goal.returns-clause-untaught
unfolding talk_from typing unicode_width encode_utf8
returns-clause-untaught c = λ handles.
    let sizes : length (flat_map line_text opening_lines) ≡ length (flat_map line_text untaught_lines) = ap (λ lines. length (flat_map line_text lines)) handles.talked in
    apart (length (flat_map line_text untaught_lines)) (length (flat_map line_text opening_lines)) (omega arith) sizes

pub returns-clause-lists : goal.returns-clause-lists
returns-clause-lists c = λ all. all.1
