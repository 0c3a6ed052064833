-- What each return says of the text.
use Rattle.std.proofs.Common.{◌≡◌, ◌≤◌, length, Result, Ok, Err, arith}
use Rattle.std.specs.Prelude.{IfOk, IsTrue}
use Rattle.chew_spec_syllable.specs.Row.{no_pair_twice}
use Rattle.chew_spec_text.specs.DictionaryText.{dictionary_rows}
use Rattle.chew_spec_text.proofs.Rows.{rows_proper}
use Rattle.chew_rows.proofs.Text.{text_long}
use Rattle.chew_rows.proofs.rows_reader.read_rows.Goals as goal

if_ok : {V E : Type 0} (P Q : V → Type 0) (outcome : Result V E) → ((value : V) → P value → Q value) → IfOk outcome P → IfOk outcome Q
if_ok P Q (Ok value) f h = f value h
if_ok P Q (Err cause) f h = tt

pub returns-then-text-gt-SYSTEM_LIMIT-clause-bad : goal.returns-then-text-gt-SYSTEM_LIMIT-clause-bad
returns-then-text-gt-SYSTEM_LIMIT-clause-bad c = text_long c.args.text.now (omega arith)

pub returns-in-Ok-Some-clause-distinct : goal.returns-in-Ok-Some-clause-distinct
returns-in-Ok-Some-clause-distinct c =
    let e : dictionary_rows c.args.text.now ≡ Ok c.in-Ok-Some.rows.items = rw c.in-Ok-Some.field-0-is at c.in-Ok-Some.ensures in
    (rows_proper c.args.text.now c.in-Ok-Some.rows.items e).once

pub returns-in-Ok-Some-clause-few : goal.returns-in-Ok-Some-clause-few
returns-in-Ok-Some-clause-few c =
    let e : dictionary_rows c.args.text.now ≡ Ok c.in-Ok-Some.rows.items = rw c.in-Ok-Some.field-0-is at c.in-Ok-Some.ensures in
    (rows_proper c.args.text.now c.in-Ok-Some.rows.items e).few

pub returns-in-Ok-None-clause-distinct : goal.returns-in-Ok-None-clause-distinct
returns-in-Ok-None-clause-distinct c =
    if_ok (λ rows. dictionary_rows c.args.text.now ≡ Ok rows.items) (λ rows. IsTrue (no_pair_twice rows.items)) c.rows_by_line.result
    (λ rows e. (rows_proper c.args.text.now rows.items e).once) c.rows_by_line.ensures.ok

pub returns-in-Ok-None-clause-few : goal.returns-in-Ok-None-clause-few
returns-in-Ok-None-clause-few c =
    if_ok (λ rows. dictionary_rows c.args.text.now ≡ Ok rows.items) (λ rows. length rows.items ≤ 250_000) c.rows_by_line.result
    (λ rows e. (rows_proper c.args.text.now rows.items e).few) c.rows_by_line.ensures.ok
