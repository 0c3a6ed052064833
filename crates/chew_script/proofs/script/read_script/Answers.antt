-- What each return says of the text.
use Rattle.std.proofs.Common.{◌≡◌, ℕ, List, Err, length, ap, ◌∙◌, arith}
use Rattle.chew_spec_text.specs.Lines.{lines_of}
use Rattle.chew_spec_text.specs.Script as spec
use Rattle.chew_spec_text.specs.Script.{script_of}
use Rattle.chew_text.proofs.LinesTaken.{few_lines, leaves_all}
use Rattle.chew_script.specs.Faults.{cause_of}
use Rattle.chew_script.specs.declared.fault.ScriptCause.TheVariants.{Size}
use Rattle.chew_script.proofs.Texts.{no_lines, taken, text_lines, text_long}
use Rattle.chew_script.proofs.script.read_script.Goals as goal

pub returns-then-text-gt-SCRIPT_LIMIT-clause-bad : goal.returns-then-text-gt-SCRIPT_LIMIT-clause-bad
returns-then-text-gt-SCRIPT_LIMIT-clause-bad c line cause e =
    let at : 0 ≡ line = cc in
    let why : Size ≡ cause = cc in
    text_long c.args.text.now (omega arith) ∙ (ap (λ (n : ℕ). Err (record { line = n; cause = spec.Size })) at ∙ ap (λ k. Err (record { line = line; cause = cause_of k })) why)

pub lines-init : goal.lines-init
lines-init c = record {
  read = leaves_all taken (script_of c.args.text.now) no_lines c.new-script.result c.of-lines.result (lines_of c.args.text.now)
      (text_lines c.args.text.now (omega arith)) c.new-script.ensures c.of-lines.ensures;
  counted = omega (arith, few_lines c.args.text.now, ap (λ (lines : List (List ℕ)). length lines) c.of-lines.ensures);
}
