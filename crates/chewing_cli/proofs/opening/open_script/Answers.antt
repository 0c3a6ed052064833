-- The text that was read is the script's.
use Rattle.std.proofs.Common.{ℕ, List, refl, subst}
use Rattle.chew_spec_text.specs.Script.{Script, script_limit, script_of}
use Rattle.chew_spec_program.specs.Opening.{or_refusal}
use Rattle.chew_spec_program.specs.Refusal.{WrongScript}
use Rattle.chewing_cli.specs.Opens.{IsOrNoMemory}
use Rattle.chewing_cli.specs.Refusals.{outcome_of}
use Rattle.chewing_cli.proofs.Reading.{reads_text}
use Rattle.chewing_cli.proofs.opening.open_script.Goals as goal

pub returns-in-Ok-clause-reads : goal.returns-in-Ok-clause-reads
returns-in-Ok-clause-reads g c =
    reads_text (λ bytes. or_refusal WrongScript (script_of bytes)) script_limit (g.I.Source.left c.args.source.now)
    (g.I.Source.left c.read_up_to.new.source) (g.I.Source.faults c.args.source.now) (g.I.Source.faults c.read_up_to.new.source) c.in-Ok.text.items
    (outcome_of (λ (script : Script). script) c.script_in.result)
    c.in-Ok.ensures.ok (c.in-Ok.ensures.cause.same refl)
    (subst (λ (text : List ℕ). IsOrNoMemory (or_refusal WrongScript (script_of text)) (outcome_of (λ (script : Script). script) c.script_in.result))
    c.as_slice.ensures.value c.script_in.ensures.gives)
