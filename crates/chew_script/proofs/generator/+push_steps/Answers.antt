-- A step, and the steps behind it.
use Rattle.std.proofs.Common.{◌∙◌, ◌++◌, ◌-◌, ap, arith, flat_map}
use Rattle.chew_spec_generator.specs.Generator.{draw_of, draws_from, next_number, step_text}
use Rattle.chew_script.proofs.Generated.{both_appended, steps_done, steps_more}
use Rattle.chew_script.proofs.generator.«+push_steps».Goals as goal

pub returns-then-count-eq0-clause-text : goal.returns-then-count-eq0-clause-text
returns-then-count-eq0-clause-text t c = steps_done c.args.text.now.items c.args.count c.args.number (omega arith)

pub returns-clause-text : goal.returns-clause-text
returns-clause-text t c =
    both_appended c.push_steps.result c.push_steps.new.text.items c.extend_from_slice.new.self.items c.args.text.now.items
    (step_text (draw_of (next_number c.args.number))) (flat_map step_text (draws_from (c.args.count - 1) c.next_number-next.result))
    (flat_map step_text (draws_from c.args.count c.args.number)) c.push_steps.ensures.text
    (c.in_ok-extend_from_slice.ensures.items
    ∙ ap (λ more. c.args.text.now.items ++ more) (c.as_bytes.ensures.value ∙ c.step_text.ensures ∙ ap step_text (c.draw_of.ensures ∙ ap draw_of c.next_number-next.ensures)))
    (ap (λ next. step_text (draw_of (next_number c.args.number)) ++ flat_map step_text (draws_from (c.args.count - 1) next)) c.next_number-next.ensures
    ∙ steps_more c.args.count c.args.number (omega arith))
