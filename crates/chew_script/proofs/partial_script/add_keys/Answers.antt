-- The keys are appended to those of the context.
use Rattle.std.proofs.Common.{◌-◌, ◌≡◌, ◌<◌, ◌≤◌, ap, ◌∙◌, arith, length, set}
use Rattle.std.proofs.lemmas.List.{length-map}
use Rattle.chew_spec_text.specs.KeyStroke.{keys_in}
use Rattle.chew_script.specs.Keys.{keys_of, lists_of}
use Rattle.chew_script.proofs.Adding.{added_there, grown}
use Rattle.chew_script.proofs.Lists.{list_at, list_set}
use Rattle.chew_script.proofs.partial_script.add_keys.Goals as goal

pub returns : goal.returns
returns c =
    let contexts = c.open.new.contexts.items in
    let had = c.index_mut-keys.result.now in
    let new = c.push_keys.new.keys in
    let place : c.from.result - 1 ≡ c.args.number - 1 = omega arith in
    let within : c.args.number - 1 < length contexts = omega (arith, c.in-Ok.ensures.open) in
    let grew : length (keys_of had.items) ≤ length (keys_of new.items) = grown (keys_of had.items) (keys_of new.items) (keys_in c.args.text.now) c.in_ok-push_keys.ensures in
    added_there c.args.number (keys_in c.args.text.now) (lists_of c.args.contexts.now.items) (lists_of contexts) _ (keys_of had.items) (keys_of new.items) _
    c.requires c.in-Ok.ensures.same (rw length-map (omega (arith, c.in-Ok.ensures.open))) (list_at contexts (c.args.number - 1) had within (cc (c.index_mut-keys.ensures.value, place)))
    (ap (λ n. lists_of (set contexts n new)) place ∙ list_set contexts (c.args.number - 1) new)
    c.in_ok-push_keys.ensures (let shorter = simp length-map at grew in simp length-map (omega arith))
