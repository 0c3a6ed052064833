-- The context that comes up has no keys yet.
use Rattle.std.proofs.Common.{◌-◌, List, ap, ◌∙◌, arith}
use Rattle.std.proofs.lemmas.List.{length-map}
use Rattle.chew_spec_text.specs.KeyStroke.{KeyStroke}
use Rattle.chew_spec_text.specs.Script.{add_keys}
use Rattle.chew_script.specs.Keys.{lists_of}
use Rattle.chew_script.proofs.Adding.{empty_more}
use Rattle.chew_script.proofs.Lists.{empty_pushed}
use Rattle.chew_script.proofs.partial_script.open.Goals as goal

pub opening-preserved : goal.opening-preserved
opening-preserved c keys =
    let lists = empty_pushed c.opening.contexts.items c.push.new.self.items c.new-keys.result c.in_ok-push.ensures.items c.new-keys.ensures.items in
    ap (λ (l : List (List KeyStroke)). add_keys (c.args.number - 1) keys l) lists
    ∙ (empty_more (c.args.number - 1) keys (lists_of c.opening.contexts.items) (rw length-map (omega arith)) ∙ c.opening.invariant keys)
