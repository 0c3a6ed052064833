-- One context more.
use Rattle.std.proofs.Common.{◌≡◌, ◌+◌, ◌∷◌, ◌++◌, [], List, ap, arith, length, map, subst, sym}
use Rattle.std.proofs.lemmas.List.{length-append}
use Rattle.std.specs.Global.{Vec}
use Rattle.std.specs.List.{range_with_len}
use Rattle.std.specs.Vec.Iter.{into_iter_items}
use Rattle.chew_script.specs.Keys.{lists_of}
use Rattle.chew_script.specs.declared.keystroke.KeyStroke.{KeyStroke}
use Rattle.chew_session.specs.Crew.{keys_of_all}
use Rattle.chew_session.specs.declared.actor.Actor.{Actor}
use Rattle.chewing_cli.proofs.Runs.{joined-on, numbered-on}
use Rattle.chewing_cli.proofs.run.actors_of.Goals as goal

pub loop-keys-preserved : goal.loop-keys-preserved
loop-keys-preserved c =
    let at = c.loop-keys in
    let had = at.actors.items in
    let next : Actor = record { who = at.who + 1; keys = c.in-Some.keys } in
    let left : List (Vec KeyStroke) = into_iter_items c.next.new.self in
    let steps : into_iter_items at.keys-iterator ≡ c.in-Some.keys ∷ left = c.in-Some.ensures.steps.0 in
    let shorter = c.in-Some.ensures.steps.1 in
    let pushed : c.push.new.self.items ≡ had ++ next ∷ [] = c.in_ok-push.ensures.items in
    let longer = length-append had (next ∷ []) in
    let counted = at.invariant.counted in
    let were = at.invariant.left in
    let sizes = ap length pushed in
    let fewer = ap length steps in
    record {
      kept =
          subst (λ (actors : List Actor). keys_of_all actors ++ lists_of left ≡ c.args.contexts) (sym pushed)
          (joined-on had next left c.args.contexts (subst (λ (lists : List (Vec KeyStroke)). keys_of_all had ++ lists_of lists ≡ c.args.contexts) steps at.invariant.kept));
      numbered =
          subst (λ (actors : List Actor). map (λ (actor : Actor). actor.who) actors ≡ range_with_len 1 (length actors)) (sym pushed)
          (numbered-on had next at.invariant.numbered (omega arith));
      counted = omega arith;
      left = omega arith;
    }
