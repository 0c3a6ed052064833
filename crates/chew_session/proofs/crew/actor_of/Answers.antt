-- By the place.
use Rattle.std.specs.Prelude.{◌≡◌, ◌<◌, ◌+◌, ◌-◌, List, get_or, length, ℕ}
use Rattle.std.proofs.Common.{arith, sym, ap, ◌∙◌}
use Rattle.std.proofs.lemmas.List.{get_or-map}
use Rattle.std.proofs.lemmas.List.FromFn.{get_or-range_with_len}
use Rattle.chew_session.specs.declared.actor.Actor.{Actor}
use Rattle.chew_session.proofs.crew.actor_of.Goals as goal

pub returns-clause-number : goal.returns-clause-number
returns-clause-number c =
    let actors = c.args.actors.now in
    let place = c.args.who - 1 in
    let from_one = c.requires.from_one in
    let within = c.requires.within in
    let here : place < length actors = omega arith in
    let numbered : (get_or actors place c.index-actors-who.result).who ≡ 1 + place =
    sym (get_or-map (λ (a : Actor). a.who) actors place c.index-actors-who.result 0 here)
    ∙ ap (λ (ns : List ℕ). get_or ns place 0) c.requires.order ∙ get_or-range_with_len 1 (length actors) place 0 here in
    ap (λ (a : Actor). a.who) c.index-actors-who.is ∙ (let e : (get_or actors place c.index-actors-who.result).who ≡ c.args.who = omega arith in e)
