-- By one pass more.
use Rattle.std.specs.Prelude.{◌≡◌, ◌≤◌, ◌++◌, ◌∷◌, [], All, List, length}
use Rattle.std.specs.List.{AllZip}
use Rattle.std.proofs.Common.{arith, rules, sym, ap, ◌∙◌, subst}
use Rattle.std.proofs.lemmas.List.{length-append}
use Rattle.std.proofs.lemmas.List.Elements.{All-push, All-same, AllZip-push}
use Rattle.chew_spec_cell.specs.Pass.{Pass}
use Rattle.chew_spec_shared.specs.SharedCalls.{IsOf}
use Rattle.chew_session.specs.Crew.{SeesMore}
use Rattle.chew_session.proofs.meeting.+meet_all.Goals as goal

pub returns-in-Some-clause-passes : goal.returns-in-Some-clause-passes
returns-in-Some-clause-passes t c =
    let met = c.meet-keeper.result.1 in
    let ours : IsOf c.args.shared.now c.in-Some.pass = search rules in
    All-same (λ (p : Pass). IsOf c.args.shared.now p) c.push_reserved.new.self.items (c.meet_all-keeper.result.1.items ++ met ∷ []) c.push_reserved.ensures.items
    (All-push (λ (p : Pass). IsOf c.args.shared.now p) c.meet_all-keeper.result.1.items met c.meet_all-keeper.ensures.passes (ap (λ (p : Pass). p.cell) c.meet-keeper.ensures.second ∙ ours))

pub returns-in-Some-clause-each : goal.returns-in-Some-clause-each
returns-in-Some-clause-each t c =
    let met = c.meet-keeper.result.1 in
    let more : SeesMore c.in-Some.pass met = record { who = ap (λ (p : Pass). p.who) c.meet-keeper.ensures.second; seen = c.meet-keeper.ensures.seen_by_second } in
    subst (λ (ps : List Pass). AllZip SeesMore ps c.push_reserved.new.self.items) (sym c.in-Some.ensures.items)
    (subst (λ (ps : List Pass). AllZip SeesMore (c.pop.new.self.items ++ c.in-Some.pass ∷ []) ps) (sym c.push_reserved.ensures.items)
    (AllZip-push SeesMore c.pop.new.self.items c.meet_all-keeper.result.1.items c.in-Some.pass met c.meet_all-keeper.ensures.each more))

pub returns-in-Some-clause-most : goal.returns-in-Some-clause-most
returns-in-Some-clause-most t c =
    let met = c.meet-keeper.result.1 in
    let last = c.meet_all-keeper.result.0 in
    let same = ap length (ap (λ (p : Pass). p.seen) c.meet-keeper.ensures.second ∙ sym (ap (λ (p : Pass). p.seen) c.meet-keeper.ensures.first)) in
    let long = ap length c.meet_all-keeper.ensures.seen.joined ∙ length-append c.meet-keeper.result.0.seen c.meet_all-keeper.ensures.seen.later in
    All-same (λ (p : Pass). length p.seen ≤ length last.seen) c.push_reserved.new.self.items (c.meet_all-keeper.result.1.items ++ met ∷ []) c.push_reserved.ensures.items
    (All-push (λ (p : Pass). length p.seen ≤ length last.seen) c.meet_all-keeper.result.1.items met c.meet_all-keeper.ensures.most (omega arith))
