-- By one pass more.
use Rattle.std.specs.Prelude.{◌≡◌, ◌+◌, ◌++◌, [], ◌∷◌, length}
use Rattle.std.proofs.Common.{arith, rules, ap, ◌∙◌}
use Rattle.std.proofs.lemmas.List.{length-append}
use Rattle.chew_session.specs.Crew.{EachAnswered}
use Rattle.chew_spec_cell.specs.Pass.{Pass}
use Rattle.chew_spec_session.specs.Session.{ContextEnd}
use Rattle.chew_session.proofs.Ends.{each-long, each-one}
use Rattle.chew_session.proofs.each.+fn-run_each-join+arg2+run_each.Goals as goal

pub push-requires : goal.push-requires
push-requires g t c =
    let answers : Pass → Pass × ContextEnd → Type 0 = λ pass ended. g.T.Fn.post c.args.type_with.now (pass, tt) ended in
    let first : EachAnswered answers c.take_last-passes.result.0.items c.join-done.result.0.0.items c.join-done.result.0.1.items = search rules in
    let each = each-long answers c.take_last-passes.result.0.items c.join-done.result.0.0.items c.join-done.result.0.1.items first in
    let few = c.requires.few in
    let all : c.args.passes.items ≡ c.take_last-passes.result.0.items ++ c.in-Some.pass ∷ [] = search rules in
    let long = ap length all ∙ length-append c.take_last-passes.result.0.items (c.in-Some.pass ∷ []) in
    let ok = c.args.passes.ok in
    (omega arith, omega arith)

pub returns-in-Some-clause-each : goal.returns-in-Some-clause-each
returns-in-Some-clause-each g t c =
    let answers : Pass → Pass × ContextEnd → Type 0 = λ pass ended. g.T.Fn.post c.args.type_with.now (pass, tt) ended in
    let first : EachAnswered answers c.take_last-passes.result.0.items c.join-done.result.0.0.items c.join-done.result.0.1.items = search rules in
    let last : answers c.in-Some.pass c.join-done.result.1 = search rules in
    let all : c.args.passes.items ≡ c.take_last-passes.result.0.items ++ c.in-Some.pass ∷ [] = search rules in
    each-one answers c.take_last-passes.result.0.items c.args.passes.items c.join-done.result.0.0.items c.push_reserved.new.self.items c.join-done.result.0.1.items c.push.new.self.items
    c.in-Some.pass c.join-done.result.1.0 c.join-done.result.1.1 first last all c.push_reserved.ensures.items c.push.ensures.items
