-- By what each answers.
use Rattle.std.specs.Prelude.{All, List, length, vec_len}
use Rattle.std.proofs.Common.{arith, rules, sym, subst}
use Rattle.chew_spec_cell.specs.Pass.{Pass}
use Rattle.chew_session.specs.Crew.{EachAnswered, IsFresh, basis_of, keys_of_all}
use Rattle.chew_session.proofs.Contexts.{EndsSo, each-done, each-fresh, keys-long}
use Rattle.chew_session.proofs.Ends.{each-has}
use Rattle.chew_session.proofs.crew.run_contexts.Goals as goal

pub run_each-requires-clause-may : goal.run_each-requires-clause-may
run_each-requires-clause-may g c κs within =
    let shared = c.args.shared.now in
    let most = length c.args.actors.now in
    let fresh : All (λ pass. IsFresh shared most pass) c.args.passes.items =
    subst (λ (ps : List Pass). All (λ pass. IsFresh shared most pass) ps) (sym c.requires.passes) (each-fresh shared most (vec_len c.args.passes) c.requires.enough) in
    λ k d here. ((c.requires.ready, fresh k d here), search rules)

pub returns-clause-done : goal.returns-clause-done
returns-clause-done g c =
    let shared = c.args.shared.now in
    let basis = basis_of (g.L.Lexicon.rows c.args.system.now) c.args.settings.now shared in
    let contexts = keys_of_all c.args.actors.now in
    let backs = c.run_each.result.0.items in
    let ends = c.run_each.result.1.items in
    let each = each-has _ (EndsSo basis shared contexts) c.args.passes.items backs ends c.run_each.ensures.each in
    let long = keys-long c.args.actors.now in
    let enough = c.requires.enough in
    each-done basis shared contexts (vec_len c.args.passes) backs ends (omega arith)
    (subst (λ (ps : List Pass). EachAnswered (EndsSo basis shared contexts) ps backs ends) c.requires.passes each)
