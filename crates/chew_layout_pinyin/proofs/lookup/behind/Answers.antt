-- By what stands behind the initial's letters.
use Rattle.std.proofs.Common.{Some, None, sym}
use Rattle.std.proofs.lemmas.Bool.Decides.{Decides-eqb}
use Rattle.std.proofs.lemmas.Slice.Eq.{strip_prefix_is}
use Rattle.chew_layout_pinyin.specs.Tables.{groups_of, spelled_of}
use Rattle.chew_layout_pinyin.proofs.Found.{with_other, with_initial}
use Rattle.chew_layout_pinyin.proofs.lookup.behind.Goals as goal

pub returns-in_err-rest : goal.returns-in_err-rest
returns-in_err-rest c =
    let other = strip_prefix_is Decides-eqb c.args.letters.now c.args.initial.0.now None c.in_err-rest.ensures.cases in
    rw c.from_residual.ensures (sym (with_other (spelled_of c.args.initial) (groups_of c.args.endings.now) c.args.letters.now other))

pub returns-in_err-ending : goal.returns-in_err-ending
returns-in_err-ending c =
    let split = strip_prefix_is Decides-eqb c.args.letters.now c.args.initial.0.now (Some c.in_ok-rest.rest) c.in_ok-rest.ensures.cases in
    rw c.from_residual-in_err-ending.ensures (with_initial (spelled_of c.args.initial) (groups_of c.args.endings.now) c.args.letters.now c.in_ok-rest.rest.now None split c.in_err-ending.ensures)

pub returns : goal.returns
returns c =
    let split = strip_prefix_is Decides-eqb c.args.letters.now c.args.initial.0.now (Some c.in_ok-rest.rest) c.in_ok-rest.ensures.cases in
    with_initial (spelled_of c.args.initial) (groups_of c.args.endings.now) c.args.letters.now c.in_ok-rest.rest.now (Some c.in_ok-ending.ending.now) split c.in_ok-ending.ensures
