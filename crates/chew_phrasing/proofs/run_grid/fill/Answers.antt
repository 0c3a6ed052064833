-- The interval has a piece, or a break parts it, or its first row becomes its piece.
use Rattle.std.proofs.Common.{◌+◌, ◌-◌, ◌∷◌, ◌++◌, [], take, drop, sym, ◌∙◌, subst, arith}
use Rattle.chew_spec_phrasing.specs.CombinedRows.{combined_hits}
use Rattle.chew_spec_phrasing.specs.Usable.{piece_at}
use Rattle.chew_phrasing.specs.Grid.{IsFilled}
use Rattle.chew_phrasing.proofs.Combining.{codes_between}
use Rattle.chew_phrasing.proofs.Filled.{fill_broken, fill_first, fill_none, fill_taken}
use Rattle.chew_phrasing.proofs.Firsts.{first_of_run}
use Rattle.chew_phrasing.proofs.run_grid.fill.Goals as goal

pub returns-then-not-is_free-clause-filled : goal.returns-then-not-is_free-clause-filled
returns-then-not-is_free-clause-filled g c = λ done h.
    fill_taken (combined_hits (g.L.Lexicon.rows c.args.system.now) c.args.run.now c.args.user.now) c.args.breaks.now c.args.choices.now done c.args.grid.now c.args.at c.requires.inside h
    (sym c.is_free.ensures ∙ c.if-not-is_free.true)

pub returns-then-not-is_unbroken-clause-filled : goal.returns-then-not-is_unbroken-clause-filled
returns-then-not-is_unbroken-clause-filled g c = λ done h.
    fill_broken (combined_hits (g.L.Lexicon.rows c.args.system.now) c.args.run.now c.args.user.now) c.args.breaks.now c.args.choices.now done c.args.grid.now c.args.at c.requires.inside h
    (sym c.is_free.ensures ∙ c.if-not-is_free.false) (sym c.is_unbroken.ensures ∙ c.if-not-is_unbroken.true)

pub returns-in-Some-clause-filled : goal.returns-in-Some-clause-filled
returns-in-Some-clause-filled g c = λ done h.
    subst (IsFilled (piece_at (combined_hits (g.L.Lexicon.rows c.args.system.now) c.args.run.now c.args.user.now) c.args.breaks.now c.args.choices.now) (piece_at [] c.args.breaks.now c.args.choices.now) (done ++ (c.args.at ∷ []))) (sym c.put.ensures.value)
    (fill_first (combined_hits (g.L.Lexicon.rows c.args.system.now) c.args.run.now c.args.user.now) c.args.breaks.now c.args.choices.now done c.args.grid.now c.args.at c.requires.inside h
    c.in_ok-first.first c.in-Some.hit c.piece_of_hit.result c.in-Some.is c.piece_of_hit.ensures c.put.ensures.whole
    (sym c.is_free.ensures ∙ c.if-not-is_free.false) (sym c.is_unbroken.ensures ∙ c.if-not-is_unbroken.false)
    (first_of_run (g.L.Lexicon.rows c.args.system.now) c.args.run.now (take (c.at.inside.start + c.at.inside.len - c.at.inside.start) (drop c.at.inside.start c.args.run.now)) c.args.user.now c.deref.result.now c.args.choices.now c.args.at c.in_ok-first.first
    c.requires.inside.some c.requires.inside.short (let within = c.requires.inside.within in let run = c.requires.run in omega arith)
    (codes_between c.args.run.now c.args.at c.at.inside.start c.at.inside.len c.at.view_is) (c.deref.ensures.value ∙ c.in_ok-found.ensures) c.in_ok-first.ensures.first))

pub returns-clause-filled : goal.returns-clause-filled
returns-clause-filled g c = λ done h.
    fill_none (combined_hits (g.L.Lexicon.rows c.args.system.now) c.args.run.now c.args.user.now) c.args.breaks.now c.args.choices.now done c.args.grid.now c.args.at c.requires.inside h
    c.in_ok-first.first c.in-None.is (sym c.is_free.ensures ∙ c.if-not-is_free.false) (sym c.is_unbroken.ensures ∙ c.if-not-is_unbroken.false)
    (first_of_run (g.L.Lexicon.rows c.args.system.now) c.args.run.now (take (c.at.inside.start + c.at.inside.len - c.at.inside.start) (drop c.at.inside.start c.args.run.now)) c.args.user.now c.deref.result.now c.args.choices.now c.args.at c.in_ok-first.first
    c.requires.inside.some c.requires.inside.short (let within = c.requires.inside.within in let run = c.requires.run in omega arith)
    (codes_between c.args.run.now c.args.at c.at.inside.start c.at.inside.len c.at.view_is) (c.deref.ensures.value ∙ c.in_ok-found.ensures) c.in_ok-first.ensures.first)
