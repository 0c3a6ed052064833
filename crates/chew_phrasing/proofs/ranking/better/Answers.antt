-- The other where it is better, and else the best so far.
use Rattle.std.proofs.Common.{sym, refl, ◌∙◌}
use Rattle.chew_phrasing.specs.Grid.{piece_in}
use Rattle.chew_phrasing.proofs.Topping.{IsTop-taken}
use Rattle.chew_phrasing.proofs.ranking.better.Goals as goal

pub returns-then-is_beaten-clause-top : goal.returns-then-is_beaten-clause-top
returns-then-is_beaten-clause-top c = λ seen h.
    IsTop-taken (piece_in c.args.grid.now) c.args.levels.now c.args.grid.now.cells seen c.args.best c.args.entry c.args.entry refl c.requires.best
    (λ mine yours a b. sym (c.is_beaten.ensures mine yours a b) ∙ c.if-is_beaten.true) h
