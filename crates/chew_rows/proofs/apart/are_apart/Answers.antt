-- The rows that are lent are all rows.
use Rattle.std.proofs.Common.{◌≡◌, true, List, ap, subst, ◌∙◌}
use Rattle.std.proofs.lemmas.List.{take_all}
use Rattle.chew_spec_syllable.specs.Row.{Row, no_pair_twice}
use Rattle.chew_rows.proofs.Rising.{lent_rows}
use Rattle.chew_rows.proofs.apart.are_apart.Goals as goal

pub returns : goal.returns
returns c = λ t.
    let all = c.loop-row.invariant ∙ take_all c.loop-row.row-index c.args.rows.now c.loop-row-test.false in
    let lent = ap lent_rows c.as_mut_slice.ensures.value ∙ all in
    subst (λ (rows : List Row). no_pair_twice rows ≡ true) lent (c.are_apart_once_sorted.ensures t)
