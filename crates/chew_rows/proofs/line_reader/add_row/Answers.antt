-- The set has the pair of the new row besides.
use Rattle.std.proofs.Common.{◌≡◌, sym, ◌∙◌}
use Rattle.chew_rows.proofs.Pairs.{pair_added}
use Rattle.chew_rows.proofs.line_reader.add_row.Goals as goal

pub returns-in-Ok-push-clause-pairs : goal.returns-in-Ok-push-clause-pairs
returns-in-Ok-push-clause-pairs c =
    let key : c.of.result.key.items ≡ c.args.row.key = cc in
    pair_added c.args.rows.now.items c.push.new.self.items c.args.row c.args.pairs.now c.insert.new.self c.of.result c.requires.pairs key (c.of.ensures.phrase ∙ sym c.requires.phrase) c.in-Ok.ensures.updates c.in-Ok-push.ensures.items
