-- The newest layer that has a mark says it.
use Rattle.std.proofs.Common.{◌∙◌}
use Rattle.chew_buffer.specs.Marks.{meaning}
use Rattle.chew_layers.proofs.Saying.{mark_in_range, said_below, said_fresh, said_frozen}
use Rattle.chew_layers.proofs.held.Held.said.Goals as goal

pub said_by-requires : goal.said_by-requires
said_by-requires c = record { range = mark_in_range c.args.self.fresh.now c.args.key.now c.args.phrase.now (meaning c.in-Some.mark) c.in-Some.ensures.proper c.in-Some.ensures.value }

pub said_by-requires-in-Some-get : goal.said_by-requires-in-Some-get
said_by-requires-in-Some-get c = record { range = mark_in_range c.args.self.frozen.now c.args.key.now c.args.phrase.now (meaning c.in-Some-get.mark) c.in-Some-get.ensures.proper c.in-Some-get.ensures.value }

pub returns-in-Some-clause-value : goal.returns-in-Some-clause-value
returns-in-Some-clause-value c =
    c.said_by.ensures.value c.args.key.now c.args.phrase.now
    ∙ said_fresh c.args.self.base.now c.args.self.frozen.now c.args.self.fresh.now c.args.key.now c.args.phrase.now c.keeps.ensures.map c.keeps.ensures.frozen c.keeps.ensures.fresh
    (meaning c.in-Some.mark) c.in-Some.ensures.value

pub returns-in-Some-get-clause-value : goal.returns-in-Some-get-clause-value
returns-in-Some-get-clause-value c =
    c.said_by-in-Some-get.ensures.value c.args.key.now c.args.phrase.now
    ∙ said_frozen c.args.self.base.now c.args.self.frozen.now c.args.self.fresh.now c.args.key.now c.args.phrase.now c.keeps.ensures.map c.keeps.ensures.frozen c.keeps.ensures.fresh
    (meaning c.in-Some-get.mark) c.in-None.ensures.value c.in-Some-get.ensures.value

pub returns-in-None-get-clause-value : goal.returns-in-None-get-clause-value
returns-in-None-get-clause-value c =
    c.said_by_base.ensures.value
    ∙ said_below c.args.self.base.now c.args.self.frozen.now c.args.self.fresh.now c.args.key.now c.args.phrase.now c.keeps.ensures.map c.keeps.ensures.frozen c.keeps.ensures.fresh
    c.in-None.ensures.value c.in-None-get.ensures.value
