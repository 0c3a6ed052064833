-- One entry more of the one, of the other, or of both.
use Rattle.std.proofs.Common.{sym, ap, arith}
use Rattle.chew_phrasing.specs.Table.{Entry}
use Rattle.chew_phrasing.proofs.Merging.{Contains-at, all_merged, both_more, other_more, own_more, same_counts}
use Rattle.chew_phrasing.proofs.merge.merge.Goals as goal

pub both-preserved-in-Less : goal.both-preserved-in-Less
both-preserved-in-Less c = record {
  own_within = omega arith;
  other_within = omega arith;
  merged = own_more c.args.own.now c.args.other.now c.both.all.items c.push.new.self.items c.both.from_own c.both.from_other c.index-own-from_own.result
      c.both-test.true c.index-own-from_own.is c.in_ok-push-in-Less.ensures.items c.both.invariant.merged;
}

pub both-preserved-in-Greater : goal.both-preserved-in-Greater
both-preserved-in-Greater c = record {
  own_within = omega arith;
  other_within = omega arith;
  merged = other_more c.args.own.now c.args.other.now c.both.all.items c.push-in-Greater.new.self.items c.both.from_own c.both.from_other c.index-other-from_other.result
      c.if-from_other-other.true c.index-other-from_other.is c.in_ok-push-in-Greater.ensures.items c.both.invariant.merged;
}

pub greater-requires-clause-counts : goal.greater-requires-clause-counts
greater-requires-clause-counts c =
    same_counts c.index-own-from_own.result c.index-other-from_other.result c.mine.inside.counts c.yours.inside.counts
    (ap (λ (e : Entry). e.counts) c.mine.view_is) (ap (λ (e : Entry). e.counts) c.yours.view_is) (sym c.in-Equal.ensures)

pub greater-requires-clause-longer : goal.greater-requires-clause-longer
greater-requires-clause-longer c =
    c.requires.longer c.index-own-from_own.result c.index-other-from_other.result
    (Contains-at c.args.own.now c.both.from_own c.index-own-from_own.result c.both-test.true c.index-own-from_own.is)
    (Contains-at c.args.other.now c.both.from_other c.index-other-from_other.result c.if-from_other-other.true c.index-other-from_other.is)

pub both-preserved : goal.both-preserved
both-preserved c = record {
  own_within = omega arith;
  other_within = omega arith;
  merged = both_more c.args.own.now c.args.other.now c.both.all.items c.push-in-Equal.new.self.items c.both.from_own c.both.from_other
      c.index-own-from_own.result c.index-other-from_other.result c.greater.result
      c.both-test.true c.if-from_other-other.true c.index-own-from_own.is c.index-other-from_other.is c.greater.ensures c.in_ok-push-in-Equal.ensures.items c.both.invariant.merged;
}

pub returns : goal.returns
returns c =
    all_merged c.args.own.now c.args.other.now c.both.all.items c.extend_from_slice.new.self.items c.extend_from_slice-2.new.self.items c.both.from_own c.both.from_other
    c.in_ok-extend_from_slice.ensures.items c.in_ok-extend_from_slice-2.ensures.items c.both.invariant.merged
