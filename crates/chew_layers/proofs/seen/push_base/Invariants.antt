-- The hits so far, and those of the rows to come, are all.
use Rattle.std.proofs.Common.{length}
use Rattle.chew_spec_dictionary.specs.Look.{hit_of}
use Rattle.chew_plain.specs.Look.{interval}
use Rattle.chew_layers.proofs.Base.{IsPushed}
use Rattle.chew_layers.proofs.seen.push_base.Given as goal

abbrev pub invariant-loop-place : goal.invariant-loop-place
invariant-loop-place l = IsPushed (hit_of (interval l.start (length l.key))) l.base l.held.frozen.now l.held.fresh.now l.key l.initial.hits.items l.hits.items l.place l.place-end
