-- The rows so far, each as a hit.
use Rattle.std.proofs.Common.{◌≡◌, take, map}
use Rattle.chew_spec_dictionary.specs.Look.{hit_of}
use Rattle.chew_plain.specs.Look.{interval}
use Rattle.chew_plain.proofs.look.as_hits.Given as goal

abbrev pub invariant-loop-row : goal.invariant-loop-row
invariant-loop-row l = l.hits.items ≡ map (hit_of (interval l.start l.len)) (take l.row-index l.rows)
