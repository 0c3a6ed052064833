-- Those so far are hits.
use Rattle.std.proofs.Common.{◌≡◌, true, take}
use Rattle.std.specs.List.{list_all}
use Rattle.chew_spec_dictionary.specs.Call.{is_hit}
use Rattle.chew_plain.proofs.kept.all_are_hits.Given as goal

abbrev pub invariant-loop-hit : goal.invariant-loop-hit
invariant-loop-hit l = list_all is_hit (take l.hit-index l.hits) ≡ true
