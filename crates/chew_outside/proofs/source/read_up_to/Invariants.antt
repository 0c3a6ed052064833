-- The text is what was read, and no fault was counted.
use Rattle.std.proofs.Common.{◌≡◌, ◌-◌, ◌≤◌, vec_len}
use Rattle.chew_spec_outside.specs.Source.{ReadsText}
use Rattle.chew_outside.proofs.source.read_up_to.Given as goal

abbrev pub invariant-reading : goal.invariant-reading
invariant-reading g l = record {
  within : vec_len l.text ≤ l.most;
  text : ReadsText (g.S.Source.left l.fn.source) (g.S.Source.left l.source) l.text.items;
  faults : g.S.Source.faults l.source ≡ g.S.Source.faults l.fn.source;
}

abbrev pub decreases-reading : goal.decreases-reading
decreases-reading g l = l.most - vec_len l.text
