-- The counts so far.
use Rattle.std.proofs.Common.{◌≡◌, length, map, take}
use Rattle.chewing_cli.proofs.finishing.counts_of.Given as goal

abbrev pub invariant-loop-end : goal.invariant-loop-end
invariant-loop-end l = record {
  counted : l.counts.items ≡ map (λ end. end.handled) (take l.end-index l.ends);
  each : length l.counts.items ≡ l.end-index;
}
