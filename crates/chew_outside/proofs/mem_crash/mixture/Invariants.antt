-- A byte for each so far.
use Rattle.std.proofs.Common.{◌≤◌, vec_len}
use Rattle.chew_outside.proofs.mem_crash.mixture.Given as goal

abbrev pub invariant-mixing : goal.invariant-mixing
invariant-mixing l = vec_len l.mixed ≤ l.byte-index
