-- The peak so far, and the rows to come, give the greatest.
use Rattle.std.proofs.Common.{◌≡◌}
use Rattle.chew_spec_dictionary.specs.System.{greatest}
use Rattle.chew_trie_read.specs.Rest.{rows_between}
use Rattle.chew_trie_read.proofs.Among.{peak_from}
use Rattle.chew_trie_read.proofs.rows.peak_among.Given as goal

abbrev pub invariant-loop-place : goal.invariant-loop-place
invariant-loop-place l = peak_from l.peak (rows_between l.image l.place l.end) ≡ greatest (rows_between l.image l.start l.end)
