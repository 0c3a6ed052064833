-- The rows so far don't have the phrase.
use Rattle.std.proofs.Common.{◌≡◌}
use Rattle.chew_trie_read.specs.Rest.{rows_between}
use Rattle.chew_trie_read.proofs.Among.{freq_in}
use Rattle.chew_trie_read.proofs.rows.freq_among.Given as goal

abbrev pub invariant-loop-place : goal.invariant-loop-place
invariant-loop-place l = freq_in l.phrase (rows_between l.image l.place l.end) ≡ freq_in l.phrase (rows_between l.image l.start l.end)
