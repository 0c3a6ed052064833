-- One row after the other.
use Rattle.std.proofs.Common.{◌≡◌, max, rules}
use Rattle.chew_spec_syllable.specs.Row.{Row}
use Rattle.chew_trie_read.proofs.Among.{peak_more}
use Rattle.chew_trie_read.proofs.rows.peak_among.Goals as goal

pub loop-place-preserved : goal.loop-place-preserved
loop-place-preserved c =
    let row : Row = record { key = c.row.ensures.0; phrase = c.row.result.phrase.now; freq = c.row.result.freq; time = c.row.result.time } in
    let next : c.max-peak.result ≡ max c.loop-place.peak c.row.result.freq = search rules in
    peak_more c.args.image.now c.loop-place.place c.args.end row c.loop-place.peak c.max-peak.result _ c.loop-place-test.true c.requires.within c.row.ensures.1 next c.loop-place.invariant
