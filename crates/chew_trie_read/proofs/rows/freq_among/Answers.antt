-- One row after the other.
use Rattle.std.proofs.Common.{sym, ◌∙◌}
use Rattle.chew_spec_syllable.specs.Row.{Row}
use Rattle.chew_trie_read.proofs.Among.{freq_here, freq_later}
use Rattle.chew_trie_read.proofs.rows.freq_among.Goals as goal

pub returns-then-eq : goal.returns-then-eq
returns-then-eq c =
    let row : Row = record { key = c.row-row.ensures.0; phrase = c.row-row.result.phrase.now; freq = c.row-row.result.freq; time = c.row-row.result.time } in
    freq_here c.args.image.now c.loop-place.place c.args.end row c.args.phrase.now _ c.loop-place-test.true c.requires.within c.row-row.ensures.1 (sym c.eq.ensures ∙ c.if-eq.true) c.loop-place.invariant

pub loop-place-preserved : goal.loop-place-preserved
loop-place-preserved c =
    let row : Row = record { key = c.row-row.ensures.0; phrase = c.row-row.result.phrase.now; freq = c.row-row.result.freq; time = c.row-row.result.time } in
    freq_later c.args.image.now c.loop-place.place c.args.end row c.args.phrase.now _ c.loop-place-test.true c.requires.within c.row-row.ensures.1 (sym c.eq.ensures ∙ c.if-eq.false) c.loop-place.invariant
