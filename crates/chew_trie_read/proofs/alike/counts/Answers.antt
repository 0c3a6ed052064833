-- Both count the same rows.
use Rattle.std.proofs.Common.{List, length, sym, ap, ◌∙◌}
use Rattle.chew_spec_syllable.specs.Row.{Row}
use Rattle.chew_spec_dictionary.specs.System.{rows_of}
use Rattle.chew_trie_read.proofs.alike.counts.Goals as goal

pub returns : goal.returns
returns g c = record {
  value = c.count-count.ensures.value;
  same = c.count-count.ensures.value ∙ ap (λ (r : List Row). length (rows_of r c.args.key.now)) c.requires ∙ sym c.count-same.ensures.value;
}
