-- Both look for the same row.
use Rattle.std.proofs.Common.{List, sym, ap, ◌∙◌}
use Rattle.chew_spec_syllable.specs.Row.{Row}
use Rattle.chew_spec_dictionary.specs.System.{has_single}
use Rattle.chew_trie_read.proofs.alike.singles.Goals as goal

pub returns : goal.returns
returns g c = record {
  value = c.has_single-single.ensures;
  same = c.has_single-single.ensures ∙ ap (λ (r : List Row). has_single r c.args.syllable) c.requires ∙ sym c.has_single-same.ensures;
}
