-- The row of the pair is among those of the key.
use Rattle.std.proofs.Common.{List, Option, ap, ◌∙◌}
use Rattle.std.specs.Option.{option_map_or}
use Rattle.chew_spec_syllable.specs.Row.{Row}
use Rattle.chew_spec_dictionary.specs.System.{freq_of, greatest, peak_of}
use Rattle.chew_plain.proofs.KeyRows.{row_among}
use Rattle.chew_trie_read.proofs.Among.{freq_in}
use Rattle.chew_trie_read.proofs.trie.TrieLexicon.orig_and_peak.Goals as goal

pub returns-clause-orig : goal.returns-clause-orig
returns-clause-orig c =
    c.freq_among.ensures
    ∙ ap (freq_in c.args.phrase.now) c.places_of-places.ensures.value
    ∙ ap (λ (o : Option Row). option_map_or (λ (row : Row). row.freq) o 0) (row_among c.args.key.now c.args.phrase.now c.image-image.result)
    ∙ ap (λ (r : List Row). freq_of r c.args.key.now c.args.phrase.now) c.image-image.ensures

pub returns-clause-peak : goal.returns-clause-peak
returns-clause-peak c =
    c.peak_among.ensures ∙ ap greatest c.places_of-places.ensures.value ∙ ap (λ (r : List Row). peak_of r c.args.key.now) c.image-image.ensures
