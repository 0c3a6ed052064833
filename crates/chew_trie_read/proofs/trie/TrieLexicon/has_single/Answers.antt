-- There is a row where its places are not none.
use Rattle.std.proofs.Common.{List, ap, ◌∙◌}
use Rattle.chew_spec_syllable.specs.Row.{Row}
use Rattle.chew_spec_dictionary.specs.System.{has_single}
use Rattle.chew_trie_read.proofs.Together.{single}
use Rattle.chew_trie_read.proofs.trie.TrieLexicon.has_single.Goals as goal

pub returns : goal.returns
returns c =
    single c.image.result c.args.s c.places_of-places.result.start c.places_of-places.result.end c.places_of-places.ensures.order c.places_of-places.ensures.end c.places_of-places.ensures.value
    ∙ ap (λ (r : List Row). has_single r c.args.s) c.image.ensures
