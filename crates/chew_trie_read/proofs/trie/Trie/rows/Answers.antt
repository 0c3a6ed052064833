-- The rows of a key are in the order of their phrases already.
use Rattle.std.proofs.Common.{◌≡◌, true, List, map, sym, ap, ◌∙◌, subst}
use Rattle.chew_spec_syllable.specs.Row.{Row}
use Rattle.chew_spec_dictionary.specs.Dictionary.{is_map}
use Rattle.chew_spec_dictionary.specs.System.{rows_under}
use Rattle.chew_spec_dictionary.proofs.Rows.{rows_of_map}
use Rattle.chew_trie_read.specs.Rest.{lent}
use Rattle.chew_trie_read.proofs.trie.Trie.rows.Goals as goal

pub returns : goal.returns
returns c =
    let is = subst (λ (r : List Row). is_map r ≡ true) c.image-image.ensures c.places_of-places.ensures.map in
    c.of.ensures ∙ ap (map lent) (c.places_of-places.ensures.value ∙ ap (λ (r : List Row). rows_under r c.args.key.now) c.image-image.ensures ∙ sym (rows_of_map c.args.self.now c.args.key.now is))
