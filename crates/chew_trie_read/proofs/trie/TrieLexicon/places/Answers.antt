-- The rows of a key are in the order of their phrases already, and no pair stands twice.
use Rattle.std.proofs.Common.{◌≡◌, true, List, sym, ◌∙◌, subst}
use Rattle.chew_spec_syllable.specs.Row.{Row}
use Rattle.chew_spec_dictionary.specs.Dictionary.{is_map}
use Rattle.chew_spec_dictionary.specs.System.{rows_under}
use Rattle.chew_spec_dictionary.proofs.Rows.{map_has_no_pair_twice, rows_of_map}
use Rattle.chew_trie_read.specs.Rest.{rows_between}
use Rattle.chew_trie_read.proofs.trie.TrieLexicon.places.Goals as goal

pub returns-clause-value : goal.returns-clause-value
returns-clause-value c =
    let map = subst (λ (r : List Row). is_map r ≡ true) c.image.ensures c.places_of.ensures.map in
    let under = subst (λ (r : List Row). rows_between r c.places_of.result.start c.places_of.result.end ≡ rows_under r c.args.key.now) c.image.ensures c.places_of.ensures.value in
    under ∙ sym (rows_of_map c.args.self.now c.args.key.now map)

pub returns-clause-pairs : goal.returns-clause-pairs
returns-clause-pairs c = map_has_no_pair_twice c.args.self.now (subst (λ (r : List Row). is_map r ≡ true) c.image.ensures c.places_of.ensures.map)
