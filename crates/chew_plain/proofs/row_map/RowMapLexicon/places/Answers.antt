-- A map has no pair twice.
use Rattle.chew_spec_dictionary.proofs.Rows.{map_has_no_pair_twice}
use Rattle.chew_plain.proofs.row_map.RowMapLexicon.places.Goals as goal

pub returns-clause-pairs : goal.returns-clause-pairs
returns-clause-pairs c = map_has_no_pair_twice c.args.self.now c.places_of-places.ensures.map
