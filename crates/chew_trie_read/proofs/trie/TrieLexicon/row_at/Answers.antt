-- The row that stands at the place.
use Rattle.std.proofs.Common.{List, sym, ap, ◌∙◌}
use Rattle.std.specs.List.{slice_get}
use Rattle.chew_spec_syllable.specs.Row.{Row}
use Rattle.chew_trie_read.proofs.trie.TrieLexicon.row_at.Goals as goal

pub returns : goal.returns
returns c = (c.row.ensures.0, ap (λ (r : List Row). slice_get r c.args.place) (sym c.image.ensures) ∙ c.row.ensures.1)
