-- The bytes have no fault.
use Rattle.std.proofs.Common.{ap, ◌∙◌}
use Rattle.chew_spec_image.specs.Reading.{image_place, rows_in}
use Rattle.chew_trie_read.proofs.trie.Trie.image.Goals as goal

pub of-requires : goal.of-requires
of-requires c = ap image_place c.as_slice.ensures.value ∙ c.self.invariant

pub returns : goal.returns
returns c = c.of.ensures ∙ ap rows_in c.as_slice.ensures.value ∙ c.self.view_is
