-- The bytes are the image of their rows.
use Rattle.std.proofs.Common.{ap, sym, ◌∙◌}
use Rattle.chew_spec_image.specs.Image.{image}
use Rattle.chew_spec_image.specs.Reading.{image_place, rows_in}
use Rattle.chew_trie_read.proofs.trie.Trie.bytes.Goals as goal

pub are_an_image-requires : goal.are_an_image-requires
are_an_image-requires c = ap image_place c.as_slice-bytes.ensures.value ∙ c.self.invariant

pub returns-clause-image : goal.returns-clause-image
returns-clause-image c = ap image (sym c.self.view_is ∙ ap rows_in (sym c.as_slice-bytes.ensures.value)) ∙ c.are_an_image.ensures

pub returns-clause-rows : goal.returns-clause-rows
returns-clause-rows c = ap rows_in c.as_slice-bytes.ensures.value ∙ c.self.view_is

pub returns-clause-whole : goal.returns-clause-whole
returns-clause-whole c = ap image_place c.as_slice-bytes.ensures.value ∙ c.self.invariant
