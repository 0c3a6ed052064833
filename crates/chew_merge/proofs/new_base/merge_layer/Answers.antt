-- The rows are a map that an image can hold, and what is written of them reads as them.
use Rattle.std.proofs.Common.{ap, ◌∙◌}
use Rattle.chew_spec_dictionary.specs.Dictionary.{is_map}
use Rattle.chew_merge.proofs.new_base.merge_layer.Goals as goal

pub write_image-requires-clause-map : goal.write_image-requires-clause-map
write_image-requires-clause-map c = ap is_map (c.as_slice.ensures.value ∙ c.in_ok-rows.ensures.rows) ∙ c.in_ok-rows.ensures.map

pub of_image-requires : goal.of_image-requires
of_image-requires c = c.in_ok-bytes.ensures.whole

pub returns : goal.returns
returns c = c.of_image.ensures ∙ c.in_ok-bytes.ensures.rows ∙ c.as_slice.ensures.value ∙ c.in_ok-rows.ensures.rows
