-- Rows with no pair twice are a map once they are in image order.
use Rattle.std.proofs.Common.{◌∙◌, ap}
use Rattle.chew_spec_dictionary.specs.Dictionary.{is_map}
use Rattle.chew_spec_dictionary.proofs.Once.{map_of_rows}
use Rattle.chew_commands.proofs.build.image_of_rows.Goals as goal

pub write_image-requires-clause-map : goal.write_image-requires-clause-map
write_image-requires-clause-map c =
    ap is_map (c.as_slice.ensures.value ∙ c.in_ok-sort_rows.ensures.ok) ∙ map_of_rows c.args.rows.items c.requires.distinct
