-- It computes.
use Rattle.std.proofs.Common.{ap, ◌∙◌}
use Rattle.chew_spec_image.specs.Reading.{image_place, rows_in}
use Rattle.chew_slots.proofs.Empty.{empty-place, empty-rows}
use Rattle.chew_slots.proofs.recovery.empty_map.Goals as goal

pub of_image-requires : goal.of_image-requires
of_image-requires c = ap image_place c.in-Ok.ensures.items ∙ empty-place

pub returns-clause-map : goal.returns-clause-map
returns-clause-map c = c.of_image.ensures ∙ ap rows_in c.in-Ok.ensures.items ∙ empty-rows
