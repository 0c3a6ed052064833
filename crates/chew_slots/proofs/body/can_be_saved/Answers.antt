-- By the image's bytes, which have no fault.
use Rattle.std.proofs.Common.{Ok, arith, ap, ◌∙◌}
use Rattle.chew_spec_image.specs.Reading.{image_reading}
use Rattle.chew_spec_image.proofs.Unique.{place_none}
use Rattle.chew_slots.proofs.body.can_be_saved.Goals as goal

pub returns : goal.returns
returns c = record {
  first = c.requires.first;
  seq = omega arith;
  life = omega arith;
  image = ap image_reading c.bytes-image.ensures.image ∙ place_none c.bytes-image.result.now c.bytes-image.ensures.whole ∙ ap Ok c.bytes-image.ensures.rows;
  few = c.requires.few;
}
