-- By its parts.
use Rattle.chew_spec_image.proofs.ImageRead.{length-image}
use Rattle.chew_spec_image.proofs.laws.images.length_of_an_image.Goals as goal

pub returns : goal.returns
returns c = length-image
