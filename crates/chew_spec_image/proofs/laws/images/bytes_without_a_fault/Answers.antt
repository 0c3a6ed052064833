-- By what was read.
use Rattle.chew_spec_image.specs.Reading.{rows_in}
use Rattle.chew_spec_image.proofs.Unique.{is_read, place_none}
use Rattle.chew_spec_image.proofs.laws.images.bytes_without_a_fault.Goals as goal

pub returns : goal.returns
returns c = record {
  image = λ bytes are e. (is_read bytes (rows_in bytes) are (place_none bytes e)).image;
  map = λ bytes are e. (is_read bytes (rows_in bytes) are (place_none bytes e)).map;
  each = λ bytes are e. (is_read bytes (rows_in bytes) are (place_none bytes e)).each;
  few = λ bytes are e. (is_read bytes (rows_in bytes) are (place_none bytes e)).few;
}
