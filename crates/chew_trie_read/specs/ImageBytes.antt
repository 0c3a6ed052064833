-- Bytes that are an image, with the numbers in their header.
use Rattle.std.specs.Prelude.{◌≡◌, ℕ, List, None}
use Rattle.chew_spec_image.specs.Fields.{AreBytes, Counts}
use Rattle.chew_spec_image.specs.Reading.{counts_in, image_place}

pub record IsStored (bytes : List ℕ) (counts : Counts) : Type 0 where
  pub are : AreBytes bytes
  pub whole : image_place bytes ≡ None
  pub counted : counts ≡ counts_in bytes
