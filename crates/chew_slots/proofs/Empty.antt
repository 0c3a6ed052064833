-- The image of no rows stands for no rows: it computes.
use Rattle.std.specs.Prelude.{◌≡◌, ℕ, ◌++◌, List, [], ◌∷◌, codes, replicate, None, refl}
use Rattle.std.specs.Str.{chars, is_utf8}
use lib.Utf8.{encode}
use Rattle.chew_spec_syllable.specs.Phrase.{is_phrase}
use Rattle.chew_spec_image.specs.Fields.{header_bytes, node_at, node_bytes, row_at, row_bytes}
use Rattle.chew_spec_image.specs.Image.{image}
use Rattle.chew_spec_image.specs.Reading.{image_place, image_reading, rows_in}

abbrev pub empty_image : List ℕ
empty_image = codes "CHEWTRI1" ++ (replicate 4 0 ++ (1 ∷ (replicate 11 0 ++ (1 ∷ replicate 11 0))))

pub empty-place : image_place empty_image ≡ None
unfolding image image_reading header_bytes node_bytes row_bytes node_at row_at is_phrase is_utf8 chars encode
empty-place = refl

pub empty-rows : rows_in empty_image ≡ []
unfolding image image_reading header_bytes node_bytes row_bytes node_at row_at is_phrase is_utf8 chars encode
empty-rows = refl
