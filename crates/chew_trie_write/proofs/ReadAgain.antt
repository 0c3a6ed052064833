-- What is written reads as the rows that it was given.
use Rattle.std.proofs.Common.{◌≡◌, ℕ, ◌≤◌, true, ◌&&◌, leb, List, [], length, None, ap, ◌∙◌}
use Rattle.std.specs.List.{list_all}
use Rattle.std.specs.Result.{result_err, result_unwrap_or}
use Rattle.std.proofs.lemmas.Bool.{and_from, le-leb}
use Rattle.chew_spec_syllable.specs.Row.{Row, is_row}
use Rattle.chew_spec_dictionary.specs.Dictionary.{is_map}
use Rattle.chew_spec_image.specs.Image.{can_hold, has_time, image, rows_limit}
use Rattle.chew_spec_image.specs.Reading.{image_place, rows_in}
use Rattle.chew_spec_image.proofs.ImageRead.{read_again}

module _ (rows : List Row) (bytes : List ℕ) (map : is_map rows ≡ true) (each : list_all is_row rows ≡ true) (times : list_all has_time rows ≡ true) (few : length rows ≤ 250_000) (is : bytes ≡ image rows) where
  can : can_hold rows ≡ true
  can = and_from (is_map rows) _ map (and_from (list_all is_row rows) _ each (and_from (list_all has_time rows) _ times (le-leb (length rows) rows_limit few)))

  pub rows_again : rows_in bytes ≡ rows
  rows_again = ap rows_in is ∙ ap (λ r. result_unwrap_or r []) (read_again rows can)

  pub no_fault : image_place bytes ≡ None
  no_fault = ap image_place is ∙ ap result_err (read_again rows can)
