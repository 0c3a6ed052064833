-- By the reading of an image.
use Rattle.std.proofs.Common.{ap}
use Rattle.std.specs.Result.{result_err}
use Rattle.chew_spec_image.proofs.ImageRead.{one_list, read_again}
use Rattle.chew_spec_image.proofs.laws.images.images_are_read.Goals as goal

pub returns : goal.returns
returns c = record { reading = read_again; place = λ rows e. ap result_err (read_again rows e); one_list = one_list }
