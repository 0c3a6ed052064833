-- By the parts of a text.
use Rattle.std.specs.List.{list_all}
use Rattle.chew_spec_text.specs.KeyStroke.{is_key_stroke, keys_in}
use Rattle.chew_spec_text.proofs.Found.{at_value}
use Rattle.chew_spec_text.proofs.KeyNames.{keys_printed}
use Rattle.chew_spec_text.proofs.KeyRange.{keys_range}
use Rattle.chew_spec_text.proofs.KeysRead.{keys_read}
use Rattle.chew_spec_text.proofs.laws.keys.printed_keys.Goals as goal

pub returns : goal.returns
returns c = record {
  in_range = λ text keys h e. at_value (list_all is_key_stroke) (keys_in text) keys (keys_range text h) e;
  text = keys_printed;
  read = keys_read;
}
