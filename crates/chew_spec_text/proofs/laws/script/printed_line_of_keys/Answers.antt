-- By the only line.
use Rattle.chew_spec_text.proofs.ScriptPrinted.{keys_given, key_too_many, key_unnamed}
use Rattle.chew_spec_text.proofs.laws.script.printed_line_of_keys.Goals as goal

pub returns : goal.returns
returns c = record { read = keys_given; one_more = key_too_many; key_first = key_unnamed }
