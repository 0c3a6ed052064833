-- By the columns.
use Rattle.chew_spec_layout.proofs.OtherKeys.{table_other, letters_other, pinyin_other}
use Rattle.chew_spec_layout.proofs.laws.keys.other_keys.Goals as goal

pub returns : goal.returns
returns c = record { table = table_other; letters = letters_other; pinyin = pinyin_other }
