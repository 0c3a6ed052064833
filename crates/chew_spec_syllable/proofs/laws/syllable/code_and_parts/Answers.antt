-- By the places of a code.
use Rattle.chew_spec_syllable.proofs.CodeParts.{parts_back, code_back, code_is, code_at_most}
use Rattle.chew_spec_syllable.proofs.laws.syllable.code_and_parts.Goals as goal

pub returns : goal.returns
returns c = record { parts = parts_back; code = code_back; is_code = code_is; greatest = code_at_most }
