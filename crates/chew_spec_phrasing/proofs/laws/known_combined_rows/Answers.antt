-- Each list computes.
use Rattle.std.proofs.Common.{refl}
use Rattle.std.specs.Char.{encode_utf8}
use Rattle.std.specs.Str.{chars}
use Rattle.chew_spec_dictionary.specs.FiveRows.{five_rows}
use Rattle.chew_spec_phrasing.specs.Best.{best_of}
use Rattle.chew_spec_phrasing.specs.CombinedRows.{combined_hits}
use Rattle.chew_spec_phrasing.specs.Usable.{piece_at}
use Rattle.chew_spec_phrasing.proofs.laws.known_combined_rows.Goals as goal

pub returns-clause-ce : goal.returns-clause-ce
unfolding five_rows encode_utf8
returns-clause-ce c = refl

pub returns-clause-shi : goal.returns-clause-shi
unfolding five_rows encode_utf8
returns-clause-shi c = refl

pub returns-clause-ce_shi : goal.returns-clause-ce_shi
unfolding five_rows encode_utf8
returns-clause-ce_shi c = refl

pub returns-clause-hits : goal.returns-clause-hits
unfolding combined_hits five_rows encode_utf8
returns-clause-hits c = refl

pub returns-clause-hidden : goal.returns-clause-hidden
unfolding five_rows encode_utf8
returns-clause-hidden c = refl

pub returns-clause-best : goal.returns-clause-best
unfolding best_of combined_hits piece_at chars
returns-clause-best c = refl

pub returns-clause-own : goal.returns-clause-own
unfolding five_rows encode_utf8
returns-clause-own c = refl

pub returns-clause-hidden_beside : goal.returns-clause-hidden_beside
unfolding five_rows encode_utf8
returns-clause-hidden_beside c = refl

pub returns-clause-single : goal.returns-clause-single
unfolding five_rows encode_utf8
returns-clause-single c = refl
