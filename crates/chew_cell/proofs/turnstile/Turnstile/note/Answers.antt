-- The step keeps the rule.
use Rattle.std.proofs.Common.{rules, ap}
use Rattle.chew_cell.proofs.Numbering.{splits_as}
use Rattle.chew_cell.proofs.turnstile.Turnstile.note.Goals as goal

pub split_seat-requires : goal.split_seat-requires
split_seat-requires g c = (search rules, search rules, splits_as g.S.Chronicle.entries g.S.Chronicle.start 1 _ _ _ (ap (λ m. m.0) c.requires.idle))
