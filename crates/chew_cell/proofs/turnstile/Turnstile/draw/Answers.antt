-- The step keeps the rule.
use Rattle.std.proofs.Common.{rules}
use mathlib.Core.Option.{none}
use Rattle.atomic_table.specs.Table.{step}
use Rattle.chew_cell.proofs.Tickets.{draws_as}
use Rattle.chew_cell.proofs.Glue.{drew-waits, drew-same}
use Rattle.chew_cell.proofs.turnstile.Turnstile.draw.Goals as goal

pub fetch_add-requires : goal.fetch_add-requires
fetch_add-requires g c = (search rules, search rules, draws_as g.S.Chronicle.entries g.S.Chronicle.start _ _ _ _ (step 0 1 1 0 none) c.requires.idle c.requires.numbered)

pub returns-clause-same : goal.returns-clause-same
returns-clause-same g c = drew-same c.args.seat.now.me c.fetch_add.new.seat.me c.fetch_add.result (step 0 1 1 0 none) c.fetch_add.ensures.2

pub returns-clause-waits : goal.returns-clause-waits
returns-clause-waits g c = drew-waits c.args.seat.now.me c.fetch_add.new.seat.me c.fetch_add.result (step 0 1 1 0 none) c.requires.idle c.fetch_add.ensures.2
