-- The entries before have another name.
use Rattle.std.proofs.Common.{◌≡◌, length, map}
use Rattle.chew_script.specs.Table.{beside}
use Rattle.chew_script.proofs.names.looked_up.Given as goal

abbrev pub decreases-looking : goal.decreases-looking
decreases-looking g l = length l.table

abbrev pub invariant-looking : goal.invariant-looking
invariant-looking g l = beside l.name (map (λ entry. (entry.0.now, entry.1)) l.table) ≡ beside l.name (map (λ entry. (entry.0.now, entry.1)) l.initial.table)
