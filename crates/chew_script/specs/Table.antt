-- A table of names, and what stands beside each.
use Rattle.std.specs.Prelude.{ℕ, List, find, bytes_eq, Option}
use Rattle.std.specs.Option.{option_map}

-- a name and its value
abbrev pub Named : Type 0 → Type 0
Named V = List ℕ × V

-- the value beside a name
abbrev pub beside : {V : Type 0} → List ℕ → List (Named V) → Option V
beside {V} name table = option_map (λ (entry : Named V). entry.1) (find (λ (entry : Named V). bytes_eq entry.0 name) table)
