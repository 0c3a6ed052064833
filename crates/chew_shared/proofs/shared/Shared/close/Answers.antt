-- The layers are those that the cell gives back.
use Rattle.std.proofs.Common.{◌∷◌, All, Contains, map, sym, subst}
use Rattle.chew_spec_dictionary.specs.History.{Entry}
use Rattle.chew_spec_layers.specs.Layers.{Layers}
use Rattle.chew_shared.proofs.shared.Shared.close.Goals as goal

pub returns-clause-known : goal.returns-clause-known
returns-clause-known c =
    subst (λ (s : Layers). All (λ (e : Entry). Contains (map (λ p. p.who) (c.args.keeper ∷ c.args.passes.items)) e.who) s.journal) (sym c.into_layers.ensures.same) c.close.ensures.known
