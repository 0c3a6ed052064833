-- What layers that need nothing have.
use Rattle.std.proofs.Common.{◌≡◌, true, List, [], ◌∷◌, refl, ap, ap₂, sym, ◌∙◌, Option, Some, None}
use Rattle.chew_spec_dictionary.specs.Dictionary.{is_map}
use Rattle.chew_spec_dictionary.specs.History.{start_of, after}
use Rattle.chew_spec_dictionary.proofs.Maps.{after_keeps}
use Rattle.chew_spec_layers.specs.Layers as parts
use Rattle.chew_spec_layers.specs.Layers.{Layers, frozen_marks}
use Rattle.chew_spec_layers.specs.Mark.{Marked}
use Rattle.chew_spec_layers.specs.Need.{Nothing, need_of, need_by}
use Rattle.chew_spec_layers.specs.Overlay.{overlay}
use Rattle.chew_spec_layers.specs.Standing.{StandForMap}
use Rattle.chew_spec_layers.proofs.Overlays.{overlay_nothing}
use Rattle.chew_spec_layers.proofs.Standings.{map_held, now}

-- the base is a map
pub base_is_map : (s : Layers) → StandForMap s → is_map s.base ≡ true
base_is_map s st = ap is_map st.base ∙ after_keeps (start_of s.start) st.first st.map

-- nothing waits, and there is no fresh mark: the base is the map
pub base_is_all : (s : Layers) → StandForMap s → need_of s ≡ Nothing → s.base ≡ (now s).dictionary.pairs
base_is_all s st n = by s.frozen s.fresh refl refl n
  where
    by : (f : Option parts.Waiting) (m : List Marked) → s.frozen ≡ f → s.fresh ≡ m → need_by f m ≡ Nothing → s.base ≡ (now s).dictionary.pairs
    by None [] ef em e =
        sym (overlay_nothing s.base (base_is_map s st))
        ∙ sym (overlay_nothing (overlay s.base []) (ap is_map (overlay_nothing s.base (base_is_map s st)) ∙ base_is_map s st))
        ∙ ap₂ (λ (o : Option parts.Waiting) (l : List Marked). overlay (overlay s.base (frozen_marks o)) l) (sym ef) (sym em)
        ∙ map_held s st
    by None (first ∷ rest) ef em e = absurd (cc)
    by (Some waiting) m ef em e = absurd (cc)
