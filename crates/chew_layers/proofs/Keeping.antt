-- The map that layers hold before and after each call.
use Rattle.std.proofs.Common.{◌≡◌, true, List, [], ◌∷◌, ◌++◌, ap, ap₂, sym, ◌∙◌, Option, None}
use Rattle.chew_spec_syllable.specs.Row.{Row}
use Rattle.chew_spec_dictionary.specs.Dictionary.{Dictionary, is_map}
use Rattle.chew_spec_dictionary.specs.History.{Entry, after, answer, start_of}
use Rattle.chew_spec_dictionary.proofs.Maps.{after_keeps}
use Rattle.chew_spec_layers.specs.Layers.{Layers, Waiting, frozen_marks, map_in}
use Rattle.chew_spec_layers.specs.Overlay.{overlay}
use Rattle.chew_spec_layers.specs.Standing.{StandForMap}
use Rattle.chew_spec_layers.proofs.Needs.{base_is_map}
use Rattle.chew_spec_layers.proofs.Overlays.{overlay_map, overlay_nothing}
use Rattle.chew_spec_layers.proofs.Standings.{entry_later, map_held, now}

-- what new layers hold
pub new_map : (rows : List Row) → is_map rows ≡ true → overlay (overlay rows []) [] ≡ rows
new_map rows m = ap (λ (l : List Row). overlay l []) (overlay_nothing rows m) ∙ overlay_nothing rows m

module _ (s : Layers) (st : StandForMap s) where
  -- the map that they hold is one
  pub held_is_map : is_map (map_in s) ≡ true
  held_is_map = ap is_map (map_held s st) ∙ after_keeps (start_of s.start) s.journal st.map

  -- a freeze leaves the map
  pub frozen_map : s.frozen ≡ None → overlay (overlay s.base s.fresh) [] ≡ map_in s
  frozen_map e =
      overlay_nothing (overlay s.base s.fresh) (overlay_map s.base s.fresh (base_is_map s st) st.fresh.layer)
      ∙ ap (λ (l : List Row). overlay l s.fresh) (sym (overlay_nothing s.base (base_is_map s st)) ∙ ap (λ (o : Option Waiting). overlay s.base (frozen_marks o)) (sym e))

  pub below_frozen : s.frozen ≡ None → overlay s.base s.fresh ≡ map_in s
  below_frozen e = sym (overlay_nothing (overlay s.base s.fresh) (overlay_map s.base s.fresh (base_is_map s st) st.fresh.layer)) ∙ frozen_map e

  -- what waits over the base is a map
  pub below_is_map : is_map (overlay s.base (frozen_marks s.frozen)) ≡ true
  below_is_map = overlay_map s.base (frozen_marks s.frozen) (base_is_map s st) st.frozen.layer

  -- an install leaves the map
  pub installed_map : (rows : List Row) → rows ≡ overlay s.base (frozen_marks s.frozen) → overlay (overlay rows []) s.fresh ≡ map_in s
  installed_map rows e = ap (λ (l : List Row). overlay l s.fresh) (overlay_nothing rows (ap is_map e ∙ below_is_map) ∙ e)

  pub below_installed : (rows : List Row) → rows ≡ overlay s.base (frozen_marks s.frozen) → overlay rows [] ≡ overlay s.base (frozen_marks s.frozen)
  below_installed rows e = overlay_nothing rows (ap is_map e ∙ below_is_map) ∙ e

-- what layers hold after an entry more, where they stand for the map then
pub later_map : (s now : Layers) (e : Entry) → StandForMap s → StandForMap now → now.start ≡ s.start → now.journal ≡ s.journal ++ e ∷ []
    → map_in now ≡ (answer (after (start_of s.start) s.journal) e.call).point.dictionary.pairs
later_map s now e st later start journal =
    map_held now later
    ∙ ap₂ (λ (d : Dictionary) (j : List Entry). (after (start_of d) j).dictionary.pairs) start journal
    ∙ ap (λ q. q.dictionary.pairs) (entry_later s e)
