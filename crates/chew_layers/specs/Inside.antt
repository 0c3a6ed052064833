-- The layers that the code's fields stand for, and what they keep.
use Rattle.std.specs.Prelude.{◌≡◌, ◌≤◌, ◌+◌, [], length, map, None, option_map, IsSome}
use Rattle.std.specs.Arc.{arc_value}
use Rattle.std.specs.Option.{option_map_or}
use Rattle.std.specs.Vec.{vec_len, vec_capacity}
use Rattle.chew_spec_layers.specs.Layers as spec
use Rattle.chew_spec_layers.specs.Layers.{map_in}
use Rattle.chew_spec_layers.specs.Overlay.{overlay}
use Rattle.chew_spec_layers.specs.Standing.{StandForMap}
use Rattle.chew_plain.specs.Call.{entry_of}
use Rattle.chew_layers.specs.declared.layers.Layers.TheInside.{Inside}

-- the value
abbrev pub layers_in : Inside → spec.Layers
layers_in l = record {
  start = record { pairs = option_map_or (λ base. arc_value base) l.first (arc_value l.base); life = l.first_life; cap = l.cap };
  base = arc_value l.base;
  frozen = option_map (λ at. record { marks = l.frozen; number = at.number; life = at.life }) l.waits;
  fresh = l.fresh;
  life = l.life;
  installed = l.installed;
  journal = map entry_of l.journal.items;
}

-- they stand for the plain map; the count is that of its pairs; the map, and what a new base would have, are within the limit of
-- a slot; where nothing waits there are no frozen marks; and where a layer waits there is room for its install
pub record IsKept (l : Inside) : Type 0 where
  pub stands : StandForMap (layers_in l)
  pub count : l.count ≡ length (map_in (layers_in l))
  pub few : l.count ≤ 200_000
  pub cap : l.cap ≤ 200_000
  pub below : length (overlay (arc_value l.base) l.frozen) ≤ 200_000
  pub none : l.waits ≡ None → l.frozen ≡ []
  pub room : IsSome l.waits → vec_len l.journal + 1 ≤ vec_capacity l.journal
