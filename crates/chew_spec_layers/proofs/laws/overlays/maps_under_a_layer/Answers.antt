-- Each law is a lemma.
use Rattle.chew_spec_layers.specs.Mark.{Live, Grave}
use Rattle.chew_spec_layers.proofs.Overlays.{overlay_map, overlay_marked, overlay_unmarked, overlay_nothing}
use Rattle.chew_spec_layers.proofs.laws.overlays.maps_under_a_layer.Goals as goal

pub returns-clause-map : goal.returns-clause-map
returns-clause-map c = overlay_map

pub returns-clause-live : goal.returns-clause-live
returns-clause-live c rows marks key phrase freq time m l e = overlay_marked rows marks key phrase (Live freq time) m l e

pub returns-clause-grave : goal.returns-clause-grave
returns-clause-grave c rows marks key phrase m l e = overlay_marked rows marks key phrase Grave m l e

pub returns-clause-unmarked : goal.returns-clause-unmarked
returns-clause-unmarked c = overlay_unmarked

pub returns-clause-nothing : goal.returns-clause-nothing
returns-clause-nothing c = overlay_nothing
