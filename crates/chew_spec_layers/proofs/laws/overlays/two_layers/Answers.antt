-- Each law is a lemma.
use Rattle.std.proofs.Common.{ap, ◌∙◌}
use Rattle.chew_spec_layers.specs.Overlay.{overlay, says_over}
use Rattle.chew_spec_layers.proofs.Overlays.{overlay_covered, overlay_map, overlay_says}
use Rattle.chew_spec_layers.proofs.laws.overlays.two_layers.Goals as goal

pub returns-clause-says : goal.returns-clause-says
returns-clause-says c rows older newer key phrase m o n =
    overlay_says (overlay rows older) newer key phrase (overlay_map rows older m o) n
    ∙ ap (says_over newer key phrase) (overlay_says rows older key phrase m o)

pub returns-clause-covered : goal.returns-clause-covered
returns-clause-covered c = overlay_covered
