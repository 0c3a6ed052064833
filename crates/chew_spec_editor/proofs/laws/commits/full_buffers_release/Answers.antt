use Rattle.chew_spec_editor.proofs.Committing.{no-release, release-cells, release-front, release-full, release-learns, release-off, release-symbol}
use Rattle.chew_spec_editor.proofs.laws.commits.full_buffers_release.Goals as goal

pub returns : goal.returns
returns c = record { full = release-full; room = no-release; front = release-front; rest = release-cells; symbol = release-symbol; off = release-off; learns = release-learns }
