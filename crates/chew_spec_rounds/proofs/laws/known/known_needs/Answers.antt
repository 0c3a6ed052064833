-- Each value computes.
use Rattle.std.proofs.Common.{refl, sym, ◌∙◌}
use Rattle.std.proofs.lemmas.Bool.{true≢false}
use Rattle.chew_spec_image.specs.Sample.{one_row}
use Rattle.chew_spec_rounds.proofs.Fronts.{none-some}
use Rattle.chew_spec_rounds.proofs.KnownNumbers.{learn-touches}
use Rattle.chew_spec_rounds.proofs.laws.known.known_needs.Goals as goal

pub returns-clause-nothing_left : goal.returns-clause-nothing_left
returns-clause-nothing_left c = record { nothing_waits = refl; nothing_fresh = λ key phrase. refl }

pub returns-clause-waits : goal.returns-clause-waits
returns-clause-waits c = λ saved. none-some (sym saved.nothing_waits)

pub returns-clause-empty_waits : goal.returns-clause-empty_waits
returns-clause-empty_waits c = λ saved. none-some (sym saved.nothing_waits)

pub returns-clause-fresh : goal.returns-clause-fresh
returns-clause-fresh c = λ saved. true≢false (sym learn-touches ∙ saved.nothing_fresh one_row.key one_row.phrase)
