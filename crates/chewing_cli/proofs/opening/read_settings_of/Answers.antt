-- The text that was read is the settings'.
use Rattle.std.proofs.Common.{ℕ, List, refl, subst}
use Rattle.chew_spec_editor.specs.Settings.{Settings}
use Rattle.chew_spec_settings.specs.SettingsText.{settings_limit, settings_of}
use Rattle.chew_spec_program.specs.Opening.{or_refusal}
use Rattle.chew_spec_program.specs.Refusal.{WrongSettings}
use Rattle.chewing_cli.specs.Opens.{IsOrNoMemory}
use Rattle.chewing_cli.specs.Refusals.{outcome_of}
use Rattle.chewing_cli.proofs.Reading.{reads_text}
use Rattle.chewing_cli.proofs.opening.read_settings_of.Goals as goal

pub returns-in-Ok : goal.returns-in-Ok
returns-in-Ok g c =
    reads_text (λ bytes. or_refusal WrongSettings (settings_of bytes)) settings_limit (g.I.Source.left c.args.source.now)
    (g.I.Source.left c.read_up_to.new.source) (g.I.Source.faults c.args.source.now) (g.I.Source.faults c.read_up_to.new.source) c.in-Ok.text.items
    (outcome_of (λ (settings : Settings). settings) c.settings_in.result)
    c.in-Ok.ensures.ok (c.in-Ok.ensures.cause.same refl)
    (subst (λ (text : List ℕ).
    IsOrNoMemory (or_refusal WrongSettings (settings_of text)) (outcome_of (λ (settings : Settings). settings) c.settings_in.result))
    c.as_slice.ensures.value c.settings_in.ensures)
