-- The update of the frequency, with the greatest of the key that is shown.
use Rattle.std.proofs.Common.{◌-◌, ap, ap₂, sym, ◌∙◌, rules}
use Rattle.chew_spec_syllable.specs.Row.{Row}
use Rattle.chew_spec_dictionary.specs.Dictionary.{Dictionary}
use Rattle.chew_spec_dictionary.specs.HiddenPairs.{shown_rows}
use Rattle.chew_spec_dictionary.specs.System.{peak_of}
use Rattle.chew_spec_dictionary.specs.Frequency.{update}
use Rattle.chew_plain.proofs.Outcomes.{held_next}
use Rattle.chew_plain.proofs.dictionary.Dictionary.held_freq.Goals as goal

pub returns-clause-value : goal.returns-clause-value
returns-clause-value c =
    held_next c.args.self.now c.args.row.now c.args.orig c.args.peak c.greatest_shown-own.result c.max-2.result c.saturating_sub.result c.next_freq.result
    (sym c.if-is_hidden.ensures)
    (c.greatest_shown-own.ensures.value ∙ ap (peak_of (shown_rows c.args.self.now.pairs)) (ap (λ (r : Row). r.key) c.row.view_is))
    (search rules)
    (c.saturating_sub.ensures ∙ ap₂ (λ (d : Dictionary) (r : Row). d.life - r.time) c.self.view_is c.row.view_is)
    (c.next_freq.ensures.value ∙ ap (λ (r : Row). update r.freq c.args.orig c.max-2.result c.saturating_sub.result) c.row.view_is)
