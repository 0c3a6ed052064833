-- The rows of the key that are not hidden.
use Rattle.std.proofs.Common.{ap, ◌∙◌, List}
use Rattle.chew_spec_syllable.specs.Row.{Row}
use Rattle.chew_spec_dictionary.specs.Dictionary.{Dictionary}
use Rattle.chew_spec_dictionary.specs.HiddenPairs.{shown_rows}
use Rattle.chew_spec_dictionary.specs.System.{greatest, peak_of}
use Rattle.chew_plain.proofs.Outcomes.{shown_under}
use Rattle.chew_plain.proofs.dictionary.Dictionary.greatest_shown.Goals as goal

pub returns-clause-value : goal.returns-clause-value
returns-clause-value c =
    c.greatest_shown.ensures.value
    ∙ ap (λ (l : List Row). greatest (shown_rows l)) c.under.ensures.value
    ∙ ap greatest (shown_under c.args.key.now c.self.inside.pairs)
    ∙ ap (λ (d : Dictionary). peak_of (shown_rows d.pairs) c.args.key.now) c.self.view_is
