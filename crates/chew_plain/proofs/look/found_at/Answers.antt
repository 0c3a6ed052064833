-- The slice of the run has the syllables of the interval.
use Rattle.std.proofs.Common.{ap, ◌∙◌}
use Rattle.chew_spec_dictionary.specs.System.{rows_under}
use Rattle.chew_plain.proofs.Looks.{slice_codes}
use Rattle.chew_plain.proofs.look.found_at.Goals as goal

pub returns : goal.returns
returns c =
    c.under.ensures.value
    ∙ ap (rows_under c.args.pairs.now) (c.of_some.ensures ∙ slice_codes c.args.run.now c.at.inside.start c.at.inside.len c.args.at c.at.view_is)
