-- The row of a pair is among those of its key.
use Rattle.std.proofs.Common.{ap, ◌∙◌, List}
use Rattle.chew_spec_syllable.specs.Row.{Row}
use Rattle.chew_spec_dictionary.specs.Dictionary.{is_map}
use Rattle.chew_spec_dictionary.specs.System.{is_under, row_of}
use Rattle.chew_spec_dictionary.proofs.Maps.{filter_keeps}
use Rattle.chew_plain.proofs.ByKey.{row_under}
use Rattle.chew_plain.proofs.pairs.Pairs.find.Goals as goal

pub find-requires : goal.find-requires
find-requires c = record { map = ap is_map c.under.ensures.value ∙ filter_keeps (is_under c.args.key.now) c.args.self.now c.under.ensures.map }

pub returns-clause-value : goal.returns-clause-value
returns-clause-value c =
    c.find.ensures
    ∙ ap (λ (l : List Row). row_of l c.args.key.now c.args.phrase.now) c.under.ensures.value
    ∙ row_under c.args.key.now c.args.phrase.now c.args.self.now
