-- The rows of a key of a map are in the order of their phrases already.
use Rattle.std.proofs.Common.{◌≡◌, true, ◌-◌, take, drop, ap, sym, ◌∙◌, rules}
use Rattle.chew_spec_dictionary.specs.Dictionary.{is_map}
use Rattle.chew_spec_dictionary.specs.System.{rows_under}
use Rattle.chew_spec_dictionary.proofs.Rows.{rows_of_map}
use Rattle.chew_plain.proofs.row_map.RowMap.places_of.Goals as goal

pub returns-clause-value : goal.returns-clause-value
returns-clause-value c =
    let under : take (c.places_at.result.end - c.places_at.result.start) (drop c.places_at.result.start c.args.self.now) ≡ rows_under c.args.self.now c.args.key.now = search rules in
    let map : is_map c.args.self.now ≡ true = ap is_map (sym c.self.view_is) ∙ c.self.invariant.0 in
    under ∙ sym (rows_of_map c.args.self.now c.args.key.now map)
