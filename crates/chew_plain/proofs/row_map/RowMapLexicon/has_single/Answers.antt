-- A row passes the test where those that pass are not none.
use Rattle.std.proofs.Common.{List, not, length, ◌==◌, [], ◌∷◌, ap, ◌∙◌}
use Rattle.chew_spec_syllable.specs.Row.{Row}
use Rattle.chew_spec_dictionary.specs.System.{is_under}
use Rattle.chew_plain.proofs.KeyRows.{any_kept}
use Rattle.chew_plain.proofs.row_map.RowMapLexicon.has_single.Goals as goal

pub returns : goal.returns
returns c =
    ap not (c.is_empty.ensures ∙ ap (λ (l : List Row). length l == 0) c.found.ensures)
    ∙ any_kept (is_under (c.args.s ∷ [])) c.args.self.now
