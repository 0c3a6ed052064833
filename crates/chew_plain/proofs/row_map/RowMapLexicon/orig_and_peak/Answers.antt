-- The row of the pair is among those of the key.
use Rattle.std.proofs.Common.{List, Option, ap, ◌∙◌}
use Rattle.std.specs.List.{find}
use Rattle.std.specs.Option.{option_map_or}
use Rattle.std.specs.Str.{bytes_eq}
use Rattle.chew_spec_syllable.specs.Row.{Row}
use Rattle.chew_plain.proofs.KeyRows.{row_among}
use Rattle.chew_plain.proofs.row_map.RowMapLexicon.orig_and_peak.Goals as goal

pub returns-clause-orig : goal.returns-clause-orig
returns-clause-orig c =
    c.freq_among.ensures
    ∙ ap (λ (l : List Row). option_map_or (λ (row : Row). row.freq) (find (λ (row : Row). bytes_eq row.phrase c.args.phrase.now) l) 0) c.found-found.ensures
    ∙ ap (λ (o : Option Row). option_map_or (λ (row : Row). row.freq) o 0) (row_among c.args.key.now c.args.phrase.now c.args.self.now)
