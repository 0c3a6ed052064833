-- The row that stands at the place.
use Rattle.std.proofs.Common.{ℕ, List, Some, length, refl, ap, sym, ◌∙◌, arith}
use Rattle.std.specs.List.{slice_get}
use Rattle.std.proofs.lemmas.Option.{slice_get_read}
use Rattle.chew_spec_syllable.specs.Row.{Row}
use Rattle.chew_plain.proofs.row_map.RowMapLexicon.row_at.Goals as goal

pub returns : goal.returns
returns c = (
  c.row.inside.key,
  ap (λ (l : List Row). slice_get l c.args.place) (sym c.self.view_is)
      ∙ slice_get_read c.self.inside.rows.items (length c.self.inside.rows.items) c.args.place c.index-row.result.now refl (omega (arith, c.requires, ap length c.self.view_is)) c.index-row.ensures
      ∙ ap Some (sym c.row.view_is ∙ ap (λ (p : List ℕ). let row : Row = record { key = c.row.inside.key; phrase = p; freq = c.row.inside.freq; time = c.row.inside.time } in row) (sym c.text.ensures.value)),
)
