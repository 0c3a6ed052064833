-- The row is put over the one that stands at the place, or in there.
use Rattle.std.proofs.Common.{ap, is_some, not, sym, ◌∙◌}
use Rattle.chew_spec_syllable.specs.Row.{Row}
use Rattle.chew_spec_dictionary.specs.System.{row_of}
use Rattle.chew_plain.proofs.Standing.{held_there, lacked_there, put_over_there, put_in_there}
use Rattle.chew_plain.proofs.places.put.Goals as goal

pub returns-in-Ok-clause-ok : goal.returns-in-Ok-clause-ok
returns-in-Ok-clause-ok c =
    sym (put_over_there c.args.rows.now.items c.as_slice.result.now c.as_slice.ensures.value c.in-Ok.place c.args.row c.requires.map c.row.inside.key c.row.inside.phrase
    (sym (ap (λ (r : Row). r.key) c.row.view_is)) (sym (ap (λ (r : Row). r.phrase) c.row.view_is)) c.in-Ok.ensures.ok)

pub returns-in_ok-insert-in-Err-clause-ok : goal.returns-in_ok-insert-in-Err-clause-ok
returns-in_ok-insert-in-Err-clause-ok c =
    c.in_ok-insert-in-Err.ensures.items
    ∙ sym (put_in_there c.args.rows.now.items c.as_slice.result.now c.as_slice.ensures.value c.in-Err.place c.args.row c.row.inside.key c.row.inside.phrase
    (sym (ap (λ (r : Row). r.key) c.row.view_is)) (sym (ap (λ (r : Row). r.phrase) c.row.view_is)) c.in-Err.ensures.err)

pub returns-in-Ok-clause-new : goal.returns-in-Ok-clause-new
returns-in-Ok-clause-new c =
    ap not (held_there c.args.rows.now.items c.as_slice.result.now c.as_slice.ensures.value c.in-Ok.place c.row.inside.key c.row.inside.phrase c.requires.map c.in-Ok.ensures.ok).0
    ∙ ap (λ (r : Row). not (is_some (row_of c.args.rows.now.items r.key r.phrase))) c.row.view_is

pub returns-in_ok-insert-in-Err-clause-new : goal.returns-in_ok-insert-in-Err-clause-new
returns-in_ok-insert-in-Err-clause-new c =
    ap not (lacked_there c.args.rows.now.items c.as_slice.result.now c.as_slice.ensures.value c.in-Err.place c.row.inside.key c.row.inside.phrase c.in-Err.ensures.err).0
    ∙ ap (λ (r : Row). not (is_some (row_of c.args.rows.now.items r.key r.phrase))) c.row.view_is
