-- A hide by whether the pair is held, hidden, and finds room.
use Rattle.std.proofs.Common.{ap, refl, sym, ◌∙◌}
use Rattle.chew_spec_syllable.specs.Row.{Row}
use Rattle.chew_spec_dictionary.specs.Dictionary.{hid}
use Rattle.chew_plain.proofs.Outcomes.{hide_hidden, hide_held, hide_full, hide_new, room_held, room_new}
use Rattle.chew_plain.proofs.dictionary.Dictionary.hidden_freq.Goals as goal

pub returns-then-is_hidden-clause-err : goal.returns-then-is_hidden-clause-err
returns-then-is_hidden-clause-err c = hide_hidden c.args.self.now c.args.key.now c.args.phrase.now c.in-Some.row.now (sym c.in-Some.ensures.value) (sym c.if-is_hidden.ensures)

pub returns-else-is_hidden-clause-ok : goal.returns-else-is_hidden-clause-ok
returns-else-is_hidden-clause-ok c =
    hide_held c.args.self.now c.args.key.now c.args.phrase.now c.in-Some.row.now (sym c.in-Some.ensures.value) (sym c.if-is_hidden.ensures)
    ∙ ap (λ (r : Row). hid c.args.self.now c.args.key.now c.args.phrase.now r.freq) (sym c.row.view_is)

pub returns-else-is_hidden-clause-room : goal.returns-else-is_hidden-clause-room
returns-else-is_hidden-clause-room c = room_held c.args.self.now c.args.key.now c.args.phrase.now c.in-Some.row.now c.in-Some.ensures.map (sym c.in-Some.ensures.value) c.in-Some.ensures.few c.row.inside.freq

pub returns-then-is_full-clause-err : goal.returns-then-is_full-clause-err
returns-then-is_full-clause-err c = hide_full c.args.self.now c.args.key.now c.args.phrase.now (sym c.in-None.ensures.value) (sym c.if-is_full.ensures.value)

pub returns-else-is_full-clause-ok : goal.returns-else-is_full-clause-ok
returns-else-is_full-clause-ok c = hide_new c.args.self.now c.args.key.now c.args.phrase.now (sym c.in-None.ensures.value) (sym c.if-is_full.ensures.value)

pub returns-else-is_full-clause-room : goal.returns-else-is_full-clause-room
returns-else-is_full-clause-room c = room_new c.args.self.now c.args.key.now c.args.phrase.now c.in-None.ensures.map (sym c.in-None.ensures.value) (c.if-is_full.ensures.room refl) 0
