-- A learn by whether the pair is held and finds room.
use Rattle.std.proofs.Common.{ap, refl, sym, ◌∙◌}
use Rattle.chew_spec_dictionary.specs.Dictionary.{learned}
use Rattle.chew_spec_dictionary.proofs.Learning.{learn_of_held}
use Rattle.chew_plain.proofs.Outcomes.{learn_full, learn_new, room_held, room_new}
use Rattle.chew_plain.proofs.dictionary.Dictionary.learnt_freq.Goals as goal

pub returns-in-Some-clause-ok : goal.returns-in-Some-clause-ok
returns-in-Some-clause-ok c =
    learn_of_held c.args.self.now c.args.key.now c.args.phrase.now c.args.orig c.args.peak c.in-Some.row.now (sym c.in-Some.ensures.value)
    ∙ ap (learned c.args.self.now c.args.key.now c.args.phrase.now) (sym c.held_freq.ensures.value)

pub returns-in-Some-clause-room : goal.returns-in-Some-clause-room
returns-in-Some-clause-room c = room_held c.args.self.now c.args.key.now c.args.phrase.now c.in-Some.row.now c.in-Some.ensures.map (sym c.in-Some.ensures.value) c.in-Some.ensures.few c.held_freq.result

pub returns-then-is_full-clause-err : goal.returns-then-is_full-clause-err
returns-then-is_full-clause-err c = learn_full c.args.self.now c.args.key.now c.args.phrase.now c.args.orig c.args.peak (sym c.in-None.ensures.value) (sym c.if-is_full.ensures.value)

pub returns-else-is_full-clause-ok : goal.returns-else-is_full-clause-ok
returns-else-is_full-clause-ok c =
    learn_new c.args.self.now c.args.key.now c.args.phrase.now c.args.orig c.args.peak (sym c.in-None.ensures.value) (sym c.if-is_full.ensures.value)
    ∙ ap (learned c.args.self.now c.args.key.now c.args.phrase.now) (sym c.first_freq.ensures)

pub returns-else-is_full-clause-room : goal.returns-else-is_full-clause-room
returns-else-is_full-clause-room c = room_new c.args.self.now c.args.key.now c.args.phrase.now c.in-None.ensures.map (sym c.in-None.ensures.value) (c.if-is_full.ensures.room refl) c.first_freq.result
