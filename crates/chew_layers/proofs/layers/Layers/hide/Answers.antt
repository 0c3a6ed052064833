-- A hide by whether the pair is held, hidden, and finds room.
use Rattle.std.proofs.Common.{sym, ap, ◌+◌, ℕ, refl}
use Rattle.chew_spec_dictionary.specs.Call.{Full, Hid, NotThere}
use Rattle.chew_spec_dictionary.specs.Dictionary.{Outcome, hide}
use Rattle.chew_spec_layers.specs.Layers.{dictionary_in}
use Rattle.chew_plain.specs.Call.{call_of, entry_of, reply_of}
use Rattle.chew_plain.proofs.Outcomes.{hide_full, hide_held, hide_hidden, hide_new}
use Rattle.chew_layers.specs.Contents.{row_said}
use Rattle.chew_layers.proofs.Calls.{count_of_held, count_of_new, noted_hide, noted_more, ok_reply}
use Rattle.chew_layers.proofs.layers.Layers.hide.Goals as goal

pub note-requires : goal.note-requires
note-requires c = record {
  stands = noted_hide c.args.self.now c.keeps.ensures.stands c.args.entry.who (call_of c.args.entry.call) c.args.key.now c.args.phrase.now NotThere c.requires.call
      (ap (λ (o : Outcome). o.reply) (hide_hidden (dictionary_in c.args.self.now) c.args.key.now c.args.phrase.now (row_said c.args.key.now c.args.phrase.now c.in-Some.said)
      (sym c.in-Some.ensures.value) (sym (c.if-is_hidden.ensures c.args.phrase.now c.in-Some.said.freq)))) refl;
}

pub returns-then-is_hidden-clause-ok : goal.returns-then-is_hidden-clause-ok
returns-then-is_hidden-clause-ok c =
    sym (ap (λ (o : Outcome). o.reply) (hide_hidden (dictionary_in c.args.self.now) c.args.key.now c.args.phrase.now (row_said c.args.key.now c.args.phrase.now c.in-Some.said)
    (sym c.in-Some.ensures.value) (sym (c.if-is_hidden.ensures c.args.phrase.now c.in-Some.said.freq))))

pub returns-then-is_hidden-clause-left : goal.returns-then-is_hidden-clause-left
returns-then-is_hidden-clause-left c =
    noted_more c.args.self.now c.note.new.self (entry_of c.args.entry)
    (noted_hide c.args.self.now c.keeps.ensures.stands c.args.entry.who (call_of c.args.entry.call) c.args.key.now c.args.phrase.now NotThere c.requires.call
    (ap (λ (o : Outcome). o.reply) (hide_hidden (dictionary_in c.args.self.now) c.args.key.now c.args.phrase.now (row_said c.args.key.now c.args.phrase.now c.in-Some.said)
    (sym c.in-Some.ensures.value) (sym (c.if-is_hidden.ensures c.args.phrase.now c.in-Some.said.freq)))) refl)
    c.keeps.ensures.few c.in_ok-note-in-Some.ensures.ok

pub hide_with-requires-clause-hide : goal.hide_with-requires-clause-hide
hide_with-requires-clause-hide c = record {
  call = c.requires.call;
  outcome = hide_held (dictionary_in c.args.self.now) c.args.key.now c.args.phrase.now (row_said c.args.key.now c.args.phrase.now c.in-Some.said)
      (sym c.in-Some.ensures.value) (sym (c.if-is_hidden.ensures c.args.phrase.now c.in-Some.said.freq));
}

pub hide_with-requires-clause-count : goal.hide_with-requires-clause-count
hide_with-requires-clause-count c =
    count_of_held c.args.self.now c.args.key.now c.args.phrase.now (row_said c.args.key.now c.args.phrase.now c.in-Some.said) c.count-count.result c.keeps.ensures.stands
    (sym c.in-Some.ensures.value) c.count-count.ensures.value c.in-Some.said.freq

pub note-requires-then-is_full : goal.note-requires-then-is_full
note-requires-then-is_full c = record {
  stands = noted_hide c.args.self.now c.keeps.ensures.stands c.args.entry.who (call_of c.args.entry.call) c.args.key.now c.args.phrase.now Full c.requires.call
      (ap (λ (o : Outcome). o.reply) (hide_full (dictionary_in c.args.self.now) c.args.key.now c.args.phrase.now (sym c.in-None.ensures.value) (sym c.if-is_full.ensures.value))) refl;
}

pub returns-then-is_full-clause-ok : goal.returns-then-is_full-clause-ok
returns-then-is_full-clause-ok c =
    sym (ap (λ (o : Outcome). o.reply) (hide_full (dictionary_in c.args.self.now) c.args.key.now c.args.phrase.now (sym c.in-None.ensures.value) (sym c.if-is_full.ensures.value)))

pub returns-then-is_full-clause-left : goal.returns-then-is_full-clause-left
returns-then-is_full-clause-left c =
    noted_more c.args.self.now c.note-then-is_full.new.self (entry_of c.args.entry)
    (noted_hide c.args.self.now c.keeps.ensures.stands c.args.entry.who (call_of c.args.entry.call) c.args.key.now c.args.phrase.now Full c.requires.call
    (ap (λ (o : Outcome). o.reply) (hide_full (dictionary_in c.args.self.now) c.args.key.now c.args.phrase.now (sym c.in-None.ensures.value) (sym c.if-is_full.ensures.value))) refl)
    c.keeps.ensures.few c.in_ok-note-in-None.ensures.ok

pub hide_with-requires-in-None-clause-hide : goal.hide_with-requires-in-None-clause-hide
hide_with-requires-in-None-clause-hide c = record {
  call = c.requires.call;
  outcome = hide_new (dictionary_in c.args.self.now) c.args.key.now c.args.phrase.now (sym c.in-None.ensures.value) (sym c.if-is_full.ensures.value);
}

pub hide_with-requires-in-None-clause-count : goal.hide_with-requires-in-None-clause-count
hide_with-requires-in-None-clause-count c =
    count_of_new c.args.self.now c.args.key.now c.args.phrase.now (c.count-count-in-None.result + 1) c.keeps.ensures.stands (sym c.in-None.ensures.value)
    (ap (λ (n : ℕ). n + 1) c.count-count-in-None.ensures.value) 0

pub returns-else-is_hidden-clause-ok : goal.returns-else-is_hidden-clause-ok
returns-else-is_hidden-clause-ok c =
    ok_reply c.hide_with.result reply_of Hid (hide (dictionary_in c.args.self.now) c.args.key.now c.args.phrase.now).reply c.hide_with.ensures.ok
    (sym (ap (λ (o : Outcome). o.reply) (hide_held (dictionary_in c.args.self.now) c.args.key.now c.args.phrase.now (row_said c.args.key.now c.args.phrase.now c.in-Some.said)
    (sym c.in-Some.ensures.value) (sym (c.if-is_hidden.ensures c.args.phrase.now c.in-Some.said.freq)))))

pub returns-else-is_full-clause-ok : goal.returns-else-is_full-clause-ok
returns-else-is_full-clause-ok c =
    ok_reply c.hide_with-in-None.result reply_of Hid (hide (dictionary_in c.args.self.now) c.args.key.now c.args.phrase.now).reply c.hide_with-in-None.ensures.ok
    (sym (ap (λ (o : Outcome). o.reply) (hide_new (dictionary_in c.args.self.now) c.args.key.now c.args.phrase.now (sym c.in-None.ensures.value) (sym c.if-is_full.ensures.value))))
