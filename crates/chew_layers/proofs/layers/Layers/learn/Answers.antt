-- A learn by whether the pair is held and finds room.
use Rattle.std.proofs.Common.{sym, ap, ◌∙◌, ◌+◌, ℕ}
use Rattle.chew_spec_dictionary.specs.Call.{Learned}
use Rattle.chew_spec_dictionary.specs.Dictionary.{Outcome, learn, learned, time_of_learn}
use Rattle.chew_spec_dictionary.proofs.Learning.{learn_of_held}
use Rattle.chew_spec_layers.specs.Layers.{dictionary_in}
use Rattle.chew_plain.specs.Call.{call_of, entry_of, reply_of}
use Rattle.chew_plain.proofs.Outcomes.{learn_full, learn_new}
use Rattle.chew_layers.specs.Contents.{row_said}
use Rattle.chew_layers.proofs.Calls.{count_of_held, count_of_new, noted_full, noted_more, ok_reply}
use Rattle.chew_layers.proofs.layers.Layers.learn.Goals as goal

pub learn_with-requires-clause-learn : goal.learn_with-requires-clause-learn
learn_with-requires-clause-learn c = record {
  orig = c.args.orig;
  peak = c.args.peak;
  call = c.requires.call;
  outcome = learn_of_held (dictionary_in c.args.self.now) c.args.key.now c.args.phrase.now c.args.orig c.args.peak (row_said c.args.key.now c.args.phrase.now c.in-Some.said) (sym c.in-Some.ensures.value)
      ∙ ap (learned (dictionary_in c.args.self.now) c.args.key.now c.args.phrase.now) (sym (c.in_ok-freq-in-Some.ensures.value c.args.phrase.now));
}

pub learn_with-requires-clause-count : goal.learn_with-requires-clause-count
learn_with-requires-clause-count c =
    count_of_held c.args.self.now c.args.key.now c.args.phrase.now (row_said c.args.key.now c.args.phrase.now c.in-Some.said) c.count-count.result c.keeps.ensures.stands
    (sym c.in-Some.ensures.value) c.count-count.ensures.value c.in_ok-freq-in-Some.freq

pub note-requires : goal.note-requires
note-requires c = record {
  stands = noted_full c.args.self.now c.keeps.ensures.stands c.args.entry.who (call_of c.args.entry.call) c.args.key.now c.args.phrase.now c.args.orig c.args.peak c.requires.call
      (ap (λ (o : Outcome). o.reply) (learn_full (dictionary_in c.args.self.now) c.args.key.now c.args.phrase.now c.args.orig c.args.peak (sym c.in-None.ensures.value) (sym c.if-is_full.ensures.value)));
}

pub returns-then-is_full-clause-ok : goal.returns-then-is_full-clause-ok
returns-then-is_full-clause-ok c =
    sym (ap (λ (o : Outcome). o.reply) (learn_full (dictionary_in c.args.self.now) c.args.key.now c.args.phrase.now c.args.orig c.args.peak (sym c.in-None.ensures.value) (sym c.if-is_full.ensures.value)))

pub returns-then-is_full-clause-left : goal.returns-then-is_full-clause-left
returns-then-is_full-clause-left c =
    noted_more c.args.self.now c.note.new.self (entry_of c.args.entry)
    (noted_full c.args.self.now c.keeps.ensures.stands c.args.entry.who (call_of c.args.entry.call) c.args.key.now c.args.phrase.now c.args.orig c.args.peak c.requires.call
    (ap (λ (o : Outcome). o.reply) (learn_full (dictionary_in c.args.self.now) c.args.key.now c.args.phrase.now c.args.orig c.args.peak (sym c.in-None.ensures.value) (sym c.if-is_full.ensures.value))))
    c.keeps.ensures.few c.in_ok-note-in-None.ensures.ok

pub learn_with-requires-in-None-clause-learn : goal.learn_with-requires-in-None-clause-learn
learn_with-requires-in-None-clause-learn c = record {
  orig = c.args.orig;
  peak = c.args.peak;
  call = c.requires.call;
  outcome = learn_new (dictionary_in c.args.self.now) c.args.key.now c.args.phrase.now c.args.orig c.args.peak (sym c.in-None.ensures.value) (sym c.if-is_full.ensures.value)
      ∙ ap (learned (dictionary_in c.args.self.now) c.args.key.now c.args.phrase.now) (sym c.first_freq.ensures.value);
}

pub learn_with-requires-in-None-clause-count : goal.learn_with-requires-in-None-clause-count
learn_with-requires-in-None-clause-count c =
    count_of_new c.args.self.now c.args.key.now c.args.phrase.now (c.count-count-in-None.result + 1) c.keeps.ensures.stands (sym c.in-None.ensures.value)
    (ap (λ (n : ℕ). n + 1) c.count-count-in-None.ensures.value) c.first_freq.result

pub returns-in_ok-freq-in-Some-clause-ok : goal.returns-in_ok-freq-in-Some-clause-ok
returns-in_ok-freq-in-Some-clause-ok c =
    ok_reply c.learn_with.result reply_of (Learned c.in_ok-freq-in-Some.freq (time_of_learn (dictionary_in c.args.self.now)))
    (learn (dictionary_in c.args.self.now) c.args.key.now c.args.phrase.now c.args.orig c.args.peak).reply c.learn_with.ensures.ok
    (sym (ap (λ (o : Outcome). o.reply)
    (learn_of_held (dictionary_in c.args.self.now) c.args.key.now c.args.phrase.now c.args.orig c.args.peak (row_said c.args.key.now c.args.phrase.now c.in-Some.said) (sym c.in-Some.ensures.value)
    ∙ ap (learned (dictionary_in c.args.self.now) c.args.key.now c.args.phrase.now) (sym (c.in_ok-freq-in-Some.ensures.value c.args.phrase.now)))))

pub returns-else-is_full-clause-ok : goal.returns-else-is_full-clause-ok
returns-else-is_full-clause-ok c =
    ok_reply c.learn_with-in-None.result reply_of (Learned c.first_freq.result (time_of_learn (dictionary_in c.args.self.now)))
    (learn (dictionary_in c.args.self.now) c.args.key.now c.args.phrase.now c.args.orig c.args.peak).reply c.learn_with-in-None.ensures.ok
    (sym (ap (λ (o : Outcome). o.reply)
    (learn_new (dictionary_in c.args.self.now) c.args.key.now c.args.phrase.now c.args.orig c.args.peak (sym c.in-None.ensures.value) (sym c.if-is_full.ensures.value)
    ∙ ap (learned (dictionary_in c.args.self.now) c.args.key.now c.args.phrase.now) (sym c.first_freq.ensures.value))))
