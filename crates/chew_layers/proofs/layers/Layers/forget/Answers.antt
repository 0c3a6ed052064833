-- A forget by whether the pair is held.
use Rattle.std.proofs.Common.{sym}
use Rattle.chew_spec_dictionary.proofs.Learning.{forgot_where, not_there_where}
use Rattle.chew_spec_layers.specs.Layers.{dictionary_in}
use Rattle.chew_plain.specs.Call.{call_of, entry_of}
use Rattle.chew_layers.specs.Contents.{row_said}
use Rattle.chew_layers.proofs.Calls.{noted_more, noted_not_there}
use Rattle.chew_layers.proofs.layers.Layers.forget.Goals as goal

pub note-requires : goal.note-requires
note-requires c = record {
  stands = noted_not_there c.args.self.now c.keeps.ensures.stands c.args.entry.who (call_of c.args.entry.call) c.args.key.now c.args.phrase.now c.requires.call
      ((not_there_where (dictionary_in c.args.self.now) c.args.key.now c.args.phrase.now).1 (sym c.in-None.ensures.value));
}

pub returns-in_ok-bury-in-Some-clause-ok : goal.returns-in_ok-bury-in-Some-clause-ok
returns-in_ok-bury-in-Some-clause-ok c =
    sym (forgot_where (dictionary_in c.args.self.now) c.args.key.now c.args.phrase.now (row_said c.args.key.now c.args.phrase.now c.in-Some.field-0) (sym c.in-Some.ensures.value))

pub returns-in_ok-note-in-None-clause-ok : goal.returns-in_ok-note-in-None-clause-ok
returns-in_ok-note-in-None-clause-ok c = sym ((not_there_where (dictionary_in c.args.self.now) c.args.key.now c.args.phrase.now).1 (sym c.in-None.ensures.value))

pub returns-in_ok-note-in-None-clause-left : goal.returns-in_ok-note-in-None-clause-left
returns-in_ok-note-in-None-clause-left c =
    noted_more c.args.self.now c.note.new.self (entry_of c.args.entry)
    (noted_not_there c.args.self.now c.keeps.ensures.stands c.args.entry.who (call_of c.args.entry.call) c.args.key.now c.args.phrase.now c.requires.call
    ((not_there_where (dictionary_in c.args.self.now) c.args.key.now c.args.phrase.now).1 (sym c.in-None.ensures.value)))
    c.keeps.ensures.few c.in_ok-note-in-None.ensures.ok
