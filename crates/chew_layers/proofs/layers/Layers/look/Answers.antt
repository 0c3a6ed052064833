-- A look-up is noted.
use Rattle.chew_plain.specs.Call.{call_of, entry_of}
use Rattle.chew_layers.proofs.Calls.{noted_look, noted_more}
use Rattle.chew_layers.proofs.layers.Layers.look.Goals as goal

pub note-requires : goal.note-requires
note-requires c = record { stands = noted_look c.args.self.now c.keeps.ensures.stands c.args.entry.who (call_of c.args.entry.call) c.args.run.now c.requires.call }

pub returns-clause-left : goal.returns-clause-left
returns-clause-left c =
    noted_more c.args.self.now c.note.new.self (entry_of c.args.entry)
    (noted_look c.args.self.now c.keeps.ensures.stands c.args.entry.who (call_of c.args.entry.call) c.args.run.now c.requires.call)
    c.keeps.ensures.few c.in_ok-note.ensures.ok
