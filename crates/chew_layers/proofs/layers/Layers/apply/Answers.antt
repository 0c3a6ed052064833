-- Each reply is that of the history.
use Rattle.std.proofs.Common.{ap, sym, ◌∙◌}
use Rattle.chew_spec_dictionary.specs.Call.{Rows}
use Rattle.chew_spec_dictionary.specs.Dictionary.{forget, hide, learn}
use Rattle.chew_spec_dictionary.specs.History.{after, answer, start_of}
use Rattle.chew_spec_dictionary.specs.Look.{hits_of}
use Rattle.chew_spec_layers.specs.Layers.{dictionary_in, map_in}
use Rattle.chew_spec_layers.proofs.Steps.{forget_answer, hide_answer, learn_answer, look_answer}
use Rattle.chew_plain.specs.Call.{call_of, reply_of}
use Rattle.chew_layers.proofs.Calls.{ok_reply}
use Rattle.chew_layers.proofs.layers.Layers.apply.Goals as goal

pub returns-in-Look-clause-ok : goal.returns-in-Look-clause-ok
returns-in-Look-clause-ok c =
    ok_reply c.look.result reply_of (Rows (hits_of (map_in c.args.self.now) c.in-Look.run')) (answer (after (start_of c.args.self.now.start) c.args.self.now.journal) (call_of c.args.call.now)).reply c.look.ensures.ok
    (sym (ap (λ call. (answer (after (start_of c.args.self.now.start) c.args.self.now.journal) (call_of call)).reply) c.in-Look.is ∙ look_answer c.args.self.now c.in-Look.run' c.keeps.ensures.stands))

pub returns-in-Learn-clause-ok : goal.returns-in-Learn-clause-ok
returns-in-Learn-clause-ok c =
    ok_reply c.learn.result reply_of (learn (dictionary_in c.args.self.now) c.in-Learn.key c.in-Learn.phrase c.in-Learn.orig c.in-Learn.peak).reply (answer (after (start_of c.args.self.now.start) c.args.self.now.journal) (call_of c.args.call.now)).reply c.learn.ensures.ok
    (sym (ap (λ call. (answer (after (start_of c.args.self.now.start) c.args.self.now.journal) (call_of call)).reply) c.in-Learn.is ∙ learn_answer c.args.self.now c.in-Learn.key c.in-Learn.phrase c.in-Learn.orig c.in-Learn.peak c.keeps.ensures.stands))

pub returns-in-Forget-clause-ok : goal.returns-in-Forget-clause-ok
returns-in-Forget-clause-ok c =
    ok_reply c.forget.result reply_of (forget (dictionary_in c.args.self.now) c.in-Forget.key c.in-Forget.phrase).reply (answer (after (start_of c.args.self.now.start) c.args.self.now.journal) (call_of c.args.call.now)).reply c.forget.ensures.ok
    (sym (ap (λ call. (answer (after (start_of c.args.self.now.start) c.args.self.now.journal) (call_of call)).reply) c.in-Forget.is ∙ forget_answer c.args.self.now c.in-Forget.key c.in-Forget.phrase c.keeps.ensures.stands))

pub returns-in-Hide-clause-ok : goal.returns-in-Hide-clause-ok
returns-in-Hide-clause-ok c =
    ok_reply c.hide.result reply_of (hide (dictionary_in c.args.self.now) c.in-Hide.key c.in-Hide.phrase).reply (answer (after (start_of c.args.self.now.start) c.args.self.now.journal) (call_of c.args.call.now)).reply c.hide.ensures.ok
    (sym (ap (λ call. (answer (after (start_of c.args.self.now.start) c.args.self.now.journal) (call_of call)).reply) c.in-Hide.is ∙ hide_answer c.args.self.now c.in-Hide.key c.in-Hide.phrase c.keeps.ensures.stands))
