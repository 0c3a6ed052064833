-- The replies are the answers to the key's calls.
use Rattle.std.proofs.Common.{List, map}
use Rattle.std.specs.Global.{Vec}
use Rattle.chew_spec_dictionary.specs.Call as spec
use Rattle.chew_spec_dictionary.specs.History.{start_of}
use Rattle.chew_spec_editor.specs.Editor.{Editor}
use Rattle.chew_spec_editor.specs.Pending.{calls_of}
use Rattle.chew_plain.specs.Call.{call_of, reply_of}
use Rattle.chew_plain.specs.declared.reply.Reply.{Reply}
use Rattle.chew_session.specs.Typing.{Asks}
use Rattle.chew_session.proofs.Calling.{asks-by, made-by}
use Rattle.chew_session.proofs.Found.{answers-made}
use Rattle.chew_session.proofs.Turned.{answered, asks-all, on-err-from}
use Rattle.chew_session.proofs.keying.answer.Goals as goal

heard : Vec Reply → List spec.Reply
heard replies = map reply_of replies.items

pub finish_key-requires-clause-answers : goal.finish_key-requires-clause-answers
unfolding heard
finish_key-requires-clause-answers g c =
    answers-made (start_of c.args.shared.now.start) c.args.pass.who c.args.pending c.args.pass.seen c.ask_all-pass.result.0.seen (heard c.in-Ok.replies) c.requires.pairs
    c.ask_all-pass.ensures.legal
    (made-by (start_of c.args.shared.now.start) c.args.pass.who c.args.pass.seen c.ask_all-pass.result.0.seen (map call_of c.calls.result.now) (calls_of c.args.pending) heard
    c.ask_all-pass.result.1 c.in-Ok.replies c.calls.ensures.value c.in-Ok.is c.ask_all-pass.ensures.ok)

pub returns-in-Ok-clause-ok : goal.returns-in-Ok-clause-ok
unfolding heard
returns-in-Ok-clause-ok g c =
    answered (g.L.Lexicon.rows c.args.system.now) (start_of c.args.shared.now.start) c.args.pass.who c.args.pending c.args.pass.seen c.ask_all-pass.result.0.seen
    c.args.text.now.items c.finish_key.new.text.items (heard c.in-Ok.replies) (λ (e : Editor). e) c.finish_key.result
    (made-by (start_of c.args.shared.now.start) c.args.pass.who c.args.pass.seen c.ask_all-pass.result.0.seen (map call_of c.calls.result.now) (calls_of c.args.pending) heard
    c.ask_all-pass.result.1 c.in-Ok.replies c.calls.ensures.value c.in-Ok.is c.ask_all-pass.ensures.ok)
    c.finish_key.ensures.editor c.finish_key.ensures.line

pub returns-in-Ok-clause-err : goal.returns-in-Ok-clause-err
unfolding heard
returns-in-Ok-clause-err g c =
    on-err-from (Asks (start_of c.args.shared.now.start) c.args.pass.who (calls_of c.args.pending) c.args.pass.seen c.ask_all-pass.result.0.seen) c.finish_key.result
    (asks-all (start_of c.args.shared.now.start) c.args.pass.who (calls_of c.args.pending) c.args.pass.seen c.ask_all-pass.result.0.seen (heard c.in-Ok.replies)
    (made-by (start_of c.args.shared.now.start) c.args.pass.who c.args.pass.seen c.ask_all-pass.result.0.seen (map call_of c.calls.result.now) (calls_of c.args.pending) heard
    c.ask_all-pass.result.1 c.in-Ok.replies c.calls.ensures.value c.in-Ok.is c.ask_all-pass.ensures.ok))

pub returns-in-Err-clause-err : goal.returns-in-Err-clause-err
returns-in-Err-clause-err g c =
    asks-by (start_of c.args.shared.now.start) c.args.pass.who c.args.pass.seen c.ask_all-pass.result.0.seen (map call_of c.calls.result.now) (calls_of c.args.pending)
    c.ask_all-pass.result.1 c.in-Err.refused c.calls.ensures.value c.in-Err.is c.ask_all-pass.ensures.err
