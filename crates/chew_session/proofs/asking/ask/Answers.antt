-- The call was made and answered, or none was made.
use Rattle.std.proofs.Common.{List, [], ◌∷◌, ◌++◌, ◌∙◌, ap, map}
use Rattle.std.proofs.lemmas.List.{map-append}
use Rattle.chew_spec_dictionary.specs.History.{start_of}
use Rattle.chew_spec_cell.specs.Sight.{HasSeen}
use Rattle.chew_spec_shared.specs.SharedCalls.{Asked}
use Rattle.chew_plain.specs.Call.{call_of, reply_of}
use Rattle.chew_plain.specs.declared.reply.Reply.{Reply}
use Rattle.chew_session.proofs.Calling.{if_ok, made-asked, made-seen, on_err}
use Rattle.chew_session.proofs.asking.ask.Goals as goal

pub returns-in-Err-answer-clause-err : goal.returns-in-Err-answer-clause-err
returns-in-Err-answer-clause-err g c =
    made-seen (start_of c.args.shared.now.start) c.args.pass.who c.args.pass.seen c.ask-pass.result.0.seen
    (on_err (HasSeen c.args.pass.who c.args.pass.seen c.ask-pass.result.0.seen) c.ask-pass.result.1 c.in-Err-answer.refused c.in-Err-answer.is c.ask-pass.ensures.err)

pub returns-in-Ok-answer-clause-ok : goal.returns-in-Ok-answer-clause-ok
returns-in-Ok-answer-clause-ok g c =
    let reply : Reply = c.in-Ok-answer.reply in
    record {
      reply = reply_of reply;
      made = made-asked c.args.shared.now c.args.pass (call_of c.args.call.now) (reply_of reply) c.ask-pass.result.0.seen c.requires.ours
          (if_ok (λ (r : Reply). Asked c.args.pass (call_of c.args.call.now) (reply_of r) c.ask-pass.result.0.seen) c.ask-pass.result.1 reply c.in-Ok-answer.is c.ask-pass.ensures.ok);
      behind = ap (map reply_of) (c.push_reserved.ensures.items ∙ ap (λ (l : List Reply). l ++ reply ∷ []) c.reserve.ensures.items)
          ∙ map-append reply_of c.args.replies.now.items (reply ∷ []);
    }
