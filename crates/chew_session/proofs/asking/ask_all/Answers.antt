-- One call more was made and answered.
use Rattle.std.proofs.Common.{◌≡◌, ◌≤◌, ◌<◌, ◌∙◌, ℕ, suc, List, [], length, map, ap, refl, subst, sym, arith, get_or}
use Rattle.std.proofs.lemmas.List.{get_or-map, length-map}
use Rattle.chew_spec_dictionary.specs.Call as spec
use Rattle.chew_spec_dictionary.specs.History.{Point, is_user_call, start_of}
use Rattle.chew_spec_dictionary.specs.Growth.{Made}
use Rattle.chew_spec_dictionary.proofs.Found.{each_of_all}
use Rattle.chew_spec_dictionary.proofs.Growing.{made-nothing}
use Rattle.chew_plain.specs.Call.{call_of, reply_of}
use Rattle.chew_plain.specs.declared.reply.Reply.{Reply}
use Rattle.chew_session.specs.Typing.{Hears}
use Rattle.chew_session.proofs.Calling.{asks-first, made-all, made-more, on_err, on_ok}
use Rattle.chew_session.proofs.asking.ask_all.Goals as goal

pub loop-call-init : goal.loop-call-init
loop-call-init g c = record {
  ours = c.requires.ours;
  who = refl;
  legal = c.requires.legal;
  made = subst (λ (l : List Reply). Made (start_of c.args.shared.now.start) c.args.pass.seen c.args.pass.seen c.args.pass.who [] (map reply_of l)) (sym c.new-replies.ensures.items)
      (made-nothing (start_of c.args.shared.now.start) c.args.pass.seen c.args.pass.who);
}

pub ask-after-requires-clause-call : goal.ask-after-requires-clause-call
ask-after-requires-clause-call g c =
    let calls : List spec.Call = map call_of c.args.calls.now in
    let i : ℕ = c.loop-call.call-index in
    let call : spec.Call = call_of c.call-item.result in
    let in_code : i < length c.args.calls.now = omega arith in
    ap is_user_call (ap call_of c.call-item.is ∙ sym (get_or-map call_of c.args.calls.now i c.call-item.result call in_code))
    ∙ each_of_all is_user_call calls i call c.requires.calls (rw length-map (omega arith))

pub loop-call-preserved : goal.loop-call-preserved
loop-call-preserved g c =
    let start : Point = start_of c.args.shared.now.start in
    let calls : List spec.Call = map call_of c.args.calls.now in
    let i : ℕ = c.loop-call.call-index in
    let call : spec.Call = call_of c.call-item.result in
    let in_code : i < length c.args.calls.now = omega arith in
    let at : call ≡ get_or calls i call = ap call_of c.call-item.is ∙ sym (get_or-map call_of c.args.calls.now i c.call-item.result call in_code) in
    let inside : suc i ≤ length calls = rw length-map (omega arith) in
    let hears : Hears start c.loop-call.pass.who call c.loop-call.pass.seen c.ask-after.result.0.seen (map reply_of c.loop-call.replies.items) (map reply_of c.ask-after.new.replies.items) =
    on_ok (Hears start c.loop-call.pass.who call c.loop-call.pass.seen c.ask-after.result.0.seen (map reply_of c.loop-call.replies.items) (map reply_of c.ask-after.new.replies.items))
    c.ask-after.result.1 c.in-Ok.field-0 c.in-Ok.is c.ask-after.ensures.ok in
    record {
      ours = c.ask-after.ensures.ours;
      who = c.ask-after.ensures.who ∙ c.loop-call.invariant.who;
      legal = c.ask-after.ensures.legal;
      made = made-more start c.loop-call.pass.who c.args.pass.who calls i call c.args.pass.seen c.loop-call.pass.seen c.ask-after.result.0.seen
          (map reply_of c.loop-call.replies.items) (map reply_of c.ask-after.new.replies.items) inside at c.loop-call.invariant.who c.loop-call.invariant.made hears;
    }

pub returns-clause-ok : goal.returns-clause-ok
returns-clause-ok g c =
    made-all (start_of c.args.shared.now.start) c.args.pass.who (map call_of c.args.calls.now) c.loop-call.call-index c.args.pass.seen c.loop-call.pass.seen
    (map reply_of c.loop-call.replies.items) (rw length-map (omega arith)) c.loop-call.invariant.made

pub returns-in-Err-clause-err : goal.returns-in-Err-clause-err
returns-in-Err-clause-err g c =
    let start : Point = start_of c.args.shared.now.start in
    asks-first start c.loop-call.pass.who c.args.pass.who (map call_of c.args.calls.now) c.loop-call.call-index c.args.pass.seen c.loop-call.pass.seen c.ask-after.result.0.seen
    (map reply_of c.loop-call.replies.items) c.loop-call.invariant.who c.loop-call.invariant.made
    (on_err (Made start c.loop-call.pass.seen c.ask-after.result.0.seen c.loop-call.pass.who [] []) c.ask-after.result.1 c.in-Err.refused c.in-Err.is c.ask-after.ensures.err)
