-- The calls so far were made and answered.
use Rattle.std.proofs.Common.{◌≡◌, map, take, true}
use Rattle.chew_spec_dictionary.specs.Growth.{Made}
use Rattle.chew_spec_dictionary.specs.History.{is_legal, start_of}
use Rattle.chew_plain.specs.Call.{call_of, reply_of}
use Rattle.chew_session.proofs.asking.ask_all.Given as goal

abbrev pub invariant-loop-call : goal.invariant-loop-call
invariant-loop-call g l = record {
  ours : l.pass.cell ≡ l.shared;
  who : l.pass.who ≡ l.fn.pass.who;
  legal : is_legal (start_of l.shared.start) l.pass.seen ≡ true;
  made : Made (start_of l.shared.start) l.fn.pass.seen l.pass.seen l.fn.pass.who (take l.call-index (map call_of l.calls)) (map reply_of l.replies.items);
}
