-- A session of what was opened; or memory was wanting before its first key.
use Rattle.std.proofs.Common.{◌∙◌, ap, arith, inl, inr, refl}
use Rattle.std.proofs.lemmas.List.{length-map}
use Rattle.chew_spec_dictionary.specs.Dictionary.{Dictionary}
use Rattle.chew_spec_dictionary.specs.History.{start_of}
use Rattle.chew_spec_text.specs.Script.{Script}
use Rattle.chew_checkpoint.specs.Answers.{round_of}
use Rattle.chew_session.specs.Answers.{ended_of as session_of}
use Rattle.chew_session.specs.Crew.{basis_of, keys_of_all}
use Rattle.chewing_cli.specs.Opens.{inputs_of, rows_of}
use Rattle.chewing_cli.proofs.Runs.{cap_fits, last_fits, leaves_inputs, may_type, untouched_same}
use Rattle.chewing_cli.proofs.run.run_opened.Goals as goal

pub share-requires-clause-cap : goal.share-requires-clause-cap
share-requires-clause-cap g c = cap_fits c.args.opened.settings c.requires.limits.in_range

pub run_session-ended-requires-clause-typing : goal.run_session-ended-requires-clause-typing
run_session-ended-requires-clause-typing g c = λ lives within.
    may_type (inputs_of c.args.opened) c.in-Ok-share.seats.shared c.args.opened.settings c.in-Ok.actors.items c.requires.limits refl
    (ap (λ (d : Dictionary). d.pairs) c.in-Ok-share.ensures.start) (c.in-Ok.ensures.keys ∙ ap (λ (s : Script). s.contexts) c.script.view_is) c.in-Ok.ensures.order

pub finish-requires : goal.finish-requires
finish-requires g c =
    let made = length-map c.run_session-ended.result.rounds.items round_of in
    let fits =
    last_fits (basis_of (rows_of c.args.opened.system) c.args.opened.settings c.in-Ok-share.seats.shared) (keys_of_all c.in-Ok.actors.items) c.script.inside.rounds c.of-checkpointer.result.seq
    (session_of c.run_session-ended.result) c.run_session-ended.ensures.session in
    record { last = omega arith }

pub returns-in-Err-clause-ends : goal.returns-in-Err-clause-ends
returns-in-Err-clause-ends g c = inr (record { refused = c.refuse.ensures; untouched = untouched_same _; calm = refl })

pub returns-in-Err-share-clause-ends : goal.returns-in-Err-share-clause-ends
returns-in-Err-share-clause-ends g c = inr (record { refused = c.refuse-in-Err-share.ensures; untouched = untouched_same _; calm = refl })

pub returns-clause-ends : goal.returns-clause-ends
returns-clause-ends g c =
    inl (record {
      session = session_of c.run_session-ended.result;
      leaves = leaves_inputs (inputs_of c.args.opened) c.args.opened.found.keep _ (session_of c.run_session-ended.result) c.of-checkpointer.result
          (basis_of (rows_of c.args.opened.system) c.args.opened.settings c.in-Ok-share.seats.shared) (keys_of_all c.in-Ok.actors.items) c.script.inside.rounds c.of-checkpointer.ensures
          (ap (λ (d : Dictionary). record { system = rows_of c.args.opened.system; settings = c.args.opened.settings; start = start_of d }) c.in-Ok-share.ensures.start)
          (c.in-Ok.ensures.keys ∙ ap (λ (s : Script). s.contexts) c.script.view_is) (ap (λ (s : Script). s.rounds) c.script.view_is)
          (record {
            is_session = c.run_session-ended.ensures.session;
            faults = record { rose = c.run_session-ended.ensures.faults; calm = c.run_session-ended.ensures.calm };
            later = c.run_session-ended.ensures.later;
            untouched = c.run_session-ended.ensures.untouched;
            crash = c.run_session-ended.ensures.crash;
          });
      finishes = c.finish.ensures;
    })
