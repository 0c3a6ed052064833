-- By the course of the session.
use Rattle.std.specs.Prelude.{◌≡◌, ◌≤◌, ◌+◌, ◌++◌, ◌∷◌, ◌||◌, [], All, Bool, Contains, List, drop, length, map, not, refl, suc, take, vec_len, ℕ}
use Rattle.std.specs.List.{list_any}
use Rattle.std.proofs.Common.{arith, sym, ap, ◌∙◌, subst}
use Rattle.std.proofs.lemmas.List.{length-map, length-take, take_all}
use Rattle.std.proofs.lemmas.List.Elements.{length_all_zip}
use Rattle.chew_spec_dictionary.specs.Dictionary.{Dictionary}
use Rattle.chew_spec_dictionary.specs.History.{Entry, is_legal, start_of}
use Rattle.chew_spec_text.specs.KeyStroke as text
use Rattle.chew_spec_slots.specs.Keep.{Keep}
use Rattle.chew_spec_cell.specs.Pass.{Pass}
use Rattle.chew_spec_cell.specs.Sight.{HasSeen}
use Rattle.chew_spec_rounds.specs.Round as spec
use Rattle.chew_spec_rounds.specs.Session as crash
use Rattle.chew_spec_session.specs.Context.{Basis}
use Rattle.chew_spec_session.specs.LastRounds.{is_no_memory}
use Rattle.chew_spec_session.specs.Session.{ContextEnd, IsSession, are_handled}
use Rattle.chew_plain.specs.Call.{entry_of}
use Rattle.chew_checkpoint.specs.Answers.{round_of}
use Rattle.chew_checkpoint.specs.declared.round.Round.{Round}
use Rattle.chew_session.specs.Crew.{AllRan, SeesMore, basis_of, context_passes, keys_of_all}
use Rattle.chew_session.specs.Saving.{MakeAll, Stage, stage}
use Rattle.chew_session.specs.declared.actor.Actor.{Actor}
use Rattle.chew_session.proofs.Contexts.{each-pass, keys-long, passes-are, ran-long}
use Rattle.chew_session.proofs.Course.{Course}
use Rattle.chew_session.proofs.Rounds.{begins-at}
use Rattle.chew_session.proofs.Saving.{make-wait}
use Rattle.chew_session.proofs.Sessions.{crash-ends, session-ends, whole-all}
use Rattle.chew_session.proofs.actors.run_actors.Given as given
use Rattle.chew_session.proofs.actors.run_actors.Goals as goal

module _ (g : given.Over) (c : goal.After-drop-actors g) where
  abbrev the-start : Dictionary
  the-start = c.args.opened.shared.start

  abbrev the-basis : Basis
  the-basis = basis_of (g.L.Lexicon.rows c.args.system.now) c.args.settings.now c.args.opened.shared

  abbrev the-told : Bool
  the-told = g.D.Disk.told c.args.disk.now

  abbrev the-worker : List spec.Round
  the-worker = map round_of c.run_beside-passes.result.1.made.items

  abbrev the-last : List spec.Round
  the-last = c.last_rounds-worker.ensures.saves.0

  abbrev begins : Stage
  begins = record { keep = c.args.checkpointer; disk = g.D.Disk.state c.args.disk.now; faults = g.D.Disk.faults c.args.disk.now; seen = [] }

  abbrev ends : Stage
  ends = stage c.run_beside-passes.result.1.checkpointer (g.D.Disk.state c.run_beside-passes.new.disk) (g.D.Disk.faults c.run_beside-passes.new.disk) c.run_beside-passes.result.1.keeper

  abbrev meets : Stage
  meets = stage c.run_beside-passes.result.1.checkpointer (g.D.Disk.state c.run_beside-passes.new.disk) (g.D.Disk.faults c.run_beside-passes.new.disk) c.meet_all-keeper.result.0

  abbrev closes : Stage
  closes = stage c.last_rounds-worker.result.checkpointer (g.D.Disk.state c.last_rounds-worker.new.disk) (g.D.Disk.faults c.last_rounds-worker.new.disk) c.last_rounds-worker.result.keeper

  all-keys : take (vec_len c.args.opened.passes) (keys_of_all c.as_slice.result.now) ≡ keys_of_all c.args.actors.items
  all-keys =
      let ok = c.args.opened.passes.ok in
      let each = each-pass c.args.opened.shared c.args.opened.keeper c.args.opened.passes.items (vec_len c.args.opened.passes) (length c.args.actors.items) (omega arith) c.requires.passes in
      let long = keys-long c.args.actors.items in
      ap (λ (list : List Actor). take (vec_len c.args.opened.passes) (keys_of_all list)) c.as_slice.ensures.value
      ∙ take_all (vec_len c.args.opened.passes) (keys_of_all c.args.actors.items) (omega arith)

  sees : HasSeen 0 ends.seen meets.seen
  sees = subst (λ (n : ℕ). HasSeen n ends.seen meets.seen) c.run_beside-passes.ensures.keeper c.meet_all-keeper.ensures.seen

  course : Course the-basis the-told (keys_of_all c.args.actors.items) the-worker the-last begins ends meets closes
      c.run_beside-passes.result.0.0.items c.meet_all-keeper.result.1.items c.last_rounds-worker.result.keeper c.run_beside-passes.result.0.1.items c.close.result.journal
  course = record {
    nothing = refl;
    ran = subst (λ (ks : List (List text.KeyStroke)). AllRan the-basis 1 ks c.run_beside-passes.result.0.0.items c.run_beside-passes.result.0.1.items) all-keys c.run_beside-passes.ensures.done.ran;
    works = begins-at the-start the-told c.args.checkpointer c.of-worker.result.checkpointer (g.D.Disk.state c.args.disk.now) (g.D.Disk.faults c.args.disk.now) c.of-worker.result.keeper.seen the-worker ends
        c.of-worker.ensures.checkpointer (ap (λ (p : Pass). p.seen) c.of-worker.ensures.keeper ∙ ap (λ (p : Pass). p.seen) c.requires.keeper) c.run_beside-passes.ensures.makes;
    sees = sees;
    waits = make-wait the-start the-told c.run_beside-passes.result.1.checkpointer (g.D.Disk.state c.run_beside-passes.new.disk) (g.D.Disk.faults c.run_beside-passes.new.disk) ends.seen meets.seen sees;
    more = c.meet_all-keeper.ensures.each;
    most = c.meet_all-keeper.ensures.most;
    makes = subst (λ (b : Bool). MakeAll the-start b meets the-last closes) c.run_beside-passes.ensures.told c.last_rounds-worker.ensures.saves.3;
    saves = c.last_rounds-worker.ensures.saves.2;
    keeps = c.last_rounds-worker.ensures.keeper;
    knows = refl;
    seen = c.close.ensures.seen;
    known = c.close.ensures.known;
    legal = ap (λ (d : Dictionary). is_legal (start_of d) c.close.result.journal) (sym c.close.ensures.start) ∙ c.close.ensures.legal;
  }

  whole : MakeAll the-start the-told begins (map round_of c.last_rounds-worker.result.made.items) closes
  whole =
      whole-all the-basis the-told (keys_of_all c.args.actors.items) the-worker the-last begins ends meets closes
      c.run_beside-passes.result.0.0.items c.meet_all-keeper.result.1.items c.last_rounds-worker.result.keeper c.run_beside-passes.result.0.1.items c.close.result.journal course
      (map round_of c.last_rounds-worker.result.made.items) c.last_rounds-worker.ensures.saves.1

  wants : c.wants_memory-memory.result ≡ (not (are_handled (keys_of_all c.args.actors.items) (map (λ (e : ContextEnd). e.handled) c.run_beside-passes.result.0.1.items))
      || list_any is_no_memory (drop c.args.rounds (map round_of c.last_rounds-worker.result.made.items)))
  wants =
      c.wants_memory-memory.ensures
      ∙ ap (λ (list : List Actor). not (are_handled (keys_of_all list) (map (λ (e : ContextEnd). e.handled) c.as_slice-3.result.now)) || list_any is_no_memory (drop c.args.rounds (map round_of c.as_slice-4.result.now))) c.as_slice-2.ensures.value
      ∙ ap (λ es. not (are_handled (keys_of_all c.args.actors.items) (map (λ (e : ContextEnd). e.handled) es)) || list_any is_no_memory (drop c.args.rounds (map round_of c.as_slice-4.result.now))) c.as_slice-3.ensures.value
      ∙ ap (λ (rs : List Round). not (are_handled (keys_of_all c.args.actors.items) (map (λ (e : ContextEnd). e.handled) c.run_beside-passes.result.0.1.items)) || list_any is_no_memory (drop c.args.rounds (map round_of rs))) c.as_slice-4.ensures.value

pub returns-clause-session : goal.returns-clause-session
returns-clause-session g c =
    subst (λ (h : List Entry). IsSession (the-basis g c) (keys_of_all c.args.actors.items) c.args.rounds c.args.checkpointer.seq
    (record { journal = h; contexts = c.run_beside-passes.result.0.1.items; rounds = map round_of c.last_rounds-worker.result.made.items; last_from = c.args.rounds; memory = c.wants_memory-memory.result }))
    (sym c.into_journal-journal.ensures)
    (session-ends (the-basis g c) (the-told g c) (keys_of_all c.args.actors.items) (the-worker g c) (the-last g c) (begins g c) (ends g c) (meets g c) (closes g c)
    c.run_beside-passes.result.0.0.items c.meet_all-keeper.result.1.items c.last_rounds-worker.result.keeper c.run_beside-passes.result.0.1.items c.close.result.journal (course g c)
    (map round_of c.last_rounds-worker.result.made.items) c.last_rounds-worker.ensures.saves.1 refl c.args.rounds c.wants_memory-memory.result
    (length-map c.run_beside-passes.result.1.made.items round_of ∙ c.run_beside-passes.ensures.count) (wants g c))

pub returns-clause-later : goal.returns-clause-later
returns-clause-later g c = (whole g c).later

pub returns-clause-is_disk : goal.returns-clause-is_disk
returns-clause-is_disk g c = (whole g c).is_disk

pub returns-clause-faults : goal.returns-clause-faults
returns-clause-faults g c = (whole g c).rises.rose

pub returns-clause-never_falls : goal.returns-clause-never_falls
returns-clause-never_falls g c = (whole g c).rises.never_falls

pub returns-clause-calm : goal.returns-clause-calm
returns-clause-calm g c = (whole g c).rises.calm

pub returns-clause-crash : goal.returns-clause-crash
returns-clause-crash g c = λ told step.
    subst (λ (h : List Entry). crash.IsSession (the-start g c) h (g.D.Disk.state c.args.disk.now).moment (g.D.Disk.state c.last_rounds-worker.new.disk) (map round_of c.last_rounds-worker.result.made.items))
    (sym c.into_journal-journal.ensures)
    (crash-ends (the-basis g c) (the-told g c) (keys_of_all c.args.actors.items) (the-worker g c) (the-last g c) (begins g c) (ends g c) (meets g c) (closes g c)
    c.run_beside-passes.result.0.0.items c.meet_all-keeper.result.1.items c.last_rounds-worker.result.keeper c.run_beside-passes.result.0.1.items c.close.result.journal (course g c)
    (map round_of c.last_rounds-worker.result.made.items) c.last_rounds-worker.ensures.saves.1 told step)

pub returns-clause-untouched : goal.returns-clause-untouched
returns-clause-untouched g c = (whole g c).untouched

pub run_beside-passes-requires-clause-enough : goal.run_beside-passes-requires-clause-enough
run_beside-passes-requires-clause-enough g c = λ lives within.
    let ok = c.args.opened.passes.ok in
    let each = each-pass c.args.opened.shared c.args.opened.keeper c.args.opened.passes.items (vec_len c.args.opened.passes) (length c.args.actors.items) (omega arith) c.requires.passes in
    let same = ap length c.as_slice.ensures.value in
    omega arith

pub run_beside-passes-requires-clause-passes : goal.run_beside-passes-requires-clause-passes
run_beside-passes-requires-clause-passes g c = λ lives within.
    let ok = c.args.opened.passes.ok in
    let each = each-pass c.args.opened.shared c.args.opened.keeper c.args.opened.passes.items (vec_len c.args.opened.passes) (length c.args.actors.items) (omega arith) c.requires.passes in
    passes-are c.args.opened.shared c.args.opened.keeper c.args.opened.passes.items (length c.args.actors.items) c.requires.passes ∙ ap (context_passes c.args.opened.shared) (sym each)

pub wants_memory-memory-requires : goal.wants_memory-memory-requires
wants_memory-memory-requires g c =
    let same = ap length c.as_slice-4.ensures.value in
    let count = c.run_beside-passes.ensures.count in
    let longer = c.last_rounds-worker.ensures.longer in
    omega arith

pub close-requires-clause-all : goal.close-requires-clause-all
close-requires-clause-all g c =
    let ok = c.args.opened.passes.ok in
    let each = each-pass c.args.opened.shared c.args.opened.keeper c.args.opened.passes.items (vec_len c.args.opened.passes) (length c.args.actors.items) (omega arith) c.requires.passes in
    let met = length_all_zip SeesMore c.run_beside-passes.result.0.0.items c.meet_all-keeper.result.1.items c.meet_all-keeper.ensures.each in
    let ran = ran-long (basis_of (g.L.Lexicon.rows c.args.system.now) c.args.settings.now c.args.opened.shared) 1 (take (vec_len c.args.opened.passes) (keys_of_all c.as_slice.result.now))
    c.run_beside-passes.result.0.0.items c.run_beside-passes.result.0.1.items c.run_beside-passes.ensures.done.ran in
    let keys = keys-long c.as_slice.result.now in
    let same = ap length c.as_slice.ensures.value in
    let taken = length-take (vec_len c.args.opened.passes) (keys_of_all c.as_slice.result.now) in
    let seats = c.requires.seats in
    omega arith
