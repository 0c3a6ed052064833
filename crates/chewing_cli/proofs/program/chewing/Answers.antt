-- A run that was opened, and one that was refused.
use Rattle.std.proofs.Common.{◌∙◌, Bool, ℕ, List, Err, map, refl, subst}
use Rattle.chew_spec_program.specs.Command.{asks_trace}
use Rattle.chew_spec_program.specs.Reading.{watched}
use Rattle.chew_spec_program.specs.Run.{IsRun, Outside}
use Rattle.chew_spec_program.specs.Slots.{kept}
use Rattle.chew_spec_program.specs.Writing.{sunk}
use Rattle.chew_spec_program.proofs.Kept.{run-kept}
use Rattle.chew_spec_program.proofs.Opened.{opened-stands}
use Rattle.chew_spec_program.proofs.Runs.{run-disk, run-sink, run-source, run-statuses, run-words}
use Rattle.chewing_cli.specs.RunEnd.{ended_of}
use Rattle.chewing_cli.specs.Opens.{inputs_of}
use Rattle.chewing_cli.specs.Refusals.{kind_of}
use Rattle.chewing_cli.specs.Runs.{EndsOpened}
use Rattle.chewing_cli.proofs.Runs.{run_opened}
use Rattle.chewing_cli.proofs.program.chewing.Goals as goal

pub run_opened-requires-clause-limits : goal.run_opened-requires-clause-limits
run_opened-requires-clause-limits g c = λ lives within.
    let stands = opened-stands (map (λ word. word.now) c.args.words.now) _ _ _ _ (inputs_of c.in-Ok.opened) c.in-Ok.ensures.opens in
    record {
      in_range = stands.settings;
      pairs = stands.pairs.each;
      few_pairs = stands.pairs.few;
      contexts = stands.script.contexts;
      few_keys = c.in-Ok.ensures.few_keys;
      keys = stands.script.strokes;
      rounds = stands.script.rounds;
    }

pub returns-in-Ok : goal.returns-in-Ok
returns-in-Ok g c =
    let words : List (List ℕ) = map (λ word. word.now) c.args.words.now in
    let outside : Outside = record {
      settings = watched (g.S.Source.left c.args.settings.now) (g.S.Source.left c.open.new.settings) (g.S.Source.faults c.args.settings.now) (g.S.Source.faults c.open.new.settings);
      system = watched (g.Y.Source.left c.args.system.now) (g.Y.Source.left c.open.new.system) (g.Y.Source.faults c.args.system.now) (g.Y.Source.faults c.open.new.system);
      script = watched (g.I.Source.left c.args.script.now) (g.I.Source.left c.open.new.script) (g.I.Source.faults c.args.script.now) (g.I.Source.faults c.open.new.script);
      sink = sunk (g.O.Sink.taken c.args.sink.now) (g.O.Sink.taken c.run_opened.new.sink) (g.O.Sink.faults c.args.sink.now) (g.O.Sink.faults c.run_opened.new.sink);
      disk = kept (g.D.Disk.told c.args.disk.now) (g.D.Disk.state c.args.disk.now) (g.D.Disk.state c.run_opened.new.disk) (g.D.Disk.faults c.args.disk.now) (g.D.Disk.faults c.run_opened.new.disk);
    } in
    let opened = c.in-Ok.opened in
    let inputs = inputs_of opened in
    let before = c.args.disk.now in
    let read = c.open.new.disk in
    let ends : EndsOpened inputs (asks_trace words) opened.found.keep outside.sink
    (kept (g.D.Disk.told before) (g.D.Disk.state read) (g.D.Disk.state c.run_opened.new.disk) (g.D.Disk.faults read) (g.D.Disk.faults c.run_opened.new.disk)) (ended_of c.run_opened.result) =
    subst (λ (told : Bool). EndsOpened inputs (asks_trace words) opened.found.keep outside.sink
    (kept told (g.D.Disk.state read) (g.D.Disk.state c.run_opened.new.disk) (g.D.Disk.faults read) (g.D.Disk.faults c.run_opened.new.disk)) (ended_of c.run_opened.result)) c.in-Ok.ensures.told
    (subst (λ (trace : Bool). EndsOpened inputs trace opened.found.keep outside.sink
    (kept (g.D.Disk.told read) (g.D.Disk.state read) (g.D.Disk.state c.run_opened.new.disk) (g.D.Disk.faults read) (g.D.Disk.faults c.run_opened.new.disk)) (ended_of c.run_opened.result)) c.asks_trace.ensures c.run_opened.ensures.ends) in
    let run : IsRun words outside (ended_of c.run_opened.result) =
    run_opened words outside (g.D.Disk.state read) (g.D.Disk.faults read) opened.found (ended_of c.run_opened.result) inputs refl refl refl c.in-Ok.ensures.opens c.in-Ok.ensures.ready ends in
    record {
      told = c.run_opened.ensures.told ∙ c.in-Ok.ensures.told;
      run = record { run = run; kept = λ start same. run-kept words outside (ended_of c.run_opened.result) start run same };
      words = run-words words outside (ended_of c.run_opened.result) run;
      source = run-source words outside (ended_of c.run_opened.result) run;
      sink = run-sink words outside (ended_of c.run_opened.result) run;
      disk = run-disk words outside (ended_of c.run_opened.result) run;
      statuses = run-statuses words outside (ended_of c.run_opened.result) run;
    }

pub returns-in-Err : goal.returns-in-Err
returns-in-Err g c =
    let words : List (List ℕ) = map (λ word. word.now) c.args.words.now in
    let outside : Outside = record {
      settings = watched (g.S.Source.left c.args.settings.now) (g.S.Source.left c.open.new.settings) (g.S.Source.faults c.args.settings.now) (g.S.Source.faults c.open.new.settings);
      system = watched (g.Y.Source.left c.args.system.now) (g.Y.Source.left c.open.new.system) (g.Y.Source.faults c.args.system.now) (g.Y.Source.faults c.open.new.system);
      script = watched (g.I.Source.left c.args.script.now) (g.I.Source.left c.open.new.script) (g.I.Source.faults c.args.script.now) (g.I.Source.faults c.open.new.script);
      sink = sunk (g.O.Sink.taken c.args.sink.now) (g.O.Sink.taken c.refuse.new.sink) (g.O.Sink.faults c.args.sink.now) (g.O.Sink.faults c.refuse.new.sink);
      disk = kept (g.D.Disk.told c.args.disk.now) (g.D.Disk.state c.args.disk.now) (g.D.Disk.state c.open.new.disk) (g.D.Disk.faults c.args.disk.now) (g.D.Disk.faults c.open.new.disk);
    } in
    let run : IsRun words outside (ended_of c.refuse.result) =
    record { opened = Err (kind_of c.in-Err.refusal); opening = c.in-Err.ensures.opens; ends = (c.refuse.ensures, c.in-Err.ensures.spares) } in
    record {
      told = c.in-Err.ensures.told;
      run = record { run = run; kept = λ start same. run-kept words outside (ended_of c.refuse.result) start run same };
      words = run-words words outside (ended_of c.refuse.result) run;
      source = run-source words outside (ended_of c.refuse.result) run;
      sink = run-sink words outside (ended_of c.refuse.result) run;
      disk = run-disk words outside (ended_of c.refuse.result) run;
      statuses = run-statuses words outside (ended_of c.refuse.result) run;
    }
