-- A run over what stands in memory.
use Rattle.std.specs.Prelude.{ℕ, List, Some, true}
use Rattle.chew_spec_disk.specs.Memory.{disk_state}
use Rattle.chew_spec_program.specs.Reading.{watched}
use Rattle.chew_spec_program.specs.Slots.{kept}
use Rattle.chew_spec_program.specs.Writing.{sunk}
use Rattle.chewing_cli.specs.RunEnd.{ended_of}
use Rattle.chewing_cli.specs.Runs.{IsKeptRun}
use Rattle.chew_run_samples.specs.declared.outside.Outside.{Outside}
use Rattle.chew_run_samples.specs.declared.runs.Outcome.{Outcome}

-- the program ran on these words, and read and wrote these things
abbrev pub IsRunOver : (words : List (List ℕ)) → Outside → Outcome → Type 0
IsRunOver words outside run = IsKeptRun words
    (record {
      settings = watched (Some outside.settings.left) (Some run.settings.left) outside.settings.faults run.settings.faults;
      system = watched (Some outside.system.left) (Some run.system.left) outside.system.faults run.system.faults;
      script = watched (Some outside.script.left) (Some run.script.left) outside.script.faults run.script.faults;
      sink = sunk (Some outside.sink.taken) (Some run.sink.taken) outside.sink.faults run.sink.faults;
      disk = kept true (disk_state outside.disk) (disk_state run.disk) outside.disk.faults run.disk.faults;
    })
    (ended_of run.done)
