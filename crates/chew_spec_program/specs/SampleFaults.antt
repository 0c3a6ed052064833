-- What laws speak of: runs over the five rows that something outside disturbs.
use Rattle.std.specs.Prelude.{ℕ, List, [], ◌∷◌, ◌++◌, Some, replicate, take, true}
use Rattle.chew_spec_dictionary.specs.Call.{Freeze}
use Rattle.chew_spec_dictionary.specs.History.{Entry}
use Rattle.chew_spec_image.specs.Sample.{patched}
use Rattle.chew_spec_slots.specs.Sample.{one_row_plain_slot}
use Rattle.chew_spec_rounds.specs.Known.{by_keeper, disk_with}
use Rattle.chew_spec_rounds.specs.Round.{DiskFault, SeqSpent}
use Rattle.chew_spec_rounds.specs.Seq.{last_seq}
use Rattle.chew_spec_program.specs.Reading.{watched}
use Rattle.chew_spec_program.specs.Run.{Ended, Outside}
use Rattle.chew_spec_program.specs.SampleRun.{five_calls, five_ended, five_outside, five_text, keys_text, with_status}
use Rattle.chew_spec_program.specs.Slots.{Kept, kept}

-- a refused run ends so
abbrev pub refused_end : (status : ℕ) → Ended
refused_end status = record { status = status; journal = []; handled = []; rounds = []; last_from = 0 }

-- the system's first read failed, so that the script was not read, nor was the disk called
abbrev pub failing_system : List ℕ → Outside
failing_system taken = record (five_outside taken) {
  system = watched (Some five_text) (Some five_text) 0 1;
  script = watched (Some keys_text) (Some keys_text) 0 0;
  disk = kept true (disk_with ([] ∷ []) 0) (disk_with ([] ∷ []) 0) 0 0;
}

-- the run over another disk
abbrev pub over_disk : Kept → List ℕ → Outside
over_disk disk taken = record (five_outside taken) { disk = disk }

-- slot 0 tells an image of 100 bytes and has 60; recovery asks its length and reads it
abbrev pub cut_slot : List ℕ
cut_slot = patched (take 60 one_row_plain_slot) 25 (100 ∷ [])

abbrev pub cut_lists : List (List ℕ)
cut_lists = cut_slot ∷ (cut_slot ∷ (cut_slot ∷ []))

abbrev pub cut_disk : Kept
cut_disk = kept true (disk_with cut_lists 0) (disk_with cut_lists 2) 0 0

-- the fourth call of the disk fails, the sync of a gate that was shut; before it come two lengths and the gate's write
abbrev pub gate_lists : List (List ℕ)
gate_lists = [] ∷ ([] ∷ ([] ∷ ((0 ∷ []) ∷ ((0 ∷ []) ∷ []))))

abbrev pub gate_disk : Kept
gate_disk = kept true (disk_with gate_lists 0) (disk_with gate_lists 4) 0 1

-- what was learnt is frozen and not saved
abbrev pub frozen_journal : List Entry
frozen_journal = five_calls ++ by_keeper Freeze ∷ []

abbrev pub failed_end : Ended
failed_end = with_status 9 (five_ended frozen_journal (DiskFault 2 ∷ []))

-- slot 0 has 測試 with the last seq; its length is asked and it is read, and the length of slot 1 is asked
abbrev pub last_slot : List ℕ
last_slot = patched one_row_plain_slot 9 (replicate 8 0xFF)

abbrev pub last_lists : List (List ℕ)
last_lists = replicate 4 last_slot

abbrev pub last_disk : Kept
last_disk = kept true (disk_with last_lists 0) (disk_with last_lists 3) 0 0

abbrev pub spent_end : Ended
spent_end = with_status 11 (five_ended five_calls (SeqSpent last_seq ∷ []))
