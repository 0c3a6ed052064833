-- When what is known of the slots is in step with what their keeper has seen.
use Rattle.std.specs.Prelude.{◌≡◌, List, IsSomeAnd, IfSome}
use Rattle.chew_spec_disk.specs.Disk.{DiskState}
use Rattle.chew_spec_dictionary.specs.Dictionary.{Dictionary}
use Rattle.chew_spec_dictionary.specs.History.{Entry}
use Rattle.chew_spec_slots.specs.Fits.{Fits}
use Rattle.chew_spec_slots.specs.Keep.{Keep, acknowledged_state, left_state}
use Rattle.chew_spec_rounds.specs.Front.{front_checkpoint, shape_after}

-- what is known of the slots fits the disk; the acknowledged state is the map after the entries that are installed, and a
-- state that a failed round left is the map after the entries up to the snapshot that waits
pub record IsInStep (keep : Keep) (disk : DiskState) (start : Dictionary) (seen : List Entry) : Type 0 where
  pub fits : Fits keep disk
  pub acknowledged : acknowledged_state keep disk ≡ front_checkpoint start seen (shape_after start seen).installed
  pub left : IfSome (left_state keep disk) (λ checkpoint. IsSomeAnd (shape_after start seen).waiting
      (λ number. checkpoint ≡ front_checkpoint start seen number))
