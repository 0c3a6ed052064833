-- A crash may leave the acknowledged state.
use Rattle.std.specs.Prelude.{ℕ, zero, suc, ◌<◌, ◌≤◌, List, length, Option, refl}
use Rattle.std.proofs.Common.{arith, ap, ◌∙◌}
use Rattle.chew_spec_disk.specs.Disk.{DiskState}
use Rattle.chew_spec_disk.specs.Moments.{NowMayLeave}
use Rattle.chew_spec_disk.specs.Sync.{IsSettled}
use Rattle.chew_spec_slots.specs.Fits.{DoesNotCount, Fits, IsApart, RecoversTo, RecoversToOld, Stands}
use Rattle.chew_spec_slots.specs.Keep.{Keep, is_shut, other}
use Rattle.chew_spec_slots.specs.Reading.{SlotReading, Shut, Open, Faulty, slot_reading}
use Rattle.chew_spec_slots.specs.Recovery.{Recovered}
use Rattle.chew_spec_slots.specs.Slot.{length_limit}
use Rattle.chew_spec_slots.proofs.Fitting.{acknowledged-by, leaves-target}
use Rattle.chew_spec_slots.proofs.Readings.{Misses, old-one, old-zero, recovered-fits, state_of}

misses : (keep : Keep) (reading : SlotReading) → DoesNotCount keep reading → Misses keep.target keep.seq reading
misses keep Shut counts = counts
misses keep (Open saved) counts = counts
misses keep (Faulty place) counts = counts

chance-at : (target : ℕ) → target < 2 → (ack : Option ℕ) (seq : ℕ) (disk : DiskState) → IsSettled disk (other target)
    → length (disk.reads (other target)) ≤ length_limit → Stands ack seq (slot_reading (disk.reads (other target))) → IsApart ack target seq
    → (list : List ℕ) → disk.may_leave target list → length list ≤ length_limit → Misses target seq (slot_reading list)
    → NowMayLeave disk (RecoversTo (state_of ack (slot_reading (disk.reads (other target)))))
chance-at zero low ack seq disk settled fits stands apart list left fits′ counts = (
  list,
  disk.reads 1,
  left,
  (settled (disk.reads 1)).1 refl,
  recovered-fits list (disk.reads 1) fits′ fits ∙ old-zero ack seq (slot_reading (disk.reads 1)) (slot_reading list) stands apart counts,
)
chance-at (suc zero) low ack seq disk settled fits stands apart list left fits′ counts = (
  disk.reads 0,
  list,
  (settled (disk.reads 0)).1 refl,
  left,
  recovered-fits (disk.reads 0) list fits fits′ ∙ old-one ack seq (slot_reading (disk.reads 0)) (slot_reading list) stands apart counts,
)
chance-at (suc (suc n)) low ack seq disk settled fits stands apart list left fits′ counts = absurd (omega arith)

pub fits-chance : (keep : Keep) (disk : DiskState) → Fits keep disk → NowMayLeave disk (RecoversToOld keep disk)
fits-chance keep disk fits =
    let pair = chance-at keep.target fits.target keep.acknowledged keep.seq disk fits.settled fits.kept_fits fits.stands fits.apart
    fits.old.0 fits.old.1 (leaves-target keep disk fits (is_shut keep keep.target) refl fits.old.0 fits.old.1).fits (misses keep (slot_reading fits.old.0) fits.old.2) in
    (pair.0, pair.1, pair.2, pair.3, pair.4 ∙ ap Recovered (acknowledged-by keep.acknowledged keep.target keep.seq disk fits.apart))

-- a property that follows
pub chance-weaker : (disk : DiskState) (P Q : List ℕ → List ℕ → Type 0) → NowMayLeave disk P → ((first second : List ℕ) → P first second → Q first second) → NowMayLeave disk Q
chance-weaker disk P Q pair weaker = (pair.0, pair.1, pair.2, pair.3, weaker pair.0 pair.1 pair.4)
