-- What a round leaves, by its calls.
use Rattle.std.specs.Prelude.{◌≡◌, ℕ, ◌+◌, true, ◌==◌, if◌then◌else◌, List, [], ◌∷◌, ◌++◌, Some, None, Result, Ok, Err, refl}
use Rattle.std.proofs.Common.{inl, ap, ap₂, sym, ◌∙◌, subst}
use Rattle.std.proofs.lemmas.Bool.{eq-eqb}
use Rattle.std.proofs.lemmas.List.{append-nil}
use Rattle.chew_spec_disk.specs.Disk.{DiskState}
use Rattle.chew_spec_syllable.specs.Row.{Row}
use Rattle.chew_spec_dictionary.specs.Call.{Call, Freeze, Install}
use Rattle.chew_spec_dictionary.specs.Dictionary.{Dictionary}
use Rattle.chew_spec_dictionary.specs.History.{Entry, is_legal, start_of}
use Rattle.chew_spec_layers.specs.Layers.{Waiting}
use Rattle.chew_spec_layers.specs.Overlay.{overlay}
use Rattle.chew_spec_slots.specs.Keep.{Keep}
use Rattle.chew_spec_shared.specs.Snapshot.{IsSnapshot}
use Rattle.chew_spec_rounds.specs.Front.{front_checkpoint, shape_after}
use Rattle.chew_spec_rounds.specs.InStep.{IsInStep}
use Rattle.chew_spec_rounds.specs.Round as spec
use Rattle.chew_spec_rounds.specs.Round.{IsRound, KeepersCalls, saved_number}
use Rattle.chew_spec_rounds.specs.Seq.{last_seq}
use Rattle.chew_spec_rounds.specs.WriteSteps.{WritesCheckpoint}
use Rattle.chew_spec_rounds.proofs.Fronts.{none-some}
use Rattle.chew_spec_rounds.proofs.InStep.{in-step-grown, round-holds, unwritten-round}
use Rattle.chew_spec_rounds.proofs.Writing.{failed-in-step, failed-round, saved-in-step, saved-round}
use Rattle.chew_checkpoint.specs.Answers.{round_for, round_of}
use Rattle.chew_checkpoint.specs.declared.fault.WriteFault.{WriteFault}
use Rattle.chew_checkpoint.specs.declared.fault.WriteFault.TheVariants.{DiskFault, NoMemory, SeqSpent}
use Rattle.chew_checkpoint.proofs.Seen.{Grew}

-- a round without a call
pub no-round : (seen : List Entry) → Grew seen seen []
no-round seen = record { more = []; joined = sym (append-nil seen); made = refl }

-- what was not written stays in step
pub unwritten-in-step : (keep : Keep) (disk : DiskState) (start : Dictionary) (seen now : List Entry) (round : spec.Round) (calls : List Call) → Grew seen now calls
    → saved_number round ≡ None → KeepersCalls round calls → is_legal (start_of start) now ≡ true → IsInStep keep disk start seen → IsInStep keep disk start now
unwritten-in-step keep disk start seen now round calls grew none own legal step =
    let joined = seen ++ grew.more in
    let legal_joined = ap (is_legal (start_of start)) (sym grew.joined) ∙ legal in
    subst (λ (h : List Entry). IsInStep keep disk start h) (sym grew.joined)
    (in-step-grown keep disk start seen grew.more joined (round-holds start seen grew.more round legal_joined none (subst (KeepersCalls round) (sym grew.made) own)) step)

pub unwritten-is-round : (keep : Keep) (disk : DiskState) (start : Dictionary) (seen now : List Entry) (round : spec.Round) (calls : List Call) → Grew seen now calls
    → saved_number round ≡ None → KeepersCalls round calls → is_legal (start_of start) now ≡ true → IsInStep keep disk start seen → IsRound start seen now disk disk round
unwritten-is-round keep disk start seen now round calls grew none own legal step =
    subst (λ (h : List Entry). IsRound start seen h disk disk round) (sym grew.joined)
    (unwritten-round keep disk start seen grew.more round (ap (is_legal (start_of start)) (sym grew.joined) ∙ legal) step none (subst (KeepersCalls round) (sym grew.made) own))

-- the map of a snapshot, as what is written of it
pub snapshot-front : (start : Dictionary) (seen : List Entry) (rows : List Row) (layer : Waiting) → IsSnapshot start seen rows layer
    → record { life = layer.life; rows = overlay rows layer.marks } ≡ front_checkpoint start seen layer.number
unfolding front_checkpoint
snapshot-front start seen rows layer is = ap₂ (λ (l : ℕ) (r : List Row). record { life = l; rows = r }) is.life is.map

-- a round that fails in its writing, whose fault isn't that the seq is spent
module _ (keep keep_then : Keep) (disk disk_then : DiskState) (start : Dictionary) (seen now : List Entry) (rows : List Row) (layer : Waiting) (grew : Grew seen now (Freeze ∷ []))
    (legal : is_legal (start_of start) now ≡ true) (is : IsSnapshot start now rows layer) (step : IsInStep keep disk start seen) where
  joined-legal : is_legal (start_of start) (seen ++ grew.more) ≡ true
  joined-legal = ap (is_legal (start_of start)) (sym grew.joined) ∙ legal

  joined-waits : (shape_after start (seen ++ grew.more)).waiting ≡ Some layer.number
  joined-waits = ap (λ (h : List Entry). (shape_after start h).waiting) (sym grew.joined) ∙ is.waits

  joined-front : record { life = layer.life; rows = overlay rows layer.marks } ≡ front_checkpoint start (seen ++ grew.more) layer.number
  joined-front = snapshot-front start now rows layer is ∙ ap (λ (h : List Entry). front_checkpoint start h layer.number) grew.joined

  pub fault-in-step : {T : Type 0} (fault : WriteFault) → WritesCheckpoint {T = T} keep disk keep_then disk_then (record { seq = keep.seq + 1; checkpoint = record { life = layer.life; rows = overlay rows layer.marks } }) (Err fault)
      → IsInStep keep_then disk_then start now
  fault-in-step fault writes =
      subst (λ (h : List Entry). IsInStep keep_then disk_then start h) (sym grew.joined)
      (failed-in-step keep keep_then disk disk_then start seen grew.more layer.number _ fault joined-legal step grew.made joined-waits joined-front writes)

  fault-round : {T : Type 0} (number : ℕ) (fault : WriteFault) → WritesCheckpoint {T = T} keep disk keep_then disk_then (record { seq = keep.seq + 1; checkpoint = record { life = layer.life; rows = overlay rows layer.marks } }) (Err fault)
      → IsRound start seen now disk disk_then (spec.DiskFault number)
  fault-round number fault writes =
      subst (λ (h : List Entry). IsRound start seen h disk disk_then (spec.DiskFault number)) (sym grew.joined)
      (failed-round keep keep_then disk disk_then start seen grew.more layer.number number _ fault joined-legal step grew.made joined-waits joined-front writes)

  pub fault-is-round : {T : Type 0} (fault : WriteFault) → ((seq : ℕ) → fault ≡ SeqSpent seq → ⊥)
      → WritesCheckpoint {T = T} keep disk keep_then disk_then (record { seq = keep.seq + 1; checkpoint = record { life = layer.life; rows = overlay rows layer.marks } }) (Err fault)
      → IsRound start seen now disk disk_then (round_of (round_for fault))
  fault-is-round (DiskFault number) other writes = fault-round number (DiskFault number) writes
  fault-is-round NoMemory other writes =
      let is_round = fault-round 0 NoMemory writes in
      record {
        more = is_round.more;
        joined = is_round.joined;
        calls = inl is_round.calls;
        is_disk = is_round.is_disk;
        later = is_round.later;
        moments = is_round.moments;
        chances = is_round.chances;
        saved = tt;
        now = is_round.now;
      }
  fault-is-round (SeqSpent seq) other writes = absurd (other seq refl)

-- a round that saves its snapshot
module _ {T E : Type 0} (keep keep_then : Keep) (disk disk_then : DiskState) (start : Dictionary) (seen frozen now : List Entry) (rows : List Row) (layer : Waiting) (done : T)
    (grew : Grew seen frozen (Freeze ∷ [])) (installs : Grew frozen now (Install layer.number ∷ []))
    (legal : is_legal (start_of start) now ≡ true) (is : IsSnapshot start frozen rows layer) (step : IsInStep keep disk start seen)
    (writes : WritesCheckpoint {E = E} keep disk keep_then disk_then (record { seq = keep.seq + 1; checkpoint = record { life = layer.life; rows = overlay rows layer.marks } }) (Ok done)) where
  all : now ≡ (seen ++ grew.more) ++ installs.more
  all = installs.joined ∙ ap (λ (h : List Entry). h ++ installs.more) grew.joined

  all-legal : is_legal (start_of start) ((seen ++ grew.more) ++ installs.more) ≡ true
  all-legal = ap (is_legal (start_of start)) (sym all) ∙ legal

  waits : (shape_after start (seen ++ grew.more)).waiting ≡ Some layer.number
  waits = ap (λ (h : List Entry). (shape_after start h).waiting) (sym grew.joined) ∙ is.waits

  front : record { life = layer.life; rows = overlay rows layer.marks } ≡ front_checkpoint start (seen ++ grew.more) layer.number
  front = snapshot-front start frozen rows layer is ∙ ap (λ (h : List Entry). front_checkpoint start h layer.number) grew.joined

  pub saved-stays-in-step : IsInStep keep_then disk_then start now
  saved-stays-in-step =
      subst (λ (h : List Entry). IsInStep keep_then disk_then start h) (sym all)
      (saved-in-step keep keep_then disk disk_then start seen grew.more installs.more layer.number _ done all-legal step grew.made waits front installs.made writes)

  pub saved-is-round : IsRound start seen now disk disk_then (spec.Saved layer.number)
  saved-is-round =
      subst (λ (h : List Entry). IsRound start seen h disk disk_then (spec.Saved layer.number)) (sym all)
      (saved-round keep keep_then disk disk_then start seen grew.more installs.more layer.number _ done all-legal step grew.made waits front installs.made writes)

-- a fault is not that the seq is spent, where it wasn't as the round began
pub not-spent : {T : Type 0} (inside keep : Keep) (fault : WriteFault) → inside ≡ keep → None ≡ (if inside.seq == last_seq then Some inside.seq else None)
    → ((seq : ℕ) → ◌≡◌ {A = Result T WriteFault} (Err fault) (Err (SeqSpent seq)) → keep.seq ≡ last_seq) → (seq : ℕ) → fault ≡ SeqSpent seq → ⊥
not-spent inside keep fault same none spent seq is =
    none-some (none ∙ ap (λ b. if b then Some inside.seq else None) (eq-eqb inside.seq last_seq (ap (λ (k : Keep). k.seq) same ∙ spent seq (ap Err is))))
