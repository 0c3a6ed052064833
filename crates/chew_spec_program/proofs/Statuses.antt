-- Which statuses come of which causes.
use Rattle.std.specs.Prelude.{◌≡◌, ℕ, ◌≤◌, Bool, true, false, ◌||◌, List, [], ◌∷◌, All, Contains, IsTrue, is_some, cond, drop}
use Rattle.std.specs.List.{list_any}
use Rattle.std.proofs.Common.{refl, ap, sym, ◌∙◌, arith, true≢false}
use Rattle.std.proofs.lemmas.List.Elements.{All-cons, All-head, All-nil, All-tail}
use Rattle.chew_spec_rounds.specs.Round.{DiskFault, NoMemory, Round, Saved, SeqSpent, saved_number}
use Rattle.chew_spec_session.specs.LastRounds.{is_disk_fault, is_no_memory}
use Rattle.chew_spec_program.specs.Opening.{Inputs}
use Rattle.chew_spec_program.specs.Refusal.{DiskFailed, NoMemory as Wanting, Refusal, SlotDamaged, SlotTooLarge, SourceFailed, WrongImage, WrongScript, WrongSettings, WrongSystem, WrongWords, refusal_status}
use Rattle.chew_spec_program.specs.Run.{Ended, IsDone, is_spent}
use Rattle.chew_spec_program.specs.Slots.{Kept}
use Rattle.chew_spec_program.specs.Writing.{Sunk}

-- all statuses of a run
abbrev pub statuses : List ℕ
statuses = 0 ∷ (2 ∷ (3 ∷ (4 ∷ (5 ∷ (6 ∷ (7 ∷ (8 ∷ (9 ∷ (10 ∷ (11 ∷ []))))))))))

pub refusal-listed : (refusal : Refusal) → Contains statuses (refusal_status refusal)
refusal-listed WrongWords = (1, omega arith, refl)
refusal-listed (WrongSettings fault) = (2, omega arith, refl)
refusal-listed (WrongSystem fault) = (3, omega arith, refl)
refusal-listed (WrongScript fault) = (4, omega arith, refl)
refusal-listed (WrongImage place) = (3, omega arith, refl)
refusal-listed (SlotTooLarge slot len) = (5, omega arith, refl)
refusal-listed (SlotDamaged slot place) = (5, omega arith, refl)
refusal-listed SourceFailed = (6, omega arith, refl)
refusal-listed DiskFailed = (8, omega arith, refl)
refusal-listed Wanting = (9, omega arith, refl)

-- no refusal has the status of a run that did all, that of a sink that failed, or that of a seq that is spent
pub refusal-apart : (refusal : Refusal) → (refusal_status refusal ≡ 0 → ⊥) × (refusal_status refusal ≡ 8 → ⊥) × (refusal_status refusal ≡ 11 → ⊥)
refusal-apart WrongWords = (λ e. omega arith, λ e. omega arith, λ e. omega arith)
refusal-apart (WrongSettings fault) = (λ e. omega arith, λ e. omega arith, λ e. omega arith)
refusal-apart (WrongSystem fault) = (λ e. omega arith, λ e. omega arith, λ e. omega arith)
refusal-apart (WrongScript fault) = (λ e. omega arith, λ e. omega arith, λ e. omega arith)
refusal-apart (WrongImage place) = (λ e. omega arith, λ e. omega arith, λ e. omega arith)
refusal-apart (SlotTooLarge slot len) = (λ e. omega arith, λ e. omega arith, λ e. omega arith)
refusal-apart (SlotDamaged slot place) = (λ e. omega arith, λ e. omega arith, λ e. omega arith)
refusal-apart SourceFailed = (λ e. omega arith, λ e. omega arith, λ e. omega arith)
refusal-apart DiskFailed = (λ e. omega arith, λ e. omega arith, λ e. omega arith)
refusal-apart Wanting = (λ e. omega arith, λ e. omega arith, λ e. omega arith)

-- the status of a run that is not refused, by what happened: the sink failed, memory was wanting, the disk failed in a last round, or the
-- seq was spent for one
abbrev pub by_flags : (failed memory fault spent : Bool) → ℕ
by_flags failed memory fault spent = cond failed 8 (cond memory 10 (cond fault 9 (cond spent 11 0)))

-- none of these is a status of another
pub record Tells (failed memory fault spent : Bool) (status : ℕ) : Type 0 where
  pub zero : status ≡ 0 → (failed ≡ false) × (memory ≡ false) × (fault ≡ false) × (spent ≡ false)
  pub eight : status ≡ 8 → failed ≡ true
  pub nine : status ≡ 9 → fault ≡ true
  pub eleven : status ≡ 11 → spent ≡ true
  pub apart : 1 ≤ status → status ≤ 7 → ⊥

pub flags-tell : (failed memory fault spent : Bool) → Tells failed memory fault spent (by_flags failed memory fault spent)
flags-tell true memory fault spent =
    record { zero = λ e. absurd (omega arith); eight = λ e. refl; nine = λ e. absurd (omega arith); eleven = λ e. absurd (omega arith); apart = λ low high. omega arith }
flags-tell false true fault spent =
    record { zero = λ e. absurd (omega arith); eight = λ e. absurd (omega arith); nine = λ e. absurd (omega arith); eleven = λ e. absurd (omega arith); apart = λ low high. omega arith }
flags-tell false false true spent =
    record { zero = λ e. absurd (omega arith); eight = λ e. absurd (omega arith); nine = λ e. refl; eleven = λ e. absurd (omega arith); apart = λ low high. omega arith }
flags-tell false false false true =
    record { zero = λ e. absurd (omega arith); eight = λ e. absurd (omega arith); nine = λ e. absurd (omega arith); eleven = λ e. refl; apart = λ low high. omega arith }
flags-tell false false false false =
    record { zero = λ e. (refl, refl, refl, refl); eight = λ e. absurd (omega arith); nine = λ e. absurd (omega arith); eleven = λ e. absurd (omega arith); apart = λ low high. omega arith }

pub flags-listed : (failed memory fault spent : Bool) → Contains (0 ∷ (8 ∷ (9 ∷ (10 ∷ (11 ∷ []))))) (by_flags failed memory fault spent)
flags-listed true memory fault spent = (1, omega arith, refl)
flags-listed false true fault spent = (3, omega arith, refl)
flags-listed false false true spent = (2, omega arith, refl)
flags-listed false false false true = (4, omega arith, refl)
flags-listed false false false false = (0, omega arith, refl)

pub flags-among : (failed memory fault spent : Bool) → Contains statuses (by_flags failed memory fault spent)
flags-among true memory fault spent = (7, omega arith, refl)
flags-among false true fault spent = (9, omega arith, refl)
flags-among false false true spent = (8, omega arith, refl)
flags-among false false false true = (10, omega arith, refl)
flags-among false false false false = (0, omega arith, refl)

pub flags-fault : (failed memory spent : Bool) → Contains (8 ∷ (10 ∷ (9 ∷ []))) (by_flags failed memory true spent)
flags-fault true memory spent = (0, omega arith, refl)
flags-fault false true spent = (1, omega arith, refl)
flags-fault false false spent = (2, omega arith, refl)

pub flags-spent : (failed memory fault : Bool) → Contains (8 ∷ (10 ∷ (9 ∷ (11 ∷ [])))) (by_flags failed memory fault true)
flags-spent true memory fault = (0, omega arith, refl)
flags-spent false true fault = (1, omega arith, refl)
flags-spent false false true = (2, omega arith, refl)
flags-spent false false false = (3, omega arith, refl)

pub flags-done : (failed memory : Bool) → Contains (0 ∷ (8 ∷ (10 ∷ []))) (by_flags failed memory false false)
flags-done true memory = (1, omega arith, refl)
flags-done false true = (2, omega arith, refl)
flags-done false false = (0, omega arith, refl)

pub flags-calm : (memory spent : Bool) → Contains (0 ∷ (10 ∷ (11 ∷ []))) (by_flags false memory false spent)
flags-calm true spent = (1, omega arith, refl)
flags-calm false true = (2, omega arith, refl)
flags-calm false false = (0, omega arith, refl)

pub flags-room : (memory : Bool) → Contains (0 ∷ (10 ∷ [])) (by_flags false memory false false)
flags-room true = (1, omega arith, refl)
flags-room false = (0, omega arith, refl)

-- whether the disk failed in a last round, and whether one found the seq spent
abbrev pub last_fault : Ended → Bool
last_fault ended = list_any is_disk_fault (drop ended.last_from ended.rounds)

abbrev pub last_spent : Ended → Bool
last_spent ended = list_any is_spent (drop ended.last_from ended.rounds)

pub done-flags : (inputs : Inputs) (trace : Bool) (sink : Sunk) (disk : Kept) (ended : Ended) (done : IsDone inputs trace sink disk ended)
    → ended.status ≡ by_flags done.failed (done.session.memory || done.cut) (last_fault ended) (last_spent ended)
done-flags inputs trace sink disk ended done =
    ap (λ (e : Ended). e.status) done.ends
    ∙ ap (λ (e : Ended). by_flags done.failed (done.session.memory || done.cut) (last_fault e) (last_spent e)) (sym done.ends)

-- a round that was saved is none of the others
abbrev IsSavedRound : Round → Type 0
IsSavedRound r = IsTrue (is_some (saved_number r))

pub saved-calm : (rounds : List Round) → All IsSavedRound rounds → (list_any is_disk_fault rounds ≡ false) × (list_any is_spent rounds ≡ false)
saved-calm [] all = (refl, refl)
saved-calm (Saved number ∷ rounds) all = saved-calm rounds (All-tail IsSavedRound (Saved number) rounds all)
saved-calm (DiskFault step ∷ rounds) all = absurd (true≢false (sym (All-head IsSavedRound (DiskFault step) rounds all)))
saved-calm (NoMemory ∷ rounds) all = absurd (true≢false (sym (All-head IsSavedRound NoMemory rounds all)))
saved-calm (SeqSpent seq ∷ rounds) all = absurd (true≢false (sym (All-head IsSavedRound (SeqSpent seq) rounds all)))

-- and where there is none of the others all were saved
pub calm-saved : (rounds : List Round) → list_any is_no_memory rounds ≡ false → list_any is_disk_fault rounds ≡ false → list_any is_spent rounds ≡ false → All IsSavedRound rounds
calm-saved [] e f g = All-nil IsSavedRound
calm-saved (Saved number ∷ rounds) e f g = All-cons IsSavedRound (Saved number) rounds refl (calm-saved rounds e f g)
calm-saved (DiskFault step ∷ rounds) e f g = absurd (true≢false f)
calm-saved (NoMemory ∷ rounds) e f g = absurd (true≢false e)
calm-saved (SeqSpent seq ∷ rounds) e f g = absurd (true≢false g)
