-- The rounds of a session: those that its worker makes beside the contexts, and the last ones, which follow them.
use Rattle.std.specs.Prelude.{◌≡◌, ◌⊎◌, ℕ, Bool, true, false, List, [], ◌∷◌, ◌++◌, All, take, drop, length, filter}
use Rattle.chew_spec_dictionary.specs.Dictionary.{Dictionary}
use Rattle.chew_spec_dictionary.specs.History.{Entry, calls_of}
use Rattle.chew_spec_layers.specs.Need.{Waiting, Fresh, Nothing}
use Rattle.chew_spec_shared.specs.Needs.{IsNeed}
use Rattle.chew_spec_rounds.specs.Round.{AreKeepersCalls, DiskFault, KeepersCalls, NoMemory, Round, Saved, SeqSpent}

-- from one history to a longer one the keeper made the calls of a round, and nobody else made any
pub record MakesRound (before : List Entry) (round : Round) (now : List Entry) : Type 0 where
  pub more : List Entry
  pub joined : now ≡ before ++ more
  pub alone : All (λ e. e.who ≡ 0) more
  pub calls : KeepersCalls round (calls_of more 0)

-- where no snapshot waits: one round where a pair changed since the last one that was saved, else none
abbrev pub SavesFresh : Dictionary → (before : List Entry) → List Round → (journal : List Entry) → Type 0
SavesFresh start before [] journal = IsNeed start before Nothing × (journal ≡ before)
SavesFresh start before (round ∷ []) journal = IsNeed start before Fresh × MakesRound before round journal
SavesFresh start before (round ∷ (next ∷ rounds)) journal = ⊥

-- after the round that saves what waits: if it was saved, what changed since; and nothing more if it wasn't
abbrev pub GoesOnAfter : Dictionary → (before : List Entry) → Round → (rest : List Round) → (journal : List Entry) → Type 0
GoesOnAfter start before (Saved number) rest journal = SavesFresh start before rest journal
GoesOnAfter start before (DiskFault step) rest journal = (rest ≡ []) × (journal ≡ before)
GoesOnAfter start before NoMemory rest journal = (rest ≡ []) × (journal ≡ before)
GoesOnAfter start before (SeqSpent seq) rest journal = (rest ≡ []) × (journal ≡ before)

-- where a snapshot waits: a round that saves it, and what follows
abbrev pub SavesWaiting : Dictionary → (before : List Entry) → List Round → (journal : List Entry) → Type 0
SavesWaiting start before [] journal = ⊥
SavesWaiting start before (round ∷ rest) journal =
    IsNeed start before Waiting × ((now : List Entry) × MakesRound before round now × GoesOnAfter start now round rest journal)

-- the last rounds, at most two: they save what waits, then what changed since, and end at the first that isn't saved
abbrev pub AreLastRounds : Dictionary → (before : List Entry) → List Round → (journal : List Entry) → Type 0
AreLastRounds start before rounds journal = SavesWaiting start before rounds journal ⊎ SavesFresh start before rounds journal

-- the rounds of a session: so many that the worker makes, whether they are saved or not, and the last ones once the
-- contexts and the worker have ended
pub record AreRounds (start : Dictionary) (asked : ℕ) (journal : List Entry) (rounds : List Round) : Type 0 where
  -- the history as the contexts and the worker ended
  pub before : List Entry
  pub made : length (take asked rounds) ≡ asked
  pub worker : AreKeepersCalls (take asked rounds) (calls_of before 0)
  pub last : AreLastRounds start before (drop asked rounds) journal

-- a round in which the disk failed, and how many of a list are such
abbrev pub is_disk_fault : Round → Bool
is_disk_fault (DiskFault step) = true
is_disk_fault (Saved number) = false
is_disk_fault NoMemory = false
is_disk_fault (SeqSpent seq) = false

abbrev pub disk_faults : List Round → ℕ
disk_faults rounds = length (filter is_disk_fault rounds)

-- a round for which memory was wanting
abbrev pub is_no_memory : Round → Bool
is_no_memory NoMemory = true
is_no_memory (Saved number) = false
is_no_memory (DiskFault step) = false
is_no_memory (SeqSpent seq) = false
