-- What a session of contexts and a worker leaves: one history, the contexts' lines, and the rounds.
use Rattle.std.specs.Prelude.{◌≡◌, ◌↔◌, ◌≤◌, ℕ, ◌+◌, ◌-◌, ◌^◌, Bool, not, ◌||◌, true, List, ◌∷◌, ◌++◌, All, bytes_eq, drop, flat_map, length, map, min}
use Rattle.std.specs.List.{list_any, range_with_len}
use Rattle.chew_spec_dictionary.specs.History.{Entry, is_legal}
use Rattle.chew_spec_text.specs.KeyStroke.{KeyStroke}
use Rattle.chew_spec_text.specs.Line.{Line, line_text}
use Rattle.chew_spec_rounds.specs.Round.{Round, SeqSpent}
use Rattle.chew_spec_rounds.specs.Seq.{last_seq, saved_count}
use Rattle.chew_spec_session.specs.Context.{Basis, HandleAll}
use Rattle.chew_spec_session.specs.LastRounds.{AreRounds, is_no_memory}

-- how a context ended: its number, how many of its keys it handled, and their lines as they are printed
pub record ContextEnd : Type 0 where
  pub who : ℕ
  pub handled : ℕ
  pub bytes : List ℕ

-- how a session ended: the history of all calls, how each context ended, what each round answered, the place of the first
-- of the last rounds, and whether memory was wanting for a key or a last round
pub record Ended : Type 0 where
  pub journal : List Entry
  pub contexts : List ContextEnd
  pub rounds : List Round
  pub last_from : ℕ
  pub memory : Bool

-- all keys of these contexts were handled
abbrev pub are_handled : List (List KeyStroke) → List ℕ → Bool
are_handled contexts handled = bytes_eq handled (map length contexts)

-- the calls of the contexts, numbered from 1, and of the keeper, whose number is 0, make one legal history; each context
-- handled its keys by it, and its lines were printed
pub record IsOneHistory (basis : Basis) (contexts : List (List KeyStroke)) (ended : Ended) : Type 0 where
  pub legal : is_legal basis.start ended.journal ≡ true
  pub of_them : All (λ e. e.who ≤ length contexts) ended.journal
  pub numbers : map (λ end. end.who) ended.contexts ≡ range_with_len 1 (length contexts)
  pub lines : List (List Line)
  pub handled : HandleAll basis ended.journal 1 contexts (map (λ end. end.handled) ended.contexts) lines
  pub printed : map (λ end. end.bytes) ended.contexts ≡ map (flat_map line_text) lines

-- memory was wanting: a context stopped before its last key, or a last round was refused it
abbrev pub memory_wanted : List (List KeyStroke) → Ended → Bool
memory_wanted contexts ended =
    not (are_handled contexts (map (λ end. end.handled) ended.contexts)) || list_any is_no_memory (drop ended.last_from ended.rounds)

-- a round answers that the seq is spent exactly where the seq at the start and the number of rounds before it that were
-- saved are in sum the last one, which it tells
pub record CountFrom (seq : ℕ) (rounds : List Round) : Type 0 where
  pub spent : (before later : List Round) (round : Round) (number : ℕ) → rounds ≡ before ++ round ∷ later
      → (round ≡ SeqSpent number) ↔ ((seq + saved_count before ≡ last_seq) × (number ≡ last_seq))

-- a count of faults rose by this number, or stands at the end of its type
abbrev pub RoseBy : ℕ → ℕ → ℕ → Type 0
RoseBy count before now = min (before + count) (2 ^ 64 - 1) ≤ now

-- a session over these contexts, of whose rounds the worker makes so many, from this seq on
pub record IsSession (basis : Basis) (contexts : List (List KeyStroke)) (asked seq : ℕ) (ended : Ended) : Type 0 where
  pub history : IsOneHistory basis contexts ended
  pub rounds : AreRounds basis.start.dictionary asked ended.journal ended.rounds
  pub seqs : CountFrom seq ended.rounds
  pub last_from : ended.last_from ≡ asked
  pub memory : ended.memory ≡ memory_wanted contexts ended
