-- How rounds count up the seq, the number of a checkpoint, and when it is spent.
use Rattle.std.specs.Prelude.{◌≡◌, ◌↔◌, ℕ, suc, ◌+◌, ◌-◌, ◌^◌, List, [], ◌∷◌, length, filter, is_some}
use Rattle.chew_spec_rounds.specs.Round.{Round, SeqSpent, saved_number}

-- the last seq that a checkpoint can have
abbrev pub last_seq : ℕ
last_seq = 2 ^ 64 - 1

-- a round that begins with this acknowledged seq and leaves that one: it answers that the seq is spent exactly where it
-- is the last, and a saved round counts it up by one
pub record CountsSeq (seq seq_then : ℕ) (round : Round) : Type 0 where
  pub spent : (number : ℕ) → (round ≡ SeqSpent number) ↔ ((seq ≡ last_seq) × (number ≡ last_seq))
  pub counted : seq_then ≡ seq + length (filter (λ r. is_some (saved_number r)) (round ∷ []))

-- the rounds of a list that saved a snapshot
abbrev pub saved_count : List Round → ℕ
saved_count rounds = length (filter (λ r. is_some (saved_number r)) rounds)

-- rounds one after the other, from a place on: each begins with the seq that the one before left
abbrev pub CountSeqs : (seqs : ℕ → ℕ) → (place : ℕ) → List Round → Type 0
CountSeqs seqs place [] = Unit {0}
CountSeqs seqs place (round ∷ rounds) = CountsSeq (seqs place) (seqs (suc place)) round × CountSeqs seqs (suc place) rounds
