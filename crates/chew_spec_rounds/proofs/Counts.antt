-- How rounds count up the seq.
use Rattle.std.specs.Prelude.{◌≡◌, ◌↔◌, ℕ, suc, ◌+◌, List, [], ◌∷◌, ◌++◌, is_some, refl, ◌≢◌, Option, Some, None}
use Rattle.std.proofs.Common.{arith, sym, ap, ◌∙◌}
use Rattle.std.proofs.lemmas.Bool.{true≢false}
use Rattle.chew_spec_rounds.specs.Round.{DiskFault, NoMemory, Round, Saved, SeqSpent, saved_number}
use Rattle.chew_spec_rounds.specs.Seq.{CountSeqs, CountsSeq, last_seq, saved_count}
use Rattle.chew_spec_rounds.proofs.Fronts.{none-some}
use Rattle.chew_spec_rounds.proofs.Keepers.{some-same}

-- the first of a list and the rest
count-first : (round : Round) (rounds : List Round) → saved_count (round ∷ rounds) ≡ saved_count (round ∷ []) + saved_count rounds
count-first (Saved number) rounds = omega arith
count-first (DiskFault step) rounds = omega arith
count-first NoMemory rounds = omega arith
count-first (SeqSpent seq) rounds = omega arith

-- the seqs with which a round behind others begins and ends
pub record Counted (seqs : ℕ → ℕ) (place : ℕ) (before : List Round) (round : Round) : Type 0 where
  pub seq : ℕ
  pub seq_then : ℕ
  pub counts : CountsSeq seq seq_then round
  pub same : seq ≡ seqs place + saved_count before

pub counted : (seqs : ℕ → ℕ) (place : ℕ) (before : List Round) (round : Round) (later : List Round) → CountSeqs seqs place (before ++ round ∷ later) → Counted seqs place before round
counted seqs place [] round later counts = record { seq = seqs place; seq_then = seqs (suc place); counts = counts.0; same = omega arith }
counted seqs place (first ∷ before) round later counts =
    let rest = counted seqs (suc place) before round later counts.1 in
    let step = counts.0.counted in
    let sum = count-first first before in
    record { seq = rest.seq; seq_then = rest.seq_then; counts = rest.counts; same = let is = rest.same in omega arith }

pub spent-by-count : (seqs : ℕ → ℕ) (before : List Round) (round : Round) (later : List Round) → CountSeqs seqs 0 (before ++ round ∷ later)
    → (round ≡ SeqSpent last_seq) ↔ (seqs 0 + saved_count before ≡ last_seq)
spent-by-count seqs before round later counts =
    let found = counted seqs 0 before round later counts in (
      λ spent. sym found.same ∙ ((found.counts.spent last_seq).0 spent).0,
      λ sum. (found.counts.spent last_seq).1 (found.same ∙ sum, refl),
    )

pub spent-number : (seqs : ℕ → ℕ) (before : List Round) (number : ℕ) (later : List Round) → CountSeqs seqs 0 (before ++ SeqSpent number ∷ later) → number ≡ last_seq
spent-number seqs before number later counts = (((counted seqs 0 before (SeqSpent number) later counts).counts.spent number).0 refl).1

-- a saved round is none that is spent
pub saved-spent : {number seq : ℕ} → Saved number ≡ SeqSpent seq → ⊥
saved-spent same = true≢false (ap (λ r. is_some (saved_number r)) same)

-- a round is spent with a seq
abbrev spent-seq : Round → Option ℕ
spent-seq (SeqSpent seq) = Some seq
spent-seq _ = None

pub counts-saved : (seq number : ℕ) → seq ≢ last_seq → CountsSeq seq (seq + 1) (Saved number)
counts-saved seq number apart = record { spent = λ n. (λ same. absurd (saved-spent same), λ both. absurd (apart both.0)); counted = refl }

pub counts-fault : (seq step : ℕ) → seq ≢ last_seq → CountsSeq seq seq (DiskFault step)
counts-fault seq step apart = record { spent = λ n. (λ same. absurd (none-some (ap spent-seq same)), λ both. absurd (apart both.0)); counted = omega arith }

pub counts-memory : (seq : ℕ) → seq ≢ last_seq → CountsSeq seq seq NoMemory
counts-memory seq apart = record { spent = λ n. (λ same. absurd (none-some (ap spent-seq same)), λ both. absurd (apart both.0)); counted = omega arith }

pub counts-spent : (seq : ℕ) → seq ≡ last_seq → CountsSeq seq seq (SeqSpent seq)
counts-spent seq is = record {
  spent = λ n. (λ same. (is, some-same (ap spent-seq (sym same)) ∙ is), λ both. ap SeqSpent (is ∙ sym both.1));
  counted = omega arith;
}
