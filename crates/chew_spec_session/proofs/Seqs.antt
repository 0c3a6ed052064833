-- When the seq is spent in a session.
use Rattle.std.specs.Prelude.{◌≡◌, ◌≢◌, ◌≤◌, ◌+◌, ◌-◌, ◌^◌, ◌==◌, ℕ, List, [], ◌∷◌, ◌++◌, if◌then◌else◌, length, refl}
use Rattle.std.proofs.Common.{arith, sym, ap, ◌∙◌, subst}
use Rattle.std.proofs.lemmas.List.{length-append}
use Rattle.chew_spec_rounds.specs.Round.{DiskFault, NoMemory, Round, Saved, SeqSpent}
use Rattle.chew_spec_rounds.specs.Seq.{CountSeqs, CountsSeq, last_seq, saved_count}
use Rattle.chew_spec_rounds.proofs.Counts.{counted, counts-saved, counts-spent, saved-spent}
use Rattle.chew_spec_session.specs.Session.{CountFrom}

pub count-from : (seqs : ℕ → ℕ) (rounds : List Round) → CountSeqs seqs 0 rounds → CountFrom (seqs 0) rounds
count-from seqs rounds counts = record {
  spent = λ before later round number same.
      let found = counted seqs 0 before round later (subst (λ (rs : List Round). CountSeqs seqs 0 rs) same counts) in (
        λ is. let both = (found.counts.spent number).0 is in (sym found.same ∙ both.0, both.1),
        λ both. (found.counts.spent number).1 (found.same ∙ both.0, both.1),
      );
}

-- no more rounds are saved than are made
saved-few : (rounds : List Round) → saved_count rounds ≤ length rounds
saved-few [] = omega arith
saved-few (Saved number ∷ rounds) = let rest = saved-few rounds in omega arith
saved-few (DiskFault step ∷ rounds) = let rest = saved-few rounds in omega arith
saved-few (NoMemory ∷ rounds) = let rest = saved-few rounds in omega arith
saved-few (SeqSpent seq ∷ rounds) = let rest = saved-few rounds in omega arith

pub room-left : (seq : ℕ) (rounds before later : List Round) (number : ℕ) → CountFrom seq rounds → length rounds ≤ 66 → seq ≤ 2 ^ 64 - 67
    → rounds ≡ before ++ SeqSpent number ∷ later → ⊥
room-left seq rounds before later number counts few room same =
    let sum = ((counts.spent before later (SeqSpent number) number same).0 refl).0 in
    let saved = saved-few before in
    let long = ap length same ∙ length-append before (SeqSpent number ∷ later) in
    omega arith

pub one-spent : CountFrom last_seq (SeqSpent last_seq ∷ [])
one-spent = count-from (λ place. last_seq) (SeqSpent last_seq ∷ []) (counts-spent last_seq refl, tt)

pub other-number : CountFrom last_seq (SeqSpent 1 ∷ []) → ⊥
other-number counts = let same = ((counts.spent [] [] (SeqSpent 1) 1 refl).0 refl).1 in omega arith

pub not-spent : CountFrom last_seq (Saved 1 ∷ []) → ⊥
not-spent counts = saved-spent ((counts.spent [] [] (Saved 1) last_seq refl).1 (omega arith, refl))

pub too-early : CountFrom 7 (SeqSpent 7 ∷ []) → ⊥
too-early counts = let same = ((counts.spent [] [] (SeqSpent 7) 7 refl).0 refl).1 in omega arith

-- the seqs of two rounds, the first of which counts up to the last
abbrev up-to-last : ℕ → ℕ
up-to-last place = if place == 0 then last_seq - 1 else last_seq

not-last : last_seq - 1 ≢ last_seq
not-last same = let equal = same in omega arith

saved-before : CountsSeq (last_seq - 1) last_seq (Saved 1)
saved-before = subst (λ (n : ℕ). CountsSeq (last_seq - 1) n (Saved 1)) (let sum : last_seq - 1 + 1 ≡ last_seq = omega arith in sum) (counts-saved (last_seq - 1) 1 not-last)

pub spent-after-one : CountFrom (last_seq - 1) (Saved 1 ∷ (SeqSpent last_seq ∷ []))
spent-after-one = count-from up-to-last (Saved 1 ∷ (SeqSpent last_seq ∷ [])) (saved-before, (counts-spent last_seq refl, tt))
