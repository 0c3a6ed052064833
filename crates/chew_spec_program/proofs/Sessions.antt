-- What the status of a run says that is not refused.
use Rattle.std.specs.Prelude.{◌≡◌, ◌⊎◌, ℕ, zero, suc, ◌≤◌, ◌-◌, ◌^◌, Bool, true, false, ◌||◌, List, [], ◌∷◌, ◌++◌, All, Contains, IsTrue, drop, is_some}
use Rattle.std.specs.List.{list_any}
use Rattle.std.proofs.Common.{refl, ap, sym, subst, inl, inr, ◌∙◌, arith, true≢false}
use Rattle.std.proofs.lemmas.List.{append_assoc}
use Rattle.std.proofs.lemmas.List.Elements.{All-cons, All-head, All-nil, All-tail}
use Rattle.chew_spec_outside.specs.Faults.{Rose}
use Rattle.chew_spec_rounds.specs.Round.{DiskFault, NoMemory, Round, Saved, SeqSpent, saved_number}
use Rattle.chew_spec_session.specs.LastRounds.{disk_faults, is_disk_fault}
use Rattle.chew_spec_session.proofs.LastRounds.{at-most}
use Rattle.chew_spec_session.proofs.Seqs.{room-left}
use Rattle.chew_spec_program.specs.Opening.{Inputs}
use Rattle.chew_spec_program.specs.Run.{Ended, IsDone, is_spent}
use Rattle.chew_spec_program.specs.Slots.{Kept}
use Rattle.chew_spec_program.specs.Writing.{Sunk}
use Rattle.chew_spec_program.proofs.Runs.{fault-counted, rose-by-one}
use Rattle.chew_spec_program.proofs.Statuses.{by_flags, done-flags, flags-calm, flags-done, flags-fault, flags-listed, flags-room, flags-spent, flags-tell, last_fault, last_spent, saved-calm}

module _ (inputs : Inputs) (trace : Bool) (sink : Sunk) (disk : Kept) (ended : Ended) (done : IsDone inputs trace sink disk ended) where
  abbrev memory : Bool
  memory = done.session.memory || done.cut

  flags : ended.status ≡ by_flags done.failed memory (last_fault ended) (last_spent ended)
  flags = done-flags inputs trace sink disk ended done

  pub done-disk : ended.status ≡ 9 → last_fault ended ≡ true
  done-disk e = (flags-tell done.failed memory (last_fault ended) (last_spent ended)).nine (sym flags ∙ e)

  pub done-spent : ended.status ≡ 11 → last_spent ended ≡ true
  done-spent e = (flags-tell done.failed memory (last_fault ended) (last_spent ended)).eleven (sym flags ∙ e)

  pub fault-told : last_fault ended ≡ true → Contains (8 ∷ (10 ∷ (9 ∷ []))) ended.status
  fault-told e =
      subst (Contains (8 ∷ (10 ∷ (9 ∷ [])))) (sym (flags ∙ ap (λ b. by_flags done.failed memory b (last_spent ended)) e)) (flags-fault done.failed memory (last_spent ended))

  pub spent-told : last_spent ended ≡ true → Contains (8 ∷ (10 ∷ (9 ∷ (11 ∷ [])))) ended.status
  spent-told e =
      subst (Contains (8 ∷ (10 ∷ (9 ∷ (11 ∷ []))))) (sym (flags ∙ ap (λ b. by_flags done.failed memory (last_fault ended) b) e)) (flags-spent done.failed memory (last_fault ended))

  pub done-listed : Contains (0 ∷ (8 ∷ (9 ∷ (10 ∷ (11 ∷ []))))) ended.status
  done-listed = subst (Contains (0 ∷ (8 ∷ (9 ∷ (10 ∷ (11 ∷ [])))))) (sym flags) (flags-listed done.failed memory (last_fault ended) (last_spent ended))

  pub all-done : All (λ (r : Round). IsTrue (is_some (saved_number r))) (drop ended.last_from ended.rounds) → Contains (0 ∷ (8 ∷ (10 ∷ []))) ended.status
  all-done all =
      let calm = saved-calm (drop ended.last_from ended.rounds) all in
      subst (Contains (0 ∷ (8 ∷ (10 ∷ [])))) (sym (flags ∙ ap (λ b. by_flags done.failed memory b (last_spent ended)) calm.0 ∙ ap (λ b. by_flags done.failed memory false b) calm.1))
      (flags-done done.failed memory)

  -- neither the disk nor the sink failed
  calm-fault : (Rose disk.faults_before disk.faults_now → ⊥) → (b : Bool) → last_fault ended ≡ b → b ≡ false
  calm-fault calm true e =
      absurd (calm (rose-by-one (disk_faults done.session.rounds) disk.faults_before disk.faults_now
      (fault-counted done.session.rounds done.session.last_from (sym (ap (λ (d : Ended). last_fault d) done.ends) ∙ e)) done.faults.rose))
  calm-fault calm false e = refl

  calm-sink : (Rose sink.faults_before sink.faults_now → ⊥) → (b : Bool) → done.failed ≡ b → b ≡ false
  calm-sink calm true e = absurd (calm (done.prints.writes.rose e))
  calm-sink calm false e = refl

  calm-flags : (Rose disk.faults_before disk.faults_now → ⊥) → (Rose sink.faults_before sink.faults_now → ⊥) → ended.status ≡ by_flags false memory false (last_spent ended)
  calm-flags quiet calm =
      flags ∙ ap (λ b. by_flags b memory (last_fault ended) (last_spent ended)) (calm-sink calm done.failed refl)
      ∙ ap (λ b. by_flags false memory b (last_spent ended)) (calm-fault quiet (last_fault ended) refl)

  pub done-calm : (Rose disk.faults_before disk.faults_now → ⊥) → (Rose sink.faults_before sink.faults_now → ⊥) → Contains (0 ∷ (10 ∷ (11 ∷ []))) ended.status
  done-calm quiet calm = subst (Contains (0 ∷ (10 ∷ (11 ∷ [])))) (sym (calm-flags quiet calm)) (flags-calm memory (last_spent ended))

  -- the rounds of the end are those of the session
  same-rounds : done.session.rounds ≡ ended.rounds
  same-rounds = sym (ap (λ (e : Ended). e.rounds) done.ends)

  pub no-faults : (Rose disk.faults_before disk.faults_now → ⊥) → All (λ (r : Round). IsTrue (is_disk_fault r) → ⊥) ended.rounds
  no-faults quiet = subst (All (λ (r : Round). IsTrue (is_disk_fault r) → ⊥)) same-rounds (by done.session.rounds (counted (disk_faults done.session.rounds) refl))
    where
      counted : (n : ℕ) → disk_faults done.session.rounds ≡ n → disk_faults done.session.rounds ≡ 0
      counted zero e = e
      counted (suc n) e = absurd (quiet (rose-by-one (disk_faults done.session.rounds) disk.faults_before disk.faults_now (omega arith) done.faults.rose))

      by : (rounds : List Round) → disk_faults rounds ≡ 0 → All (λ (r : Round). IsTrue (is_disk_fault r) → ⊥) rounds
      by [] e = All-nil (λ (r : Round). IsTrue (is_disk_fault r) → ⊥)
      by (Saved number ∷ rounds) e = All-cons (λ (r : Round). IsTrue (is_disk_fault r) → ⊥) (Saved number) rounds (λ none. true≢false (sym none)) (by rounds e)
      by (DiskFault step ∷ rounds) e = absurd (omega arith)
      by (NoMemory ∷ rounds) e = All-cons (λ (r : Round). IsTrue (is_disk_fault r) → ⊥) NoMemory rounds (λ none. true≢false (sym none)) (by rounds e)
      by (SeqSpent seq ∷ rounds) e = All-cons (λ (r : Round). IsTrue (is_disk_fault r) → ⊥) (SeqSpent seq) rounds (λ none. true≢false (sym none)) (by rounds e)

  none-spent : inputs.script.rounds ≤ 64 → inputs.seq ≤ 2 ^ 64 - 67 → (before rest : List Round) → done.session.rounds ≡ before ++ rest → All (λ (r : Round). IsTrue (is_spent r) → ⊥) rest
  none-spent few room before [] e = All-nil (λ (r : Round). IsTrue (is_spent r) → ⊥)
  none-spent few room before (round ∷ rest) e =
      All-cons (λ (r : Round). IsTrue (is_spent r) → ⊥) round rest (by round e)
      (none-spent few room (before ++ round ∷ []) rest (e ∙ sym (append_assoc before (round ∷ []) rest)))
    where
      by : (r : Round) → done.session.rounds ≡ before ++ r ∷ rest → IsTrue (is_spent r) → ⊥
      by (Saved number) same spent = true≢false (sym spent)
      by (DiskFault step) same spent = true≢false (sym spent)
      by NoMemory same spent = true≢false (sym spent)
      by (SeqSpent number) same spent =
          let most = at-most inputs.basis.start.dictionary inputs.script.rounds done.session.journal done.session.rounds done.is_session.rounds in
          room-left inputs.seq done.session.rounds before rest number done.is_session.seqs (omega arith) room same

  pub unspent : inputs.script.rounds ≤ 64 → inputs.seq ≤ 2 ^ 64 - 67 → All (λ (r : Round). IsTrue (is_spent r) → ⊥) ended.rounds
  unspent few room = subst (All (λ (r : Round). IsTrue (is_spent r) → ⊥)) same-rounds (none-spent few room [] done.session.rounds refl)

  -- no last round is spent where none is
  last-unspent : (rounds : List Round) (n : ℕ) → All (λ (r : Round). IsTrue (is_spent r) → ⊥) rounds → list_any is_spent (drop n rounds) ≡ false
  last-unspent [] zero all = refl
  last-unspent [] (suc n) all = refl
  last-unspent (round ∷ rounds) (suc n) all = last-unspent rounds n (All-tail (λ (r : Round). IsTrue (is_spent r) → ⊥) round rounds all)
  last-unspent (round ∷ rounds) zero all = by round (All-head (λ (r : Round). IsTrue (is_spent r) → ⊥) round rounds all) (last-unspent rounds 0 (All-tail (λ (r : Round). IsTrue (is_spent r) → ⊥) round rounds all))
    where
      by : (r : Round) → (IsTrue (is_spent r) → ⊥) → list_any is_spent (drop 0 rounds) ≡ false → (is_spent r || list_any is_spent rounds) ≡ false
      by (Saved number) none rest = rest
      by (DiskFault step) none rest = rest
      by NoMemory none rest = rest
      by (SeqSpent number) none rest = absurd (none refl)

  pub done-room : inputs.script.rounds ≤ 64 → inputs.seq ≤ 2 ^ 64 - 67 → (Rose disk.faults_before disk.faults_now → ⊥) → (Rose sink.faults_before sink.faults_now → ⊥)
      → Contains (0 ∷ (10 ∷ [])) ended.status
  done-room few room quiet calm =
      subst (Contains (0 ∷ (10 ∷ []))) (sym (calm-flags quiet calm ∙ ap (λ b. by_flags false memory false b) (last-unspent ended.rounds ended.last_from (unspent few room)))) (flags-room memory)

  -- a round is saved, or memory was wanting for it, where it is none of the others
  others-out : (rounds : List Round) → All (λ (r : Round). IsTrue (is_disk_fault r) → ⊥) rounds → All (λ (r : Round). IsTrue (is_spent r) → ⊥) rounds
      → All (λ (r : Round). IsTrue (is_some (saved_number r)) ⊎ (r ≡ NoMemory)) rounds
  others-out [] faults spent = All-nil (λ (r : Round). IsTrue (is_some (saved_number r)) ⊎ (r ≡ NoMemory))
  others-out (round ∷ rounds) faults spent =
      All-cons (λ (r : Round). IsTrue (is_some (saved_number r)) ⊎ (r ≡ NoMemory)) round rounds
      (by round (All-head (λ (r : Round). IsTrue (is_disk_fault r) → ⊥) round rounds faults) (All-head (λ (r : Round). IsTrue (is_spent r) → ⊥) round rounds spent))
      (others-out rounds (All-tail (λ (r : Round). IsTrue (is_disk_fault r) → ⊥) round rounds faults) (All-tail (λ (r : Round). IsTrue (is_spent r) → ⊥) round rounds spent))
    where
      by : (r : Round) → (IsTrue (is_disk_fault r) → ⊥) → (IsTrue (is_spent r) → ⊥) → IsTrue (is_some (saved_number r)) ⊎ (r ≡ NoMemory)
      by (Saved number) fault none = inl refl
      by (DiskFault step) fault none = absurd (fault refl)
      by NoMemory fault none = inr refl
      by (SeqSpent seq) fault none = absurd (none refl)

  pub saved-or-wanting : inputs.script.rounds ≤ 64 → inputs.seq ≤ 2 ^ 64 - 67 → (Rose disk.faults_before disk.faults_now → ⊥)
      → All (λ (r : Round). IsTrue (is_some (saved_number r)) ⊎ (r ≡ NoMemory)) ended.rounds
  saved-or-wanting few room quiet = others-out ended.rounds (no-faults quiet) (unspent few room)
