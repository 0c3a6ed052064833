-- What a run leaves that is refused, and what one tells that is not.
use Rattle.std.specs.Prelude.{◌≡◌, ℕ, Bool, true, false, List, [], Result, Ok, Err}
use Rattle.std.proofs.Common.{refl, ap, sym, subst, ◌∙◌}
use Rattle.chew_spec_outside.specs.Faults.{Rose}
use Rattle.chew_spec_outside.specs.Sink.{appended}
use Rattle.chew_spec_dictionary.specs.History.{is_legal}
use Rattle.chew_spec_session.specs.LastRounds.{AreRounds, disk_faults}
use Rattle.chew_spec_session.specs.Session.{CountFrom, RoseBy}
use Rattle.chew_spec_program.specs.Opening.{Inputs}
use Rattle.chew_spec_program.specs.Refusal.{Refusal}
use Rattle.chew_spec_program.specs.Run.{Ended, IsDone, IsRefused, IsRun, Outside}
use Rattle.chew_spec_program.specs.Slots.{IsUnwritten, Kept, SparesDisk}
use Rattle.chew_spec_program.specs.Writing.{Sunk, Writes}
use Rattle.chew_spec_program.proofs.Runs.{Ends}
use Rattle.chew_spec_program.proofs.Writings.{writes-taken}

pub was-refused : (words : List (List ℕ)) (outside : Outside) (ended : Ended) (refusal : Refusal) (run : IsRun words outside ended) → run.opened ≡ Err refusal
    → IsRefused refusal outside.sink ended × SparesDisk refusal outside.disk
was-refused words outside ended refusal run e = by run.opened run.ends e
  where
    by : (opened : Result Inputs Refusal) → Ends words outside ended opened → opened ≡ Err refusal → IsRefused refusal outside.sink ended × SparesDisk refusal outside.disk
    by (Ok inputs) done same = absurd (cc same)
    by (Err other) refused same =
        let this : other ≡ refusal = cc same in subst (λ (r : Refusal). IsRefused r outside.sink ended × SparesDisk r outside.disk) this refused

-- a sink whose count did not rise took the whole text
pub calm-taken : (sink : Sunk) (text : List ℕ) (failed : Bool) → Writes sink text failed → (Rose sink.faults_before sink.faults_now → ⊥) → sink.now ≡ appended sink.before text
calm-taken sink text true writes calm = absurd (calm (writes.rose refl))
calm-taken sink text false writes calm = writes-taken sink text writes

module _ (inputs : Inputs) (trace : Bool) (sink : Sunk) (disk : Kept) (ended : Ended) (done : IsDone inputs trace sink disk ended) where
  pub done-legal : is_legal inputs.basis.start ended.journal ≡ true
  done-legal = subst (λ (e : Ended). is_legal inputs.basis.start e.journal ≡ true) (sym done.ends) done.is_session.history.legal

  pub done-rounds : AreRounds inputs.basis.start.dictionary inputs.script.rounds ended.journal ended.rounds
  done-rounds = subst (λ (e : Ended). AreRounds inputs.basis.start.dictionary inputs.script.rounds e.journal e.rounds) (sym done.ends) done.is_session.rounds

  pub done-from : ended.last_from ≡ inputs.script.rounds
  done-from = ap (λ (e : Ended). e.last_from) done.ends ∙ done.is_session.last_from

  pub done-seqs : CountFrom inputs.seq ended.rounds
  done-seqs = subst (λ (e : Ended). CountFrom inputs.seq e.rounds) (sym done.ends) done.is_session.seqs

  pub done-faults : RoseBy (disk_faults ended.rounds) disk.faults_before disk.faults_now
  done-faults = subst (λ (e : Ended). RoseBy (disk_faults e.rounds) disk.faults_before disk.faults_now) (sym done.ends) done.faults.rose

  pub done-quiet : disk_faults ended.rounds ≡ 0 → disk.faults_now ≡ disk.faults_before
  done-quiet e = done.faults.calm (sym (ap (λ (e : Ended). disk_faults e.rounds) done.ends) ∙ e)

  pub done-unwritten : ended.rounds ≡ [] → disk.told ≡ true → IsUnwritten disk.before disk.now
  done-unwritten none = done.quiet (sym (ap (λ (e : Ended). e.rounds) done.ends) ∙ none)
