-- What the status of a run says.
use Rattle.std.specs.Prelude.{◌≡◌, ◌⊎◌, ◌↔◌, ℕ, zero, suc, ◌≤◌, true, false, ◌||◌, List, [], ◌∷◌, Contains, Result, Ok, Err, MatchResult, min, ◌+◌, ◌-◌, ◌^◌, drop}
use Rattle.std.specs.List.{list_any}
use Rattle.std.proofs.Common.{ap, sym, subst, inl, inr, ◌∙◌, ⊎_elim, arith, true≢false}
use Rattle.std.proofs.lemmas.Bool.{cond-false}
use Rattle.chew_spec_outside.specs.Faults.{Rose}
use Rattle.chew_spec_rounds.specs.Round.{DiskFault, NoMemory, Round, Saved, SeqSpent}
use Rattle.chew_spec_session.specs.LastRounds.{disk_faults, is_disk_fault}
use Rattle.chew_spec_program.specs.Command.{asks_trace, is_run_command}
use Rattle.chew_spec_program.specs.Opening.{Inputs, IsOpening, Opens, WantedMemory, opening}
use Rattle.chew_spec_program.specs.Reading.{Watched}
use Rattle.chew_spec_program.specs.Refusal.{NoMemory as Wanting, Refusal, WrongWords, refusal_status}
use Rattle.chew_spec_program.specs.Run.{Ended, IsDone, IsRefused, IsRun, Outside}
use Rattle.chew_spec_program.specs.Slots.{Kept, SparesDisk}
use Rattle.chew_spec_program.specs.Writing.{Sunk}
use Rattle.chew_spec_program.proofs.Causes.{ByContent, ByDisk, ByScript, BySettings, BySystem, ByWords, Cause, opens-cause}
use Rattle.chew_spec_program.proofs.Statuses.{done-flags, flags-among, flags-tell, last_fault, last_spent, refusal-apart, refusal-listed, statuses}

-- how a run ended that was opened so
abbrev pub Ends : (words : List (List ℕ)) → Outside → Ended → Result Inputs Refusal → Type 0
Ends words outside ended opened = MatchResult opened (λ inputs. IsDone inputs (asks_trace words) outside.sink outside.disk ended)
    (λ refusal. IsRefused refusal outside.sink ended × SparesDisk refusal outside.disk)

-- the status of a refused run
pub refused-status : (refusal : Refusal) (sink : Sunk) (ended : Ended) → IsRefused refusal sink ended → ended.status ≡ refusal_status refusal
refused-status refusal sink ended refused = ap (λ (e : Ended). e.status) refused.ends

listed : (words : List (List ℕ)) (outside : Outside) (ended : Ended) (opened : Result Inputs Refusal) → Ends words outside ended opened → Contains statuses ended.status
listed words outside ended (Ok inputs) done =
    subst (Contains statuses) (sym (done-flags inputs (asks_trace words) outside.sink outside.disk ended done))
    (flags-among done.failed (done.session.memory || done.cut) (last_fault ended) (last_spent ended))
listed words outside ended (Err refusal) refused = subst (Contains statuses) (sym (refused-status refusal outside.sink ended refused.0)) (refusal-listed refusal)

pub run-statuses : (words : List (List ℕ)) (outside : Outside) (ended : Ended) → IsRun words outside ended → Contains statuses ended.status
run-statuses words outside ended run = listed words outside ended run.opened run.ends

-- a run that is not refused has none of the statuses 1 to 7
pub done-apart : (words : List (List ℕ)) (outside : Outside) (ended : Ended) (inputs : Inputs) (status : ℕ) → 1 ≤ status → status ≤ 7
    → IsDone inputs (asks_trace words) outside.sink outside.disk ended → ended.status ≡ status → ⊥
done-apart words outside ended inputs status low high done e =
    let flags = done-flags inputs (asks_trace words) outside.sink outside.disk ended done in
    (flags-tell done.failed (done.session.memory || done.cut) (last_fault ended) (last_spent ended)).apart (omega arith) (omega arith)

-- what is known of a refusal by its status
two-words : (words : List (List ℕ)) (settings system script : Watched) (disk : Kept) (refusal : Refusal) → refusal_status refusal ≡ 2
    → Cause words settings system script disk refusal → is_run_command words ≡ false
two-words words settings system script disk refusal e (ByWords wrong is) = wrong
two-words words settings system script disk refusal e (BySettings is rose) = absurd (let seven : refusal_status refusal ≡ 7 = ap refusal_status is in omega arith)
two-words words settings system script disk refusal e (BySystem is rose) = absurd (let seven : refusal_status refusal ≡ 7 = ap refusal_status is in omega arith)
two-words words settings system script disk refusal e (ByScript is rose) = absurd (let seven : refusal_status refusal ≡ 7 = ap refusal_status is in omega arith)
two-words words settings system script disk refusal e (ByDisk is rose) = absurd (let nine : refusal_status refusal ≡ 9 = ap refusal_status is in omega arith)
two-words words settings system script disk refusal e (ByContent low high) = absurd (omega arith)

abbrev RoseOne : Watched → Watched → Watched → Type 0
RoseOne settings system script =
    Rose settings.faults_before settings.faults_now ⊎ (Rose system.faults_before system.faults_now ⊎ Rose script.faults_before script.faults_now)

seven-rose : (words : List (List ℕ)) (settings system script : Watched) (disk : Kept) (refusal : Refusal) → refusal_status refusal ≡ 7
    → Cause words settings system script disk refusal → RoseOne settings system script
seven-rose words settings system script disk refusal e (ByWords wrong is) = absurd (let two : refusal_status refusal ≡ 2 = ap refusal_status is in omega arith)
seven-rose words settings system script disk refusal e (BySettings is rose) = inl rose
seven-rose words settings system script disk refusal e (BySystem is rose) = inr (inl rose)
seven-rose words settings system script disk refusal e (ByScript is rose) = inr (inr rose)
seven-rose words settings system script disk refusal e (ByDisk is rose) = absurd (let nine : refusal_status refusal ≡ 9 = ap refusal_status is in omega arith)
seven-rose words settings system script disk refusal e (ByContent low high) = absurd (omega arith)

nine-rose : (words : List (List ℕ)) (settings system script : Watched) (disk : Kept) (refusal : Refusal) → refusal_status refusal ≡ 9
    → Cause words settings system script disk refusal → Rose disk.faults_before disk.faults_now
nine-rose words settings system script disk refusal e (ByWords wrong is) = absurd (let two : refusal_status refusal ≡ 2 = ap refusal_status is in omega arith)
nine-rose words settings system script disk refusal e (BySettings is rose) = absurd (let seven : refusal_status refusal ≡ 7 = ap refusal_status is in omega arith)
nine-rose words settings system script disk refusal e (BySystem is rose) = absurd (let seven : refusal_status refusal ≡ 7 = ap refusal_status is in omega arith)
nine-rose words settings system script disk refusal e (ByScript is rose) = absurd (let seven : refusal_status refusal ≡ 7 = ap refusal_status is in omega arith)
nine-rose words settings system script disk refusal e (ByDisk is rose) = rose
nine-rose words settings system script disk refusal e (ByContent low high) = absurd (omega arith)

-- why a run was refused by this status, which is not that of want of memory
caused : (words : List (List ℕ)) (settings system script : Watched) (disk : Kept) (refusal : Refusal) (status : ℕ) (Q : Type 0) → status ≤ 9 → refusal_status refusal ≡ status
    → (Cause words settings system script disk refusal → Q) → IsOpening words settings system script disk (Err refusal) → Q
caused words settings system script disk refusal status Q low e by is =
    ⊎_elim (λ (opens : Opens words settings system script disk (Err refusal)). by (opens-cause words settings system script disk refusal opens))
    (λ (wanted : WantedMemory words (Err refusal)). absurd (let same : refusal ≡ Wanting = cc wanted.refused in let ten : refusal_status refusal ≡ 10 = ap refusal_status same in omega arith)) is

status-words : (words : List (List ℕ)) (outside : Outside) (ended : Ended) (opened : Result Inputs Refusal) → IsOpening words outside.settings outside.system outside.script outside.disk opened
    → Ends words outside ended opened → ended.status ≡ 2 → is_run_command words ≡ false
status-words words outside ended (Ok inputs) is done e = absurd (done-apart words outside ended inputs 2 (omega arith) (omega arith) done e)
status-words words outside ended (Err refusal) is refused e =
    let two = sym (refused-status refusal outside.sink ended refused.0) ∙ e in
    caused words outside.settings outside.system outside.script outside.disk refusal 2 (is_run_command words ≡ false) (omega arith) two
    (two-words words outside.settings outside.system outside.script outside.disk refusal two) is

opened-wrong : (words : List (List ℕ)) (settings system script : Watched) (disk : Kept) (opened : Result Inputs Refusal) → IsOpening words settings system script disk opened
    → is_run_command words ≡ false → opened ≡ Err WrongWords
unfolding opening
opened-wrong words settings system script disk opened is e =
    ⊎_elim (λ (opens : Opens words settings system script disk opened). opens.gives ∙ cond-false _ _ _ e)
    (λ (wanted : WantedMemory words opened). absurd (true≢false (sym wanted.command ∙ e))) is

pub status-refused : (words : List (List ℕ)) (outside : Outside) (ended : Ended) (opened : Result Inputs Refusal) (refusal : Refusal) → Ends words outside ended opened → opened ≡ Err refusal
    → ended.status ≡ refusal_status refusal
status-refused words outside ended (Ok inputs) refusal done e = absurd (cc e)
status-refused words outside ended (Err other) refusal refused e =
    let same : other ≡ refusal = cc e in refused-status other outside.sink ended refused.0 ∙ ap refusal_status same

pub run-words : (words : List (List ℕ)) (outside : Outside) (ended : Ended) → IsRun words outside ended → (ended.status ≡ 2) ↔ (is_run_command words ≡ false)
run-words words outside ended run = (
  status-words words outside ended run.opened run.opening run.ends,
  λ e. status-refused words outside ended run.opened WrongWords run.ends
      (opened-wrong words outside.settings outside.system outside.script outside.disk run.opened run.opening e),
)

status-source : (words : List (List ℕ)) (outside : Outside) (ended : Ended) (opened : Result Inputs Refusal) → IsOpening words outside.settings outside.system outside.script outside.disk opened
    → Ends words outside ended opened → ended.status ≡ 7 → RoseOne outside.settings outside.system outside.script
status-source words outside ended (Ok inputs) is done e = absurd (done-apart words outside ended inputs 7 (omega arith) (omega arith) done e)
status-source words outside ended (Err refusal) is refused e =
    let seven = sym (refused-status refusal outside.sink ended refused.0) ∙ e in
    caused words outside.settings outside.system outside.script outside.disk refusal 7 (RoseOne outside.settings outside.system outside.script) (omega arith) seven
    (seven-rose words outside.settings outside.system outside.script outside.disk refusal seven) is

pub run-source : (words : List (List ℕ)) (outside : Outside) (ended : Ended) → IsRun words outside ended → ended.status ≡ 7 → RoseOne outside.settings outside.system outside.script
run-source words outside ended run e = status-source words outside ended run.opened run.opening run.ends e

status-sink : (words : List (List ℕ)) (outside : Outside) (ended : Ended) (opened : Result Inputs Refusal) → Ends words outside ended opened → ended.status ≡ 8
    → Rose outside.sink.faults_before outside.sink.faults_now
status-sink words outside ended (Ok inputs) done e =
    let flags = done-flags inputs (asks_trace words) outside.sink outside.disk ended done in
    done.prints.writes.rose ((flags-tell done.failed (done.session.memory || done.cut) (last_fault ended) (last_spent ended)).eight (sym flags ∙ e))
status-sink words outside ended (Err refusal) refused e = absurd ((refusal-apart refusal).1 (sym (refused-status refusal outside.sink ended refused.0) ∙ e))

pub run-sink : (words : List (List ℕ)) (outside : Outside) (ended : Ended) → IsRun words outside ended → ended.status ≡ 8 → Rose outside.sink.faults_before outside.sink.faults_now
run-sink words outside ended run e = status-sink words outside ended run.opened run.ends e

-- a fault among the last rounds is one among all
pub fault-counted : (rounds : List Round) (n : ℕ) → list_any is_disk_fault (drop n rounds) ≡ true → 1 ≤ disk_faults rounds
fault-counted [] zero e = absurd (true≢false (sym e))
fault-counted [] (suc n) e = absurd (true≢false (sym e))
fault-counted (Saved number ∷ rounds) zero e = fault-counted rounds 0 e
fault-counted (DiskFault step ∷ rounds) zero e = omega arith
fault-counted (NoMemory ∷ rounds) zero e = fault-counted rounds 0 e
fault-counted (SeqSpent seq ∷ rounds) zero e = fault-counted rounds 0 e
fault-counted (Saved number ∷ rounds) (suc n) e = fault-counted rounds n e
fault-counted (DiskFault step ∷ rounds) (suc n) e = omega arith
fault-counted (NoMemory ∷ rounds) (suc n) e = fault-counted rounds n e
fault-counted (SeqSpent seq ∷ rounds) (suc n) e = fault-counted rounds n e

-- a count that rose by one at least rose
pub rose-by-one : (count before now : ℕ) → 1 ≤ count → min (before + count) (2 ^ 64 - 1) ≤ now → Rose before now
rose-by-one count before now one rose = omega arith

status-disk : (words : List (List ℕ)) (outside : Outside) (ended : Ended) (opened : Result Inputs Refusal) → IsOpening words outside.settings outside.system outside.script outside.disk opened
    → Ends words outside ended opened → ended.status ≡ 9 → Rose outside.disk.faults_before outside.disk.faults_now
status-disk words outside ended (Ok inputs) is done e =
    let flags = done-flags inputs (asks_trace words) outside.sink outside.disk ended done in
    let fault = (flags-tell done.failed (done.session.memory || done.cut) (last_fault ended) (last_spent ended)).nine (sym flags ∙ e) in
    let same = ap (λ (d : Ended). last_fault d) done.ends in
    rose-by-one (disk_faults done.session.rounds) outside.disk.faults_before outside.disk.faults_now
    (fault-counted done.session.rounds done.session.last_from (sym same ∙ fault)) done.faults.rose
status-disk words outside ended (Err refusal) is refused e =
    let nine = sym (refused-status refusal outside.sink ended refused.0) ∙ e in
    caused words outside.settings outside.system outside.script outside.disk refusal 9 (Rose outside.disk.faults_before outside.disk.faults_now) (omega arith) nine
    (nine-rose words outside.settings outside.system outside.script outside.disk refusal nine) is

pub run-disk : (words : List (List ℕ)) (outside : Outside) (ended : Ended) → IsRun words outside ended → ended.status ≡ 9 → Rose outside.disk.faults_before outside.disk.faults_now
run-disk words outside ended run e = status-disk words outside ended run.opened run.opening run.ends e
