-- How commands end that read one input.
use Rattle.std.specs.Prelude.{◌≡◌, ◌⊎◌, ℕ, Bool, true, false, List, [], ◌∷◌, Contains, Option, Some, None, Result, Ok, Err, nat_le, length, cond}
use Rattle.std.proofs.Common.{refl, ap, sym, subst, inl, inr, ◌∙◌, ⊎_elim, arith}
use Rattle.chew_spec_outside.specs.Faults.{Rose}
use Rattle.chew_spec_syllable.specs.Row.{Row}
use Rattle.chew_spec_image.specs.Reading.{image_reading}
use Rattle.chew_spec_text.specs.DictionaryText.{RowCause, Size, dictionary_rows, system_limit}
use Rattle.chew_spec_text.specs.Lines.{Fault}
use Rattle.chew_spec_program.specs.Answer.{Answers, Gives, answer_status, answer_to}
use Rattle.chew_spec_program.specs.Build.{image_of_text, image_or_refusal}
use Rattle.chew_spec_program.specs.ImageRows.{rows_of_image, rows_or_refusal, told_of}
use Rattle.chew_spec_program.specs.Reading.{IsRead, Watched}
use Rattle.chew_spec_program.specs.Refusal.{Refusal, NoMemory, SourceFailed, WrongImage, WrongSystem, refusal_status}
use Rattle.chew_spec_program.specs.Writing.{Sunk}

-- all that is refused of what was read has the status 4
abbrev pub RefusesByFour : (List ℕ → Result (List ℕ) Refusal) → Type 0
RefusesByFour answer = (text : List ℕ) (refusal : Refusal) → answer text ≡ Err refusal → refusal_status refusal ≡ 4

-- that is so of each command
pub build-by-four : RefusesByFour image_of_text
build-by-four text refusal e = by (dictionary_rows text) e
  where
    by : (o : Result (List Row) (Fault RowCause)) → image_or_refusal o ≡ Err refusal → refusal_status refusal ≡ 4
    by (Ok rows) e = absurd cc
    by (Err fault) e = let same : refusal ≡ WrongSystem fault = cc in ap refusal_status same

image-by-four : (bytes : List ℕ) (refusal : Refusal) → rows_of_image bytes ≡ Err refusal → refusal_status refusal ≡ 4
image-by-four bytes refusal e = by (nat_le (length bytes) system_limit) (image_reading bytes) e
  where
    by : (b : Bool) (o : Result (List Row) ℕ) → cond b (rows_or_refusal o) (Err (WrongSystem (record { line = 0; cause = Size }))) ≡ Err refusal
        → refusal_status refusal ≡ 4
    by true (Ok rows) e = absurd cc
    by true (Err place) e = let same : refusal ≡ WrongImage place = cc in ap refusal_status same
    by false o e = let same : refusal ≡ WrongSystem (record { line = 0; cause = Size }) = cc in ap refusal_status same

pub told-by-four : (tell : List Row → List ℕ) → RefusesByFour (λ bytes. told_of tell (rows_of_image bytes))
told-by-four tell bytes refusal e = by (rows_of_image bytes) refl e
  where
    by : (o : Result (List Row) Refusal) → rows_of_image bytes ≡ o → told_of tell o ≡ Err refusal → refusal_status refusal ≡ 4
    by (Ok rows) is e = absurd cc
    by (Err other) is e = let same : refusal ≡ other = cc in ap refusal_status same ∙ image-by-four bytes other is

-- why nothing was made, by the status
refused-by : (answer : List ℕ → Result (List ℕ) Refusal) → RefusesByFour answer → (from : Watched) (refusal : Refusal)
    → Gives answer from (Err refusal) ⊎ (Err refusal ≡ (let none : Result (List ℕ) Refusal = Err NoMemory in none))
    → (refusal_status refusal ≡ 10) ⊎ ((refusal_status refusal ≡ 7) × Rose from.faults_before from.faults_now) ⊎ (refusal_status refusal ≡ 4)
refused-by answer four from refusal made =
    ⊎_elim (λ (gives : Gives answer from (Err refusal)). inr (by gives.text gives.read gives.gives))
    (λ none. inl (let same : refusal ≡ NoMemory = cc in ap refusal_status same)) made
  where
    by : (text : Option (List ℕ)) → IsRead from system_limit text → Err refusal ≡ answer_to answer text
        → ((refusal_status refusal ≡ 7) × Rose from.faults_before from.faults_now) ⊎ (refusal_status refusal ≡ 4)
    by None read e = inl (let same : refusal ≡ SourceFailed = cc in (ap refusal_status same, read.failed refl))
    by (Some text) read e = inr (four text refusal (sym e))

-- the statuses of a command that reads one input
abbrev statuses : List ℕ
statuses = 0 ∷ (4 ∷ (7 ∷ (8 ∷ (10 ∷ []))))

pub answers-listed : (answer : List ℕ → Result (List ℕ) Refusal) → RefusesByFour answer → (from : Watched) (sink : Sunk) (status : ℕ)
    → Answers answer from sink status → Contains statuses status
answers-listed answer four from sink status answers =
    subst (Contains statuses) (sym answers.tells.ends) (by answers.given answers.tells.failed answers.made)
  where
    by : (given : Result (List ℕ) Refusal) (failed : Bool) → Gives answer from given ⊎ (given ≡ Err NoMemory) → Contains statuses (answer_status given failed)
    by (Ok text) true made = (3, omega arith, refl)
    by (Ok text) false made = (0, omega arith, refl)
    by (Err refusal) failed made =
        ⊎_elim (λ ten. subst (Contains statuses) (sym ten) (4, omega arith, refl))
        (λ other. ⊎_elim (λ seven. subst (Contains statuses) (sym seven.0) (2, omega arith, refl))
        (λ is. subst (Contains statuses) (sym is) (1, omega arith, refl)) other) (refused-by answer four from refusal made)

-- 7 only where the source failed
pub answers-source : (answer : List ℕ → Result (List ℕ) Refusal) → RefusesByFour answer → (from : Watched) (sink : Sunk) (status : ℕ)
    → Answers answer from sink status → status ≡ 7 → Rose from.faults_before from.faults_now
answers-source answer four from sink status answers e = by answers.given answers.tells.failed answers.made (sym answers.tells.ends ∙ e)
  where
    by : (given : Result (List ℕ) Refusal) (failed : Bool) → Gives answer from given ⊎ (given ≡ Err NoMemory) → answer_status given failed ≡ 7
        → Rose from.faults_before from.faults_now
    by (Ok text) true made e = absurd (omega arith)
    by (Ok text) false made e = absurd (omega arith)
    by (Err refusal) failed made e =
        ⊎_elim (λ ten. absurd (omega arith)) (λ other. ⊎_elim (λ seven. seven.1) (λ is. absurd (omega arith)) other) (refused-by answer four from refusal made)

-- 8 only where the sink failed
pub answers-sink : (answer : List ℕ → Result (List ℕ) Refusal) → RefusesByFour answer → (from : Watched) (sink : Sunk) (status : ℕ)
    → Answers answer from sink status → status ≡ 8 → Rose sink.faults_before sink.faults_now
answers-sink answer four from sink status answers e = answers.tells.writes.rose (by answers.given answers.tells.failed answers.made (sym answers.tells.ends ∙ e))
  where
    by : (given : Result (List ℕ) Refusal) (failed : Bool) → Gives answer from given ⊎ (given ≡ Err NoMemory) → answer_status given failed ≡ 8 → failed ≡ true
    by (Ok text) true made e = refl
    by (Ok text) false made e = absurd (omega arith)
    by (Err refusal) failed made e =
        ⊎_elim (λ ten. absurd (omega arith)) (λ other. ⊎_elim (λ seven. absurd (omega (arith, seven.0))) (λ is. absurd (omega arith)) other) (refused-by answer four from refusal made)
