-- What a command makes of what was read.
use Rattle.std.specs.Prelude.{◌≡◌, ℕ, ◌+◌, List, Option, Some, None, Result, Ok}
use Rattle.std.proofs.Common.{refl, ap, inl, inr, ◌∙◌, ⊎_elim}
use Rattle.chew_spec_outside.specs.Source.{ReadsUpTo}
use Rattle.chew_spec_text.specs.DictionaryText.{system_limit}
use Rattle.chew_spec_program.specs.Answer.{Gives, answer_to}
use Rattle.chew_spec_program.specs.Reading.{IsRead, Watched, watched}
use Rattle.chew_spec_program.specs.Refusal.{Refusal}
use Rattle.chew_commands.specs.Outcome.{GivesOrNoMemory, itself}
use Rattle.chew_commands.specs.Refusals.{IsOrNoMemory}

-- a text was read
pub input_given : (left after : Option (List ℕ)) (before now : ℕ) (text : List ℕ) → ReadsUpTo left after text (system_limit + 1) → now ≡ before
    → GivesOrNoMemory itself (watched left after before now) (Ok text)
input_given left after before now text reads calm =
    inl (record { text = Some text; read = record { gave = reads; worked = calm; failed = λ none. absurd cc }; gives = refl })

-- what is made of the text
pub answered : (answer : List ℕ → Result (List ℕ) Refusal) (from : Watched) (text : List ℕ) (outcome : Result (List ℕ) Refusal)
    → GivesOrNoMemory itself from (Ok text) → IsOrNoMemory (answer text) outcome → GivesOrNoMemory answer from outcome
answered answer from text outcome given is =
    ⊎_elim (λ (gives : Gives itself from (Ok text)). ⊎_elim (λ none. inr none) (λ same. inl (by gives.text gives.read gives.gives same)) is) (λ none. absurd (cc none)) given
  where
    by : (was : Option (List ℕ)) → IsRead from system_limit was → Ok text ≡ answer_to itself was → outcome ≡ answer text → Gives answer from outcome
    by None is e same = absurd cc
    by (Some other) is e same = let one : text ≡ other = cc in record { text = Some other; read = is; gives = same ∙ ap answer one }
