-- What was read of a source, and what its value is.
use Rattle.std.specs.Prelude.{◌≡◌, ℕ, ◌+◌, List, Option, Some, Result}
use Rattle.std.proofs.Common.{inl, inr, ⊎_elim}
use Rattle.chew_spec_outside.specs.Source.{ReadsUpTo}
use Rattle.chew_spec_program.specs.Reading.{watched}
use Rattle.chew_spec_program.specs.Refusal.{Refusal}
use Rattle.chewing_cli.specs.Opens.{IsOrNoMemory, ReadsOrNoMemory}

-- a text that was read, and its value
pub reads_text : {X : Type 0} (value : List ℕ → Result X Refusal) (limit : ℕ) (left after : Option (List ℕ))
    (before now : ℕ) (text : List ℕ) (outcome : Result X Refusal)
    → ReadsUpTo left after text (limit + 1) → now ≡ before → IsOrNoMemory (value text) outcome
    → ReadsOrNoMemory value limit (watched left after before now) outcome
reads_text value limit left after before now text outcome reads calm gives =
    ⊎_elim inl
    (λ is. inr (record { text = Some text; read = record { gave = reads; worked = calm; failed = λ none. absurd cc }; gives = is })) gives
