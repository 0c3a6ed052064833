-- What a source that tells what it has left gives.
use Rattle.std.specs.Prelude.{◌≡◌, ℕ, ◌+◌, ◌<◌, ◌≤◌, List, length, take, drop, Option, Some, IfSome}
use Rattle.std.specs.Option.{option_map}
use Rattle.std.proofs.Common.{ap, subst, sym, ◌∙◌, arith}
use Rattle.std.proofs.lemmas.List.{length-take-le, take_all}
use Rattle.chew_spec_program.specs.Reading.{IsRead, Watched}

pub told-front : (source : Watched) (limit : ℕ) (left text : List ℕ) → source.left ≡ Some left → IsRead source limit (Some text)
    → text ≡ take (limit + 1) left
told-front source limit left text told read =
    subst (λ (o : Option (List ℕ)). IfSome o (λ l. text ≡ take (limit + 1) l)) told read.gave.front

pub told-rest : (source : Watched) (limit : ℕ) (left text : List ℕ) → source.left ≡ Some left → IsRead source limit (Some text)
    → source.left_now ≡ Some (drop (limit + 1) left)
told-rest source limit left text told read = read.gave.rest ∙ ap (option_map (drop (limit + 1))) told

pub told-one : (source : Watched) (limit : ℕ) (left text other : List ℕ) → source.left ≡ Some left
    → IsRead source limit (Some text) → IsRead source limit (Some other) → text ≡ other
told-one source limit left text other told read again =
    told-front source limit left text told read ∙ sym (told-front source limit left other told again)

pub told-within : (source : Watched) (limit : ℕ) (left text : List ℕ) → source.left ≡ Some left → length left ≤ limit
    → IsRead source limit (Some text) → text ≡ left
told-within source limit left text told within read = told-front source limit left text told read ∙ take_all (limit + 1) left (omega arith)

pub told-beyond : (source : Watched) (limit : ℕ) (left text : List ℕ) → source.left ≡ Some left → limit < length left
    → IsRead source limit (Some text) → length text ≡ limit + 1
told-beyond source limit left text told beyond read =
    ap length (told-front source limit left text told read) ∙ length-take-le (limit + 1) left (omega arith)
