-- What a line of keys says.
use Rattle.std.proofs.Common.{◌≡◌, ℕ, ◌≤◌, Bool, true, false, List, ◌∷◌, ◌++◌, ◌&&◌, nat_le, bytes_eq, decimal, Option, Some, None, IfSome, Err, refl, ap, ◌∙◌, sym, if◌then◌else◌}
use Rattle.std.specs.Fmt.{digits}
use Rattle.std.specs.List.{list_all, range_with_len}
use Rattle.std.proofs.lemmas.Bool.{and_parts, cond-true, cond-false, leb-true}
use Rattle.chew_spec_text.specs.Digits.{is_number}
use Rattle.chew_spec_text.specs.KeyStroke.{keys_in}
use Rattle.chew_spec_text.specs.Script as spec
use Rattle.chew_spec_text.specs.Script.{context_in, key_line, key_line_of}
use Rattle.chew_text.proofs.Cuts.{Lacks, before_it, behind_it, stands, stands_not}
use Rattle.chew_script.proofs.Tables.{kept}

pub colon_line : (front keys : List ℕ) → Lacks 58 front
    → key_line_of (front ++ 58 ∷ keys) ≡ (if is_number front then key_line (context_in front) (keys_in keys) else Err spec.Form)
colon_line front keys h = rw (stands 58 front keys h, before_it 58 front keys h, behind_it 58 front keys h) refl

pub no_colon : (line : List ℕ) → Lacks 58 line → key_line_of line ≡ Err spec.Form
no_colon line h = rw (stands_not 58 line h) refl

pub number_line : (line front keys : List ℕ) (number : ℕ) → line ≡ front ++ 58 ∷ keys → Lacks 58 front → is_number front ≡ true → context_in front ≡ Some number
    → key_line (Some number) (keys_in keys) ≡ key_line_of line
number_line line front keys number whole h digits e =
    sym (ap key_line_of whole ∙ (colon_line front keys h ∙ (cond-true _ _ _ digits ∙ ap (λ (o : Option ℕ). key_line o (keys_in keys)) e)))

pub no_number_line : (line front keys : List ℕ) → line ≡ front ++ 58 ∷ keys → Lacks 58 front → is_number front ≡ true → context_in front ≡ None
    → Err spec.Context ≡ key_line_of line
no_number_line line front keys whole h digits e =
    sym (ap key_line_of whole ∙ (colon_line front keys h ∙ (cond-true _ _ _ digits ∙ ap (λ (o : Option ℕ). key_line o (keys_in keys)) e)))

pub no_digits_line : (line front keys : List ℕ) → line ≡ front ++ 58 ∷ keys → Lacks 58 front → is_number front ≡ false → Err spec.Form ≡ key_line_of line
no_digits_line line front keys whole h digits = sym (ap key_line_of whole ∙ (colon_line front keys h ∙ cond-false _ _ _ digits))

-- the number of a context is 1 to 16
abbrev is_of_context : ℕ → Bool
is_of_context number = nat_le 1 number && nat_le number 16

all_of_contexts : list_all is_of_context (range_with_len 1 16) ≡ true
all_of_contexts = refl

pub within_contexts : (text : List ℕ) (o : Option ℕ) → o ≡ context_in text → IfSome o (λ number. (1 ≤ number) × (number ≤ 16))
within_contexts text None e = tt
within_contexts text (Some number) e =
    let has = (kept (λ n. bytes_eq (decimal n) text) is_of_context (range_with_len 1 16) number all_of_contexts (sym e)).1 in
    let parts = and_parts (nat_le 1 number) (nat_le number 16) has in
    (leb-true _ _ parts.0, leb-true _ _ parts.1)
