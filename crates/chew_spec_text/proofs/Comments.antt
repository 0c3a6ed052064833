-- A comment and what stands before it.
use Rattle.std.proofs.Common.{◌≡◌, ℕ, suc, ◌+◌, true, false, not, List, [], ◌∷◌, ◌++◌, take, refl, sym, ap, ◌∙◌, inl, inr, arith}
use Rattle.std.specs.List.{before_first, list_any, position_or_len}
use Rattle.std.proofs.lemmas.Bool.{cases_Bool, cond-true, cond-false, not_from_true, not_from_false, or_parts}
use Rattle.chew_spec_text.specs.DictionaryText.{is_hash}

-- a byte before a comment
before_more : (x : ℕ) (line : List ℕ) → is_hash x ≡ false → before_first is_hash (x ∷ line) ≡ x ∷ before_first is_hash line
before_more x line h =
    let number : 1 + position_or_len is_hash line ≡ suc (position_or_len is_hash line) = omega arith in
    ap (λ n. take n (x ∷ line)) (cond-true (not (is_hash x)) (1 + position_or_len is_hash line) 0 (not_from_false _ h) ∙ number)

-- nothing stands before its first byte
before_none : (x : ℕ) (line : List ℕ) → is_hash x ≡ true → before_first is_hash (x ∷ line) ≡ []
before_none x line h = ap (λ n. take n (x ∷ line)) (cond-false (not (is_hash x)) (1 + position_or_len is_hash line) 0 (not_from_true _ h))

-- a line without a '#' stands wholly before it
pub no_comment : (line : List ℕ) → list_any is_hash line ≡ false → before_first is_hash line ≡ line
no_comment [] h = refl
no_comment (x ∷ line) h =
    let both = or_parts _ _ h in before_more x line both.0 ∙ ap (λ xs. x ∷ xs) (no_comment line both.1)

-- what stands before a comment stands there without it
pub comment_cut : (line comment : List ℕ) → before_first is_hash (line ++ (35 ∷ comment)) ≡ before_first is_hash line
comment_cut [] comment = refl
comment_cut (x ∷ line) comment =
    elim (cases_Bool (is_hash x)) [
      | inl e ↦ before_none x (line ++ (35 ∷ comment)) e ∙ sym (before_none x line e)
      | inr e ↦ before_more x (line ++ (35 ∷ comment)) e ∙ (ap (λ xs. x ∷ xs) (comment_cut line comment) ∙ sym (before_more x line e))
    ]
