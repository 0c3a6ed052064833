-- A mark at the front of a text is read by its number, and the text behind it is what follows.
use Rattle.std.proofs.Common.{◌≡◌, ℕ, zero, suc, ◌+◌, ◌<◌, List, [], ◌++◌, refl, subst, arith}
use lib.Utf8.{encode}
use Rattle.chew_spec_syllable.specs.SyllableText.{initial_marks, medial_marks, final_marks, tone_marks, mark_text, mark_number}

-- what holds at each of n numbers from a on
abbrev pub Each : (ℕ → Type 0) → ℕ → ℕ → Type 0
Each P a zero = Unit {0}
Each P a (suc n) = P a × Each P (a + 1) n

-- what holds at each of them holds at one
each_at : (P : ℕ → Type 0) (n a k : ℕ) → Each P a n → k < n → P (a + k)
each_at P zero a k all h = absurd (omega arith)
each_at P (suc n) a zero all h = subst P (omega arith) all.0
each_at P (suc n) a (suc k) all h = let next : P (a + 1 + k) = each_at P n (a + 1) k all.1 (omega arith) in subst P (omega arith) next

-- with nothing before, the k-th
pub at : (P : ℕ → Type 0) (n k : ℕ) → Each P 0 n → k < n → P k
at P n k all h = subst P (omega arith) (each_at P n 0 k all h)

-- a mark of these is read by its number, whatever follows
abbrev pub IsRead : List ℕ → ℕ → Type 0
IsRead marks n = (rest : List ℕ) → mark_number marks (mark_text marks (suc n) ++ rest) ≡ suc n

-- a mark of the others is none of these, whatever follows
abbrev pub IsNone : List ℕ → List ℕ → ℕ → Type 0
IsNone marks others n = (rest : List ℕ) → mark_number marks (mark_text others (suc n) ++ rest) ≡ 0

-- each initial is read by its number
pub initials_read : Each (IsRead initial_marks) 0 21
unfolding encode
initials_read = (λ rest. refl, (λ rest. refl, (λ rest. refl, (λ rest. refl, (λ rest. refl, (λ rest. refl, (λ rest. refl, (λ rest. refl, (λ rest. refl, (λ rest. refl, (λ rest. refl, (λ rest. refl, (λ rest. refl, (λ rest. refl, (λ rest. refl, (λ rest. refl, (λ rest. refl, (λ rest. refl, (λ rest. refl, (λ rest. refl, (λ rest. refl, tt)))))))))))))))))))))

-- each medial is read by its number
pub medials_read : Each (IsRead medial_marks) 0 3
unfolding encode
medials_read = (λ rest. refl, (λ rest. refl, (λ rest. refl, tt)))

-- each final is read by its number
pub finals_read : Each (IsRead final_marks) 0 13
unfolding encode
finals_read = (λ rest. refl, (λ rest. refl, (λ rest. refl, (λ rest. refl, (λ rest. refl, (λ rest. refl, (λ rest. refl, (λ rest. refl, (λ rest. refl, (λ rest. refl, (λ rest. refl, (λ rest. refl, (λ rest. refl, tt)))))))))))))

-- each tone is read by its number
pub tones_read : Each (IsRead tone_marks) 0 4
unfolding encode
tones_read = (λ rest. refl, (λ rest. refl, (λ rest. refl, (λ rest. refl, tt))))

-- no medial is an initial
pub medials_no_initial : Each (IsNone initial_marks medial_marks) 0 3
unfolding encode
medials_no_initial = (λ rest. refl, (λ rest. refl, (λ rest. refl, tt)))

-- no final is an initial
pub finals_no_initial : Each (IsNone initial_marks final_marks) 0 13
unfolding encode
finals_no_initial = (λ rest. refl, (λ rest. refl, (λ rest. refl, (λ rest. refl, (λ rest. refl, (λ rest. refl, (λ rest. refl, (λ rest. refl, (λ rest. refl, (λ rest. refl, (λ rest. refl, (λ rest. refl, (λ rest. refl, tt)))))))))))))

-- no final is a medial
pub finals_no_medial : Each (IsNone medial_marks final_marks) 0 13
unfolding encode
finals_no_medial = (λ rest. refl, (λ rest. refl, (λ rest. refl, (λ rest. refl, (λ rest. refl, (λ rest. refl, (λ rest. refl, (λ rest. refl, (λ rest. refl, (λ rest. refl, (λ rest. refl, (λ rest. refl, (λ rest. refl, tt)))))))))))))

-- no tone is an initial
pub tones_no_initial : Each (IsNone initial_marks tone_marks) 0 4
unfolding encode
tones_no_initial = (λ rest. refl, (λ rest. refl, (λ rest. refl, (λ rest. refl, tt))))

-- no tone is a medial
pub tones_no_medial : Each (IsNone medial_marks tone_marks) 0 4
unfolding encode
tones_no_medial = (λ rest. refl, (λ rest. refl, (λ rest. refl, (λ rest. refl, tt))))

-- no tone is a final
pub tones_no_final : Each (IsNone final_marks tone_marks) 0 4
unfolding encode
tones_no_final = (λ rest. refl, (λ rest. refl, (λ rest. refl, (λ rest. refl, tt))))

-- the empty text begins with none
pub nothing_initial : mark_number initial_marks [] ≡ 0
unfolding encode
nothing_initial = refl

-- the same of a medial
pub nothing_medial : mark_number medial_marks [] ≡ 0
unfolding encode
nothing_medial = refl

-- the same of a final
pub nothing_final : mark_number final_marks [] ≡ 0
unfolding encode
nothing_final = refl

-- the same of a tone
pub nothing_tone : mark_number tone_marks [] ≡ 0
unfolding encode
nothing_tone = refl
