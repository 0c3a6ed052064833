-- A syllable of Zhuyin: four parts by their numbers, and the code that holds them. The numbers and the
-- code are this project's own.
use Rattle.std.specs.Prelude.{ℕ, ◌+◌, ◌*◌, ◌/◌, ◌%◌, Bool, ◌&&◌, nat_le, nat_lt}

-- the number of each part, counted from 1; 0 where there is none, which for the tone is the first tone
pub record Parts : Type 0 where
  pub initial : ℕ
  pub medial : ℕ
  pub final : ℕ
  pub tone : ℕ

-- each part is in its range, and there is one besides the tone
abbrev pub is_syllable : Parts → Bool
is_syllable p = nat_le p.initial 21 && (nat_le p.medial 3 && (nat_le p.final 13
    && (nat_le p.tone 4 && nat_lt 0 (p.initial + p.medial + p.final))))

-- the code of a syllable
abbrev pub code_of : Parts → ℕ
code_of p = p.initial * 512 + p.medial * 128 + p.final * 8 + p.tone

-- the parts that a code holds
abbrev pub parts_of : ℕ → Parts
parts_of code = record { initial = code / 512; medial = code / 128 % 4; final = code / 8 % 16; tone = code % 8 }

-- the code is that of a syllable
abbrev pub is_code : ℕ → Bool
is_code code = is_syllable (parts_of code)
