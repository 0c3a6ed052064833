-- Numbers as texts write them, in decimal digits.
use Rattle.std.specs.Prelude.{ℕ, ◌+◌, ◌-◌, ◌*◌, Bool, ◌&&◌, List, length, fold, nat_lt, nat_le, Option, Some, None, if◌then◌else◌}
use Rattle.std.specs.List.{list_all}
use Rattle.std.specs.Char.{is_ascii_digit}

-- the number that decimal digits write
abbrev pub digits_value : List ℕ → ℕ
digits_value digits = fold (λ value digit. value * 10 + (digit - 48)) 0 digits

-- digits, one at least
abbrev pub is_number : List ℕ → Bool
is_number digits = nat_lt 0 (length digits) && list_all is_ascii_digit digits

-- the number that a text writes, with any number of zeros in front, where it is at most this
abbrev pub number_up_to : ℕ → List ℕ → Option ℕ
number_up_to most digits = if is_number digits && nat_le (digits_value digits) most then Some (digits_value digits) else None
