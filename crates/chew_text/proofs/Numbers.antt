-- What digits write, from left to right.
use Rattle.std.proofs.Common.{◌≡◌, ℕ, zero, suc, ◌+◌, ◌-◌, ◌*◌, ◌≤◌, ◌<◌, true, false, List, [], ◌∷◌, length, get_or, take, fold, Some, None, arith}
use Rattle.std.specs.List.{list_all}
use Rattle.std.specs.Char.{is_ascii_digit}
use Rattle.std.proofs.lemmas.Bool.{cond-true, cond-false, and_from, and_left, and_right, lt-ltb, le-leb, lt-leb}
use Rattle.std.proofs.lemmas.List.Folds.{list_all_at}
use Rattle.chew_spec_text.specs.Digits.{digits_value, is_number, number_up_to}

-- one digit more
abbrev pub next_value : ℕ → ℕ → ℕ
next_value value digit = value * 10 + (digit - 48)

-- more digits do not make the value less
value_grows : (value : ℕ) (digits : List ℕ) → value ≤ fold next_value value digits
value_grows value [] = omega arith
value_grows value (digit ∷ digits) = omega (arith, value_grows (next_value value digit) digits)

-- the first digits write no more than all
front_value : (i : ℕ) (digits : List ℕ) → digits_value (take i digits) ≤ digits_value digits
front_value i digits = from 0 i digits
  where
    from : (value i : ℕ) (digits : List ℕ) → fold next_value value (take i digits) ≤ fold next_value value digits
    from value zero digits = value_grows value digits
    from value (suc i) [] = omega arith
    from value (suc i) (digit ∷ digits) = from (next_value value digit) i digits

-- a byte that is no digit
pub other_byte : (most : ℕ) (text : List ℕ) (i d : ℕ) → i < length text → is_ascii_digit (get_or text i d) ≡ false → number_up_to most text ≡ None
other_byte most text i d h e = cond-false _ _ _ (and_left (is_number text) _ (and_right _ (list_all is_ascii_digit text) (list_all_at is_ascii_digit text i d h e)))

-- some first digits write too much
pub too_great : (most : ℕ) (text : List ℕ) (i : ℕ) → most < digits_value (take i text) → number_up_to most text ≡ None
too_great most text i h = cond-false _ _ _ (and_right (is_number text) _ (lt-leb _ _ (omega (arith, front_value i text))))

-- digits within the limit
pub number_is : (most : ℕ) (text : List ℕ) → 0 < length text → list_all is_ascii_digit text ≡ true → digits_value text ≤ most → number_up_to most text ≡ Some (digits_value text)
number_is most text h all below = cond-true _ _ _ (and_from (is_number text) _ (and_from _ _ (lt-ltb _ _ h) all) (le-leb _ _ below))
