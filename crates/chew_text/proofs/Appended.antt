-- Fields that are appended one after another.
use Rattle.std.proofs.Common.{◌≡◌, ℕ, zero, suc, ◌+◌, ◌<◌, ◌≤◌, List, [], ◌∷◌, ◌++◌, Bor, length, get_or, take, ap, arith}
use Rattle.std.specs.List.{flat_map}
use Rattle.std.proofs.lemmas.List.{length-append}

-- a field and the byte behind it
abbrev pub Field : Type 0
Field = Bor (List ℕ) × ℕ

abbrev pub field_text : Field → List ℕ
field_text field = field.0.now ++ field.1 ∷ []

-- the first fields and the next are no longer than all
front_short : (i : ℕ) (fields : List Field) (d : Field) → i < length fields
    → length (flat_map field_text (take i fields)) + length (field_text (get_or fields i d)) ≤ length (flat_map field_text fields)
front_short i [] d h = absurd (omega arith)
front_short zero (field ∷ fields) d h = omega (arith, length-append (field_text field) (flat_map field_text fields))
front_short (suc i) (field ∷ fields) d h =
    omega (
      arith,
      front_short i fields d (omega arith),
      length-append (field_text field) (flat_map field_text fields),
      length-append (field_text field) (flat_map field_text (take i fields)),
    )

-- so a field that had no room shows that all have none
pub no_room : (i room now len grown : ℕ) (had new : List ℕ) (fields : List Field) (d : Field) → i < length fields
    → new ≡ had ++ flat_map field_text (take i fields) → len ≡ length had → grown ≡ length new → room ≤ now
    → now < grown + (length (get_or fields i d).0.now + 1) → room < len + length (flat_map field_text fields)
no_room i room now len grown had new fields d h items same long low full =
    omega (
      arith,
      front_short i fields d h,
      ap length items,
      length-append had (flat_map field_text (take i fields)),
      length-append (get_or fields i d).0.now ((get_or fields i d).1 ∷ []),
    )
