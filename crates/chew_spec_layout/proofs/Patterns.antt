-- The first of some patterns that fits and is valid.
use Rattle.std.proofs.Common.{◌≡◌, ℕ, zero, suc, ◌<◌, Bool, true, false, cond, ◌&&◌, List, [], ◌∷◌, Option, Some, None, find, filter, map, refl, sym, ap, ◌∙◌, subst, inl, inr, arith}
use Rattle.std.proofs.lemmas.Bool.{and_parts, and_from, both_ways, cases_Bool, cond-true, cond-false}
use Rattle.chew_spec_syllable.specs.Syllable.{Parts}
use Rattle.chew_spec_layout.specs.LetterKeys.{IsReading, IsFirstReading}
use Rattle.chew_spec_layout.specs.Letters.{Taken, takings, fits, parts_taken, is_reading, reading_of}
use Rattle.chew_spec_layout.specs.Table.{Columns}

-- what patterns are read as
abbrev read : Columns → List Taken → Option Parts
read columns patterns = find is_reading (map (parts_taken columns) (filter (fits columns) patterns))

-- a pattern fits and is valid
abbrev is_read : Columns → Taken → Bool
is_read columns taken = fits columns taken && is_reading (parts_taken columns taken)

-- a first pattern that fits or not, and others
read_first : (columns : Columns) (b : Bool) (taken : Taken) (rest : List Taken)
    → find is_reading (map (parts_taken columns) (cond b (taken ∷ rest) rest))
    ≡ cond (b && is_reading (parts_taken columns taken)) (Some (parts_taken columns taken)) (find is_reading (map (parts_taken columns) rest))
read_first columns true taken rest = refl
read_first columns false taken rest = refl

-- so a first pattern is what is read, or the others are
read_step : (columns : Columns) (taken : Taken) (patterns : List Taken)
    → read columns (taken ∷ patterns) ≡ cond (is_read columns taken) (Some (parts_taken columns taken)) (read columns patterns)
read_step columns taken patterns = read_first columns (fits columns taken) taken (filter (fits columns) patterns)

-- what options have
same_parts : (a b : Parts) → Some a ≡ Some b → a ≡ b
same_parts a b e = cc

same_taken : (a b : Taken) → Some a ≡ Some b → a ≡ b
same_taken a b e = cc

-- a pattern that is read is a reading at the head
here : (columns : Columns) (taken : Taken) (patterns : List Taken) → is_read columns taken ≡ true → IsReading columns (taken ∷ patterns) 0 (parts_taken columns taken)
here columns taken patterns reads =
    let both = and_parts _ _ reads in record { taken = taken; pattern = refl; fits = both.0; read_as = refl; valid = both.1 }

-- and a reading at the head is read
is_here : (columns : Columns) (taken : Taken) (patterns : List Taken) (parts : Parts) → IsReading columns (taken ∷ patterns) 0 parts
    → (is_read columns taken ≡ true) × (parts_taken columns taken ≡ parts)
is_here columns taken patterns parts r =
    let same : taken ≡ r.taken = same_taken taken r.taken r.pattern in
    let is : parts_taken columns taken ≡ parts = ap (parts_taken columns) same ∙ r.read_as in
    (and_from _ _ (ap (fits columns) same ∙ r.fits) (ap is_reading is ∙ r.valid), is)

-- a reading behind the head is one of the rest
behind : (columns : Columns) (taken : Taken) (patterns : List Taken) (place : ℕ) (parts : Parts) → IsReading columns (taken ∷ patterns) (suc place) parts
    → IsReading columns patterns place parts
behind columns taken patterns place parts r = record { taken = r.taken; pattern = r.pattern; fits = r.fits; read_as = r.read_as; valid = r.valid }

before : (columns : Columns) (taken : Taken) (patterns : List Taken) (place : ℕ) (parts : Parts) → IsReading columns patterns place parts
    → IsReading columns (taken ∷ patterns) (suc place) parts
before columns taken patterns place parts r = record { taken = r.taken; pattern = r.pattern; fits = r.fits; read_as = r.read_as; valid = r.valid }

-- where the head isn't read, the first reading of the rest is the first
first_behind : (columns : Columns) (taken : Taken) (patterns : List Taken) (place : ℕ) (parts : Parts) → is_read columns taken ≡ false
    → IsFirstReading columns patterns place parts → (earlier : ℕ) (other : Parts) → earlier < suc place → IsReading columns (taken ∷ patterns) earlier other → ⊥
first_behind columns taken patterns place parts fails f zero other less r = both_ways _ fails (is_here columns taken patterns other r).0
first_behind columns taken patterns place parts fails f (suc k) other less r = f.first k other (omega arith) (behind columns taken patterns k other r)

-- what is read is the first reading
found : (columns : Columns) (patterns : List Taken) (parts : Parts) → read columns patterns ≡ Some parts → (place : ℕ) × IsFirstReading columns patterns place parts
found columns [] parts e = absurd cc
found columns (taken ∷ patterns) parts e = elim (cases_Bool (is_read columns taken)) [
  | inl reads ↦
      let same : parts_taken columns taken ≡ parts = same_parts _ _ (sym (read_step columns taken patterns ∙ cond-true _ _ _ reads) ∙ e) in (
        0,
        record {
          reading = subst (IsReading columns (taken ∷ patterns) 0) same (here columns taken patterns reads);
          first = λ earlier other less r. absurd (omega arith);
        },
      )
  | inr fails ↦
      let rest = found columns patterns parts (sym (read_step columns taken patterns ∙ cond-false _ _ _ fails) ∙ e) in (
        suc rest.0,
        record {
          reading = before columns taken patterns rest.0 parts rest.1.reading;
          first = first_behind columns taken patterns rest.0 parts fails rest.1;
        },
      )
]

-- and the first reading is what is read
back : (columns : Columns) (patterns : List Taken) (place : ℕ) (parts : Parts) → IsFirstReading columns patterns place parts → read columns patterns ≡ Some parts
back columns [] place parts f = let e = f.reading.pattern in absurd cc
back columns (taken ∷ patterns) zero parts f =
    let is = is_here columns taken patterns parts f.reading in
    read_step columns taken patterns ∙ (cond-true _ _ _ is.0 ∙ ap Some is.1)
back columns (taken ∷ patterns) (suc place) parts f = elim (cases_Bool (is_read columns taken)) [
  | inl reads ↦ absurd (f.first 0 (parts_taken columns taken) (omega arith) (here columns taken patterns reads))
  | inr fails ↦
      read_step columns taken patterns ∙ (cond-false _ _ _ fails ∙ back columns patterns place parts (record {
        reading = behind columns taken patterns place parts f.reading;
        first = λ earlier other less r. f.first (suc earlier) other (omega arith) (before columns taken patterns earlier other r);
      }))
]

-- where the head isn't read and nothing behind it is, there is no reading
none_behind : (columns : Columns) (taken : Taken) (patterns : List Taken) → is_read columns taken ≡ false
    → ((place : ℕ) (parts : Parts) → IsReading columns patterns place parts → ⊥) → (place : ℕ) (parts : Parts) → IsReading columns (taken ∷ patterns) place parts → ⊥
none_behind columns taken patterns fails rest zero parts r = both_ways _ fails (is_here columns taken patterns parts r).0
none_behind columns taken patterns fails rest (suc place) parts r = rest place parts (behind columns taken patterns place parts r)

-- where nothing is read, there is no reading
none : (columns : Columns) (patterns : List Taken) → read columns patterns ≡ None → (place : ℕ) (parts : Parts) → IsReading columns patterns place parts → ⊥
none columns [] e place parts r = let f = r.pattern in absurd cc
none columns (taken ∷ patterns) e place parts r = elim (cases_Bool (is_read columns taken)) [
  | inl reads ↦ let some = sym (read_step columns taken patterns ∙ cond-true _ _ _ reads) ∙ e in absurd cc
  | inr fails ↦ none_behind columns taken patterns fails (none columns patterns (sym (read_step columns taken patterns ∙ cond-false _ _ _ fails) ∙ e)) place parts r
]

-- the same of the patterns of held letters
pub first_found : (columns : Columns) (held : List ℕ) (parts : Parts) → reading_of columns held ≡ Some parts → (place : ℕ) × IsFirstReading columns (takings held) place parts
unfolding reading_of
first_found columns held = found columns (takings held)

pub first_back : (columns : Columns) (held : List ℕ) (place : ℕ) (parts : Parts) → IsFirstReading columns (takings held) place parts → reading_of columns held ≡ Some parts
unfolding reading_of
first_back columns held = back columns (takings held)

pub none_found : (columns : Columns) (held : List ℕ) → reading_of columns held ≡ None → (place : ℕ) (parts : Parts) → IsReading columns (takings held) place parts → ⊥
unfolding reading_of
none_found columns held = none columns (takings held)
