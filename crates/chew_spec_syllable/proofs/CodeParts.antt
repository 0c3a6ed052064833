-- A code and its parts determine each other.
use Rattle.std.proofs.Common.{◌≡◌, ℕ, ◌+◌, ◌*◌, ◌/◌, ◌%◌, ◌<◌, ◌≤◌, true, ap, ◌∙◌, arith}
use Rattle.std.proofs.lemmas.Bool.{and_parts, leb-true, ltb-true}
use Rattle.chew_spec_syllable.specs.Syllable.{Parts, is_syllable, code_of, parts_of, is_code}

-- what `is_syllable` says
pub record InRange (p : Parts) : Type 0 where
  pub initial : p.initial ≤ 21
  pub medial : p.medial ≤ 3
  pub final : p.final ≤ 13
  pub tone : p.tone ≤ 4
  pub some : 0 < p.initial + p.medial + p.final

-- the test's facts
pub in_range : (p : Parts) → is_syllable p ≡ true → InRange p
in_range p h =
    let a = and_parts _ _ h in
    let b = and_parts _ _ a.1 in
    let d = and_parts _ _ b.1 in
    let e = and_parts _ _ d.1 in
    record {
      initial = leb-true _ _ a.0;
      medial = leb-true _ _ b.0;
      final = leb-true _ _ d.0;
      tone = leb-true _ _ e.0;
      some = ltb-true _ _ e.1;
    }

-- the four places of a number
places : (i m f t : ℕ) → m < 4 → f < 16 → t < 8
    → ((i * 512 + m * 128 + f * 8 + t) / 512 ≡ i)
    × (((i * 512 + m * 128 + f * 8 + t) / 128 % 4 ≡ m)
    × (((i * 512 + m * 128 + f * 8 + t) / 8 % 16 ≡ f)
    × ((i * 512 + m * 128 + f * 8 + t) % 8 ≡ t)))
places i m f t hm hf ht = (omega arith, (omega arith, (omega arith, omega arith)))

-- parts that are equal one by one are equal
pub same_parts : (p q : Parts) → p.initial ≡ q.initial → p.medial ≡ q.medial → p.final ≡ q.final → p.tone ≡ q.tone → p ≡ q
same_parts p q a b d e i = record { initial = a i; medial = b i; final = d i; tone = e i }

-- the parts of a syllable's code are its parts
pub parts_back : (p : Parts) → is_syllable p ≡ true → parts_of (code_of p) ≡ p
parts_back p h =
    let r = in_range p h in
    let s = places p.initial p.medial p.final p.tone (omega arith) (omega arith) (omega arith) in
    same_parts _ _ s.0 s.1.0 s.1.1.0 s.1.1.1

-- the code of a code's parts is the code
pub code_back : (code : ℕ) → code_of (parts_of code) ≡ code
code_back code = omega arith

-- a syllable's code is a code
pub code_is : (p : Parts) → is_syllable p ≡ true → is_code (code_of p) ≡ true
code_is p h = ap is_syllable (parts_back p h) ∙ h

-- the greatest code is that of ㄙㄩㄦˋ
pub code_at_most : (code : ℕ) → is_code code ≡ true → code ≤ 11244
code_at_most code h =
    let r = in_range (parts_of code) h in
    let e = code_back code in
    omega arith
