-- A list after a write, and one that a crash tore.
use Rattle.std.specs.Prelude.{◌≡◌, ◌⊎◌, ℕ, ◌+◌, ◌-◌, ◌<◌, ◌≤◌, max, List, ◌++◌, length, take, drop, replicate, refl}
use Rattle.std.proofs.Common.{arith, get_or, ap, ◌∙◌, ⊎_elim, length-append}
use Rattle.std.proofs.lemmas.List.{length-take, length-drop, length-replicate, get_or-take, get_or-drop, get_or_append_left, get_or-append_right}
use Rattle.chew_spec_disk.specs.Memory.{grown, pasted, written}
use Rattle.chew_spec_disk.specs.Write.{Holds, Torn}

length-grown : (end : ℕ) (list : List ℕ) → length (grown end list) ≡ max (length list) end
length-grown end list = let r = length-replicate {A = ℕ} (end - length list) 0 in omega (arith, length-append list (replicate (end - length list) 0), r)

length-pasted : (at : ℕ) (bytes list : List ℕ) → at + length bytes ≤ length list → length (pasted at bytes list) ≡ length list
length-pasted at bytes list fits =
    omega (arith, length-append (take at list) (bytes ++ drop (at + length bytes) list), length-append bytes (drop (at + length bytes) list), length-take at list, length-drop (at + length bytes) list)

pub length-written : (at : ℕ) (bytes list : List ℕ) → length (written at bytes list) ≡ max (length list) (at + length bytes)
length-written at bytes list =
    let long = length-grown (at + length bytes) list in
    length-pasted at bytes (grown (at + length bytes) list) (omega arith) ∙ long

-- the bytes of the range
pasted-there : (at : ℕ) (bytes list : List ℕ) (k : ℕ) → at ≤ length list → k < length bytes → get_or (pasted at bytes list) (at + k) 0 ≡ get_or bytes k 0
pasted-there at bytes list k fits low =
    get_or-append_right (take at list) (bytes ++ drop (at + length bytes) list) at (at + k) 0 (omega (arith, length-take at list)) (omega arith)
    ∙ ap (λ i. get_or (bytes ++ drop (at + length bytes) list) i 0) (let e : at + k - at ≡ k = omega arith in e)
    ∙ get_or_append_left bytes (drop (at + length bytes) list) 0 k low

-- the bytes before it
pasted-before : (at : ℕ) (bytes list : List ℕ) (k : ℕ) → at ≤ length list → k < at → get_or (pasted at bytes list) k 0 ≡ get_or list k 0
pasted-before at bytes list k fits low =
    get_or_append_left (take at list) (bytes ++ drop (at + length bytes) list) 0 k (omega (arith, length-take at list)) ∙ get_or-take at list k 0 low

-- the bytes behind it
pasted-behind : (at : ℕ) (bytes list : List ℕ) (k : ℕ) → at ≤ length list → at + length bytes ≤ k → get_or (pasted at bytes list) k 0 ≡ get_or list k 0
pasted-behind at bytes list k fits high =
    get_or-append_right (take at list) (bytes ++ drop (at + length bytes) list) at k 0 (omega (arith, length-take at list)) (omega arith)
    ∙ get_or-append_right bytes (drop (at + length bytes) list) (length bytes) (k - at) 0 refl (omega arith)
    ∙ get_or-drop (at + length bytes) list (k - at - length bytes) 0
    ∙ ap (λ i. get_or list i 0) (let e : at + length bytes + (k - at - length bytes) ≡ k = omega arith in e)

grown-same : (end : ℕ) (list : List ℕ) (k : ℕ) → k < length list → get_or (grown end list) k 0 ≡ get_or list k 0
grown-same end list k low = get_or_append_left list (replicate (end - length list) 0) 0 k low

pub written-same : (at : ℕ) (bytes list : List ℕ) (k : ℕ) → k < length list → (k < at) ⊎ (at + length bytes ≤ k) → get_or (written at bytes list) k 0 ≡ get_or list k 0
written-same at bytes list k low apart =
    let long = length-grown (at + length bytes) list in
    ⊎_elim
    (λ before. pasted-before at bytes (grown (at + length bytes) list) k (omega arith) before ∙ grown-same (at + length bytes) list k low)
    (λ behind. pasted-behind at bytes (grown (at + length bytes) list) k (omega arith) behind ∙ grown-same (at + length bytes) list k low)
    apart

pub torn-written : (at : ℕ) (bytes list : List ℕ) → Torn at (length bytes) list (written at bytes list)
torn-written at bytes list =
    let long = length-written at bytes list in
    record { no_shorter = omega arith; no_longer = omega arith; same = written-same at bytes list }

pub torn-same : (at n : ℕ) (list : List ℕ) → Torn at n list list
torn-same at n list = record { no_shorter = omega arith; no_longer = omega arith; same = λ k low apart. refl }

pub holds-written : (at : ℕ) (bytes list : List ℕ) → Holds at bytes list (written at bytes list)
holds-written at bytes list = record {
  there = λ k low. pasted-there at bytes (grown (at + length bytes) list) k (omega (arith, length-grown (at + length bytes) list)) low;
  long = length-written at bytes list;
}
