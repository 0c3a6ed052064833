-- The hits of a run, put together from those of its intervals.
use Rattle.std.proofs.Common.{◌≡◌, ℕ, zero, suc, ◌+◌, ◌-◌, ◌≤◌, ◌<◌, List, [], ◌∷◌, ◌++◌, length, take, drop, map, flat_map, get_or, refl, ap, ap₂, sym, ◌∙◌, subst, append_assoc, append-nil, arith}
use Rattle.std.specs.List.{All, range_with_len}
use Rattle.std.proofs.lemmas.List.{length-take, length-drop, take_more}
use Rattle.std.proofs.lemmas.Grind.{flat_map-append}
use Rattle.chew_spec_syllable.specs.Row.{Row}
use Rattle.chew_spec_dictionary.specs.Call.{Hit}
use Rattle.chew_spec_dictionary.specs.Look.{Interval, codes_at, hit_of, shown_cmp, shown_hit_cmp}
use Rattle.chew_spec_dictionary.specs.Order.{in_order}
use Rattle.chew_spec_dictionary.specs.System.{rows_under}
use Rattle.chew_spec_dictionary.proofs.Sorting.{in_order_map}
use Rattle.chew_plain.specs.Look.{interval, hits_at}
use Rattle.chew_plain.proofs.KeyRows.{all_have_key}

-- the rows of a key have keys as long as it
pub keys_as_long : (rows found : List Row) (key : List ℕ) (len : ℕ) → found ≡ rows_under rows key → length key ≡ len → All (λ row. length row.key ≡ len) found
keys_as_long rows found key len e long = subst (All (λ (row : Row). length row.key ≡ len)) (sym e) (λ i d l. ap length (all_have_key key rows i d l) ∙ long)

-- the syllables of an interval are as many as its length says
pub interval_long : (run : List ℕ) (at : Interval) → at.start + at.len ≤ length run → length (codes_at run at) ≡ at.len
interval_long run at inside = omega (arith, length-take at.len (drop at.start run), length-drop at.start run)

-- a slice of a run has the syllables of the interval
pub slice_codes : (run : List ℕ) (start len : ℕ) (at : Interval) → interval start len ≡ at → take (start + len - start) (drop start run) ≡ codes_at run at
slice_codes run start len at e =
    ap (λ (n : ℕ). take n (drop start run)) (let s : start + len - start ≡ len = omega arith in s)
    ∙ ap (codes_at run) e

-- the rows of an interval as hits, sorted, are its hits
pub shown_hits : (rows found : List Row) (run : List ℕ) (at : Interval) (shown sorted : List Hit) → found ≡ rows_under rows (codes_at run at)
    → shown ≡ map (hit_of at) found → sorted ≡ in_order shown_hit_cmp shown → sorted ≡ hits_at rows run at
shown_hits rows found run at shown sorted f s o =
    o ∙ ap (in_order shown_hit_cmp) (s ∙ ap (map (hit_of at)) f)
    ∙ in_order_map (hit_of at) shown_cmp shown_hit_cmp (λ x y. refl) (rows_under rows (codes_at run at))

-- one more part: what is there, and the parts to come, stay the same as a whole
pub part_more : {X : Type 0} (parts : ℕ → List X) (had now whole : List X) (i end : ℕ) → i < end → now ≡ had ++ parts i
    → had ++ flat_map parts (range_with_len i (end - i)) ≡ whole → now ++ flat_map parts (range_with_len (i + 1) (end - (i + 1))) ≡ whole
part_more parts had now whole i end less e h =
    ap (λ (l : List _). l ++ flat_map parts (range_with_len (i + 1) (end - (i + 1)))) e
    ∙ append_assoc had (parts i) _
    ∙ sym (ap (λ (n : ℕ). had ++ flat_map parts (range_with_len i n)) (let s : end - i ≡ suc (end - (i + 1)) = omega arith in s))
    ∙ h

-- one element more
pub one_more : {X : Type 0} (f : ℕ → X) (had now whole : List X) (i end : ℕ) → i < end → now ≡ had ++ (f i ∷ [])
    → had ++ map f (range_with_len i (end - i)) ≡ whole → now ++ map f (range_with_len (i + 1) (end - (i + 1))) ≡ whole
one_more f had now whole i end less e h =
    ap (λ (l : List _). l ++ map f (range_with_len (i + 1) (end - (i + 1)))) e
    ∙ append_assoc had (f i ∷ []) _
    ∙ sym (ap (λ (n : ℕ). had ++ map f (range_with_len i n)) (let s : end - i ≡ suc (end - (i + 1)) = omega arith in s))
    ∙ h

-- the parts of one element more of a list
pub parts_more : {A X : Type 0} (f : A → List X) (xs : List A) (i : ℕ) (x : A) (had now : List X) → i < length xs → x ≡ get_or xs i x → had ≡ flat_map f (take i xs) → now ≡ had ++ f x → now ≡ flat_map f (take (i + 1) xs)
parts_more f xs i x had now less is h e =
    e ∙ ap₂ (λ (l : List _) (y : _). l ++ f y) h is
    ∙ sym (ap (flat_map f) (take_more xs i x less) ∙ flat_map-append f (take i xs) (get_or xs i x ∷ []) ∙ ap (λ (l : List _). flat_map f (take i xs) ++ l) (append-nil (f (get_or xs i x))))

-- after the last part
pub parts_all : {X : Type 0} (parts : ℕ → List X) (had whole : List X) (i end : ℕ) → end ≤ i → had ++ flat_map parts (range_with_len i (end - i)) ≡ whole → had ≡ whole
parts_all parts had whole i end le h =
    sym (append-nil had) ∙ sym (ap (λ (n : ℕ). had ++ flat_map parts (range_with_len i n)) (let z : end - i ≡ zero = omega arith in z)) ∙ h
