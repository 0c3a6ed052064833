-- The intervals of a run, and the hits of one of them.
use Rattle.std.proofs.Common.{◌≡◌, ◌≢◌, ℕ, zero, suc, ◌+◌, ◌-◌, ◌<◌, ◌≤◌, min, Bool, true, false, cond, ◌&&◌, List, [], ◌∷◌, ◌++◌, append-nil, map, filter, flat_map, Contains, ⊎_elim, refl, ap, ap₂, ◌∙◌, arith}
use Rattle.std.specs.Prelude.{◌==◌}
use Rattle.std.specs.List.{range_with_len}
use Rattle.std.proofs.lemmas.Bool.{and_from, and_left, and_right, cases_eq, eq-eqb, ne_eqb}
use Rattle.std.proofs.lemmas.List.Concat.{flat_map-append}
use Rattle.std.proofs.lemmas.List.Elements.{filter-append}
use Rattle.chew_spec_syllable.specs.Row.{Row}
use Rattle.chew_spec_dictionary.specs.Look.{Interval, hit_of, intervals}
use Rattle.chew_spec_dictionary.proofs.Hits.{listed_within}
use Rattle.chew_spec_phrasing.specs.CombinedRows.{is_hit_at}
use Rattle.chew_spec_phrasing.proofs.Membership.{Contains-head, Contains-tail}

-- pieces that are alike at each element give one list
pub flat_map_alike : {X Y : Type 0} (f g : X → List Y) (xs : List X) → ((x : X) → Contains xs x → f x ≡ g x) → flat_map f xs ≡ flat_map g xs
flat_map_alike f g [] same = refl
flat_map_alike f g (x ∷ xs) same =
    ap₂ (λ ys zs. ys ++ zs) (same x (Contains-head x xs)) (flat_map_alike f g xs (λ y i. same y (Contains-tail x xs y i)))

-- pieces that are all empty give the empty list
pub flat_map_none : {X Y : Type 0} (f : X → List Y) (xs : List X) → ((x : X) → f x ≡ []) → flat_map f xs ≡ []
flat_map_none f [] none = refl
flat_map_none f (x ∷ xs) none = ap₂ (λ ys zs. ys ++ zs) (none x) (flat_map_none f xs none)

pub flat_map-map : {X Y Z : Type 0} (f : Y → List Z) (g : X → Y) (xs : List X) → flat_map f (map g xs) ≡ flat_map (λ x. f (g x)) xs
flat_map-map f g [] = refl
flat_map-map f g (x ∷ xs) = ap (λ ys. f (g x) ++ ys) (flat_map-map f g xs)

pub flat_map-flat_map : {X Y Z : Type 0} (f : Y → List Z) (g : X → List Y) (xs : List X) → flat_map f (flat_map g xs) ≡ flat_map (λ x. flat_map f (g x)) xs
flat_map-flat_map f g [] = refl
flat_map-flat_map f g (x ∷ xs) =
    flat_map-append f (g x) (flat_map g xs) ∙ ap (λ ys. flat_map f (g x) ++ ys) (flat_map-flat_map f g xs)

pub filter-flat_map : {X Y : Type 0} (p : Y → Bool) (f : X → List Y) (xs : List X) → filter p (flat_map f xs) ≡ flat_map (λ x. filter p (f x)) xs
filter-flat_map p f [] = refl
filter-flat_map p f (x ∷ xs) =
    filter-append p (f x) (flat_map f xs) ∙ ap (λ ys. filter p (f x) ++ ys) (filter-flat_map p f xs)

pub map-map : {X Y Z : Type 0} (f : Y → Z) (g : X → Y) (xs : List X) → map f (map g xs) ≡ map (λ x. f (g x)) xs
map-map f g [] = refl
map-map f g (x ∷ xs) = ap (λ ys. f (g x) ∷ ys) (map-map f g xs)

-- no number of a range is below it
none_below : {Y : Type 0} (f : ℕ → List Y) (a n j : ℕ) → ((k : ℕ) → k ≢ j → f k ≡ []) → j < a → flat_map f (range_with_len a n) ≡ []
none_below f a zero j none l = refl
none_below f a (suc n) j none l =
    ap₂ (λ ys zs. ys ++ zs) (none a (omega arith)) (none_below f (a + 1) n j none (omega arith))

-- where only one number of a range gives anything, that is all
pub flat_map-range_one : {Y : Type 0} (f : ℕ → List Y) (a n j : ℕ) → ((k : ℕ) → k ≢ j → f k ≡ []) → a ≤ j → j < a + n → flat_map f (range_with_len a n) ≡ f j
flat_map-range_one f a zero j none l m = absurd (omega arith)
flat_map-range_one f a (suc n) j none l m =
    ⊎_elim
    (λ same. ap₂ (λ ys zs. ys ++ zs) (ap f same) (none_below f (a + 1) n j none (omega arith)) ∙ append-nil (f j))
    (λ other. ap₂ (λ ys zs. ys ++ zs) (none a other) (flat_map-range_one f (a + 1) n j none (let below : a ≢ j = other in omega arith) (omega arith)))
    (cases_eq a j)

-- the interval lies in a run of n syllables and has 1 to 11
pub record IsIn (n : ℕ) (at : Interval) : Type 0 where
  pub starts : at.start < n
  pub from_one : 1 ≤ at.len
  pub fits : at.len ≤ min 11 (n - at.start)

-- each of the intervals of a run does
pub IsIn-from_intervals : (n : ℕ) (at : Interval) → Contains (intervals n) at → IsIn n at
IsIn-from_intervals n at h =
    let within = listed_within n at h in
    record { starts = omega (arith, within.0, within.2); from_one = within.0; fits = omega (arith, within.1, within.2) }

kept_hits_step : (at i : Interval) (b : Bool) (rows : List Row) → ((i.start == at.start) && (i.len == at.len)) ≡ b → filter (is_hit_at at) (map (hit_of i) rows) ≡ cond b (map (hit_of i) rows) []
kept_hits_step at i true [] e = refl
kept_hits_step at i false [] e = refl
kept_hits_step at i true (row ∷ rows) e =
    ap (λ b. cond b (hit_of i row ∷ filter (is_hit_at at) (map (hit_of i) rows)) (filter (is_hit_at at) (map (hit_of i) rows))) e
    ∙ ap (λ hits. hit_of i row ∷ hits) (kept_hits_step at i true rows e)
kept_hits_step at i false (row ∷ rows) e =
    ap (λ b. cond b (hit_of i row ∷ filter (is_hit_at at) (map (hit_of i) rows)) (filter (is_hit_at at) (map (hit_of i) rows))) e
    ∙ kept_hits_step at i false rows e

-- of the hits of another interval none is kept
other_hits : (at i : Interval) (rows : List Row) → ((i.start == at.start) && (i.len == at.len)) ≡ false → filter (is_hit_at at) (map (hit_of i) rows) ≡ []
other_hits at i rows e = kept_hits_step at i false rows e

own_hits : (at : Interval) (rows : List Row) → filter (is_hit_at at) (map (hit_of at) rows) ≡ map (hit_of at) rows
own_hits at rows =
    kept_hits_step at at true rows (and_from (at.start == at.start) (at.len == at.len) (eq-eqb at.start at.start refl) (eq-eqb at.len at.len refl))

-- of the hits of all intervals those of one are its rows
pub hits_at : (rows_at : Interval → List Row) (n : ℕ) (at : Interval) → IsIn n at → filter (is_hit_at at) (flat_map (λ i. map (hit_of i) (rows_at i)) (intervals n)) ≡ map (hit_of at) (rows_at at)
hits_at rows_at n at is_in =
    let hits = λ (i : Interval). map (hit_of i) (rows_at i) in
    let kept = λ (i : Interval). filter (is_hit_at at) (hits i) in
    let within = λ (start : ℕ). map (λ (len : ℕ). let i : Interval = record { start = start; len = len } in i) (range_with_len 1 (min 11 (n - start))) in
    let starts = is_in.starts in
    let from_one = is_in.from_one in
    let fits = is_in.fits in
    filter-flat_map (is_hit_at at) hits (intervals n)
    ∙ (flat_map-flat_map kept within (range_with_len 0 n)
    ∙ (flat_map-range_one (λ start. flat_map kept (within start)) 0 n at.start
    (λ start other.
    flat_map-map kept (λ len. record { start = start; len = len }) (range_with_len 1 (min 11 (n - start)))
    ∙ flat_map_none (λ len. kept (record { start = start; len = len })) (range_with_len 1 (min 11 (n - start)))
    (λ len. other_hits at (record { start = start; len = len }) (rows_at (record { start = start; len = len }))
    (and_left (start == at.start) (len == at.len) (ne_eqb start at.start other))))
    (omega arith) (omega arith)
    ∙ (flat_map-map kept (λ len. record { start = at.start; len = len }) (range_with_len 1 (min 11 (n - at.start)))
    ∙ (flat_map-range_one (λ len. kept (record { start = at.start; len = len })) 1 (min 11 (n - at.start)) at.len
    (λ len other. other_hits at (record { start = at.start; len = len }) (rows_at (record { start = at.start; len = len }))
    (and_right (at.start == at.start) (len == at.len) (ne_eqb len at.len other)))
    from_one (omega arith)
    ∙ own_hits at (rows_at at)))))
