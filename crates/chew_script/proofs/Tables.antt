-- What stands beside a name in a table, where the names and values are parts of its entries.
use Rattle.std.specs.Prelude.{◌≡◌, ℕ, Bool, true, false, cond, List, [], ◌∷◌, map, find, bytes_eq, Option, Some}
use Rattle.std.specs.Option.{option_map}
use Rattle.std.proofs.Common.{refl, subst}
use Rattle.std.specs.List.{list_all}
use Rattle.std.proofs.lemmas.Bool.{and_parts}
use Rattle.chew_script.specs.Table.{Named, beside}

step : {A V : Type 0} (n : A → List ℕ) (v : A → V) (b : Bool) (x : A) (o : Option A) (p : Option (Named V)) → option_map v o ≡ option_map (λ (entry : Named V). entry.1) p
    → option_map v (cond b (Some x) o) ≡ option_map (λ (entry : Named V). entry.1) (cond b (Some (n x, v x)) p)
step n v true x o p e = refl
step n v false x o p e = e

pub found-beside : {A V : Type 0} (n : A → List ℕ) (v : A → V) (name : List ℕ) (table : List A)
    → option_map v (find (λ e. bytes_eq (n e) name) table) ≡ beside name (map {B = Named V} (λ e. (n e, v e)) table)
found-beside n v name [] = refl
found-beside n v name (x ∷ table) = step n v (bytes_eq (n x) name) x _ _ (found-beside n v name table)

seen : {V W : Type 0} (f : V → W) (b : Bool) (x : Named V) (o : Option (Named V)) (p : Option (Named W)) → option_map f (option_map (λ (entry : Named V). entry.1) o) ≡ option_map (λ (entry : Named W). entry.1) p
    → option_map f (option_map (λ (entry : Named V). entry.1) (cond b (Some x) o)) ≡ option_map (λ (entry : Named W). entry.1) (cond b (Some (x.0, f x.1)) p)
seen f true x o p e = refl
seen f false x o p e = e

pub beside-map : {V W : Type 0} (f : V → W) (name : List ℕ) (table : List (Named V)) → option_map f (beside name table) ≡ beside name (map {B = Named W} (λ e. (e.0, f e.1)) table)
beside-map f name [] = refl
beside-map f name (x ∷ table) = seen f (bytes_eq x.0 name) x _ _ (beside-map f name table)

-- what is found in a list has what all its elements have
kept_step : {X : Type 0} (p good : X → Bool) (y x : X) (o : Option X) (b : Bool) → p y ≡ b → good y ≡ true → (o ≡ Some x → (p x ≡ true) × (good x ≡ true)) → cond b (Some y) o ≡ Some x → (p x ≡ true) × (good x ≡ true)
kept_step p good y x o true is has rest e = let same : y ≡ x = cc in (subst (λ z. p z ≡ true) same is, subst (λ z. good z ≡ true) same has)
kept_step p good y x o false is has rest e = rest e

pub kept : {X : Type 0} (p good : X → Bool) (xs : List X) (x : X) → list_all good xs ≡ true → find p xs ≡ Some x → (p x ≡ true) × (good x ≡ true)
kept p good [] x all e = absurd cc
kept p good (y ∷ xs) x all e = kept_step p good y x (find p xs) (p y) refl (and_parts _ _ all).0 (λ f. kept p good xs x (and_parts _ _ all).1 f) e
