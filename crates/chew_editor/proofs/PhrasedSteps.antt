-- Runs that are phrased one after another.
use Rattle.std.specs.Prelude.{◌≡◌, ℕ, zero, suc, ◌+◌, ◌<◌, ◌≤◌, min, List, [], ◌∷◌, drop, get_or, length, map, slice_get, Some}
use Rattle.std.proofs.Common.{refl, ap, ap₂, sym, subst, ◌∙◌, arith, ⊎_elim}
use Rattle.std.proofs.lemmas.Bool.{cases_lt}
use Rattle.std.proofs.lemmas.List.{drop_all, drop_more}
use Rattle.chew_spec_syllable.specs.Row.{Row}
use Rattle.chew_spec_dictionary.specs.Call.{Hit, Reply}
use Rattle.chew_spec_phrasing.specs.Usable.{Piece}
use Rattle.chew_spec_preedit.specs.Buffer.{Buffer}
use Rattle.chew_spec_preedit.specs.PlacedRun.{PlacedRun}
use Rattle.chew_spec_editor.specs.Finish.{best_of_run, hits_in, phrased, renewed}
use Rattle.chew_editor.specs.Phrasable.{ArePhrasable, IsPhrasable}

get-at : {X : Type 0} (xs : List X) (i : ℕ) (x : X) → i < length xs → x ≡ get_or xs i x → slice_get xs i ≡ Some x
get-at [] i x l e = absurd (omega arith)
get-at (y ∷ xs) zero x l e = ap Some (sym e)
get-at (y ∷ xs) (suc i) x l e = get-at xs i x (omega arith) e

get-map : {X Y : Type 0} (f : X → Y) (xs : List X) (i : ℕ) (x : X) → i < length xs → x ≡ get_or xs i x → slice_get (map f xs) i ≡ Some (f x)
get-map f [] i x l e = absurd (omega arith)
get-map f (y ∷ xs) zero x l e = ap (λ z. Some (f z)) (sym e)
get-map f (y ∷ xs) (suc i) x l e = get-map f xs i x (omega arith) e

-- the run at a place can be phrased by the reply there
pub phrasable-at : {X : Type 0} (f : X → Reply) (system : List Row) (buffer : Buffer) (runs : List PlacedRun) (replies : List X) (i : ℕ) (run : PlacedRun) (reply : X) (hits : List Hit)
    → ArePhrasable system buffer runs (map f replies) → i < length runs → run ≡ get_or runs i run → i < length replies → reply ≡ get_or replies i reply
    → hits ≡ hits_in (f reply) → IsPhrasable system buffer run hits
phrasable-at f system buffer runs replies i run reply hits h l e m d found =
    subst (IsPhrasable system buffer run) (sym found) (h.each i run (f reply) (get-at runs i run l e) (get-map f replies i reply m d))

-- a run more
pub phrased-more : {X : Type 0} (f : X → Reply) (system : List Row) (buffer : Buffer) (runs : List PlacedRun) (replies : List X) (i : ℕ) (run : PlacedRun) (reply : X) (hits : List Hit) (had now whole : List Piece)
    → i < length runs → run ≡ get_or runs i run → i < length replies → reply ≡ get_or replies i reply → hits ≡ hits_in (f reply)
    → now ≡ renewed run (best_of_run system buffer run hits) had
    → phrased system buffer had (drop i runs) (map f (drop i replies)) ≡ whole
    → phrased system buffer now (drop (i + 1) runs) (map f (drop (i + 1) replies)) ≡ whole
unfolding phrased
phrased-more f system buffer runs replies i run reply hits had now whole l e m d found is h =
    let other_runs = drop (i + 1) runs in
    let others = map f (drop (i + 1) replies) in
    ap (λ ps. phrased system buffer ps (drop (i + 1) runs) (map f (drop (i + 1) replies))) (is ∙ ap (λ hs. renewed run (best_of_run system buffer run hs) had) found)
    ∙ (sym (ap₂ (λ rs ss. phrased system buffer had rs ss) (drop_more runs i run l ∙ ap (λ r. r ∷ other_runs) (sym e))
    (ap (map f) (drop_more replies i reply m) ∙ ap (λ r. f r ∷ others) (sym d)))
    ∙ h)

-- and none
pub phrased-all : {X : Type 0} (f : X → Reply) (system : List Row) (buffer : Buffer) (runs : List PlacedRun) (replies : List X) (i : ℕ) (had whole : List Piece)
    → min (length runs) (length replies) ≤ i → phrased system buffer had (drop i runs) (map f (drop i replies)) ≡ whole → had ≡ whole
unfolding phrased
phrased-all f system buffer runs replies i had whole l h =
    ⊎_elim
    (λ few. let m = few in no_replies system buffer had (drop i runs) (map f (drop i replies)) (ap (map f) (drop_all i replies (omega arith))) ∙ h)
    (λ none. no_runs system buffer had (drop i runs) (map f (drop i replies)) (drop_all i runs none) ∙ h)
    (cases_lt i (length runs))
  where
    no_runs : (system : List Row) (buffer : Buffer) (had : List Piece) (runs : List PlacedRun) (replies : List Reply) → runs ≡ [] → had ≡ phrased system buffer had runs replies
    no_runs system buffer had [] replies e = refl
    no_runs system buffer had (run ∷ runs) replies e = absurd (cc)

    no_replies : (system : List Row) (buffer : Buffer) (had : List Piece) (runs : List PlacedRun) (replies : List Reply) → replies ≡ [] → had ≡ phrased system buffer had runs replies
    no_replies system buffer had [] replies e = refl
    no_replies system buffer had (run ∷ runs) [] e = refl
    no_replies system buffer had (run ∷ runs) (reply ∷ replies) e = absurd (cc)
