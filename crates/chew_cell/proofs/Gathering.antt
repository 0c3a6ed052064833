-- Passes are taken in one after another.
use Rattle.std.proofs.Common.{◌≡◌, ℕ, zero, suc, List, [], ◌∷◌, ◌++◌, map, All, Contains, refl, sym, ap, ◌∙◌, subst, ⊎_elim, inl, inr, length-append, append_assoc, append-nil, arith}
use Rattle.std.specs.List.{slice_index_or}
use Rattle.std.proofs.lemmas.List.Elements.{Contains-append_left, Contains-append_right, Contains-append_cases}
use Rattle.chew_spec_dictionary.specs.History.{Entry}
use Rattle.std.specs.declared.option.Option.{Option as Opt}
use Rattle.atomic_table.specs.Table.{Me}
use Rattle.chew_spec_cell.specs.Pass.{Cell, Pass}
use Rattle.chew_spec_cell.specs.Sight.{HasSeen}
use Rattle.chew_spec_cell.proofs.Sights.{seen-over}
use Rattle.chew_cell.specs.View.{Sight, View, sight_of, both, idle}
use Rattle.chew_cell.specs.Rule.{IsSightOf}
use Rattle.chew_cell.specs.Seats.{IsGathered, IsGathering, first_view, view_of}
use Rattle.chew_cell.proofs.Views.{contains-only, contains-one}
use Rattle.chew_cell.proofs.Sights.{sight-over, seen-by}

pub all-first : {X : Type 0} (P : X → Type 0) (x : X) (xs : List X) → P x → All P xs → All P (x ∷ xs)
all-first P x xs p ps zero d low = p
all-first P x xs p ps (suc k) d low = ps k d (omega arith)

pub all-map : {X : Type 0} (P Q : X → Type 0) (xs : List X) → ((x : X) → P x → Q x) → All P xs → All Q xs
all-map P Q xs f ps k d low = f (slice_index_or xs k d) (ps k d low)

pub all-both : {X : Type 0} (P Q : X → Type 0) (xs : List X) → All P xs → All Q xs → All (λ x. P x × Q x) xs
all-both P Q xs ps qs k d low = (ps k d low, qs k d low)

all-front : {X : Type 0} (P : X → Type 0) (xs ys : List X) → All P (xs ++ ys) → All P xs
all-front P [] ys ps k d low = absurd (omega arith)
all-front P (x ∷ xs) ys ps zero d low = ps 0 d (omega arith)
all-front P (x ∷ xs) ys ps (suc k) d low = all-front P xs ys (λ i e l. ps (suc i) e (omega arith)) k d (omega arith)

contains-first : (n who : ℕ) (ns : List ℕ) → who ≡ n → Contains (n ∷ ns) who
contains-first n who ns e = (0, omega arith, sym e)

contains-later : (n who : ℕ) (ns : List ℕ) → Contains ns who → Contains (n ∷ ns) who
contains-later n who ns c = (suc c.0, (let low = c.1 in omega arith), c.2)

-- what a pass had seen
abbrev pub sight_of_pass : Pass → Sight
sight_of_pass p = sight_of p.seen (p.who ∷ [])

pub gathered-none : (sight : Sight) → IsGathered sight [] sight
gathered-none sight = record {
  mine = record { later = []; joined = sym (append-nil sight.seen); none = λ who c. refl };
  keeps = λ who c. c;
  seen = λ k d low. absurd (omega arith);
  has = λ k d low. absurd (omega arith);
  count = omega arith;
  among = λ who c. inl c;
}

pub gathered-more : (before between : Sight) (p : Pass) (passes : List Pass) → IsGathered before passes between
    → IsSightOf (both between (sight_of_pass p)).seen between → IsSightOf (both between (sight_of_pass p)).seen (sight_of_pass p) → IsGathered before (p ∷ passes) (both between (sight_of_pass p))
gathered-more before between p passes g mine theirs =
    let after = both between (sight_of_pass p) in
    let left = Contains-append_left between.numbers (p.who ∷ []) in
    let right = Contains-append_right between.numbers (p.who ∷ []) in record {
      mine = sight-over between.seen after.seen before between.numbers g.mine mine g.keeps;
      keeps = λ who c. left who (g.keeps who c);
      seen = all-first (λ (q : Pass). HasSeen q.who q.seen after.seen) p passes (seen-by after.seen (sight_of_pass p) p.who theirs (contains-only p.who))
          (all-map (λ (q : Pass). HasSeen q.who q.seen between.seen × Contains between.numbers q.who) (λ (q : Pass). HasSeen q.who q.seen after.seen) passes
          (λ q h. seen-over q.who q.seen between.seen after.seen h.0 (seen-by after.seen between q.who mine h.1))
          (all-both (λ (q : Pass). HasSeen q.who q.seen between.seen) (λ (q : Pass). Contains between.numbers q.who) passes g.seen g.has));
      has = all-first (λ (q : Pass). Contains after.numbers q.who) p passes (right p.who (contains-only p.who))
          (all-map (λ (q : Pass). Contains between.numbers q.who) (λ (q : Pass). Contains after.numbers q.who) passes (λ q c. left q.who c) g.has);
      count = (let n = g.count in let l = length-append between.numbers (p.who ∷ []) in omega arith);
      among = λ who c. ⊎_elim
          (λ was. ⊎_elim inl (λ others. inr (contains-later p.who who (map (λ (q : Pass). q.who) passes) others)) (g.among who was))
          (λ new. inr (contains-first p.who who (map (λ (q : Pass). q.who) passes) (contains-one p.who who new)))
          (Contains-append_cases between.numbers (p.who ∷ []) who c);
    }

-- the seat of a pass has its sight
pub sight-of-seat : (views : List View) (v : View) (known p : Pass) → views ≡ v ∷ [] → views ≡ view_of known ∷ [] → known ≡ p → v.sight ≡ sight_of_pass p
sight-of-seat views v known p one is same = ap (λ (l : List View). (first_view l).sight) (sym one ∙ is) ∙ ap sight_of_pass same

module _ {S : Type 0} where
  pub gathering-none : (cell : Cell) (passes : List Pass) (me : Me (Opt S) View) → All (λ (p : Pass). p.cell ≡ cell) passes → me ≡ (idle me.0.about me.0.sight, []) → IsGathering cell passes me passes me
  gathering-none cell passes me ours is = record { done = []; split = sym (append-nil passes); ours = ours; idle = is; gathered = gathered-none me.0.sight }

  pub gathering-more : (cell : Cell) (passes : List Pass) (before : Me (Opt S) View) (had left : List Pass) (p : Pass) (now next : Me (Opt S) View) (sight : Sight)
      → IsGathering cell passes before had now → had ≡ left ++ p ∷ [] → sight ≡ sight_of_pass p
      → next ≡ (idle now.0.about (both now.0.sight sight), []) → IsSightOf (both now.0.sight sight).seen now.0.sight → IsSightOf (both now.0.sight sight).seen sight
      → IsGathering cell passes before left next
  gathering-more cell passes before had left p now next sight g popped its is mine theirs =
      let told = subst (λ (t : Sight). (next ≡ (idle now.0.about (both now.0.sight t), [])) × IsSightOf (both now.0.sight t).seen now.0.sight × IsSightOf (both now.0.sight t).seen t) its (is, mine, theirs) in record {
        done = p ∷ g.done;
        split = g.split ∙ ap (λ (l : List Pass). l ++ g.done) popped ∙ append_assoc left (p ∷ []) g.done;
        ours = all-front (λ (q : Pass). q.cell ≡ cell) left (p ∷ []) (subst (All (λ (q : Pass). q.cell ≡ cell)) popped g.ours);
        idle = subst (λ (m : Me (Opt S) View). m ≡ (idle m.0.about m.0.sight, [])) (sym told.0) refl;
        gathered = subst (λ (m : Me (Opt S) View). IsGathered before.0.sight (p ∷ g.done) m.0.sight) (sym told.0)
            (gathered-more before.0.sight now.0.sight p g.done g.gathered told.1 told.2);
      }

-- of the passes that were taken in behind a first one, and of a history of which the whole is a sight
module _ (first : Pass) (others : List Pass) (sight : Sight) (history : List Entry) (g : IsGathered (sight_of_pass first) others sight) (whole : IsSightOf history sight) where
  pub all-seen : All (λ (p : Pass). HasSeen p.who p.seen history) (first ∷ others)
  all-seen = all-first (λ (p : Pass). HasSeen p.who p.seen history) first others
      (seen-over first.who first.seen sight.seen history (seen-by sight.seen (sight_of_pass first) first.who g.mine (contains-only first.who))
      (seen-by history sight first.who whole (g.keeps first.who (contains-only first.who))))
      (all-map (λ (q : Pass). HasSeen q.who q.seen sight.seen × Contains sight.numbers q.who) (λ (q : Pass). HasSeen q.who q.seen history) others
      (λ q h. seen-over q.who q.seen sight.seen history h.0 (seen-by history sight q.who whole h.1))
      (all-both (λ (q : Pass). HasSeen q.who q.seen sight.seen) (λ (q : Pass). Contains sight.numbers q.who) others g.seen g.has))

  pub all-known : All (λ (e : Entry). Contains sight.numbers e.who) history → All (λ (e : Entry). Contains (map (λ (p : Pass). p.who) (first ∷ others)) e.who) history
  all-known known = all-map (λ (e : Entry). Contains sight.numbers e.who) (λ (e : Entry). Contains (map (λ (p : Pass). p.who) (first ∷ others)) e.who) history
      (λ e c. ⊎_elim
      (λ mine. contains-first first.who e.who (map (λ (p : Pass). p.who) others) (contains-one first.who e.who mine))
      (λ theirs. contains-later first.who e.who (map (λ (p : Pass). p.who) others) theirs)
      (g.among e.who c))
      known
