-- Two lists of entries made one, an entry at a time.
use Rattle.std.proofs.Common.{◌≡◌, ℕ, ◌+◌, ◌-◌, ◌<◌, ◌⊎◌, inl, inr, ⊎_elim, List, [], ◌∷◌, ◌++◌, length, get_or, take, drop, Contains, Equal, is_eq, nat_cmp, sym, refl, ap, ap₂, ◌∙◌, subst, arith}
use Rattle.std.specs.Cmp.Lexicographic.{slice_cmp}
use Rattle.std.proofs.lemmas.List.{length-drop, take_all, take_more, take-append-drop}
use Rattle.std.proofs.lemmas.Map.Text.{is_eq-slice_cmp}
use Rattle.std.proofs.lemmas.Slice.Eq.{bytes_eq-Decides}
use Rattle.std.proofs.lemmas.List.Elements.{Contains-append_left, Contains-append_right, Contains-append_cases, Contains-push}
use Rattle.chew_spec_phrasing.proofs.Membership.{Contains-single}
use Rattle.chew_phrasing.specs.Table.{Entry}
use Rattle.chew_phrasing.specs.Merge.{Beats, HasAtLeast, IsMerged}

kept_before : (all more : List Entry) (entry : Entry) → HasAtLeast all entry → HasAtLeast (all ++ more) entry
kept_before all more entry h = record { top = h.top; among = Contains-append_left all more h.top h.among; is = h.is }

itself_behind : (all more : List Entry) (entry : Entry) → Contains more entry → HasAtLeast (all ++ more) entry
itself_behind all more entry h = record { top = entry; among = Contains-append_right all more entry h; is = inl refl }

-- some of one's own more
pub IsMerged-own : (own other all more : List Entry) → IsMerged own other all → IsMerged (own ++ more) other (all ++ more)
IsMerged-own own other all more h = record {
  from = λ entry i. ⊎_elim
      (λ old. ⊎_elim (λ mine. inl (Contains-append_left own more entry mine)) (λ yours. inr yours) (h.from entry old))
      (λ new. inl (Contains-append_right own more entry new))
      (Contains-append_cases all more entry i);
  own_kept = λ entry i. ⊎_elim
      (λ old. kept_before all more entry (h.own_kept entry old))
      (λ new. itself_behind all more entry new)
      (Contains-append_cases own more entry i);
  other_kept = λ entry i. kept_before all more entry (h.other_kept entry i);
}

-- some of the others more
pub IsMerged-other : (own other all more : List Entry) → IsMerged own other all → IsMerged own (other ++ more) (all ++ more)
IsMerged-other own other all more h = record {
  from = λ entry i. ⊎_elim
      (λ old. ⊎_elim (λ mine. inl mine) (λ yours. inr (Contains-append_left other more entry yours)) (h.from entry old))
      (λ new. inr (Contains-append_right other more entry new))
      (Contains-append_cases all more entry i);
  own_kept = λ entry i. kept_before all more entry (h.own_kept entry i);
  other_kept = λ entry i. ⊎_elim
      (λ old. kept_before all more entry (h.other_kept entry old))
      (λ new. itself_behind all more entry new)
      (Contains-append_cases other more entry i);
}

beaten : (all : List Entry) (top entry one : Entry) → Beats top entry → entry ≡ one → HasAtLeast (all ++ (top ∷ [])) one
beaten all top entry one h e = record { top = top; among = Contains-push all top; is = inr (subst (Beats top) e h) }

-- one of each, of which one's own stays
pub IsMerged-mine : (own other all : List Entry) (mine yours : Entry) → Beats mine yours → IsMerged own other all → IsMerged (own ++ (mine ∷ [])) (other ++ (yours ∷ [])) (all ++ (mine ∷ []))
IsMerged-mine own other all mine yours b h =
    let base = IsMerged-own own other all (mine ∷ []) h in
    record {
      from = λ entry i. ⊎_elim (λ old. inl old) (λ new. inr (Contains-append_left other (yours ∷ []) entry new)) (base.from entry i);
      own_kept = base.own_kept;
      other_kept = λ entry i. ⊎_elim
          (λ old. base.other_kept entry old)
          (λ new. beaten all mine yours entry b (Contains-single yours entry new))
          (Contains-append_cases other (yours ∷ []) entry i);
    }

-- one of each, of which the other's stays
pub IsMerged-yours : (own other all : List Entry) (mine yours : Entry) → Beats yours mine → IsMerged own other all → IsMerged (own ++ (mine ∷ [])) (other ++ (yours ∷ [])) (all ++ (yours ∷ []))
IsMerged-yours own other all mine yours b h =
    let base = IsMerged-other own other all (yours ∷ []) h in
    record {
      from = λ entry i. ⊎_elim (λ old. inl (Contains-append_left own (mine ∷ []) entry old)) (λ new. inr new) (base.from entry i);
      own_kept = λ entry i. ⊎_elim
          (λ old. base.own_kept entry old)
          (λ new. beaten all yours mine entry b (Contains-single mine entry new))
          (Contains-append_cases own (mine ∷ []) entry i);
      other_kept = base.other_kept;
    }

next_of : (entries : List Entry) (i : ℕ) (entry : Entry) → i < length entries → entry ≡ get_or entries i entry → take (i + 1) entries ≡ take i entries ++ (entry ∷ [])
next_of entries i entry h e = take_more entries i entry h ∙ ap (λ x. take i entries ++ (x ∷ [])) (sym e)

-- the next of one's own, the next of the other's
pub own_more : (own other all pushed : List Entry) (i k : ℕ) (mine : Entry) → i < length own → mine ≡ get_or own i mine → pushed ≡ all ++ (mine ∷ []) → IsMerged (take i own) (take k other) all → IsMerged (take (i + 1) own) (take k other) pushed
own_more own other all pushed i k mine h e push m =
    subst (IsMerged (take (i + 1) own) (take k other)) (sym push)
    (subst (λ xs. IsMerged xs (take k other) (all ++ (mine ∷ []))) (sym (next_of own i mine h e))
    (IsMerged-own (take i own) (take k other) all (mine ∷ []) m))

pub other_more : (own other all pushed : List Entry) (i k : ℕ) (yours : Entry) → k < length other → yours ≡ get_or other k yours → pushed ≡ all ++ (yours ∷ []) → IsMerged (take i own) (take k other) all → IsMerged (take i own) (take (k + 1) other) pushed
other_more own other all pushed i k yours h e push m =
    subst (IsMerged (take i own) (take (k + 1) other)) (sym push)
    (subst (λ ys. IsMerged (take i own) ys (all ++ (yours ∷ []))) (sym (next_of other k yours h e))
    (IsMerged-other (take i own) (take k other) all (yours ∷ []) m))

-- the greater of the next of both
pub both_more : (own other all pushed : List Entry) (i k : ℕ) (mine yours top : Entry) → i < length own → k < length other → mine ≡ get_or own i mine → yours ≡ get_or other k yours
    → ((top ≡ mine) × Beats mine yours) ⊎ ((top ≡ yours) × Beats yours mine) → pushed ≡ all ++ (top ∷ []) → IsMerged (take i own) (take k other) all
    → IsMerged (take (i + 1) own) (take (k + 1) other) pushed
both_more own other all pushed i k mine yours top h g e f is push m =
    subst (IsMerged (take (i + 1) own) (take (k + 1) other)) (sym push)
    (subst (λ xs. IsMerged xs (take (k + 1) other) (all ++ (top ∷ []))) (sym (next_of own i mine h e))
    (subst (λ ys. IsMerged (take i own ++ (mine ∷ [])) ys (all ++ (top ∷ []))) (sym (next_of other k yours g f))
    (⊎_elim
    (λ first. subst (λ x. IsMerged (take i own ++ (mine ∷ [])) (take k other ++ (yours ∷ [])) (all ++ (x ∷ []))) (sym first.0) (IsMerged-mine (take i own) (take k other) all mine yours first.1 m))
    (λ second. subst (λ x. IsMerged (take i own ++ (mine ∷ [])) (take k other ++ (yours ∷ [])) (all ++ (x ∷ []))) (sym second.0) (IsMerged-yours (take i own) (take k other) all mine yours second.1 m))
    is)))

rest_of : (entries : List Entry) (i : ℕ) → take (length entries - i) (drop i entries) ≡ drop i entries
rest_of entries i = take_all (length entries - i) (drop i entries) (omega (arith, length-drop i entries))

-- the rest of both
pub all_merged : (own other all more whole : List Entry) (i k : ℕ) → more ≡ all ++ take (length own - i) (drop i own) → whole ≡ more ++ take (length other - k) (drop k other) → IsMerged (take i own) (take k other) all → IsMerged own other whole
all_merged own other all more whole i k e f m =
    subst (IsMerged own other) (sym (f ∙ ap₂ (λ xs ys. xs ++ ys) (e ∙ ap (λ xs. all ++ xs) (rest_of own i)) (rest_of other k)))
    (subst (λ xs. IsMerged xs other ((all ++ drop i own) ++ drop k other)) (take-append-drop i own)
    (subst (λ ys. IsMerged (take i own ++ drop i own) ys ((all ++ drop i own) ++ drop k other)) (take-append-drop k other)
    (IsMerged-other (take i own ++ drop i own) (take k other) (all ++ drop i own) (drop k other)
    (IsMerged-own (take i own) (take k other) all (drop i own) m))))

-- what is at a place of a list is one of it
pub Contains-at : (entries : List Entry) (i : ℕ) (entry : Entry) → i < length entries → entry ≡ get_or entries i entry → Contains entries entry
Contains-at entries i entry h e = (i, h, sym e)

same_lists : (xs ys : List ℕ) → slice_cmp nat_cmp xs ys ≡ Equal → xs ≡ ys
same_lists xs ys e = (bytes_eq-Decides xs ys).0 (sym (is_eq-slice_cmp xs ys) ∙ ap is_eq e)

-- counts that stand alike in the order are the same
pub same_counts : (mine yours : Entry) (xs ys : List ℕ) → xs ≡ mine.counts → ys ≡ yours.counts → slice_cmp nat_cmp xs ys ≡ Equal → mine.counts ≡ yours.counts
same_counts mine yours xs ys f g e = sym f ∙ (same_lists xs ys e ∙ g)
