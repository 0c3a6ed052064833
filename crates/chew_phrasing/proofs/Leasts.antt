-- The first of hits to be shown, one more at a time, and in their order.
use Rattle.std.proofs.Common.{◌≡◌, Bool, true, false, ⊎_elim, List, [], ◌∷◌, ◌++◌, append-nil, Contains, Option, Some, None, is_lt, sym, refl, ap, ◌∙◌, subst, true≢false}
use Rattle.std.specs.Cmp.{IsStrictWeakOrder}
use Rattle.std.proofs.lemmas.List.Elements.{Contains-append_cases, Contains-append_left, Contains-push}
use Rattle.std.proofs.lemmas.List.MinMax.{ranks_by}
use Rattle.std.proofs.lemmas.Option.{none-some, same_Some}
use Rattle.chew_spec_dictionary.specs.Call.{Hit}
use Rattle.chew_spec_dictionary.specs.Look.{shown_hit_cmp}
use Rattle.chew_spec_dictionary.proofs.Rows.{shown_hit_total}
use Rattle.chew_spec_phrasing.proofs.Greatest.{not_above_itself}
use Rattle.chew_spec_phrasing.proofs.Membership.{Contains-single}
use Rattle.chew_phrasing.specs.Least.{IsBefore, IsLeast, comes_before}

order : IsStrictWeakOrder (λ (x y : Hit). is_lt (shown_hit_cmp x y))
order = ranks_by shown_hit_total (λ x. x)

-- nothing more
pub IsLeast-same : (passes : Hit → Bool) (before more : List Hit) (first : Option Hit) → more ≡ [] → IsLeast passes before first → IsLeast passes (before ++ more) first
IsLeast-same passes before more first none h =
    subst (λ hits. IsLeast passes hits first) (sym (ap (λ xs. before ++ xs) none ∙ append-nil before)) h

-- a hit that doesn't pass
pub IsLeast-failed : (passes : Hit → Bool) (before : List Hit) (first : Option Hit) (hit : Hit) → passes hit ≡ false → IsLeast passes before first → IsLeast passes (before ++ (hit ∷ [])) first
IsLeast-failed passes before first hit fails h = record {
  some = λ top e.
      let b = h.some top e in
      record {
        among = Contains-append_left before (hit ∷ []) top b.among;
        does = b.does;
        unbeaten = λ other i p. ⊎_elim
            (λ old. b.unbeaten other old p)
            (λ new. absurd (true≢false (sym p ∙ (ap passes (sym (Contains-single hit other new)) ∙ fails))))
            (Contains-append_cases before (hit ∷ []) other i);
      };
  none = λ e other i. ⊎_elim
      (λ old. h.none e other old)
      (λ new. ap passes (sym (Contains-single hit other new)) ∙ fails)
      (Contains-append_cases before (hit ∷ []) other i);
}

-- a hit that isn't shown before the first
pub IsLeast-later : (passes : Hit → Bool) (before : List Hit) (first : Option Hit) (hit : Hit) → comes_before hit.phrase hit.freq first ≡ false → IsLeast passes before first → IsLeast passes (before ++ (hit ∷ [])) first
IsLeast-later passes before None hit later h = absurd (true≢false later)
IsLeast-later passes before (Some top) hit later h = record {
  some = λ other e.
      let b = h.some other e in
      record {
        among = Contains-append_left before (hit ∷ []) other b.among;
        does = b.does;
        unbeaten = λ one i p. ⊎_elim
            (λ old. b.unbeaten one old p)
            (λ new. subst (λ x. is_lt (shown_hit_cmp x other) ≡ false) (Contains-single hit one new)
            (subst (λ x. is_lt (shown_hit_cmp hit x) ≡ false) (same_Some top other e) later))
            (Contains-append_cases before (hit ∷ []) one i);
      };
  none = λ e other i. absurd (none-some top (sym e));
}

-- a hit that is
pub IsLeast-taken : (passes : Hit → Bool) (before : List Hit) (first : Option Hit) (hit : Hit) → comes_before hit.phrase hit.freq first ≡ true → passes hit ≡ true → IsLeast passes before first → IsLeast passes (before ++ (hit ∷ [])) (Some hit)
IsLeast-taken passes before first hit sooner does h = record {
  some = λ top e. subst (IsBefore passes (before ++ (hit ∷ []))) (same_Some hit top e) (record {
    among = Contains-push before hit;
    does = does;
    unbeaten = λ other i p. ⊎_elim
        (λ old. by_first first h sooner other old p)
        (λ new. subst (λ x. is_lt (shown_hit_cmp x hit) ≡ false) (Contains-single hit other new) (not_above_itself shown_hit_cmp shown_hit_total hit))
        (Contains-append_cases before (hit ∷ []) other i);
  });
  none = λ e. absurd (none-some hit (sym e));
}
  where
    by_first : (first : Option Hit) → IsLeast passes before first → comes_before hit.phrase hit.freq first ≡ true → (other : Hit) → Contains before other → passes other ≡ true → is_lt (shown_hit_cmp other hit) ≡ false
    by_first None h sooner other i p = absurd (true≢false (sym p ∙ h.none refl other i))
    by_first (Some top) h sooner other i p =
        order.chain other top hit ((h.some top refl).unbeaten other i p) (order.one_way hit top sooner)
