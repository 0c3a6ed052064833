-- What was seen of a history, and what a turn adds.
use Rattle.std.proofs.Common.{◌≡◌, ◌≢◌, ◌⊎◌, ℕ, ◌+◌, ◌≤◌, Bool, true, false, List, [], ◌∷◌, ◌++◌, length, nat_lt, if◌then◌else◌, cond, refl, ap, ap₂, sym, ◌∙◌, subst, ⊎_elim, inl, inr, eq-eqb, ne_eqb, append_assoc, append-nil, length-append, arith}
use Rattle.std.proofs.lemmas.Bool.Decides.{nat_tests}
use Rattle.chew_spec_dictionary.specs.Growth.{IsFront}
use Rattle.chew_spec_dictionary.specs.History.{Entry, own}
use Rattle.chew_spec_dictionary.proofs.Histories.{own_joined}
use Rattle.chew_spec_cell.specs.Sight.{HasSeen, IsTurn, longer}
use Rattle.chew_spec_cell.proofs.Fronts.{between, nothing_joined, nothing_long}

-- none of two stretches is of a number exactly where none of both is
pub none-first : (xs ys : List Entry) (who : ℕ) → own (xs ++ ys) who ≡ [] → own xs who ≡ []
none-first xs ys who none = (nothing_joined (own xs who) (own ys who) (sym (own_joined xs ys who) ∙ none)).0

pub none-last : (xs ys : List Entry) (who : ℕ) → own (xs ++ ys) who ≡ [] → own ys who ≡ []
none-last xs ys who none = (nothing_joined (own xs who) (own ys who) (sym (own_joined xs ys who) ∙ none)).1

pub none-both : (xs ys : List Entry) (who : ℕ) → own xs who ≡ [] → own ys who ≡ [] → own (xs ++ ys) who ≡ []
none-both xs ys who first last = own_joined xs ys who ∙ ap₂ (λ (a b : List Entry). a ++ b) first last

pub none-other : (e : Entry) (who : ℕ) → e.who ≢ who → own (e ∷ []) who ≡ []
none-other e who other = ap (λ (b : Bool). cond b (e ∷ []) []) (ne_eqb e.who who other)

pub one-own : (e : Entry) (who : ℕ) → e.who ≡ who → own (e ∷ []) who ≡ e ∷ []
one-own e who same = ap (λ (b : Bool). cond b (e ∷ []) []) (eq-eqb e.who who same)

-- what was seen
pub seen-own : (who : ℕ) (seen history : List Entry) → HasSeen who seen history → own history who ≡ own seen who
seen-own who seen history h =
    ap (λ (l : List Entry). own l who) h.joined
    ∙ own_joined seen h.later who
    ∙ ap (λ (l : List Entry). own seen who ++ l) h.none
    ∙ append-nil (own seen who)

pub seen-front : (who : ℕ) (seen history : List Entry) → HasSeen who seen history → IsFront seen history
seen-front who seen history h = record { rest = h.later; joined = h.joined }

pub seen-all : (who : ℕ) (history : List Entry) → HasSeen who history history
seen-all who history = record { later = []; joined = sym (append-nil history); none = refl }

pub seen-over : (who : ℕ) (seen between history : List Entry) → HasSeen who seen between → HasSeen who between history → HasSeen who seen history
seen-over who seen between history h k = record {
  later = h.later ++ k.later;
  joined = k.joined ∙ ap (λ (l : List Entry). l ++ k.later) h.joined ∙ append_assoc seen h.later k.later;
  none = none-both h.later k.later who h.none k.none;
}

pub seen-others : (who : ℕ) (seen history : List Entry) (e : Entry) → HasSeen who seen history → e.who ≢ who → HasSeen who seen (history ++ e ∷ [])
seen-others who seen history e h other = record {
  later = h.later ++ e ∷ [];
  joined = ap (λ (l : List Entry). l ++ e ∷ []) h.joined ∙ append_assoc seen h.later (e ∷ []);
  none = none-both h.later (e ∷ []) who h.none (none-other e who other);
}

pub seen-one : (who : ℕ) (seen other history : List Entry) → HasSeen who seen history → IsFront other history → length seen ≤ length other → HasSeen who seen other
seen-one who seen other history h front short =
    let b = between seen h.later other front.rest (sym h.joined ∙ front.joined) short in
    record { later = b.0; joined = b.1; none = none-first b.0 front.rest who (ap (λ (l : List Entry). own l who) (sym b.2) ∙ h.none) }

-- what a turn adds
module _ (who : ℕ) (before after : List Entry) (turn : IsTurn who before after) where
  pub turn-front : IsFront before after
  turn-front = ⊎_elim
      (λ (same : after ≡ before). record { rest = []; joined = same ∙ sym (append-nil before) })
      (λ (more : (e : Entry) × (after ≡ before ++ e ∷ []) × (e.who ≡ who)). record { rest = more.0 ∷ []; joined = more.1 })
      turn

  pub turn-length : length after ≤ length before + 1
  turn-length = ⊎_elim
      (λ (same : after ≡ before). let l = ap (λ (l : List Entry). length l) same in omega arith)
      (λ (more : (e : Entry) × (after ≡ before ++ e ∷ []) × (e.who ≡ who)). let l = ap (λ (l : List Entry). length l) more.1 in let a = length-append before (more.0 ∷ []) in omega arith)
      turn

  pub turn-own : (own after who ≡ own before who) ⊎ ((e : Entry) × (own after who ≡ own before who ++ e ∷ []))
  turn-own = ⊎_elim
      (λ (same : after ≡ before). inl (ap (λ (l : List Entry). own l who) same))
      (λ (more : (e : Entry) × (after ≡ before ++ e ∷ []) × (e.who ≡ who)). inr (
        more.0,
        ap (λ (l : List Entry). own l who) more.1
            ∙ own_joined before (more.0 ∷ []) who
            ∙ ap (λ (l : List Entry). own before who ++ l) (one-own more.0 who more.2),
      ))
      turn

  pub turn-others : (other : ℕ) → other ≢ who → HasSeen other before after
  turn-others other apart = ⊎_elim
      (λ (same : after ≡ before). subst (HasSeen other before) (sym same) (seen-all other before))
      (λ (more : (e : Entry) × (after ≡ before ++ e ∷ []) × (e.who ≡ who)). subst (HasSeen other before) (sym more.1)
      (seen-others other before before more.0 (seen-all other before) (λ same. apart (sym same ∙ more.2))))
      turn

-- the longer of two lists
one_of : (b : Bool) (x y : List Entry) → ((if b then y else x) ≡ x) ⊎ ((if b then y else x) ≡ y)
one_of true x y = inr refl
one_of false x y = inl refl

pub longer-one : (seen other : List Entry) → (longer seen other ≡ seen) ⊎ (longer seen other ≡ other)
longer-one seen other = one_of (nat_lt (length seen) (length other)) seen other

first_no_longer : (b : Bool) (x y : List Entry) → nat_lt (length x) (length y) ≡ b → length x ≤ length (if b then y else x)
first_no_longer true x y is = grind (arith, nat_tests)
first_no_longer false x y is = omega arith

other_no_longer : (b : Bool) (x y : List Entry) → nat_lt (length x) (length y) ≡ b → length y ≤ length (if b then y else x)
other_no_longer true x y is = omega arith
other_no_longer false x y is = grind (arith, nat_tests)

pub longer-seen : (seen other : List Entry) → length seen ≤ length (longer seen other)
longer-seen seen other = first_no_longer (nat_lt (length seen) (length other)) seen other refl

pub longer-other : (seen other : List Entry) → length other ≤ length (longer seen other)
longer-other seen other = other_no_longer (nat_lt (length seen) (length other)) seen other refl

pub longer-front : (seen other : List Entry) → IsFront seen other → longer seen other ≡ other
longer-front seen other front = ⊎_elim
    (λ (same : longer seen other ≡ seen). same ∙ sym (whole (let l = longer-other seen other in let s = ap (λ (l : List Entry). length l) same in omega arith)))
    (λ same. same)
    (longer-one seen other)
  where
    whole : length other ≤ length seen → other ≡ seen
    whole short =
        let l = ap (λ (l : List Entry). length l) front.joined in
        let a = length-append seen front.rest in
        front.joined ∙ ap (λ (l : List Entry). seen ++ l) (nothing_long front.rest (omega arith)) ∙ append-nil seen
