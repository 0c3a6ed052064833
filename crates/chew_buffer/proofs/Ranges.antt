-- The part of a layer's entries that begins at a key, and its marks up to the first of another key.
use Rattle.std.proofs.Common.{◌≡◌, ℕ, ◌≤◌, Bool, true, false, ◌&&◌, List, [], ◌∷◌, length, refl, ap, sym, ◌∙◌, subst, Ordering, Less, Equal, Greater, nat_cmp, is_lt, true≢false, Option, Some, None}
use Rattle.std.specs.List.{list_all, take_while}
use Rattle.std.specs.Ordering.{is_le, ordering_reverse, ordering_then}
use Rattle.std.specs.Cmp.Lexicographic.{slice_cmp}
use Rattle.std.specs.Str.{bytes_eq}
use Rattle.std.specs.BTreeMap.Range.{entries_between}
use Rattle.std.specs.declared.ops.Bound.TheVariants.{Included, Unbounded}
use Rattle.std.proofs.lemmas.Bool.{and_from, and_parts, cond-true, cond-false, false_from_ne_true, leb-true}
use Rattle.std.proofs.lemmas.List.Sums.{take_while-cons}
use Rattle.std.proofs.lemmas.Slice.Eq.{bytes_eq-Decides}
use Rattle.chew_spec_syllable.specs.Key.{is_key}
use Rattle.chew_spec_syllable.specs.Phrase.{is_phrase}
use Rattle.chew_spec_syllable.specs.Row.{pair_cmp}
use Rattle.chew_spec_dictionary.proofs.ImageOrder.{image_of_key, image_total, tie_is_pair}
use Rattle.chew_spec_dictionary.proofs.Maps.{is_less}
use Rattle.chew_spec_layers.specs.Mark.{Marked, is_layer, is_proper_mark, marked_cmp}
use Rattle.chew_spec_layers.proofs.Marks.{BelowMarks, place}
use Rattle.chew_spec_layers.proofs.Proper.{proper_pair}
use Rattle.chew_buffer.specs.declared.mark.Mark.{Mark}
use Rattle.std.specs.Option.{option_map_or}
use Rattle.chew_buffer.specs.Rest.{is_wanted, left}
use Rattle.chew_buffer.specs.Marks.{is_mark_under, marked_of, marks_in, marks_under}
use Rattle.chew_buffer.specs.Order.{Pair, key_cmp, least_phrase, ranked_cmp}
use Rattle.chew_buffer.proofs.Entries.{mark_at}
use Rattle.chew_buffer.proofs.Least.{least}
use Rattle.chew_buffer.proofs.Orders.{pair_cmp_parts}

-- where the pairs of a key begin
abbrev first_of : List ℕ → Pair
first_of key = record { key = key; phrase = least_phrase }

-- all entries lie between no bounds
pub all_between : (entries : List (Pair × Mark)) → entries_between ranked_cmp Unbounded Unbounded entries ≡ entries
all_between [] = refl
all_between (e ∷ es) = ap (λ (l : List (Pair × Mark)). e ∷ l) (all_between es)

-- a proper mark has a phrase, and a key that is one
phrase_of : (m : Marked) → is_proper_mark m ≡ true → is_phrase m.phrase ≡ true
phrase_of m p = (and_parts _ _ (and_parts _ _ (proper_pair m p)).1).0

key_of : (m : Marked) → is_proper_mark m ≡ true → is_key m.key ≡ true
key_of m p = (and_parts _ _ (proper_pair m p)).0

-- a mark under a key has that key, and the other way round
under_key : (key : List ℕ) (m : Marked) → is_mark_under key m ≡ true → m.key ≡ key
under_key key m t = (bytes_eq-Decides m.key key).0 t

is_under_key : (key : List ℕ) (m : Marked) → m.key ≡ key → is_mark_under key m ≡ true
is_under_key key m e = (bytes_eq-Decides m.key key).1 e

-- pairs whose keys' order is known, and isn't a tie
by_keys : (o : Ordering) (key phrase other_key other_phrase : List ℕ) → key_cmp key other_key ≡ o → pair_cmp key phrase other_key other_phrase ≡ ordering_then o (slice_cmp nat_cmp phrase other_phrase)
by_keys o key phrase other_key other_phrase e = pair_cmp_parts key phrase other_key other_phrase ∙ ap (λ (p : Ordering). ordering_then p (slice_cmp nat_cmp phrase other_phrase)) e

-- keys that tie are one
keys_tie : (key other : List ℕ) → key_cmp key other ≡ Equal → key ≡ other
keys_tie key other e = (tie_is_pair (record { key = key; phrase = []; freq = 0; time = 0 }) (record { key = other; phrase = []; freq = 0; time = 0 }) (by_keys Equal key [] other [] e)).0

-- no key has a mark that is behind one of a later key
none_behind : (key : List ℕ) (m later : Marked) → is_le (pair_cmp key least_phrase m.key m.phrase) ≡ true → is_mark_under key m ≡ false → marked_cmp m later ≡ Less → is_mark_under key later ≡ false
none_behind key m later from other below = false_from_ne_true _ (λ t. by (key_cmp key m.key) refl (under_key key later t))
  where
    by : (o : Ordering) → key_cmp key m.key ≡ o → later.key ≡ key → ⊥
    by Less e same = let back : pair_cmp key later.phrase m.key m.phrase ≡ Less = by_keys Less key later.phrase m.key m.phrase e in
        let again : marked_cmp later m ≡ Less = subst (λ (k : List ℕ). pair_cmp k later.phrase m.key m.phrase ≡ Less) (sym same) back in
        true≢false (ap is_lt (sym below ∙ image_total.antisymm (place m) (place later) ∙ ap ordering_reverse again))
    by Equal e same = true≢false (sym (is_under_key key m (sym (keys_tie key m.key e))) ∙ other)
    by Greater e same = true≢false (sym from ∙ ap is_le (by_keys Greater key least_phrase m.key m.phrase e))

-- no mark of a key is among those that a mark of a later key is below
none_later : (key : List ℕ) (m : Marked) (marks : List Marked) → is_le (pair_cmp key least_phrase m.key m.phrase) ≡ true → is_mark_under key m ≡ false → BelowMarks m marks → marks_under marks key ≡ []
none_later key m [] from other b = refl
none_later key m (first ∷ rest) from other b =
    let both = and_parts (is_lt (marked_cmp m first)) (list_all (λ later. is_lt (marked_cmp m later)) rest) b in
    cond-false _ _ _ (none_behind key m first from other (is_less _ both.0)) ∙ none_later key m rest from other both.1

-- a mark of a key isn't below where the key's pairs begin
from_first : (key : List ℕ) (m : Marked) → is_proper_mark m ≡ true → is_mark_under key m ≡ true → is_le (pair_cmp key least_phrase m.key m.phrase) ≡ true
from_first key m p u =
    ap is_le (image_of_key (record { key = key; phrase = least_phrase; freq = 0; time = 0 }) (place m) (sym (under_key key m u)))
    ∙ least m.phrase (phrase_of m p)

-- the entries from where a key's pairs begin
abbrev from_key : List ℕ → List (Pair × Mark) → List (Pair × Mark)
from_key key entries = entries_between ranked_cmp (Included (first_of key)) Unbounded entries

-- one entry more before them, from there on and before
one_from : (key : List ℕ) (e : Pair × Mark) (es : List (Pair × Mark)) → is_le (ranked_cmp (first_of key) e.0) ≡ true → from_key key (e ∷ es) ≡ e ∷ from_key key es
one_from key e es t = cond-true _ _ _ (and_from _ _ t refl)

one_before : (key : List ℕ) (e : Pair × Mark) (es : List (Pair × Mark)) → is_le (ranked_cmp (first_of key) e.0) ≡ false → from_key key (e ∷ es) ≡ from_key key es
one_before key e es f = cond-false _ _ _ (ap (λ (b : Bool). b && true) f)

-- the marks from there up to the first of another key are those of the key
pub range_of_key : (entries : List (Pair × Mark)) (key : List ℕ) → is_layer (marks_in entries) ≡ true → list_all is_proper_mark (marks_in entries) ≡ true
    → take_while (is_mark_under key) (marks_in (from_key key entries)) ≡ marks_under (marks_in entries) key
range_of_key [] key l p = refl
range_of_key (e ∷ es) key l p =
    let layer = and_parts (list_all (λ later. is_lt (marked_cmp (mark_at e) later)) (marks_in es)) (is_layer (marks_in es)) l in
    let proper = and_parts (is_proper_mark (mark_at e)) (list_all is_proper_mark (marks_in es)) p in
    by (is_mark_under key (mark_at e)) refl (is_le (ranked_cmp (first_of key) e.0)) refl layer.0 proper.0 (range_of_key es key layer.1 proper.1)
  where
    by : (u : Bool) → is_mark_under key (mark_at e) ≡ u → (k : Bool) → is_le (ranked_cmp (first_of key) e.0) ≡ k → BelowMarks (mark_at e) (marks_in es) → is_proper_mark (mark_at e) ≡ true
        → take_while (is_mark_under key) (marks_in (from_key key es)) ≡ marks_under (marks_in es) key
        → take_while (is_mark_under key) (marks_in (from_key key (e ∷ es))) ≡ marks_under (marks_in (e ∷ es)) key
    by true u k kept b p later =
        ap (λ (entries : List (Pair × Mark)). take_while (is_mark_under key) (marks_in entries)) (one_from key e es (from_first key (mark_at e) p u))
        ∙ take_while-cons (is_mark_under key) (mark_at e) (marks_in (from_key key es))
        ∙ cond-true _ _ _ u
        ∙ ap (λ (marks : List Marked). mark_at e ∷ marks) later
        ∙ sym (cond-true _ _ _ u)
    by false u true kept b p later =
        ap (λ (entries : List (Pair × Mark)). take_while (is_mark_under key) (marks_in entries)) (one_from key e es kept)
        ∙ take_while-cons (is_mark_under key) (mark_at e) (marks_in (from_key key es))
        ∙ cond-false _ _ _ u
        ∙ sym (cond-false _ _ _ u ∙ none_later key (mark_at e) (marks_in es) kept u b)
    by false u false kept b p later =
        ap (λ (entries : List (Pair × Mark)). take_while (is_mark_under key) (marks_in entries)) (one_before key e es kept)
        ∙ later
        ∙ sym (cond-false _ _ _ u)

-- how long a key is
lengths_of : (key : List ℕ) → is_key key ≡ true → (1 ≤ length key) × (length key ≤ 11)
lengths_of key k = let range = and_parts _ _ (and_parts _ _ k).1 in (leb-true _ _ range.0, leb-true _ _ range.1)

-- proper marks have none under what is no key
pub none_under : (marks : List Marked) (key : List ℕ) → list_all is_proper_mark marks ≡ true → ((1 ≤ length key) × (length key ≤ 11) → ⊥) → marks_under marks key ≡ []
none_under [] key p other = refl
none_under (m ∷ marks) key p other =
    let both = and_parts (is_proper_mark m) (list_all is_proper_mark marks) p in
    cond-false _ _ _ (false_from_ne_true _ (λ t. other (lengths both.0 t))) ∙ none_under marks key both.1 other
  where
    lengths : is_proper_mark m ≡ true → is_mark_under key m ≡ true → (1 ≤ length key) × (length key ≤ 11)
    lengths p t =
        subst (λ (k : List ℕ). (1 ≤ length k) × (length k ≤ 11)) (under_key key m t) (lengths_of m.key (key_of m p))

-- where no key is named, each mark is wanted
pub each_wanted : (marks : List Marked) → take_while (is_wanted None) marks ≡ marks
each_wanted [] = refl
each_wanted (m ∷ marks) = take_while-cons (is_wanted None) m marks ∙ ap (λ (l : List Marked). m ∷ l) (each_wanted marks)

-- a mark is wanted as its pair is
pub pair_wanted : (only : Option (List ℕ)) (m : Marked) → option_map_or (bytes_eq m.key) only true ≡ is_wanted only m
pair_wanted None m = refl
pair_wanted (Some key) m = refl

-- a step to the first of the marks that are left, where it is wanted
pub wanted_first : (ended : Bool) (only : Option (List ℕ)) (entries rest : List (Pair × Mark)) (pair : Pair) (mark : Mark) → ended ≡ false → entries ≡ (pair, mark) ∷ rest
    → option_map_or (bytes_eq pair.key) only true ≡ true → left ended only (marks_in entries) ≡ marked_of pair.key pair.phrase mark ∷ left ended only (marks_in rest)
wanted_first ended only entries rest pair mark f e t =
    let m = marked_of pair.key pair.phrase mark in
    let last : left ended only (marks_in rest) ≡ take_while (is_wanted only) (marks_in rest) = cond-false _ _ _ f in
    cond-false _ _ _ f
    ∙ ap (λ (l : List (Pair × Mark)). take_while (is_wanted only) (marks_in l)) e
    ∙ take_while-cons (is_wanted only) m (marks_in rest)
    ∙ cond-true _ _ _ (sym (pair_wanted only m) ∙ t)
    ∙ ap (λ (l : List Marked). m ∷ l) (sym last)
