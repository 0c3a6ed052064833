-- The entries of a map from pairs to marks are the marks of a layer.
use Rattle.std.proofs.Common.{◌≡◌, ℕ, Bool, true, false, List, [], ◌∷◌, refl, ap, ap₂, sym, ◌∙◌, Ordering, Less, Equal, Greater, is_eq, true≢false, option_map, Result, Ok, Err, OnOk, OnErr}
use Rattle.std.specs.Ordering.{match_ordering}
use Rattle.std.specs.BTreeMap.{insert_entry, is_at}
use Rattle.std.specs.List.{list_all}
use Rattle.std.specs.Map.{lookup}
use Rattle.std.proofs.lemmas.Bool.{cond-true, cond-false, false_from_ne_true}
use Rattle.chew_spec_syllable.specs.Row.{Row}
use Rattle.chew_spec_dictionary.proofs.ImageOrder.{is_of_pair, pair_ties, tie_is_pair}
use Rattle.chew_spec_layers.specs.Mark.{Marked, is_layer, is_mark_of, is_proper_mark, mark_of, put_mark}
use Rattle.chew_spec_layers.proofs.Marks.{all_put_mark, mark_first, mark_later, put_mark_keeps}
use Rattle.chew_buffer.specs.declared.mark.Mark.{Mark}
use Rattle.chew_buffer.specs.Marks.{marked_of, marks_in, meaning}
use Rattle.chew_buffer.specs.Order.{Pair, ranked_cmp}

-- a row of the pair
abbrev row_at : Pair → Row
row_at pair = record { key = pair.key; phrase = pair.phrase; freq = 0; time = 0 }

-- the mark of an entry
abbrev pub mark_at : Pair × Mark → Marked
mark_at e = marked_of e.0.key e.0.phrase e.1

-- a mark that is inserted is put among the others
pub inserted : (entries : List (Pair × Mark)) (pair : Pair) (mark : Mark) → marks_in (insert_entry ranked_cmp entries pair mark) ≡ put_mark (marked_of pair.key pair.phrase mark) (marks_in entries)
inserted [] pair mark = refl
inserted (e ∷ es) pair mark = by (ranked_cmp pair e.0) refl (inserted es pair mark)
  where
    by : (o : Ordering) → ranked_cmp pair e.0 ≡ o → marks_in (insert_entry ranked_cmp es pair mark) ≡ put_mark (marked_of pair.key pair.phrase mark) (marks_in es)
        → marks_in (match_ordering o ((pair, mark) ∷ e ∷ es) ((e.0, mark) ∷ es) (e ∷ insert_entry ranked_cmp es pair mark))
        ≡ match_ordering o (marked_of pair.key pair.phrase mark ∷ (marks_in (e ∷ es))) (marked_of pair.key pair.phrase mark ∷ marks_in es) (mark_at e ∷ put_mark (marked_of pair.key pair.phrase mark) (marks_in es))
    by Less t later = refl
    by Equal t later = let same = tie_is_pair (row_at pair) (row_at e.0) t in ap₂ (λ (k p : List ℕ). marked_of k p mark ∷ marks_in es) (sym same.0) (sym same.1)
    by Greater t later = ap (λ (l : List Marked). mark_at e ∷ l) later

-- an order that is said to tie
is_equal : (o : Ordering) → is_eq o ≡ true → o ≡ Equal
is_equal Less e = absurd (true≢false (sym e))
is_equal Equal e = refl
is_equal Greater e = absurd (true≢false (sym e))

-- a key ties with a pair exactly where its mark is that of the pair
same_test : (pair : Pair) (e : Pair × Mark) (b : Bool) → is_mark_of pair.key pair.phrase (mark_at e) ≡ b → is_eq (ranked_cmp pair e.0) ≡ b
same_test pair e true t = ap is_eq (pair_ties (row_at pair) (row_at e.0) t)
same_test pair e false f = false_from_ne_true _ (λ t. let same = tie_is_pair (row_at pair) (row_at e.0) (is_equal _ t) in true≢false (sym (is_of_pair pair.key pair.phrase (row_at e.0) (sym same.0) (sym same.1)) ∙ f))

-- a look-up of a pair finds its mark
pub looked_up : (entries : List (Pair × Mark)) (pair : Pair) → option_map meaning (lookup (is_at (ranked_cmp pair)) entries) ≡ mark_of (marks_in entries) pair.key pair.phrase
looked_up [] pair = refl
looked_up (e ∷ es) pair = by (is_mark_of pair.key pair.phrase (mark_at e)) refl (looked_up es pair)
  where
    by : (b : Bool) → is_mark_of pair.key pair.phrase (mark_at e) ≡ b → option_map meaning (lookup (is_at (ranked_cmp pair)) es) ≡ mark_of (marks_in es) pair.key pair.phrase
        → option_map meaning (lookup (is_at (ranked_cmp pair)) (e ∷ es)) ≡ mark_of (marks_in (e ∷ es)) pair.key pair.phrase
    by true t later = ap (option_map meaning) (cond-true _ _ _ (same_test pair e true t)) ∙ sym (mark_first pair.key pair.phrase (mark_at e) (marks_in es) t)
    by false f later = ap (option_map meaning) (cond-false _ _ _ (same_test pair e false f)) ∙ later ∙ sym (mark_later pair.key pair.phrase (mark_at e) (marks_in es) f)

-- a mark that is inserted leaves a layer
pub inserted_layer : (entries : List (Pair × Mark)) (pair : Pair) (mark : Mark) → is_layer (marks_in entries) ≡ true → is_layer (marks_in (insert_entry ranked_cmp entries pair mark)) ≡ true
inserted_layer entries pair mark l = ap is_layer (inserted entries pair mark) ∙ put_mark_keeps (marked_of pair.key pair.phrase mark) (marks_in entries) l

-- a proper mark that is inserted leaves proper marks
pub inserted_proper : (entries : List (Pair × Mark)) (pair : Pair) (mark : Mark) → is_proper_mark (marked_of pair.key pair.phrase mark) ≡ true → list_all is_proper_mark (marks_in entries) ≡ true
    → list_all is_proper_mark (marks_in (insert_entry ranked_cmp entries pair mark)) ≡ true
inserted_proper entries pair mark t p = ap (list_all is_proper_mark) (inserted entries pair mark) ∙ all_put_mark is_proper_mark (marked_of pair.key pair.phrase mark) (marks_in entries) t p

-- a fact that follows of either end of a call
pub either_way : {T E : Type 0} {A B C : Type 0} (r : Result T E) → OnOk r A → OnErr r B → (A → C) → (B → C) → C
either_way (Ok x) a b f g = f a
either_way (Err e) a b f g = g b
