-- The marks of a key, one after the other.
use Rattle.std.proofs.Common.{◌≡◌, ℕ, true, List, [], ◌∷◌, ◌++◌, map, ap, sym, ◌∙◌}
use Rattle.std.specs.List.{list_all}
use Rattle.std.proofs.lemmas.Bool.{and_parts}
use Rattle.std.proofs.lemmas.List.{map-append, append_assoc, append-nil}
use Rattle.std.proofs.lemmas.Slice.Eq.{bytes_eq-Decides}
use Rattle.chew_spec_syllable.specs.Row.{Row}
use Rattle.chew_spec_dictionary.specs.Call.{Hit}
use Rattle.chew_spec_layers.specs.Mark.{Marked, is_proper_mark}
use Rattle.chew_buffer.specs.Marks.{is_mark_under, marks_under}
use Rattle.chew_layers.proofs.Picked.{all_picked, picked_pass}

-- what a walk over the marks of a key, to add the hits of their rows, knows where these are left
pub record IsAdded (f : Row → Hit) (rows : List Marked → List Row) (key : List ℕ) (all : List Marked) (old now : List Hit) (left : List Marked) : Type 0 where
  pub whole : now ++ map f (rows left) ≡ old ++ map f (rows all)
  pub under : list_all (is_mark_under key) left ≡ true
  pub proper : list_all is_proper_mark left ≡ true

module _ (f : Row → Hit) (rows : List Marked → List Row) (key : List ℕ) (old : List Hit) where
  pub added_first : (marks left : List Marked) → list_all is_proper_mark marks ≡ true → left ≡ marks_under marks key → IsAdded f rows key (marks_under marks key) old old left
  added_first marks left proper e = record {
    whole = ap (λ (l : List Marked). old ++ map f (rows l)) e;
    under = ap (list_all (is_mark_under key)) e ∙ picked_pass (is_mark_under key) marks;
    proper = ap (list_all is_proper_mark) e ∙ all_picked is_proper_mark (is_mark_under key) marks proper;
  }

  module _ (all : List Marked) where
    -- the next mark is of the key, and proper
    pub added_key : (now : List Hit) (left : List Marked) (m : Marked) (rest : List Marked) → IsAdded f rows key all old now left → left ≡ m ∷ rest → m.key ≡ key
    added_key now left m rest h e = (bytes_eq-Decides m.key key).0 (and_parts (is_mark_under key m) _ (ap (list_all (is_mark_under key)) (sym e) ∙ h.under)).0

    pub added_proper : (now : List Hit) (left : List Marked) (m : Marked) (rest : List Marked) → IsAdded f rows key all old now left → left ≡ m ∷ rest → is_proper_mark m ≡ true
    added_proper now left m rest h e = (and_parts (is_proper_mark m) _ (ap (list_all is_proper_mark) (sym e) ∙ h.proper)).0

    -- one mark more
    pub added_more : ((m : Marked) (rest : List Marked) → rows (m ∷ rest) ≡ rows (m ∷ []) ++ rows rest)
        → (now next : List Hit) (left : List Marked) (m : Marked) (rest : List Marked) → IsAdded f rows key all old now left → left ≡ m ∷ rest
        → next ≡ now ++ map f (rows (m ∷ [])) → IsAdded f rows key all old next rest
    added_more split now next left m rest h e n = record {
      whole = ap (λ (l : List Hit). l ++ map f (rows rest)) n
          ∙ append_assoc now (map f (rows (m ∷ []))) (map f (rows rest))
          ∙ ap (λ (l : List Hit). now ++ l) (sym (ap (map f) (ap rows e ∙ split m rest) ∙ map-append f (rows (m ∷ [])) (rows rest)))
          ∙ h.whole;
      under = (and_parts (is_mark_under key m) _ (ap (list_all (is_mark_under key)) (sym e) ∙ h.under)).1;
      proper = (and_parts (is_proper_mark m) _ (ap (list_all is_proper_mark) (sym e) ∙ h.proper)).1;
    }

    pub added_end : (now : List Hit) (left : List Marked) → rows [] ≡ [] → IsAdded f rows key all old now left → left ≡ [] → now ≡ old ++ map f (rows all)
    added_end now left none h e = sym (append-nil now) ∙ sym (ap (λ (l : List Row). now ++ map f l) (ap rows e ∙ none)) ∙ h.whole
