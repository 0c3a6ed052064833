-- What waits for the keeper, while others make entries.
use Rattle.std.proofs.Common.{◌≡◌, ◌≢◌, ℕ, ◌<◌, ◌≤◌, Bool, true, false, not, ◌&&◌, List, [], ◌∷◌, ◌++◌, length, take, eqb, cond, refl, ap, sym, ◌∙◌, subst, Option, Some, None, unwrap_or, length-append, arith}
use Rattle.std.proofs.lemmas.Bool.{and_parts, eq-eqb, eqb-true, not-true, true≢false}
use Rattle.std.proofs.lemmas.List.{take-append-le}
use Rattle.chew_spec_syllable.specs.Row.{Row}
use Rattle.chew_spec_dictionary.specs.Call.{Call, Look, Learn, Forget, Hide, Freeze, Install, is_proper}
use Rattle.chew_spec_dictionary.specs.Dictionary.{Dictionary}
use Rattle.chew_spec_dictionary.specs.History.{Entry, Point, Shape, after, answer, is_keepers, is_legal, is_legal_entry, is_user_call, own, start_of}
use Rattle.chew_spec_dictionary.proofs.Histories.{after_joined, legal_joined}
use Rattle.chew_spec_dictionary.proofs.Legal.{users-entries}
use Rattle.chew_spec_dictionary.proofs.Shapes.{waiting_between}
use Rattle.chew_spec_layers.specs.Layers.{Waiting}
use Rattle.chew_spec_layers.specs.Overlay.{overlay}
use Rattle.chew_spec_cell.specs.Sight.{HasSeen}
use Rattle.chew_spec_shared.specs.Snapshot.{IsMerge, IsSnapshot, dictionary_at, installed_after, waiting_after}

-- a call that is none of the keeper's changes no shape
user-shape : (p : Point) (call : Call) → is_keepers call ≡ false → (answer p call).point.shape ≡ p.shape
user-shape p (Look run) k = refl
user-shape p (Learn key phrase orig peak) k = refl
user-shape p (Forget key phrase) k = refl
user-shape p (Hide key phrase) k = refl
user-shape p Freeze k = absurd (true≢false k)
user-shape p (Install number) k = absurd (true≢false k)

-- nor does a legal entry of another number than 0
other-shape : (p : Point) (e : Entry) → is_legal_entry p e ≡ true → e.who ≢ 0 → (answer p e.call).point.shape ≡ p.shape
other-shape p e legal other =
    let user : is_user_call e.call ≡ true = sym (users-entries p e other) ∙ legal in
    user-shape p e.call (not-true (is_keepers e.call) (and_parts (not (is_keepers e.call)) (is_proper e.call) user).0)

-- an entry of nobody's is none at all
not-own : (e : Entry) (es : List Entry) (who : ℕ) → own (e ∷ es) who ≡ [] → (e.who ≢ who) × (own es who ≡ [])
not-own e es who none = by (eqb e.who who) refl none
  where
    by : (b : Bool) → eqb e.who who ≡ b → cond b (e ∷ own es who) (own es who) ≡ [] → (e.who ≢ who) × (own es who ≡ [])
    by true t n = absurd (let l = ap (λ (l : List Entry). length l) n in omega arith)
    by false f n = (λ same. true≢false (sym (eq-eqb e.who who same) ∙ f), n)

-- legal entries without any of the keeper's change no shape
pub others-shape : (p : Point) (h : List Entry) → is_legal p h ≡ true → own h 0 ≡ [] → (after p h).shape ≡ p.shape
others-shape p [] legal none = refl
others-shape p (e ∷ h) legal none =
    let apart = not-own e h 0 none in
    let both = and_parts (is_legal_entry p e) (is_legal (answer p e.call).point h) legal in
    others-shape (answer p e.call).point h both.1 apart.1 ∙ other-shape p e both.0 apart.0

module _ (start : Dictionary) (seen history : List Entry) (legal : is_legal (start_of start) history ≡ true) (has : HasSeen 0 seen history) where
  both : (is_legal (start_of start) seen ≡ true) × (is_legal (after (start_of start) seen) has.later ≡ true)
  both = and_parts (is_legal (start_of start) seen) (is_legal (after (start_of start) seen) has.later)
      (sym (legal_joined (start_of start) seen has.later) ∙ ap (λ (l : List Entry). is_legal (start_of start) l) (sym has.joined) ∙ legal)

  pub shape-kept : (after (start_of start) history).shape ≡ (after (start_of start) seen).shape
  shape-kept =
      ap (λ (l : List Entry). (after (start_of start) l).shape) has.joined
      ∙ ap (λ (p : Point). p.shape) (after_joined (start_of start) seen has.later)
      ∙ others-shape (after (start_of start) seen) has.later both.1 has.none

  pub waiting-kept : waiting_after start history ≡ waiting_after start seen
  waiting-kept = ap (λ (s : Shape). s.waiting) shape-kept

  pub installed-kept : installed_after start history ≡ installed_after start seen
  installed-kept = ap (λ (s : Shape). s.installed) shape-kept

  pub merge-kept : (number : ℕ) (rows : List Row) → IsMerge start seen number rows → IsMerge start history number rows
  merge-kept number rows m =
      let early = (waiting_between start seen number both.0 m.waits).1 in
      let front : take number history ≡ take number seen = ap (λ (l : List Entry). take number l) has.joined ∙ take-append-le number seen has.later (omega (arith, early)) in record {
        waits = waiting-kept ∙ m.waits;
        map = m.map ∙ ap (λ (l : List Entry). (after (start_of start) l).dictionary.pairs) (sym front);
      }

-- the merge of a snapshot, and of none but one
pub merge-of-snapshot : (start : Dictionary) (seen : List Entry) (rows : List Row) (layer : Waiting) → IsSnapshot start seen rows layer → IsMerge start seen layer.number (overlay rows layer.marks)
merge-of-snapshot start seen rows layer s = record { waits = s.waits; map = s.map }

pub one-number : (start : Dictionary) (seen : List Entry) (number other : ℕ) (rows others : List Row) → IsMerge start seen number rows → IsMerge start seen other others → number ≡ other
one-number start seen number other rows others m n = ap (λ (o : Option ℕ). unwrap_or o 0) (sym m.waits ∙ n.waits)

pub one-merge : (start : Dictionary) (seen : List Entry) (number other : ℕ) (rows others : List Row) → IsMerge start seen number rows → IsMerge start seen other others → rows ≡ others
one-merge start seen number other rows others m n =
    m.map ∙ ap (λ (k : ℕ). (dictionary_at start seen k).pairs) (one-number start seen number other rows others m n) ∙ sym n.map
