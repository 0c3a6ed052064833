-- Legal layers with one call more.
use Rattle.std.proofs.Common.{◌≡◌, ◌≢◌, ◌+◌, ℕ, arith, Bool, true, false, List, [], ◌∷◌, ◌++◌, refl, ap, ap₂, sym, ◌∙◌, subst, Option, Some, None, is_some, option_map, unwrap_or, Result, Ok, Err, if◌then◌else◌, ◌==◌}
use Rattle.std.specs.Prelude.{IfOk, OnOk, OnErr, slice_index_or}
use Rattle.std.specs.List.{slice_get}
use Rattle.std.specs.Option.{option_map_or}
use Rattle.std.proofs.lemmas.Bool.{and_from, eq-eqb, true≢false}
use Rattle.chew_spec_syllable.specs.Row.{Row}
use Rattle.chew_spec_dictionary.specs.Call.{Call, Freeze, Frozen, Install}
use Rattle.chew_spec_dictionary.specs.Dictionary.{Dictionary}
use Rattle.chew_spec_dictionary.specs.History.{Entry, Point, after, answer, is_legal, is_legal_entry, is_user_call, start_of}
use Rattle.chew_spec_dictionary.proofs.Histories.{after_joined, legal_joined}
use Rattle.chew_spec_dictionary.proofs.Legal.{users-entries}
use Rattle.chew_spec_layers.specs.Layers.{Layers, Waiting, frozen_by, installed_by, newly_frozen, noted}
use Rattle.chew_spec_layers.specs.Standing.{StandForMap}
use Rattle.chew_spec_layers.proofs.Steps.{waiting_number}
use Rattle.chew_spec_cell.specs.Pass.{Cell, Pass, new_passes}
use Rattle.chew_spec_cell.proofs.Passes.{slice_get-new_passes}
use Rattle.chew_spec_cell.specs.Sight.{HasSeen}
use Rattle.chew_spec_shared.specs.Snapshot.{IsMerge, IsSnapshot, waiting_after}
use Rattle.chew_spec_shared.proofs.Waiting.{merge-kept, waiting-kept}
use Rattle.chew_spec_shared.proofs.Layered.{snapshot-held}
use Rattle.chew_shared.specs.Legal.{AreLegal}

-- the layers with one entry more that is legal in its place
pub one-more : (old now : Layers) (e : Entry) → AreLegal old → is_legal_entry (after (start_of old.start) old.journal) e ≡ true
    → now.start ≡ old.start → StandForMap now → now.journal ≡ old.journal ++ e ∷ [] → AreLegal now
one-more old now e l legal start stand journal = record {
  stand = stand;
  legal = ap₂ (λ (d : Dictionary) (h : List Entry). is_legal (start_of d) h) start journal
      ∙ legal_joined (start_of old.start) old.journal (e ∷ [])
      ∙ and_from (is_legal (start_of old.start) old.journal) (is_legal (after (start_of old.start) old.journal) (e ∷ [])) l.legal
      (and_from (is_legal_entry (after (start_of old.start) old.journal) e) true legal refl);
}

-- where the call was refused they are as they were
pub one-or-none : {V E : Type 0} (r : Result V E) (old now : Layers) (e : Entry) → AreLegal old → is_legal_entry (after (start_of old.start) old.journal) e ≡ true
    → now.start ≡ old.start → StandForMap now → OnOk r (now.journal ≡ old.journal ++ e ∷ []) → OnErr r (now ≡ old) → AreLegal now
one-or-none (Ok v) old now e l legal start stand journal same = one-more old now e l legal start stand journal
one-or-none (Err x) old now e l legal start stand journal same = subst AreLegal (sym same) l

-- a user's call is legal anywhere
pub user-legal : (p : Point) (who : ℕ) (call : Call) → who ≢ 0 → is_user_call call ≡ true → is_legal_entry p (record { who = who; call = call }) ≡ true
user-legal p who call other user = users-entries p (record { who = who; call = call }) other ∙ user

-- a freeze keeps the start, and adds its entry
frozen-start-by : (b : Bool) (s : Layers) (who : ℕ) → (if b then noted s (record { who = who; call = Freeze }) else newly_frozen s who).start ≡ s.start
frozen-start-by true s who = refl
frozen-start-by false s who = refl

frozen-journal-by : (b : Bool) (s : Layers) (who : ℕ) → (if b then noted s (record { who = who; call = Freeze }) else newly_frozen s who).journal ≡ s.journal ++ record { who = who; call = Freeze } ∷ []
frozen-journal-by true s who = refl
frozen-journal-by false s who = refl

-- so does one that may have been refused
pub freeze-start : {V E : Type 0} (r : Result V E) (old now : Layers) (who : ℕ) → OnOk r (now ≡ frozen_by old who) → OnErr r (now ≡ old) → now.start ≡ old.start
freeze-start (Ok v) old now who ok err = ap (λ (s : Layers). s.start) ok ∙ frozen-start-by (is_some old.frozen) old who
freeze-start (Err x) old now who ok err = ap (λ (s : Layers). s.start) err

pub freeze-journal : {V E : Type 0} (r : Result V E) (old now : Layers) (who : ℕ) → OnOk r (now ≡ frozen_by old who) → OnOk r (now.journal ≡ old.journal ++ record { who = who; call = Freeze } ∷ [])
freeze-journal (Ok v) old now who ok = ap (λ (s : Layers). s.journal) ok ∙ frozen-journal-by (is_some old.frozen) old who
freeze-journal (Err x) old now who ok = ok

-- the number that a freeze has wait is that of its reply
pub freeze-reply : (old now : Layers) (waiting : Waiting) → StandForMap now → now.frozen ≡ Some waiting → now.start ≡ old.start
    → now.journal ≡ old.journal ++ record { who = 0; call = Freeze } ∷ [] → Frozen waiting.number ≡ (answer (after (start_of old.start) old.journal) Freeze).reply
freeze-reply old now waiting stand frozen start journal =
    let waits = sym (ap (λ (f : Option Waiting). option_map (λ w. w.number) f) frozen)
    ∙ sym (waiting_number now stand)
    ∙ ap₂ (λ (d : Dictionary) (h : List Entry). (after (start_of d) h).shape.waiting) start journal
    ∙ ap (λ (p : Point). p.shape.waiting) (after_joined (start_of old.start) old.journal (record { who = 0; call = Freeze } ∷ [])) in
    ap (λ (o : Option ℕ). Frozen (unwrap_or o 0)) waits

-- the snapshot over this base
pub freeze-snapshot : (now : Layers) (rows : List Row) (waiting : Waiting) → StandForMap now → now.frozen ≡ Some waiting → rows ≡ now.base → IsSnapshot now.start now.journal rows waiting
freeze-snapshot now rows waiting stand frozen base = subst (λ (l : List Row). IsSnapshot now.start now.journal l waiting) (sym base) (snapshot-held now stand waiting frozen)

-- an install of what waits
module _ (old now : Layers) (rows : List Row) (number : ℕ) (l : AreLegal old) (waits : waiting_after old.start old.journal ≡ Some number)
    (left : (waiting : Waiting) → old.frozen ≡ Some waiting → now ≡ installed_by old 0 waiting rows) where
  pub install-both : (now.start ≡ old.start) × (now.journal ≡ old.journal ++ record { who = 0; call = Install number } ∷ [])
  install-both = by old.frozen refl
    where
      told : option_map (λ (w : Waiting). w.number) old.frozen ≡ Some number
      told = sym (waiting_number old l.stand) ∙ waits

      by : (f : Option Waiting) → old.frozen ≡ f → (now.start ≡ old.start) × (now.journal ≡ old.journal ++ record { who = 0; call = Install number } ∷ [])
      by None e = absurd (true≢false (ap (λ (o : Option ℕ). is_some o) (sym told ∙ ap (λ (f : Option Waiting). option_map (λ (w : Waiting). w.number) f) e)))
      by (Some waiting) e =
          let same : waiting.number ≡ number = ap (λ (o : Option ℕ). unwrap_or o 0) (sym (ap (λ (f : Option Waiting). option_map (λ (w : Waiting). w.number) f) e) ∙ told) in (
            ap (λ (s : Layers). s.start) (left waiting e),
            ap (λ (s : Layers). s.journal) (left waiting e) ∙ ap (λ (n : ℕ). old.journal ++ record { who = 0; call = Install n } ∷ []) same,
          )

  pub install-legal : is_legal_entry (after (start_of old.start) old.journal) (record { who = 0; call = Install number }) ≡ true
  install-legal = ap (λ (o : Option ℕ). option_map_or (λ (w : ℕ). w == number) o false) waits ∙ eq-eqb number number refl

  pub installed-legal : StandForMap now → AreLegal now
  installed-legal stand = one-more old now (record { who = 0; call = Install number }) l install-legal install-both.0 stand install-both.1

-- the clauses of a freeze that may have been refused
pub replied : {V E : Type 0} (r : Result V E) (layer : V → Waiting) (old now : Layers) → StandForMap now → IfOk r (λ v. now.frozen ≡ Some (layer v)) → now.start ≡ old.start
    → OnOk r (now.journal ≡ old.journal ++ record { who = 0; call = Freeze } ∷ []) → IfOk r (λ v. Frozen (layer v).number ≡ (answer (after (start_of old.start) old.journal) Freeze).reply)
replied (Ok v) layer old now stand frozen start journal = freeze-reply old now (layer v) stand frozen start journal
replied (Err x) layer old now stand frozen start journal = frozen

pub given : {V E : Type 0} (r : Result V E) (layer : V → Waiting) (rows : V → List Row) (now : Layers) → StandForMap now → IfOk r (λ v. now.frozen ≡ Some (layer v)) → IfOk r (λ v. rows v ≡ now.base)
    → IfOk r (λ v. IsSnapshot now.start now.journal (rows v) (layer v))
given (Ok v) layer rows now stand frozen base = freeze-snapshot now (rows v) (layer v) stand frozen base
given (Err x) layer rows now stand frozen base = frozen

-- the first of the new passes is the keeper's
at-first : (xs : List Pass) (d p : Pass) → slice_get xs 0 ≡ Some p → slice_index_or xs 0 d ≡ p
at-first [] d p e = absurd (true≢false (ap (λ (o : Option Pass). is_some o) (sym e)))
at-first (x ∷ xs) d p e = ap (λ (o : Option Pass). unwrap_or o x) e

pub first-pass : (cell : Cell) (passes : List Pass) (count : ℕ) (first : Pass) → passes ≡ new_passes cell (count + 1) → first ≡ slice_index_or passes 0 first → first ≡ record { cell = cell; who = 0; seen = [] }
first-pass cell passes count first is at =
    at ∙ at-first passes first (record { cell = cell; who = 0; seen = [] }) (ap (λ (l : List Pass). slice_get l 0) is ∙ slice_get-new_passes cell (count + 1) 0 (omega arith))

-- what waited for the keeper waits still, and a merge of it is one still
pub waits-still : (s : Layers) (seen : List Entry) (number : ℕ) → AreLegal s → HasSeen 0 seen s.journal → waiting_after s.start seen ≡ Some number → waiting_after s.start s.journal ≡ Some number
waits-still s seen number l has waits = waiting-kept s.start seen s.journal l.legal has ∙ waits

pub merge-still : (s value : Layers) (rows : List Row) → s ≡ value → AreLegal s
    → (seen : List Entry) × (number : ℕ) × HasSeen 0 seen value.journal × IsMerge value.start seen number rows → (number : ℕ) × IsMerge s.start s.journal number rows
merge-still s value rows is l had =
    let mine = subst (λ (v : Layers). (seen : List Entry) × (number : ℕ) × HasSeen 0 seen v.journal × IsMerge v.start seen number rows) (sym is) had in
    (mine.1, merge-kept s.start mine.0 s.journal l.legal mine.2 mine.1 rows mine.3)
