-- What layers that stand for the plain map give the keeper.
use Rattle.std.proofs.Common.{◌≡◌, ℕ, Bool, true, false, List, [], ◌∷◌, length, refl, ap, ap₂, sym, ◌∙◌, subst, Option, Some, None, is_some, option_map, unwrap_or, arith}
use Rattle.std.specs.Option.{option_map_or}
use Rattle.std.specs.Prelude.{IsSome}
use Rattle.std.proofs.lemmas.Bool.{true≢false}
use Rattle.chew_spec_syllable.specs.Row.{Row}
use Rattle.chew_spec_dictionary.specs.History.{start_of}
use Rattle.chew_spec_layers.specs.Layers as parts
use Rattle.chew_spec_layers.specs.Layers.{Layers, frozen_marks}
use Rattle.chew_spec_layers.specs.Mark.{Marked, mark_of}
use Rattle.chew_spec_layers.specs.Need.{Need, Waiting, Fresh, Nothing, need_by, need_of}
use Rattle.chew_spec_layers.specs.Overlay.{overlay}
use Rattle.chew_spec_layers.specs.Standing.{StandForMap}
use Rattle.chew_spec_layers.specs.Touches.{touched}
use Rattle.chew_spec_layers.proofs.Marks.{is_of_mark, mark_first}
use Rattle.chew_spec_layers.proofs.Standings.{base_held, fresh_pairs, frozen_held, frozen_life, frozen_pairs}
use Rattle.chew_spec_layers.proofs.Steps.{installed_number, waiting_number}
use Rattle.chew_spec_shared.specs.Needs.{IsNeed}
use Rattle.chew_spec_shared.specs.Snapshot.{IsMerge, IsSnapshot, dictionary_at, installed_after, waiting_after}

abbrev number_in : Option parts.Waiting → Option ℕ
number_in frozen = option_map (λ waiting. waiting.number) frozen

module _ (s : Layers) (st : StandForMap s) where
  -- a layer that waits, over the base, is the snapshot
  pub snapshot-held : (waiting : parts.Waiting) → s.frozen ≡ Some waiting → IsSnapshot s.start s.journal s.base waiting
  snapshot-held waiting e = record {
    waits = waiting_number s st ∙ ap number_in e;
    base = base_held s st ∙ ap (λ (n : ℕ). (dictionary_at s.start s.journal n).pairs) (sym (installed_number s st));
    pairs = λ key phrase. frozen_pairs s st waiting e key phrase
        ∙ ap (λ (n : ℕ). touched (start_of s.start) s.journal n waiting.number key phrase) (sym (installed_number s st));
    map = frozen_held s st waiting e;
    life = frozen_life s st waiting e;
  }

  -- a merge of it has what waits, of its number
  pub merge-held : (number : ℕ) (rows : List Row) → IsMerge s.start s.journal number rows
      → IsSome s.frozen × (rows ≡ overlay s.base (frozen_marks s.frozen)) × ((waiting : parts.Waiting) → s.frozen ≡ Some waiting → waiting.number ≡ number)
  merge-held number rows m = by s.frozen refl
    where
      told : number_in s.frozen ≡ Some number
      told = sym (waiting_number s st) ∙ m.waits

      by : (f : Option parts.Waiting) → s.frozen ≡ f
          → IsSome s.frozen × (rows ≡ overlay s.base (frozen_marks s.frozen)) × ((waiting : parts.Waiting) → s.frozen ≡ Some waiting → waiting.number ≡ number)
      by None e = absurd (true≢false (ap (λ (o : Option ℕ). is_some o) (sym told ∙ ap number_in e)))
      by (Some waits) e =
          let same : waits.number ≡ number = ap (λ (o : Option ℕ). unwrap_or o 0) (sym (ap number_in e) ∙ told) in (
            subst (λ (f : Option parts.Waiting). IsSome f) (sym e) refl,
            m.map ∙ ap (λ (n : ℕ). (dictionary_at s.start s.journal n).pairs) (sym same) ∙ sym (frozen_held s st waits e) ∙ ap (λ (f : Option parts.Waiting). overlay s.base (frozen_marks f)) (sym e),
            λ waiting f. ap (λ (o : Option ℕ). unwrap_or o 0) (sym (ap number_in f) ∙ told),
          )

  -- what they need is what is needed after their journal
  pub need-held : IsNeed s.start s.journal (need_of s)
  need-held = by s.frozen s.fresh refl refl
    where
      since : s.frozen ≡ None → (key phrase : List ℕ)
          → is_some (mark_of s.fresh key phrase) ≡ touched (start_of s.start) s.journal (installed_after s.start s.journal) (length s.journal) key phrase
      since e key phrase =
          fresh_pairs s st key phrase
          ∙ ap (λ (f : Option parts.Waiting). touched (start_of s.start) s.journal (option_map_or (λ waiting. waiting.number) f s.installed) (length s.journal) key phrase) e
          ∙ ap (λ (n : ℕ). touched (start_of s.start) s.journal n (length s.journal) key phrase) (sym (installed_number s st))

      by : (f : Option parts.Waiting) (m : List Marked) → s.frozen ≡ f → s.fresh ≡ m → IsNeed s.start s.journal (need_by s.frozen s.fresh)
      by (Some waiting) m e em = subst (λ (f : Option parts.Waiting). IsNeed s.start s.journal (need_by f s.fresh)) (sym e) (waiting.number, waiting_number s st ∙ ap number_in e)
      by None [] e em = subst (λ (z : Option parts.Waiting × List Marked). IsNeed s.start s.journal (need_by z.0 z.1)) (λ i. (sym e i, sym em i))
          (waiting_number s st ∙ ap number_in e, λ key phrase. sym (since e key phrase) ∙ ap (λ (l : List Marked). is_some (mark_of l key phrase)) em)
      by None (first ∷ rest) e em = subst (λ (z : Option parts.Waiting × List Marked). IsNeed s.start s.journal (need_by z.0 z.1)) (λ i. (sym e i, sym em i)) (
        waiting_number s st ∙ ap number_in e,
        (
          first.key,
          first.phrase,
          sym (since e first.key first.phrase)
              ∙ ap (λ (l : List Marked). is_some (mark_of l first.key first.phrase)) em
              ∙ ap is_some (mark_first first.key first.phrase first rest (is_of_mark first.key first.phrase first refl refl)),
        ),
      )
