-- What three layers say of a pair.
use Rattle.std.proofs.Common.{◌≡◌, ℕ, ◌+◌, ◌≤◌, Bool, true, false, List, [], ◌∷◌, length, refl, ap, sym, ◌∙◌, Option, Some, None, nat_le, arith}
use Rattle.std.specs.List.{list_all}
use Rattle.std.specs.Option.{option_map_or}
use Rattle.std.proofs.lemmas.Bool.{and_parts, leb-true}
use Rattle.chew_spec_syllable.specs.Key.{is_key}
use Rattle.chew_spec_syllable.specs.Syllable.{is_code}
use Rattle.chew_spec_syllable.specs.Row.{Row, is_pair}
use Rattle.chew_spec_dictionary.specs.Dictionary.{is_map}
use Rattle.chew_spec_dictionary.specs.System.{row_of}
use Rattle.chew_spec_layers.specs.Mark.{Mark, Marked, is_in_range, is_layer, is_mark_of, is_proper_mark, mark_of, row_of_mark}
use Rattle.chew_spec_layers.specs.Overlay.{overlay, says_over}
use Rattle.chew_spec_layers.proofs.Marks.{mark_first, mark_later, mark_not_none}
use Rattle.chew_spec_layers.proofs.Overlays.{overlay_map, overlay_says}

module _ (base : List Row) (frozen fresh : List Marked) (key phrase : List ℕ) (m : is_map base ≡ true) (f : is_layer frozen ≡ true) (g : is_layer fresh ≡ true) where
  -- layer by layer
  says : row_of (overlay (overlay base frozen) fresh) key phrase ≡ says_over fresh key phrase (says_over frozen key phrase (row_of base key phrase))
  says = overlay_says (overlay base frozen) fresh key phrase (overlay_map base frozen m f) g ∙ ap (says_over fresh key phrase) (overlay_says base frozen key phrase m f)

  -- the fresh mark
  pub said_fresh : (mark : Mark) → Some mark ≡ mark_of fresh key phrase → row_of_mark key phrase mark ≡ row_of (overlay (overlay base frozen) fresh) key phrase
  said_fresh mark e =
      ap (λ (o : Option Mark). option_map_or (row_of_mark key phrase) o (says_over frozen key phrase (row_of base key phrase))) e ∙ sym says

  -- the frozen one, where there is no fresh one
  pub said_frozen : (mark : Mark) → None ≡ mark_of fresh key phrase → Some mark ≡ mark_of frozen key phrase
      → row_of_mark key phrase mark ≡ row_of (overlay (overlay base frozen) fresh) key phrase
  said_frozen mark n e =
      ap (λ (o : Option Mark). option_map_or (row_of_mark key phrase) o (row_of base key phrase)) e
      ∙ ap (λ (o : Option Mark). option_map_or (row_of_mark key phrase) o (says_over frozen key phrase (row_of base key phrase))) n ∙ sym says

  -- the base, where there is neither
  pub said_below : None ≡ mark_of fresh key phrase → None ≡ mark_of frozen key phrase → row_of base key phrase ≡ row_of (overlay (overlay base frozen) fresh) key phrase
  said_below n e =
      ap (λ (o : Option Mark). option_map_or (row_of_mark key phrase) o (row_of base key phrase)) e
      ∙ ap (λ (o : Option Mark). option_map_or (row_of_mark key phrase) o (says_over frozen key phrase (row_of base key phrase))) n ∙ sym says

-- a mark of proper ones is in range
pub mark_in_range : (marks : List Marked) (key phrase : List ℕ) (mark : Mark) → list_all is_proper_mark marks ≡ true → Some mark ≡ mark_of marks key phrase → is_in_range mark ≡ true
mark_in_range [] key phrase mark p e = absurd (mark_not_none mark e)
mark_in_range (first ∷ marks) key phrase mark p e = by (is_mark_of key phrase first) refl (mark_in_range marks key phrase mark (and_parts (is_proper_mark first) _ p).1)
  where
    same : Some mark ≡ Some first.mark → mark ≡ first.mark
    same s = cc

    by : (b : Bool) → is_mark_of key phrase first ≡ b → (Some mark ≡ mark_of marks key phrase → is_in_range mark ≡ true) → is_in_range mark ≡ true
    by true t later = ap is_in_range (same (e ∙ mark_first key phrase first marks t)) ∙ (and_parts (is_pair first.key first.phrase) _ (and_parts (is_proper_mark first) _ p).0).1
    by false t later = later (e ∙ mark_later key phrase first marks t)

-- a key is within a run
pub key_short : (key : List ℕ) → is_key key ≡ true → 0 + length key ≤ 39
key_short key k = let both = and_parts (list_all is_code key) _ k in omega (arith, leb-true _ _ (and_parts (nat_le 1 (length key)) _ both.1).1)
