-- The layers of stretches of a history.
use Rattle.std.proofs.Common.{◌≡◌, ℕ, ◌-◌, ◌^◌, Bool, true, false, List, [], ◌∷◌, ◌++◌, ◌&&◌, ◌||◌, refl, ap, ap₂, sym, ◌∙◌, ⊎_elim, is_some, Some, None, true≢false}
use Rattle.std.proofs.lemmas.Bool.{and_from}
use Rattle.chew_spec_syllable.specs.Row.{Row}
use Rattle.chew_spec_dictionary.specs.System.{row_of}
use Rattle.chew_spec_dictionary.specs.Dictionary.{is_map, learn, forget, hide}
use Rattle.chew_spec_dictionary.specs.Call.{Learn, Forget, Hide, Learned, Forgot, Hid}
use Rattle.chew_spec_dictionary.specs.History.{Point, Entry, answer, after}
use Rattle.chew_spec_dictionary.proofs.Learning.{pair_learned, gone_forgot}
use Rattle.chew_spec_dictionary.proofs.Hiding.{held_hidden, new_hidden}
use Rattle.chew_spec_dictionary.proofs.Histories.{after_joined}
use Rattle.chew_spec_dictionary.proofs.Maps.{after_keeps, maps_alike}
use Rattle.chew_spec_layers.specs.Mark.{Mark, Live, Grave, Marked, is_mark_of, mark_of, put_mark, row_of_mark}
use Rattle.chew_spec_layers.specs.Overlay.{overlay}
use Rattle.chew_spec_layers.specs.Touches.{tells_change, is_about, changes, touches}
use Rattle.chew_spec_layers.specs.Standing.{IsLayerOf}
use Rattle.chew_spec_layers.proofs.Marks.{is_of_mark, of_mark, put_mark_found, put_mark_others, put_mark_keeps, mark_not_none}
use Rattle.chew_spec_layers.proofs.Overlays.{marked_or_not, overlay_map, overlay_marked, overlay_unmarked}
use Rattle.chew_spec_layers.proofs.Touches.{touches_joined, call_leaves, about_itself, about_one, untouched_stays}

-- a stretch of nothing has a layer of nothing
pub layer_of_nothing : (p : Point) → IsLayerOf p [] []
layer_of_nothing p = record { layer = refl; pairs = λ key phrase. refl; says = λ key phrase mark e. absurd (mark_not_none mark (sym e)) }

-- nothing beside a fact
or_nothing : (a b : Bool) → b ≡ false → a ≡ a || (b || false)
or_nothing true b e = refl
or_nothing false b e = sym (ap (λ (x : Bool). x || false) e)

or_all : (a b : Bool) → b ≡ true → true ≡ a || (b || false)
or_all true b e = refl
or_all false b e = sym (ap (λ (x : Bool). x || false) e)

-- a stretch touches a pair with one entry more where it did before or the entry changes it
one_more : (p : Point) (h : List Entry) (e : Entry) (key phrase : List ℕ) → touches p (h ++ e ∷ []) key phrase ≡ touches p h key phrase || (changes (after p h) e.call key phrase || false)
one_more p h e key phrase = touches_joined p h (e ∷ []) key phrase

-- what is found after one entry more
found_after : (p : Point) (h : List Entry) (e : Entry) (key phrase : List ℕ) → row_of (after p (h ++ e ∷ [])).dictionary.pairs key phrase ≡ row_of (answer (after p h) e.call).point.dictionary.pairs key phrase
found_after p h e key phrase = ap (λ (q : Point). row_of q.dictionary.pairs key phrase) (after_joined p h (e ∷ []))

-- a call that changes no pair leaves a layer that of the longer stretch
pub layer_unchanged : (p : Point) (h : List Entry) (marks : List Marked) (e : Entry) → IsLayerOf p h marks → tells_change (answer (after p h) e.call).reply ≡ false → IsLayerOf p (h ++ e ∷ []) marks
layer_unchanged p h marks e l f = record {
  layer = l.layer;
  pairs = λ key phrase. l.pairs key phrase ∙ or_nothing (touches p h key phrase) _ (none key phrase) ∙ sym (one_more p h e key phrase);
  says = λ key phrase mark m. found_after p h e key phrase ∙ call_leaves (after p h) e.call key phrase (none key phrase) ∙ l.says key phrase mark m;
}
  where
    none_of : (b c : Bool) → c ≡ false → b && c ≡ false
    none_of true c e = e
    none_of false c e = refl

    none : (key phrase : List ℕ) → changes (after p h) e.call key phrase ≡ false
    none key phrase = none_of (is_about key phrase e.call) _ f

-- a call that changes its pair has the layer get the mark of what it left
pub layer_changed : (p : Point) (h : List Entry) (marks : List Marked) (e : Entry) (m : Marked) → IsLayerOf p h marks
    → is_about m.key m.phrase e.call ≡ true → tells_change (answer (after p h) e.call).reply ≡ true
    → row_of (answer (after p h) e.call).point.dictionary.pairs m.key m.phrase ≡ row_of_mark m.key m.phrase m.mark
    → IsLayerOf p (h ++ e ∷ []) (put_mark m marks)
layer_changed p h marks e m l about tells left = record {
  layer = put_mark_keeps m marks l.layer;
  pairs = λ key phrase. pair key phrase (is_mark_of key phrase m) refl;
  says = λ key phrase mark is. found_after p h e key phrase ∙ say key phrase mark is (is_mark_of key phrase m) refl;
}
  where
    other : (key phrase : List ℕ) → is_mark_of key phrase m ≡ false → changes (after p h) e.call key phrase ≡ false
    other key phrase f = ap (λ (b : Bool). b && tells_change (answer (after p h) e.call).reply)
        (about_one e.call m.key m.phrase key phrase about (λ k q. true≢false (sym (is_of_mark key phrase m k q) ∙ f)))

    pair : (key phrase : List ℕ) (b : Bool) → is_mark_of key phrase m ≡ b → is_some (mark_of (put_mark m marks) key phrase) ≡ touches p (h ++ e ∷ []) key phrase
    pair key phrase true t =
        let same = of_mark key phrase m t in
        ap₂ (λ (k q : List ℕ). is_some (mark_of (put_mark m marks) k q)) (sym same.0) (sym same.1)
        ∙ ap is_some (put_mark_found m marks)
        ∙ or_all (touches p h key phrase) _ (and_from _ _ (ap₂ (λ (k q : List ℕ). is_about k q e.call) (sym same.0) (sym same.1) ∙ about) tells)
        ∙ sym (one_more p h e key phrase)
    pair key phrase false f =
        ap is_some (put_mark_others m marks key phrase f) ∙ l.pairs key phrase ∙ or_nothing (touches p h key phrase) _ (other key phrase f) ∙ sym (one_more p h e key phrase)

    say : (key phrase : List ℕ) (mark : Mark) → mark_of (put_mark m marks) key phrase ≡ Some mark → (b : Bool) → is_mark_of key phrase m ≡ b
        → row_of (answer (after p h) e.call).point.dictionary.pairs key phrase ≡ row_of_mark key phrase mark
    say key phrase mark is true t =
        let same = of_mark key phrase m t in
        let one : Some m.mark ≡ Some mark = sym (put_mark_found m marks) ∙ ap₂ (mark_of (put_mark m marks)) same.0 same.1 ∙ is in
        let own : m.mark ≡ mark = cc in
        ap₂ (row_of (answer (after p h) e.call).point.dictionary.pairs) (sym same.0) (sym same.1)
        ∙ left
        ∙ ap₂ (λ (k q : List ℕ). row_of_mark k q m.mark) same.0 same.1
        ∙ ap (row_of_mark key phrase) own
    say key phrase mark is false f = call_leaves (after p h) e.call key phrase (other key phrase f) ∙ l.says key phrase mark (sym (put_mark_others m marks key phrase f) ∙ is)

-- where a layer has no mark the stretch did not touch the pair
unmarked_untouched : (p : Point) (h : List Entry) (marks : List Marked) (key phrase : List ℕ) → IsLayerOf p h marks → mark_of marks key phrase ≡ None → touches p h key phrase ≡ false
unmarked_untouched p h marks key phrase l e = sym (l.pairs key phrase) ∙ ap is_some e

-- the map after a stretch is its layer over the map before it
pub layer_is_map : (p : Point) (h : List Entry) (marks : List Marked) → is_map p.dictionary.pairs ≡ true → IsLayerOf p h marks → overlay p.dictionary.pairs marks ≡ (after p h).dictionary.pairs
layer_is_map p h marks m l = maps_alike _ _ (overlay_map p.dictionary.pairs marks m l.layer) (after_keeps p h m) (λ key phrase. ⊎_elim
    (λ (s : (mark : Mark) × (mark_of marks key phrase ≡ Some mark)). overlay_marked p.dictionary.pairs marks key phrase s.0 m l.layer s.1 ∙ sym (l.says key phrase s.0 s.1))
    (λ (n : mark_of marks key phrase ≡ None).
    overlay_unmarked p.dictionary.pairs marks key phrase m l.layer n ∙ sym (untouched_stays p h key phrase (unmarked_untouched p h marks key phrase l n)))
    (marked_or_not (mark_of marks key phrase)))

-- the layer after a learn, a forget and a hide that changed something
pub layer_of_learn : (p : Point) (h : List Entry) (marks : List Marked) (who : ℕ) (key phrase : List ℕ) (orig peak freq time : ℕ) → IsLayerOf p h marks
    → (learn (after p h).dictionary key phrase orig peak).reply ≡ Learned freq time
    → IsLayerOf p (h ++ record { who = who; call = Learn key phrase orig peak } ∷ []) (put_mark (record { key = key; phrase = phrase; mark = Live freq time }) marks)
layer_of_learn p h marks who key phrase orig peak freq time l r =
    layer_changed p h marks (record { who = who; call = Learn key phrase orig peak }) (record { key = key; phrase = phrase; mark = Live freq time }) l
    (about_itself key phrase) (ap tells_change r) (pair_learned (after p h).dictionary key phrase orig peak freq time r)

pub layer_of_forget : (p : Point) (h : List Entry) (marks : List Marked) (who : ℕ) (key phrase : List ℕ) → IsLayerOf p h marks
    → (forget (after p h).dictionary key phrase).reply ≡ Forgot
    → IsLayerOf p (h ++ record { who = who; call = Forget key phrase } ∷ []) (put_mark (record { key = key; phrase = phrase; mark = Grave }) marks)
layer_of_forget p h marks who key phrase l r =
    layer_changed p h marks (record { who = who; call = Forget key phrase }) (record { key = key; phrase = phrase; mark = Grave }) l
    (about_itself key phrase) (ap tells_change r) (gone_forgot (after p h).dictionary key phrase)

pub layer_of_hide : (p : Point) (h : List Entry) (marks : List Marked) (who : ℕ) (key phrase : List ℕ) (row : Row) → IsLayerOf p h marks
    → row_of (after p h).dictionary.pairs key phrase ≡ Some row → (hide (after p h).dictionary key phrase).reply ≡ Hid
    → IsLayerOf p (h ++ record { who = who; call = Hide key phrase } ∷ []) (put_mark (record { key = key; phrase = phrase; mark = Live row.freq (2 ^ 64 - 1) }) marks)
layer_of_hide p h marks who key phrase row l e r =
    layer_changed p h marks (record { who = who; call = Hide key phrase }) (record { key = key; phrase = phrase; mark = Live row.freq (2 ^ 64 - 1) }) l
    (about_itself key phrase) (ap tells_change r) (held_hidden (after p h).dictionary key phrase row e r)

pub layer_of_new_hide : (p : Point) (h : List Entry) (marks : List Marked) (who : ℕ) (key phrase : List ℕ) → IsLayerOf p h marks
    → row_of (after p h).dictionary.pairs key phrase ≡ None → (hide (after p h).dictionary key phrase).reply ≡ Hid
    → IsLayerOf p (h ++ record { who = who; call = Hide key phrase } ∷ []) (put_mark (record { key = key; phrase = phrase; mark = Live 0 (2 ^ 64 - 1) }) marks)
layer_of_new_hide p h marks who key phrase l e r =
    layer_changed p h marks (record { who = who; call = Hide key phrase }) (record { key = key; phrase = phrase; mark = Live 0 (2 ^ 64 - 1) }) l
    (about_itself key phrase) (ap tells_change r) (new_hidden (after p h).dictionary key phrase e r)
