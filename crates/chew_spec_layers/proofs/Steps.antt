-- Each call on layers that stand for the plain map, and what comes of it.
use Rattle.std.proofs.Common.{◌≡◌, ℕ, ◌+◌, ◌-◌, ◌^◌, min, true, false, List, [], ◌∷◌, ◌++◌, length, length-append, append_assoc, refl, ap, ap₂, sym, ◌∙◌, subst, is_some, Option, Some, None, option_map, unwrap_or, ◌==◌, arith}
use Rattle.std.proofs.lemmas.Bool.{cond-true, cond-false, eq-eqb}
use Rattle.std.specs.Option.{option_map_or}
use Rattle.chew_spec_syllable.specs.Row.{Row}
use Rattle.chew_spec_dictionary.specs.System.{row_of}
use Rattle.chew_spec_dictionary.specs.Call.{Call, Look, Learn, Forget, Hide, Freeze, Install, Rows, Learned, Full, Forgot, NotThere, Hid, Frozen}
use Rattle.chew_spec_dictionary.specs.Dictionary.{Dictionary, learn, forget, hide}
use Rattle.chew_spec_dictionary.specs.History.{Point, Entry, Shape, start_of, answer, after, installs_waiting}
use Rattle.chew_spec_dictionary.specs.Look.{hits_of}
use Rattle.chew_spec_dictionary.proofs.Histories.{after_joined, place_after}
use Rattle.chew_spec_dictionary.proofs.Learning.{pair_learned, gone_forgot, life_learned, life_forgot}
use Rattle.chew_spec_dictionary.proofs.Hiding.{held_hidden, new_hidden, life_hidden}
use Rattle.chew_spec_layers.specs.Mark.{Marked, Live, Grave}
use Rattle.chew_spec_layers.specs.Overlay.{overlay}
use Rattle.chew_spec_layers.specs.Touches.{tells_change}
use Rattle.chew_spec_layers.specs.Layers.{Layers, Waiting, frozen_marks, map_in, dictionary_in, noted, marked_by, newly_frozen, frozen_by, installed_by}
use Rattle.chew_spec_layers.specs.Standing.{IsLayerOf, WaitsAfter, StandForMap}
use Rattle.chew_spec_layers.proofs.Touches.{about_itself}
use Rattle.chew_spec_layers.proofs.Stretches.{layer_of_nothing, layer_unchanged}
use Rattle.chew_spec_layers.proofs.Standings.{at_end, below_fresh, changed_stands, dictionary_held, entry_later, frozen_point, installed_point, joined_later, map_held, now, same_stands}

-- a call by this number
abbrev entry : ℕ → Call → Entry
entry who call = record { who = who; call = call }

-- a pair with this mark
abbrev live : (key phrase : List ℕ) (freq time : ℕ) → Marked
live key phrase freq time = record { key = key; phrase = phrase; mark = Live freq time }

abbrev grave : (key phrase : List ℕ) → Marked
grave key phrase = record { key = key; phrase = phrase; mark = Grave }

-- a reply that tells a frequency isn't Full
learned_not_full : (freq time : ℕ) → Learned freq time ≡ Full → ⊥
learned_not_full freq time e = cc

-- a look-up
pub look_stands : (s : Layers) (who : ℕ) (run : List ℕ) → StandForMap s → StandForMap (noted s (record { who = who; call = Look run }))
look_stands s who run st = same_stands s (entry who (Look run)) st refl refl

-- a learn
pub learn_stands : (s : Layers) (who : ℕ) (key phrase : List ℕ) (orig peak freq time : ℕ) → StandForMap s → (learn (dictionary_in s) key phrase orig peak).reply ≡ Learned freq time
    → StandForMap (marked_by s (record { who = who; call = Learn key phrase orig peak }) (record { key = key; phrase = phrase; mark = Live freq time }) (min (s.life + 1) (2 ^ 64 - 1)))
learn_stands s who key phrase orig peak freq time st r =
    let same = dictionary_held s st in
    let told : (learn (now s).dictionary key phrase orig peak).reply ≡ Learned freq time = ap (λ (d : Dictionary). (learn d key phrase orig peak).reply) (sym same) ∙ r in
    subst (λ (n : ℕ). StandForMap (marked_by s (entry who (Learn key phrase orig peak)) (live key phrase freq time) n))
    (ap (λ (d : Dictionary). (learn d key phrase orig peak).left.life) (sym same) ∙ life_learned (dictionary_in s) key phrase orig peak (λ f. learned_not_full freq time (sym r ∙ f)))
    (changed_stands s (entry who (Learn key phrase orig peak)) (live key phrase freq time) st (about_itself key phrase) (ap tells_change told)
    (pair_learned (now s).dictionary key phrase orig peak freq time told))

pub full_stands : (s : Layers) (who : ℕ) (key phrase : List ℕ) (orig peak : ℕ) → StandForMap s → (learn (dictionary_in s) key phrase orig peak).reply ≡ Full
    → StandForMap (noted s (record { who = who; call = Learn key phrase orig peak }))
full_stands s who key phrase orig peak st r =
    same_stands s (entry who (Learn key phrase orig peak)) st refl
    (ap (λ (d : Dictionary). tells_change (learn d key phrase orig peak).reply) (sym (dictionary_held s st)) ∙ ap tells_change r)

-- a forget
pub forget_stands : (s : Layers) (who : ℕ) (key phrase : List ℕ) → StandForMap s → (forget (dictionary_in s) key phrase).reply ≡ Forgot
    → StandForMap (marked_by s (record { who = who; call = Forget key phrase }) (record { key = key; phrase = phrase; mark = Grave }) s.life)
forget_stands s who key phrase st r =
    let same = dictionary_held s st in
    let told : (forget (now s).dictionary key phrase).reply ≡ Forgot = ap (λ (d : Dictionary). (forget d key phrase).reply) (sym same) ∙ r in
    subst (λ (n : ℕ). StandForMap (marked_by s (entry who (Forget key phrase)) (grave key phrase) n))
    (life_forgot (now s).dictionary key phrase ∙ ap (λ (d : Dictionary). d.life) (sym same))
    (changed_stands s (entry who (Forget key phrase)) (grave key phrase) st (about_itself key phrase) (ap tells_change told) (gone_forgot (now s).dictionary key phrase))

pub not_there_stands : (s : Layers) (who : ℕ) (key phrase : List ℕ) → StandForMap s → (forget (dictionary_in s) key phrase).reply ≡ NotThere
    → StandForMap (noted s (record { who = who; call = Forget key phrase }))
not_there_stands s who key phrase st r =
    same_stands s (entry who (Forget key phrase)) st refl
    (ap (λ (d : Dictionary). tells_change (forget d key phrase).reply) (sym (dictionary_held s st)) ∙ ap tells_change r)

-- a hide, of a pair that has this frequency or none, and one that changes nothing
hidden_with : (s : Layers) (who : ℕ) (key phrase : List ℕ) (freq : ℕ) → StandForMap s → (hide (dictionary_in s) key phrase).reply ≡ Hid
    → row_of (hide (now s).dictionary key phrase).left.pairs key phrase ≡ Some (record { key = key; phrase = phrase; freq = freq; time = 2 ^ 64 - 1 })
    → StandForMap (marked_by s (record { who = who; call = Hide key phrase }) (record { key = key; phrase = phrase; mark = Live freq (2 ^ 64 - 1) }) s.life)
hidden_with s who key phrase freq st r left =
    let same = dictionary_held s st in
    subst (λ (n : ℕ). StandForMap (marked_by s (entry who (Hide key phrase)) (live key phrase freq (2 ^ 64 - 1)) n))
    (life_hidden (now s).dictionary key phrase ∙ ap (λ (d : Dictionary). d.life) (sym same))
    (changed_stands s (entry who (Hide key phrase)) (live key phrase freq (2 ^ 64 - 1)) st (about_itself key phrase)
    (ap (λ (d : Dictionary). tells_change (hide d key phrase).reply) (sym same) ∙ ap tells_change r) left)

pub hide_stands : (s : Layers) (who : ℕ) (key phrase : List ℕ) (row : Row) → StandForMap s → row_of (dictionary_in s).pairs key phrase ≡ Some row
    → (hide (dictionary_in s) key phrase).reply ≡ Hid
    → StandForMap (marked_by s (record { who = who; call = Hide key phrase }) (record { key = key; phrase = phrase; mark = Live row.freq (2 ^ 64 - 1) }) s.life)
hide_stands s who key phrase row st e r =
    let same = dictionary_held s st in
    hidden_with s who key phrase row.freq st r
    (ap (λ (d : Dictionary). row_of (hide d key phrase).left.pairs key phrase) (sym same) ∙ held_hidden (dictionary_in s) key phrase row e r)

pub new_hide_stands : (s : Layers) (who : ℕ) (key phrase : List ℕ) → StandForMap s → row_of (dictionary_in s).pairs key phrase ≡ None
    → (hide (dictionary_in s) key phrase).reply ≡ Hid
    → StandForMap (marked_by s (record { who = who; call = Hide key phrase }) (record { key = key; phrase = phrase; mark = Live 0 (2 ^ 64 - 1) }) s.life)
new_hide_stands s who key phrase st e r =
    let same = dictionary_held s st in
    hidden_with s who key phrase 0 st r
    (ap (λ (d : Dictionary). row_of (hide d key phrase).left.pairs key phrase) (sym same) ∙ new_hidden (dictionary_in s) key phrase e r)

pub hide_same_stands : (s : Layers) (who : ℕ) (key phrase : List ℕ) → StandForMap s → tells_change (hide (dictionary_in s) key phrase).reply ≡ false
    → StandForMap (noted s (record { who = who; call = Hide key phrase }))
hide_same_stands s who key phrase st f =
    same_stands s (entry who (Hide key phrase)) st refl (ap (λ (d : Dictionary). tells_change (hide d key phrase).reply) (sym (dictionary_held s st)) ∙ f)

-- a shape of these parts
abbrev shape_of : ℕ → Option ℕ → Shape
shape_of installed waiting = record { installed = installed; waiting = waiting }

-- the number of what waits
abbrev number_of : Option Waiting → Option ℕ
number_of frozen = option_map (λ (waiting : Waiting). waiting.number) frozen

-- the shape after a freeze
frozen_shape : (s : Layers) (who : ℕ) → StandForMap s
    → (after (start_of s.start) (s.journal ++ entry who Freeze ∷ [])).shape ≡ shape_of s.installed (Some (unwrap_or (number_of s.frozen) (length s.journal)))
frozen_shape s who st =
    ap (λ (q : Point). q.shape) (entry_later s (entry who Freeze))
    ∙ ap₂ (λ (shape : Shape) (place : ℕ). shape_of shape.installed (Some (unwrap_or shape.waiting place))) st.shape (place_after (start_of s.start) s.journal ∙ plain (length s.journal))
  where
    plain : (n : ℕ) → 0 + n ≡ n
    plain n = omega arith

-- a freeze while marks wait
pub freeze_again_stands : (s : Layers) (who : ℕ) (waiting : Waiting) → StandForMap s → s.frozen ≡ Some waiting → StandForMap (noted s (record { who = who; call = Freeze }))
freeze_again_stands s who waiting st e = record {
  first = st.first;
  second = st.second;
  third = st.third ++ entry who Freeze ∷ [];
  joined = joined_later s st (entry who Freeze);
  map = st.map;
  installed = st.installed;
  base = st.base;
  frozen = st.frozen;
  waits = st.waits;
  fresh = layer_unchanged (frozen_point s st) st.third s.fresh (entry who Freeze) st.fresh refl;
  life = st.life ∙ ap (λ (q : Point). q.dictionary.life) (sym (entry_later s (entry who Freeze)));
  shape = frozen_shape s who st ∙ ap (shape_of s.installed) waits_on;
}
  where
    waits_on : Some (unwrap_or (number_of s.frozen) (length s.journal)) ≡ number_of s.frozen
    waits_on = subst (λ (f : Option Waiting). Some (unwrap_or (number_of f) (length s.journal)) ≡ number_of f) (sym e) refl

-- a freeze where nothing waits
pub freeze_stands : (s : Layers) (who : ℕ) → StandForMap s → s.frozen ≡ None → StandForMap (newly_frozen s who)
freeze_stands s who st e = record {
  first = st.first;
  second = st.third;
  third = entry who Freeze ∷ [];
  joined = ap (λ (l : List Entry). l ++ entry who Freeze ∷ []) two ∙ append_assoc st.first st.third (entry who Freeze ∷ []);
  map = st.map;
  installed = st.installed;
  base = st.base;
  frozen = subst (λ (l : List Entry). IsLayerOf (after (installed_point s st) l) st.third s.fresh) none st.fresh;
  waits = (ap length two ∙ length-append st.first st.third, st.life ∙ ap (λ (q : Point). q.dictionary.life) (sym third_end));
  fresh = layer_unchanged (after (installed_point s st) st.third) [] [] (entry who Freeze) (layer_of_nothing _) refl;
  life = st.life ∙ ap (λ (q : Point). q.dictionary.life) (sym (entry_later s (entry who Freeze)));
  shape = frozen_shape s who st ∙ ap (λ (f : Option Waiting). shape_of s.installed (Some (unwrap_or (number_of f) (length s.journal)))) e;
}
  where
    none : st.second ≡ []
    none = subst (WaitsAfter (installed_point s st) st.second (length st.first + length st.second)) e st.waits

    two : s.journal ≡ st.first ++ st.third
    two = st.joined ∙ ap (λ (l : List Entry). st.first ++ (l ++ st.third)) none

    third_end : after (installed_point s st) st.third ≡ now s
    third_end = ap (λ (l : List Entry). after (after (installed_point s st) l) st.third) (sym none) ∙ at_end s st

-- an install of a base that has what waits
pub install_stands : (s : Layers) (who : ℕ) (waiting : Waiting) (rows : List Row) → StandForMap s → s.frozen ≡ Some waiting → rows ≡ overlay s.base waiting.marks
    → StandForMap (installed_by s who waiting rows)
install_stands s who waiting rows st e r = record {
  first = st.first ++ st.second;
  second = [];
  third = st.third ++ entry who (Install waiting.number) ∷ [];
  joined = joined_later s st (entry who (Install waiting.number)) ∙ sym (append_assoc st.first st.second (st.third ++ entry who (Install waiting.number) ∷ []));
  map = st.map;
  installed = number ∙ sym (length-append st.first st.second);
  base = r ∙ ap (λ (f : Option Waiting). overlay s.base (frozen_marks f)) (sym e) ∙ below_fresh s st ∙ ap (λ (q : Point). q.dictionary.pairs) (sym both);
  frozen = layer_of_nothing _;
  waits = refl;
  fresh = subst (λ (q : Point). IsLayerOf q (st.third ++ entry who (Install waiting.number) ∷ []) s.fresh) (sym both)
      (layer_unchanged (frozen_point s st) st.third s.fresh (entry who (Install waiting.number)) st.fresh refl);
  life = st.life ∙ ap (λ (q : Point). q.dictionary.life) (sym (entry_later s (entry who (Install waiting.number))));
  shape = ap (λ (q : Point). q.shape) (entry_later s (entry who (Install waiting.number)));
}
  where
    number : waiting.number ≡ length st.first + length st.second
    number = (subst (WaitsAfter (installed_point s st) st.second (length st.first + length st.second)) e st.waits).0

    both : after (start_of s.start) (st.first ++ st.second) ≡ frozen_point s st
    both = after_joined (start_of s.start) st.first st.second

-- a freeze
pub frozen_by_stands : (s : Layers) (who : ℕ) → StandForMap s → StandForMap (frozen_by s who)
frozen_by_stands s who st = by s.frozen refl
  where
    by : (o : Option Waiting) → s.frozen ≡ o → StandForMap (frozen_by s who)
    by (Some waiting) e = subst StandForMap (sym (cond-true (is_some s.frozen) (noted s (entry who Freeze)) (newly_frozen s who) (ap is_some e))) (freeze_again_stands s who waiting st e)
    by None e = subst StandForMap (sym (cond-false (is_some s.frozen) (noted s (entry who Freeze)) (newly_frozen s who) (ap is_some e))) (freeze_stands s who st e)

-- what waits goes on waiting, and else the fresh marks wait
pub frozen_keeps : (s : Layers) (who : ℕ) (waiting : Waiting) → s.frozen ≡ Some waiting → frozen_by s who ≡ noted s (record { who = who; call = Freeze })
frozen_keeps s who waiting e = cond-true (is_some s.frozen) (noted s (entry who Freeze)) (newly_frozen s who) (ap is_some e)

pub frozen_newly : (s : Layers) (who : ℕ) → s.frozen ≡ None → frozen_by s who ≡ newly_frozen s who
frozen_newly s who e = cond-false (is_some s.frozen) (noted s (entry who Freeze)) (newly_frozen s who) (ap is_some e)

-- the replies are those of the dictionary that the layers hold
pub look_answer : (s : Layers) (run : List ℕ) → StandForMap s → (answer (now s) (Look run)).reply ≡ Rows (hits_of (map_in s) run)
look_answer s run st = ap (λ (rows : List Row). Rows (hits_of rows run)) (sym (map_held s st))

pub learn_answer : (s : Layers) (key phrase : List ℕ) (orig peak : ℕ) → StandForMap s → (answer (now s) (Learn key phrase orig peak)).reply ≡ (learn (dictionary_in s) key phrase orig peak).reply
learn_answer s key phrase orig peak st = ap (λ (d : Dictionary). (learn d key phrase orig peak).reply) (sym (dictionary_held s st))

pub forget_answer : (s : Layers) (key phrase : List ℕ) → StandForMap s → (answer (now s) (Forget key phrase)).reply ≡ (forget (dictionary_in s) key phrase).reply
forget_answer s key phrase st = ap (λ (d : Dictionary). (forget d key phrase).reply) (sym (dictionary_held s st))

pub hide_answer : (s : Layers) (key phrase : List ℕ) → StandForMap s → (answer (now s) (Hide key phrase)).reply ≡ (hide (dictionary_in s) key phrase).reply
hide_answer s key phrase st = ap (λ (d : Dictionary). (hide d key phrase).reply) (sym (dictionary_held s st))

-- a freeze answers the number that waits, or the journal's length
pub freeze_answer : (s : Layers) → StandForMap s → (answer (now s) Freeze).reply ≡ Frozen (unwrap_or (option_map (λ waiting. waiting.number) s.frozen) (length s.journal))
freeze_answer s st = ap₂ (λ (shape : Shape) (place : ℕ). Frozen (unwrap_or shape.waiting place)) st.shape (place_after (start_of s.start) s.journal ∙ plain (length s.journal))
  where
    plain : (n : ℕ) → 0 + n ≡ n
    plain n = omega arith

-- an install of what waits is legal
pub install_legal : (s : Layers) (waiting : Waiting) → StandForMap s → s.frozen ≡ Some waiting → installs_waiting (now s) (Install waiting.number) ≡ true
install_legal s waiting st e =
    ap (λ (shape : Shape). option_map_or (λ (waits : ℕ). waits == waiting.number) shape.waiting false) st.shape
    ∙ ap (λ (f : Option Waiting). option_map_or (λ (waits : ℕ). waits == waiting.number) (number_of f) false) e
    ∙ eq-eqb waiting.number waiting.number refl

-- the numbers are those of the history's shape
pub installed_number : (s : Layers) → StandForMap s → (now s).shape.installed ≡ s.installed
installed_number s st = ap (λ (shape : Shape). shape.installed) st.shape

pub waiting_number : (s : Layers) → StandForMap s → (now s).shape.waiting ≡ option_map (λ waiting. waiting.number) s.frozen
waiting_number s st = ap (λ (shape : Shape). shape.waiting) st.shape
