-- Three layers that stand for the plain map: what they hold, and that each call keeps it so.
use Rattle.std.proofs.Common.{◌≡◌, ℕ, ◌+◌, true, false, List, [], ◌∷◌, ◌++◌, length, take, length-append, append_assoc, append-nil, refl, ap, ap₂, sym, ◌∙◌, subst, is_some, Option, Some, None, true≢false}
use Rattle.std.specs.Option.{option_map_or}
use Rattle.chew_spec_syllable.specs.Row.{Row}
use Rattle.chew_spec_dictionary.specs.System.{row_of}
use Rattle.chew_spec_dictionary.specs.Call.{Call, Look, Learn, Forget, Hide, Freeze, Install}
use Rattle.chew_spec_dictionary.specs.Dictionary.{Dictionary, is_map}
use Rattle.chew_spec_dictionary.specs.History.{Point, Entry, start_of, answer, after, is_keepers}
use Rattle.chew_spec_dictionary.proofs.Histories.{after_joined}
use Rattle.chew_spec_dictionary.proofs.Invariants.{after_cap}
use Rattle.chew_spec_dictionary.proofs.Maps.{after_keeps}
use Rattle.chew_spec_layers.specs.Mark.{Marked, mark_of, put_mark, row_of_mark}
use Rattle.chew_spec_layers.specs.Overlay.{overlay, says_over}
use Rattle.chew_spec_layers.specs.Touches.{tells_change, is_about, touches, touched}
use Rattle.chew_spec_layers.specs.Layers.{Layers, Waiting, layers_of, frozen_marks, map_in, dictionary_in, noted, marked_by}
use Rattle.chew_spec_layers.specs.Standing.{IsLayerOf, WaitsAfter, StandForMap}
use Rattle.chew_spec_layers.proofs.Touches.{take_front, take_two, touched_second, unchanged}
use Rattle.chew_spec_layers.proofs.Overlays.{overlay_map, overlay_says}
use Rattle.chew_spec_layers.proofs.Stretches.{layer_of_nothing, layer_unchanged, layer_changed, layer_is_map}

-- the point after the first stretch, after the second, and after the journal
abbrev pub installed_point : (s : Layers) → StandForMap s → Point
installed_point s st = after (start_of s.start) st.first

abbrev pub frozen_point : (s : Layers) → StandForMap s → Point
frozen_point s st = after (installed_point s st) st.second

abbrev pub now : Layers → Point
now s = after (start_of s.start) s.journal

-- the third stretch ends where the journal does
pub at_end : (s : Layers) (st : StandForMap s) → after (frozen_point s st) st.third ≡ now s
at_end s st =
    sym (after_joined (installed_point s st) st.second st.third)
    ∙ sym (after_joined (start_of s.start) st.first (st.second ++ st.third))
    ∙ ap (after (start_of s.start)) (sym st.joined)

-- the map at the end of the second stretch
pub below_fresh : (s : Layers) (st : StandForMap s) → overlay s.base (frozen_marks s.frozen) ≡ (frozen_point s st).dictionary.pairs
below_fresh s st =
    ap (λ (rows : List Row). overlay rows (frozen_marks s.frozen)) st.base
    ∙ layer_is_map (installed_point s st) st.second (frozen_marks s.frozen) (after_keeps (start_of s.start) st.first st.map) st.frozen

-- the layers hold the map after their journal
pub map_held : (s : Layers) → StandForMap s → map_in s ≡ (now s).dictionary.pairs
map_held s st =
    ap (λ (rows : List Row). overlay rows s.fresh) (below_fresh s st)
    ∙ layer_is_map (frozen_point s st) st.third s.fresh (after_keeps (installed_point s st) st.second (after_keeps (start_of s.start) st.first st.map)) st.fresh
    ∙ ap (λ (q : Point). q.dictionary.pairs) (at_end s st)

-- a dictionary of these parts
abbrev made_of : List Row → ℕ → ℕ → Dictionary
made_of pairs life cap = record { pairs = pairs; life = life; cap = cap }

-- the layers hold the dictionary after their journal
pub dictionary_held : (s : Layers) → StandForMap s → dictionary_in s ≡ (now s).dictionary
dictionary_held s st = parts (map_held s st) st.life (sym (after_cap (start_of s.start) s.journal))
  where
    parts : {a b : List Row} {c d e f : ℕ} → a ≡ b → c ≡ d → e ≡ f → made_of a c e ≡ made_of b d f
    parts x y z i = made_of (x i) (y i) (z i)

-- what the layers say of a pair, the newest first, is what the history says of it
pub pair_held : (s : Layers) → StandForMap s → (key phrase : List ℕ)
    → says_over s.fresh key phrase (says_over (frozen_marks s.frozen) key phrase (row_of s.base key phrase)) ≡ row_of (now s).dictionary.pairs key phrase
pair_held s st key phrase =
    let base_map : is_map s.base ≡ true = subst (λ (rows : List Row). is_map rows ≡ true) (sym st.base) (after_keeps (start_of s.start) st.first st.map) in
    let below_map : is_map (overlay s.base (frozen_marks s.frozen)) ≡ true = overlay_map s.base (frozen_marks s.frozen) base_map st.frozen.layer in
    ap (says_over s.fresh key phrase) (sym (overlay_says s.base (frozen_marks s.frozen) key phrase base_map st.frozen.layer))
    ∙ sym (overlay_says (overlay s.base (frozen_marks s.frozen)) s.fresh key phrase below_map st.fresh.layer)
    ∙ ap (λ (rows : List Row). row_of rows key phrase) (map_held s st)

-- the journal begins with the first stretch, and with the first two
first_part : (s : Layers) (st : StandForMap s) → take s.installed s.journal ≡ st.first
first_part s st = ap₂ (λ (n : ℕ) (l : List Entry). take n l) st.installed st.joined ∙ take_front st.first (st.second ++ st.third)

two_parts : (s : Layers) (st : StandForMap s) (waiting : Waiting) → s.frozen ≡ Some waiting → take waiting.number s.journal ≡ st.first ++ st.second
two_parts s st waiting e =
    let w = subst (WaitsAfter (installed_point s st) st.second (length st.first + length st.second)) e st.waits in
    ap₂ (λ (n : ℕ) (l : List Entry). take n l) w.0 st.joined ∙ take_two st.first st.second st.third

-- the base is the map of the installed entries
pub base_held : (s : Layers) → StandForMap s → s.base ≡ (after (start_of s.start) (take s.installed s.journal)).dictionary.pairs
base_held s st = st.base ∙ ap (λ (h : List Entry). (after (start_of s.start) h).dictionary.pairs) (sym (first_part s st))

-- what waits, over the base, is the map of the entries before it was frozen
pub frozen_held : (s : Layers) → StandForMap s → (waiting : Waiting) → s.frozen ≡ Some waiting
    → overlay s.base waiting.marks ≡ (after (start_of s.start) (take waiting.number s.journal)).dictionary.pairs
frozen_held s st waiting e =
    ap (λ (f : Option Waiting). overlay s.base (frozen_marks f)) (sym e)
    ∙ below_fresh s st
    ∙ ap (λ (q : Point). q.dictionary.pairs) (sym (after_joined (start_of s.start) st.first st.second))
    ∙ ap (λ (h : List Entry). (after (start_of s.start) h).dictionary.pairs) (sym (two_parts s st waiting e))

-- and its life is the life then
pub frozen_life : (s : Layers) → StandForMap s → (waiting : Waiting) → s.frozen ≡ Some waiting
    → waiting.life ≡ (after (start_of s.start) (take waiting.number s.journal)).dictionary.life
frozen_life s st waiting e =
    let w = subst (WaitsAfter (installed_point s st) st.second (length st.first + length st.second)) e st.waits in
    w.1
    ∙ ap (λ (q : Point). q.dictionary.life) (sym (after_joined (start_of s.start) st.first st.second))
    ∙ ap (λ (h : List Entry). (after (start_of s.start) h).dictionary.life) (sym (two_parts s st waiting e))

-- what waits has a mark for exactly the pairs touched from the installed entries to its own number
pub frozen_pairs : (s : Layers) → StandForMap s → (waiting : Waiting) → s.frozen ≡ Some waiting → (key phrase : List ℕ)
    → is_some (mark_of waiting.marks key phrase) ≡ touched (start_of s.start) s.journal s.installed waiting.number key phrase
frozen_pairs s st waiting e key phrase =
    let w = subst (WaitsAfter (installed_point s st) st.second (length st.first + length st.second)) e st.waits in
    ap (λ (f : Option Waiting). is_some (mark_of (frozen_marks f) key phrase)) (sym e)
    ∙ st.frozen.pairs key phrase
    ∙ sym (touched_second (start_of s.start) st.first st.second st.third key phrase)
    ∙ ap₂ (λ (h : List Entry) (n : ℕ). touched (start_of s.start) h (length st.first) n key phrase) (sym st.joined) (sym w.0)
    ∙ ap (λ (n : ℕ). touched (start_of s.start) s.journal n waiting.number key phrase) (sym st.installed)

-- where the fresh marks begin: at the number that waits, or at the installed entries
begins : (s : Layers) (st : StandForMap s) (frozen : Option Waiting) → s.frozen ≡ frozen → length (st.first ++ st.second) ≡ option_map_or (λ waiting. waiting.number) frozen s.installed
begins s st None e =
    let none : st.second ≡ [] = subst (WaitsAfter (installed_point s st) st.second (length st.first + length st.second)) e st.waits in
    ap (λ (l : List Entry). length (st.first ++ l)) none ∙ ap length (append-nil st.first) ∙ sym st.installed
begins s st (Some waiting) e =
    let w = subst (WaitsAfter (installed_point s st) st.second (length st.first + length st.second)) e st.waits in
    length-append st.first st.second ∙ sym w.0

-- the fresh marks are for exactly the pairs touched from there on
pub fresh_pairs : (s : Layers) → StandForMap s → (key phrase : List ℕ)
    → is_some (mark_of s.fresh key phrase) ≡ touched (start_of s.start) s.journal (option_map_or (λ waiting. waiting.number) s.frozen s.installed) (length s.journal) key phrase
fresh_pairs s st key phrase =
    st.fresh.pairs key phrase
    ∙ ap (λ (q : Point). touches q st.third key phrase) (sym (after_joined (start_of s.start) st.first st.second))
    ∙ sym (touched_second (start_of s.start) (st.first ++ st.second) st.third [] key phrase)
    ∙ ap₂ (λ (h : List Entry) (n : ℕ). touched (start_of s.start) h (length (st.first ++ st.second)) n key phrase) whole (sym (length-append (st.first ++ st.second) st.third) ∙ ap length again)
    ∙ ap (λ (n : ℕ). touched (start_of s.start) s.journal n (length s.journal) key phrase) (begins s st s.frozen refl)
  where
    again : (st.first ++ st.second) ++ st.third ≡ s.journal
    again = append_assoc st.first st.second st.third ∙ sym st.joined

    whole : (st.first ++ st.second) ++ (st.third ++ []) ≡ s.journal
    whole = ap (λ (l : List Entry). (st.first ++ st.second) ++ l) (append-nil st.third) ∙ again

-- new layers stand for the map that they are over
pub start_stands : (start : Dictionary) → is_map start.pairs ≡ true → StandForMap (layers_of start)
start_stands start m = record {
  first = [];
  second = [];
  third = [];
  joined = refl;
  map = m;
  installed = refl;
  base = refl;
  frozen = layer_of_nothing (start_of start);
  waits = refl;
  fresh = layer_of_nothing (start_of start);
  life = refl;
  shape = refl;
}

-- the point after one entry more
pub entry_later : (s : Layers) (e : Entry) → after (start_of s.start) (s.journal ++ e ∷ []) ≡ (answer (now s) e.call).point
entry_later s e = after_joined (start_of s.start) s.journal (e ∷ [])

-- a journal of three stretches with one entry more
three_later : (first second third : List Entry) (e : Entry) → (first ++ (second ++ third)) ++ e ∷ [] ≡ first ++ (second ++ (third ++ e ∷ []))
three_later first second third e = append_assoc first (second ++ third) (e ∷ []) ∙ ap (λ (l : List Entry). first ++ l) (append_assoc second third (e ∷ []))

pub joined_later : (s : Layers) (st : StandForMap s) (e : Entry) → s.journal ++ e ∷ [] ≡ st.first ++ (st.second ++ (st.third ++ e ∷ []))
joined_later s st e = ap (λ (l : List Entry). l ++ e ∷ []) st.joined ∙ three_later st.first st.second st.third e

-- a call that isn't the keeper's leaves the shape
shape_stays : (p : Point) (call : Call) → is_keepers call ≡ false → (answer p call).point.shape ≡ p.shape
shape_stays p (Look run) f = refl
shape_stays p (Learn key phrase orig peak) f = refl
shape_stays p (Forget key phrase) f = refl
shape_stays p (Hide key phrase) f = refl
shape_stays p Freeze f = absurd (true≢false f)
shape_stays p (Install number) f = absurd (true≢false f)

-- layers that stand for the map with one entry more, which gave these fresh marks and left this life
with_fresh : (s : Layers) (st : StandForMap s) (e : Entry) (fresh : List Marked) (life : ℕ)
    → IsLayerOf (frozen_point s st) (st.third ++ e ∷ []) fresh → life ≡ (answer (now s) e.call).point.dictionary.life
    → (answer (now s) e.call).point.shape ≡ (now s).shape
    → StandForMap (record s { fresh = fresh; life = life; journal = s.journal ++ e ∷ [] })
with_fresh s st e fresh life l lives same = record {
  first = st.first;
  second = st.second;
  third = st.third ++ e ∷ [];
  joined = joined_later s st e;
  map = st.map;
  installed = st.installed;
  base = st.base;
  frozen = st.frozen;
  waits = st.waits;
  fresh = l;
  life = lives ∙ ap (λ (q : Point). q.dictionary.life) (sym (entry_later s e));
  shape = ap (λ (q : Point). q.shape) (entry_later s e) ∙ same ∙ st.shape;
}

-- a call that changes no pair and isn't the keeper's is noted
pub same_stands : (s : Layers) (e : Entry) → StandForMap s → is_keepers e.call ≡ false → tells_change (answer (now s) e.call).reply ≡ false → StandForMap (noted s e)
same_stands s e st k f =
    with_fresh s st e s.fresh s.life
    (layer_unchanged (frozen_point s st) st.third s.fresh e st.fresh (ap (λ (q : Point). tells_change (answer q e.call).reply) (at_end s st) ∙ f))
    (st.life ∙ ap (λ (d : Dictionary). d.life) (sym (unchanged (now s) e.call f)))
    (shape_stays (now s) e.call k)

-- a call that changes its pair gives it the mark of what it is then
pub changed_stands : (s : Layers) (e : Entry) (m : Marked) → StandForMap s → is_about m.key m.phrase e.call ≡ true → tells_change (answer (now s) e.call).reply ≡ true
    → row_of (answer (now s) e.call).point.dictionary.pairs m.key m.phrase ≡ row_of_mark m.key m.phrase m.mark
    → StandForMap (marked_by s e m (answer (now s) e.call).point.dictionary.life)
changed_stands s e m st about tells left =
    with_fresh s st e (put_mark m s.fresh) (answer (now s) e.call).point.dictionary.life
    (layer_changed (frozen_point s st) st.third s.fresh e m st.fresh about
    (ap (λ (q : Point). tells_change (answer q e.call).reply) (at_end s st) ∙ tells)
    (ap (λ (q : Point). row_of (answer q e.call).point.dictionary.pairs m.key m.phrase) (at_end s st) ∙ left))
    refl
    (shape_stays (now s) e.call (not_keepers e.call about))
  where
    not_keepers : (call : Call) → is_about m.key m.phrase call ≡ true → is_keepers call ≡ false
    not_keepers (Look run) t = refl
    not_keepers (Learn key phrase orig peak) t = refl
    not_keepers (Forget key phrase) t = refl
    not_keepers (Hide key phrase) t = refl
    not_keepers Freeze t = absurd (true≢false (sym t))
    not_keepers (Install number) t = absurd (true≢false (sym t))
