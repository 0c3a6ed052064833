-- What each call makes of layers that stand for the plain map.
use Rattle.std.proofs.Common.{◌≡◌, ℕ, ◌+◌, ◌-◌, ◌≤◌, ◌^◌, min, true, false, List, [], ◌∷◌, ◌++◌, length, refl, ap, sym, ◌∙◌, subst, IsSome, true≢false, Option, Some, None, option_map, Result, Ok, Err, IfOk, arith}
use Rattle.chew_spec_syllable.specs.Row.{Row}
use Rattle.chew_spec_dictionary.specs.Call.{Call, Look, Learn, Forget, Hide, Freeze, Install, Full, NotThere, Reply}
use Rattle.chew_spec_dictionary.specs.Dictionary.{Dictionary, Outcome, forget, hid, hide, is_map, learn, put_pair, time_of_learn}
use Rattle.chew_spec_dictionary.specs.HiddenPairs.{hidden_time}
use Rattle.chew_spec_dictionary.specs.History.{Entry, answer}
use Rattle.chew_spec_dictionary.specs.System.{row_of}
use Rattle.chew_spec_dictionary.proofs.Counts.{count_forgot, count_put, missed}
use Rattle.chew_spec_dictionary.proofs.Hiding.{life_hidden}
use Rattle.chew_spec_dictionary.proofs.Learning.{forgot_where}
use Rattle.chew_spec_dictionary.proofs.Pairs.{put_found}
use Rattle.chew_spec_layers.specs.Layers.{Layers, Waiting, dictionary_in, frozen_marks, layers_of, map_in, marked_by, noted}
use Rattle.chew_spec_layers.specs.Mark.{Marked, Live, Grave}
use Rattle.chew_spec_layers.specs.Overlay.{overlay}
use Rattle.chew_spec_layers.specs.Standing.{StandForMap}
use Rattle.chew_spec_layers.specs.Touches.{tells_change}
use Rattle.chew_spec_layers.proofs.Standings.{changed_stands, dictionary_held, now, start_stands}
use Rattle.chew_spec_layers.proofs.Steps.{forget_stands, freeze_again_stands, freeze_stands, full_stands, hide_same_stands, install_stands, learn_stands, look_stands, not_there_stands}
use Rattle.chew_spec_layers.proofs.Touches.{about_itself}
use Rattle.chew_layers.specs.OneMore.{IsHide, IsLearn, IsOneMore}
use Rattle.chew_layers.proofs.Keeping.{held_is_map, later_map}

-- one entry more, where no pair or one pair changed
pub noted_more : (s now : Layers) (e : Entry) → StandForMap (noted s e) → length (map_in s) ≤ 200_000 → now ≡ noted s e → IsOneMore s now e
noted_more s now e later few same = subst (λ (n : Layers). IsOneMore s n e) (sym same) (record {
  journal = refl;
  start = refl;
  base = refl;
  frozen = refl;
  installed = refl;
  stands = later;
  few = few;
})

pub marked_more : (s now : Layers) (e : Entry) (m : Marked) (life : ℕ) → StandForMap (marked_by s e m life) → length (map_in (marked_by s e m life)) ≤ 200_000
    → now ≡ marked_by s e m life → IsOneMore s now e
marked_more s now e m life later few same = subst (λ (n : Layers). IsOneMore s n e) (sym same) (record {
  journal = refl;
  start = refl;
  base = refl;
  frozen = refl;
  installed = refl;
  stands = later;
  few = few;
})

module _ (s : Layers) (st : StandForMap s) (who : ℕ) where
  -- calls that change no pair
  pub noted_look : (call : Call) (run : List ℕ) → call ≡ Look run → StandForMap (noted s (record { who = who; call = call }))
  noted_look call run e = subst (λ (c : Call). StandForMap (noted s (record { who = who; call = c }))) (sym e) (look_stands s who run st)

  pub noted_full : (call : Call) (key phrase : List ℕ) (orig peak : ℕ) → call ≡ Learn key phrase orig peak → (learn (dictionary_in s) key phrase orig peak).reply ≡ Full
      → StandForMap (noted s (record { who = who; call = call }))
  noted_full call key phrase orig peak e r = subst (λ (c : Call). StandForMap (noted s (record { who = who; call = c }))) (sym e) (full_stands s who key phrase orig peak st r)

  pub noted_not_there : (call : Call) (key phrase : List ℕ) → call ≡ Forget key phrase → (forget (dictionary_in s) key phrase).reply ≡ NotThere
      → StandForMap (noted s (record { who = who; call = call }))
  noted_not_there call key phrase e r = subst (λ (c : Call). StandForMap (noted s (record { who = who; call = c }))) (sym e) (not_there_stands s who key phrase st r)

  pub noted_hide : (call : Call) (key phrase : List ℕ) (reply : Reply) → call ≡ Hide key phrase → (hide (dictionary_in s) key phrase).reply ≡ reply → tells_change reply ≡ false
      → StandForMap (noted s (record { who = who; call = call }))
  noted_hide call key phrase reply e r t = subst (λ (c : Call). StandForMap (noted s (record { who = who; call = c }))) (sym e) (hide_same_stands s who key phrase st (ap tells_change r ∙ t))

  pub noted_freeze : (waiting : Waiting) → s.frozen ≡ Some waiting → StandForMap (noted s (record { who = who; call = Freeze }))
  noted_freeze waiting e = freeze_again_stands s who waiting st e

  -- a learn
  module _ (call : Call) (key phrase : List ℕ) (freq time life : ℕ) (h : IsLearn s (record { who = who; call = call }) key phrase freq)
      (t : time ≡ min s.life (2 ^ 64 - 2)) (l : life ≡ min (s.life + 1) (2 ^ 64 - 1)) where
    pub learnt_stands : StandForMap (marked_by s (record { who = who; call = call }) (record { key = key; phrase = phrase; mark = Live freq time }) life)
    learnt_stands =
        subst (λ (c : Call). StandForMap (marked_by s (record { who = who; call = c }) (record { key = key; phrase = phrase; mark = Live freq time }) life)) (sym h.call)
        (subst (λ (n : ℕ). StandForMap (marked_by s (record { who = who; call = Learn key phrase h.orig h.peak }) (record { key = key; phrase = phrase; mark = Live freq n }) life)) (sym t)
        (subst (λ (n : ℕ). StandForMap (marked_by s (record { who = who; call = Learn key phrase h.orig h.peak }) (record { key = key; phrase = phrase; mark = Live freq (min s.life (2 ^ 64 - 2)) }) n)) (sym l)
        (learn_stands s who key phrase h.orig h.peak freq (min s.life (2 ^ 64 - 2)) st (ap (λ (o : Outcome). o.reply) h.outcome))))

    pub learnt_map : map_in (marked_by s (record { who = who; call = call }) (record { key = key; phrase = phrase; mark = Live freq time }) life)
        ≡ put_pair (dictionary_in s) key phrase freq (time_of_learn (dictionary_in s))
    learnt_map =
        later_map s (marked_by s (record { who = who; call = call }) (record { key = key; phrase = phrase; mark = Live freq time }) life) (record { who = who; call = call }) st learnt_stands refl refl
        ∙ ap (λ (c : Call). (answer (now s) c).point.dictionary.pairs) h.call
        ∙ ap (λ (d : Dictionary). (learn d key phrase h.orig h.peak).left.pairs) (sym (dictionary_held s st))
        ∙ ap (λ (o : Outcome). o.left.pairs) h.outcome

    pub learnt_more : (later : Layers) (count : ℕ) → count ≤ 200_000 → count ≡ length (put_pair (dictionary_in s) key phrase freq (time_of_learn (dictionary_in s)))
        → later ≡ marked_by s (record { who = who; call = call }) (record { key = key; phrase = phrase; mark = Live freq time }) life → IsOneMore s later (record { who = who; call = call })
    learnt_more later count few c same =
        marked_more s later (record { who = who; call = call }) (record { key = key; phrase = phrase; mark = Live freq time }) life learnt_stands
        (subst (λ (n : ℕ). n ≤ 200_000) (c ∙ ap (λ (rows : List Row). length rows) (sym learnt_map)) few) same

  -- a hide
  module _ (call : Call) (key phrase : List ℕ) (freq life : ℕ) (h : IsHide s (record { who = who; call = call }) key phrase freq) (l : life ≡ s.life) where
    hidden_now : hide (now s).dictionary key phrase ≡ hid (now s).dictionary key phrase freq
    hidden_now = subst (λ (d : Dictionary). hide d key phrase ≡ hid d key phrase freq) (dictionary_held s st) h.outcome

    pub hidden_stands : StandForMap (marked_by s (record { who = who; call = call }) (record { key = key; phrase = phrase; mark = Live freq hidden_time }) life)
    hidden_stands =
        subst (λ (c : Call). StandForMap (marked_by s (record { who = who; call = c }) (record { key = key; phrase = phrase; mark = Live freq hidden_time }) life)) (sym h.call)
        (subst (λ (n : ℕ). StandForMap (marked_by s (record { who = who; call = Hide key phrase }) (record { key = key; phrase = phrase; mark = Live freq hidden_time }) n))
        (life_hidden (now s).dictionary key phrase ∙ ap (λ (d : Dictionary). d.life) (sym (dictionary_held s st)) ∙ sym l)
        (changed_stands s (record { who = who; call = Hide key phrase }) (record { key = key; phrase = phrase; mark = Live freq hidden_time }) st (about_itself key phrase)
        (ap (λ (o : Outcome). tells_change o.reply) hidden_now)
        (ap (λ (o : Outcome). row_of o.left.pairs key phrase) hidden_now ∙ put_found (record { key = key; phrase = phrase; freq = freq; time = hidden_time }) (now s).dictionary.pairs)))

    pub hidden_map : map_in (marked_by s (record { who = who; call = call }) (record { key = key; phrase = phrase; mark = Live freq hidden_time }) life)
        ≡ put_pair (dictionary_in s) key phrase freq hidden_time
    hidden_map =
        later_map s (marked_by s (record { who = who; call = call }) (record { key = key; phrase = phrase; mark = Live freq hidden_time }) life) (record { who = who; call = call }) st hidden_stands refl refl
        ∙ ap (λ (c : Call). (answer (now s) c).point.dictionary.pairs) h.call
        ∙ ap (λ (d : Dictionary). (hide d key phrase).left.pairs) (sym (dictionary_held s st))
        ∙ ap (λ (o : Outcome). o.left.pairs) h.outcome

    pub hidden_more : (later : Layers) (count : ℕ) → count ≤ 200_000 → count ≡ length (put_pair (dictionary_in s) key phrase freq hidden_time)
        → later ≡ marked_by s (record { who = who; call = call }) (record { key = key; phrase = phrase; mark = Live freq hidden_time }) life → IsOneMore s later (record { who = who; call = call })
    hidden_more later count few c same =
        marked_more s later (record { who = who; call = call }) (record { key = key; phrase = phrase; mark = Live freq hidden_time }) life hidden_stands
        (subst (λ (n : ℕ). n ≤ 200_000) (c ∙ ap (λ (rows : List Row). length rows) (sym hidden_map)) few) same

  -- a forget
  module _ (call : Call) (key phrase : List ℕ) (row : Row) (life : ℕ) (e : call ≡ Forget key phrase) (h : row_of (map_in s) key phrase ≡ Some row) (l : life ≡ s.life) where
    pub buried_stands : StandForMap (marked_by s (record { who = who; call = call }) (record { key = key; phrase = phrase; mark = Grave }) life)
    buried_stands =
        subst (λ (c : Call). StandForMap (marked_by s (record { who = who; call = c }) (record { key = key; phrase = phrase; mark = Grave }) life)) (sym e)
        (subst (λ (n : ℕ). StandForMap (marked_by s (record { who = who; call = Forget key phrase }) (record { key = key; phrase = phrase; mark = Grave }) n)) (sym l)
        (forget_stands s who key phrase st (forgot_where (dictionary_in s) key phrase row h)))

    pub buried_count : length (map_in (marked_by s (record { who = who; call = call }) (record { key = key; phrase = phrase; mark = Grave }) life)) + 1 ≡ length (map_in s)
    buried_count =
        ap (λ (rows : List Row). length rows + 1)
        (later_map s (marked_by s (record { who = who; call = call }) (record { key = key; phrase = phrase; mark = Grave }) life) (record { who = who; call = call }) st buried_stands refl refl
        ∙ ap (λ (c : Call). (answer (now s) c).point.dictionary.pairs) e
        ∙ ap (λ (d : Dictionary). (forget d key phrase).left.pairs) (sym (dictionary_held s st)))
        ∙ count_forgot (dictionary_in s) key phrase row (held_is_map s st) h

    pub buried_more : (later : Layers) → length (map_in s) ≤ 200_000
        → later ≡ marked_by s (record { who = who; call = call }) (record { key = key; phrase = phrase; mark = Grave }) life → IsOneMore s later (record { who = who; call = call })
    buried_more later few same =
        marked_more s later (record { who = who; call = call }) (record { key = key; phrase = phrase; mark = Grave }) life buried_stands (omega (arith, few, buried_count)) same

-- the row that is there
pub some_row : (o : Option Row) → IsSome o → (row : Row) × (o ≡ Some row)
some_row None h = absurd (true≢false (sym h))
some_row (Some row) h = (row, refl)

-- how many pairs there are once one that is held, or a new one, was put in
pub count_of_held : (s : Layers) (key phrase : List ℕ) (row : Row) (count : ℕ) → StandForMap s → row_of (map_in s) key phrase ≡ Some row → count ≡ length (map_in s)
    → (freq time : ℕ) → count ≡ length (put_pair (dictionary_in s) key phrase freq time)
count_of_held s key phrase row count st h e freq time =
    omega (arith, e, count_put (record { key = key; phrase = phrase; freq = freq; time = time }) (map_in s) (held_is_map s st), ap missed h)

pub count_of_new : (s : Layers) (key phrase : List ℕ) (count : ℕ) → StandForMap s → row_of (map_in s) key phrase ≡ None → count ≡ length (map_in s) + 1
    → (freq time : ℕ) → count ≡ length (put_pair (dictionary_in s) key phrase freq time)
count_of_new s key phrase count st h e freq time =
    omega (arith, e, count_put (record { key = key; phrase = phrase; freq = freq; time = time }) (map_in s) (held_is_map s st), ap missed h)

-- a freeze where nothing waits, and an install
pub freeze_keeps : (s : Layers) (who : ℕ) (marks fresh : List Marked) (number : ℕ) (journal : List Entry) → StandForMap s → s.frozen ≡ None → marks ≡ s.fresh → fresh ≡ []
    → number ≡ length s.journal → journal ≡ s.journal ++ record { who = who; call = Freeze } ∷ []
    → StandForMap (record s { frozen = Some (record { marks = marks; number = number; life = s.life }); fresh = fresh; journal = journal })
freeze_keeps s who marks fresh number journal st e m f n j =
    subst (λ (l : List Marked). StandForMap (record s { frozen = Some (record { marks = l; number = number; life = s.life }); fresh = fresh; journal = journal })) (sym m)
    (subst (λ (l : List Marked). StandForMap (record s { frozen = Some (record { marks = s.fresh; number = number; life = s.life }); fresh = l; journal = journal })) (sym f)
    (subst (λ (k : ℕ). StandForMap (record s { frozen = Some (record { marks = s.fresh; number = k; life = s.life }); fresh = []; journal = journal })) (sym n)
    (subst (λ (l : List Entry). StandForMap (record s { frozen = Some (record { marks = s.fresh; number = length s.journal; life = s.life }); fresh = []; journal = l })) (sym j)
    (freeze_stands s who st e))))

pub some_waiting : (o : Option Waiting) → IsSome o → (waiting : Waiting) × (o ≡ Some waiting)
some_waiting None h = absurd (true≢false (sym h))
some_waiting (Some waiting) h = (waiting, refl)

-- the marks of what waits
pub marks_waiting : {X : Type 0} (f : X → Waiting) (marks : List Marked) → ((x : X) → (f x).marks ≡ marks) → (o : Option X) → IsSome (option_map f o) → frozen_marks (option_map f o) ≡ marks
marks_waiting f marks h None some = absurd (true≢false (sym some))
marks_waiting f marks h (Some x) some = h x

pub installed_keeps : (s : Layers) (who : ℕ) (first rows : List Row) (number : ℕ) (journal : List Entry) → StandForMap s → (waiting : Waiting) → s.frozen ≡ Some waiting → s.start.pairs ≡ first
    → rows ≡ overlay s.base (frozen_marks s.frozen) → number ≡ waiting.number → journal ≡ s.journal ++ record { who = who; call = Install number } ∷ []
    → StandForMap (record s { start = record s.start { pairs = first }; base = rows; frozen = None; installed = number; journal = journal })
installed_keeps s who first rows number journal st waiting e f r n j =
    subst (λ (l : List Row). StandForMap (record s { start = record s.start { pairs = l }; base = rows; frozen = None; installed = number; journal = journal })) f
    (subst (λ (l : List Entry). StandForMap (record s { base = rows; frozen = None; installed = number; journal = l })) (sym j)
    (subst (λ (k : ℕ). StandForMap (record s { base = rows; frozen = None; installed = k; journal = s.journal ++ record { who = who; call = Install k } ∷ [] })) (sym n)
    (install_stands s who waiting rows st e (r ∙ ap (λ (o : Option Waiting). overlay s.base (frozen_marks o)) e))))

-- new layers over a base
pub new_keeps : (start : Dictionary) (fresh : List Marked) (journal : List Entry) → is_map start.pairs ≡ true → fresh ≡ [] → journal ≡ []
    → StandForMap (record (layers_of start) { fresh = fresh; journal = journal })
new_keeps start fresh journal m f j =
    subst (λ (l : List Marked). StandForMap (record (layers_of start) { fresh = l; journal = journal })) (sym f)
    (subst (λ (l : List Entry). StandForMap (record (layers_of start) { fresh = []; journal = l })) (sym j) (start_stands start m))

-- a reply that is another
pub ok_reply : {T E A : Type 0} (r : Result T E) (f : T → A) (a b : A) → IfOk r (λ x. f x ≡ a) → a ≡ b → IfOk r (λ x. f x ≡ b)
ok_reply (Ok x) f a b p e = p ∙ e
ok_reply (Err x) f a b p e = tt

-- something isn't nothing
pub not_none : {X : Type 0} (x : X) → Some x ≡ None → ⊥
not_none x e = cc
