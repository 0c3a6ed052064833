-- What a call and a history change, and what they leave as it was.
use Rattle.std.proofs.Common.{◌≡◌, ℕ, ◌+◌, Bool, true, false, List, [], ◌∷◌, ◌++◌, ◌&&◌, ◌||◌, length, take, drop, length-append, append_assoc, refl, ap, ap₂, sym, ◌∙◌, ⊎_elim, true≢false, ◌≤◌, None}
use Rattle.std.specs.Str.{bytes_eq}
use Rattle.std.proofs.lemmas.Bool.{and_parts, and_from, or_parts, false_from_ne_true}
use Rattle.std.proofs.lemmas.Slice.Eq.{bytes_eq-Decides}
use Rattle.chew_spec_dictionary.specs.System.{row_of}
use Rattle.chew_spec_dictionary.specs.Dictionary.{Dictionary, Outcome, learn, learned, forget, hide}
use Rattle.chew_spec_dictionary.specs.Call.{Call, Look, Learn, Forget, Hide, Freeze, Install, Full}
use Rattle.chew_spec_dictionary.specs.History.{Point, Entry, answer, after}
use Rattle.chew_spec_dictionary.proofs.Learning.{learn_cases, by_forget, others_learned, others_forgot}
use Rattle.chew_spec_dictionary.proofs.Hiding.{by_hide, others_hidden}
use Rattle.chew_spec_layers.specs.Touches.{tells_change, is_about, changes, touches, touched}

-- one of three, grouped either way
or_beside : (a b c d : Bool) → b ≡ c || d → a || b ≡ (a || c) || d
or_beside true b c d e = refl
or_beside false b c d e = e

-- what two histories touch is what the first does and what the second does from the point after it
pub touches_joined : (p : Point) (h more : List Entry) (key phrase : List ℕ) → touches p (h ++ more) key phrase ≡ touches p h key phrase || touches (after p h) more key phrase
touches_joined p [] more key phrase = refl
touches_joined p (e ∷ h) more key phrase = or_beside (changes p e.call key phrase) _ _ _ (touches_joined (answer p e.call).point h more key phrase)

-- a learn whose reply tells of no change leaves all as it was
learn_unchanged : (had : Dictionary) (key phrase : List ℕ) (orig peak : ℕ) → tells_change (learn had key phrase orig peak).reply ≡ false → (learn had key phrase orig peak).left ≡ had
learn_unchanged had key phrase orig peak t = ⊎_elim
    (λ (f : (row_of had.pairs key phrase ≡ None) × (had.cap ≤ length had.pairs) × (learn had key phrase orig peak ≡ record { left = had; reply = Full })). ap (λ (o : Outcome). o.left) f.2)
    (λ (l : (freq : ℕ) × (learn had key phrase orig peak ≡ learned had key phrase freq) × ((row_of had.pairs key phrase ≡ None) × (had.cap ≤ length had.pairs) → ⊥)).
    absurd (true≢false (sym (ap (λ (o : Outcome). tells_change o.reply) l.1) ∙ t)))
    (learn_cases had key phrase orig peak)

-- so does a forget, and a hide
forget_unchanged : (had : Dictionary) (key phrase : List ℕ) → tells_change (forget had key phrase).reply ≡ false → (forget had key phrase).left ≡ had
forget_unchanged had key phrase = by_forget had key phrase (λ o. tells_change o.reply ≡ false → o.left ≡ had) (λ n t. refl) (λ s t. absurd (true≢false t))

hide_unchanged : (had : Dictionary) (key phrase : List ℕ) → tells_change (hide had key phrase).reply ≡ false → (hide had key phrase).left ≡ had
hide_unchanged had key phrase = by_hide had key phrase (λ o. tells_change o.reply ≡ false → o.left ≡ had)
    (λ row e h t. refl) (λ row e h t. absurd (true≢false t)) (λ n l t. refl) (λ n l t. absurd (true≢false t))

-- a call whose reply tells of no change leaves the dictionary as it was
pub unchanged : (p : Point) (call : Call) → tells_change (answer p call).reply ≡ false → (answer p call).point.dictionary ≡ p.dictionary
unchanged p (Look run) t = refl
unchanged p (Learn key phrase orig peak) t = learn_unchanged p.dictionary key phrase orig peak t
unchanged p (Forget key phrase) t = forget_unchanged p.dictionary key phrase t
unchanged p (Hide key phrase) t = hide_unchanged p.dictionary key phrase t
unchanged p Freeze t = refl
unchanged p (Install number) t = refl

-- two pairs are one
pair_same : (a b x y : List ℕ) → bytes_eq a x && bytes_eq b y ≡ true → (a ≡ x) × (b ≡ y)
pair_same a b x y e = let both = and_parts (bytes_eq a x) (bytes_eq b y) e in ((bytes_eq-Decides a x).0 both.0, (bytes_eq-Decides b y).0 both.1)

pair_itself : (a b x y : List ℕ) → a ≡ x → b ≡ y → bytes_eq a x && bytes_eq b y ≡ true
pair_itself a b x y k p = and_from _ _ ((bytes_eq-Decides a x).1 k) ((bytes_eq-Decides b y).1 p)

-- two pairs that are not one
pair_other : (a b x y : List ℕ) → bytes_eq a x && bytes_eq b y ≡ false → a ≡ x → b ≡ y → ⊥
pair_other a b x y f k p = true≢false (sym (pair_itself a b x y k p) ∙ f)

-- a call that is not about a pair leaves its row
pub not_about : (p : Point) (call : Call) (key phrase : List ℕ) → is_about key phrase call ≡ false → row_of (answer p call).point.dictionary.pairs key phrase ≡ row_of p.dictionary.pairs key phrase
not_about p (Look run) key phrase f = refl
not_about p (Learn k q orig peak) key phrase f = others_learned p.dictionary k q orig peak key phrase (pair_other k q key phrase f)
not_about p (Forget k q) key phrase f = others_forgot p.dictionary k q key phrase (pair_other k q key phrase f)
not_about p (Hide k q) key phrase f = others_hidden p.dictionary k q key phrase (pair_other k q key phrase f)
not_about p Freeze key phrase f = refl
not_about p (Install number) key phrase f = refl

-- a call that is about one pair is about no other
pub about_one : (call : Call) (key phrase k q : List ℕ) → is_about key phrase call ≡ true → (key ≡ k → phrase ≡ q → ⊥) → is_about k q call ≡ false
about_one (Look run) key phrase k q t other = refl
about_one (Learn x y orig peak) key phrase k q t other = let one = pair_same x y key phrase t in false_from_ne_true _ (λ u. let two = pair_same x y k q u in other (sym one.0 ∙ two.0) (sym one.1 ∙ two.1))
about_one (Forget x y) key phrase k q t other = let one = pair_same x y key phrase t in false_from_ne_true _ (λ u. let two = pair_same x y k q u in other (sym one.0 ∙ two.0) (sym one.1 ∙ two.1))
about_one (Hide x y) key phrase k q t other = let one = pair_same x y key phrase t in false_from_ne_true _ (λ u. let two = pair_same x y k q u in other (sym one.0 ∙ two.0) (sym one.1 ∙ two.1))
about_one Freeze key phrase k q t other = refl
about_one (Install number) key phrase k q t other = refl

-- a call that does not change a pair leaves its row
pub call_leaves : (p : Point) (call : Call) (key phrase : List ℕ) → changes p call key phrase ≡ false → row_of (answer p call).point.dictionary.pairs key phrase ≡ row_of p.dictionary.pairs key phrase
call_leaves p call key phrase f = by (is_about key phrase call) refl
  where
    by : (b : Bool) → is_about key phrase call ≡ b → row_of (answer p call).point.dictionary.pairs key phrase ≡ row_of p.dictionary.pairs key phrase
    by true t = ap (λ (d : Dictionary). row_of d.pairs key phrase) (unchanged p call (sym (ap (λ (b : Bool). b && tells_change (answer p call).reply) t) ∙ f))
    by false n = not_about p call key phrase n

-- a pair that a history does not touch keeps its row
pub untouched_stays : (p : Point) (h : List Entry) (key phrase : List ℕ) → touches p h key phrase ≡ false → row_of (after p h).dictionary.pairs key phrase ≡ row_of p.dictionary.pairs key phrase
untouched_stays p [] key phrase f = refl
untouched_stays p (e ∷ h) key phrase f =
    let both = or_parts (changes p e.call key phrase) (touches (answer p e.call).point h key phrase) f in
    untouched_stays (answer p e.call).point h key phrase both.1 ∙ call_leaves p e.call key phrase both.0

-- the front of a list, and what is behind it
pub take_front : {X : Type 0} (xs ys : List X) → take (length xs) (xs ++ ys) ≡ xs
take_front [] ys = refl
take_front (x ∷ xs) ys = ap (λ (l : List _). x ∷ l) (take_front xs ys)

drop_front : {X : Type 0} (xs ys : List X) → drop (length xs) (xs ++ ys) ≡ ys
drop_front [] ys = refl
drop_front (x ∷ xs) ys = drop_front xs ys

-- two fronts of a list
pub take_two : {X : Type 0} (xs ys zs : List X) → take (length xs + length ys) (xs ++ (ys ++ zs)) ≡ xs ++ ys
take_two xs ys zs =
    ap (λ (n : ℕ). take n (xs ++ (ys ++ zs))) (sym (length-append xs ys))
    ∙ ap (take (length (xs ++ ys))) (sym (append_assoc xs ys zs))
    ∙ take_front (xs ++ ys) zs

-- what the second of three histories touches, by the places where it begins and ends
pub touched_second : (p : Point) (h middle more : List Entry) (key phrase : List ℕ) → touched p (h ++ (middle ++ more)) (length h) (length h + length middle) key phrase ≡ touches (after p h) middle key phrase
touched_second p h middle more key phrase =
    ap₂ (λ (before stretch : List Entry). touches (after p before) stretch key phrase)
    (take_front h (middle ++ more))
    (ap (drop (length h)) (take_two h middle more) ∙ drop_front h middle)

-- a call of a pair is about it
pub about_itself : (key phrase : List ℕ) → bytes_eq key key && bytes_eq phrase phrase ≡ true
about_itself key phrase = pair_itself key phrase key phrase refl refl
