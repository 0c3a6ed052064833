-- Where the front of a text that begins a phrase ends.
use Rattle.std.proofs.Common.{ℕ, zero, suc, ◌+◌, ◌-◌, ◌*◌, ◌<◌, ◌≤◌, ◌≡◌, true, false, ◌&&◌, ltb, leb, List, [], ◌∷◌, ◌++◌, length, take, drop, refl, subst, sym, ap, ◌∙◌, inl, inr, arith}
use lib.Utf8.{encode, encodes, scalar, scalars}
use Rattle.std.specs.Char.{len_utf8}
use Rattle.std.specs.List.{list_all}
use Rattle.std.specs.Str.{IsUtf8, IsValidUpTo, is_utf8, chars}
use Rattle.std.proofs.Math.Seq.{take-length, take-append-add}
use Rattle.std.proofs.lemmas.Bool.{and_parts, and_from, cond-true, cond-false, cond_both, cases_eq, cases_lt, both_ways, lt-ltb, ltb-true, leb-true, le-leb, false_from_ne_true}
use Rattle.std.proofs.lemmas.List.{length-append, length-take, length-take-le, take-append-drop, append_assoc, take-take}
use Rattle.std.proofs.lemmas.Str.{chars-encodes, chars_past_char, encode_same, encodes-chars, scalars-chars, length-encode, len_utf8_bounds, IsUtf8-from_is_utf8, is_utf8-from_IsUtf8}
use Rattle.chew_spec_syllable.specs.Phrase.{is_allowed, begins_phrase, front_up_to, phrase_end, is_phrase}
use Rattle.chew_syllable.proofs.Texts.{chars_none}
use Rattle.chew_syllable.specs.Front.{IsValidFront, allowed_bytes}

-- the characters of a front: allowed, and at most n
record Spelled (n : ℕ) (text : List ℕ) : Type 0 where
  pub characters : List ℕ
  pub valid : scalars characters ≡ true
  pub spells : encodes characters ≡ text
  pub allowed : list_all is_allowed characters ≡ true
  pub few : length characters ≤ n

-- a front that begins a phrase, by its characters
begins_spelled : (text : List ℕ) → begins_phrase text ≡ true → Spelled 11 text
begins_spelled text e =
    let p = and_parts (is_utf8 text) (list_all is_allowed (chars text) && leb (length (chars text)) 11) e in
    let q = and_parts (list_all is_allowed (chars text)) (leb (length (chars text)) 11) p.1 in
    let valid = IsUtf8-from_is_utf8 text p.0 in
    record {
      characters = chars text;
      valid = scalars-chars text valid;
      spells = encodes-chars text valid;
      allowed = q.0;
      few = leb-true _ _ q.1;
    }

spelled_begins : (text : List ℕ) → Spelled 11 text → begins_phrase text ≡ true
spelled_begins text s =
    let same : chars text ≡ s.characters = ap chars (sym s.spells) ∙ chars-encodes s.characters s.valid in
    and_from _ _ (is_utf8-from_IsUtf8 text (s.characters, (s.valid, s.spells)))
    (and_from _ _ (ap (list_all is_allowed) same ∙ s.allowed) (ap (λ cs. leb (length cs) 11) same ∙ le-leb (length s.characters) 11 s.few))

-- nothing is spelled by no characters
nothing : (n : ℕ) → Spelled n []
nothing n = record { characters = []; valid = refl; spells = refl; allowed = refl; few = omega arith }

-- the allowed characters at the front spell the front of that many bytes
front_spelled : (n : ℕ) (cs : List ℕ) → scalars cs ≡ true → Spelled n (take (allowed_bytes n cs) (encodes cs))
front_spelled zero cs e = nothing zero
front_spelled (suc n) [] e = nothing (suc n)
front_spelled (suc n) (c ∷ cs) e =
    let v = and_parts (scalar c) (scalars cs) e in
    cond_both (is_allowed c) (len_utf8 c + allowed_bytes n cs) 0 (λ k. Spelled (suc n) (take k (encode c ++ encodes cs)))
    (λ yes.
    let r = front_spelled n cs v.1 in
    let k = allowed_bytes n cs in
    record {
      characters = c ∷ r.characters;
      valid = and_from _ _ v.0 r.valid;
      spells = ap (λ xs. encode c ++ xs) r.spells ∙ sym (ap (λ w. take (w + k) (encode c ++ encodes cs)) (sym (length-encode c)) ∙ take-append-add (encode c) (encodes cs) k);
      allowed = and_from _ _ yes r.allowed;
      few = let f = r.few in omega arith;
    })
    (λ no. nothing (suc n))

-- they are within the text
front_within : (n : ℕ) (cs : List ℕ) → allowed_bytes n cs ≤ length (encodes cs)
front_within zero cs = omega arith
front_within (suc n) [] = omega arith
front_within (suc n) (c ∷ cs) =
    cond_both (is_allowed c) (len_utf8 c + allowed_bytes n cs) 0 (λ k. k ≤ length (encode c ++ encodes cs))
    (λ yes. let h = front_within n cs in let w = length-encode c in let l = length-append (encode c) (encodes cs) in omega arith)
    (λ no. omega arith)

-- and no longer front is spelled by allowed characters, up to n of them
front_longest : (ds cs rest : List ℕ) (n : ℕ) → encodes ds ++ rest ≡ encodes cs → list_all is_allowed ds ≡ true → length ds ≤ n → length (encodes ds) ≤ allowed_bytes n cs
front_longest [] cs rest n e a h = omega arith
front_longest (d ∷ ds) cs rest zero e a h = absurd (omega arith)
front_longest (d ∷ ds) [] rest (suc n) e a h =
    let l : length ((encode d ++ encodes ds) ++ rest) ≡ 0 = ap length e in
    let p = length-append (encode d ++ encodes ds) rest in
    let q = length-append (encode d) (encodes ds) in
    let w = length-encode d in
    let b = len_utf8_bounds d in
    absurd (omega arith)
front_longest (d ∷ ds) (c ∷ cs) rest (suc n) e a h =
    let same = encode_same d c (encodes ds ++ rest) (encodes cs) (sym (append_assoc (encode d) (encodes ds) rest) ∙ e) in
    let p = and_parts (is_allowed d) (list_all is_allowed ds) a in
    let inner = front_longest ds cs rest n same.1 p.1 (omega arith) in
    let q = length-append (encode d) (encodes ds) in
    let w : length (encode d) ≡ len_utf8 c = length-encode d ∙ ap len_utf8 same.0 in
    let k = cond-true (is_allowed c) (len_utf8 c + allowed_bytes n cs) 0 (ap is_allowed (sym same.0) ∙ p.0) in
    omega arith

-- the front of a text is known by its length
front_is : (text : List ℕ) (n k : ℕ) → k ≤ n → begins_phrase (take k text) ≡ true → ((m : ℕ) → m ≤ n → begins_phrase (take m text) ≡ true → m ≤ k) → front_up_to text n ≡ k
front_is text zero k h b most = omega arith
front_is text (suc n) k h b most =
    cond_both (begins_phrase (take (suc n) text)) (suc n) (front_up_to text n) (λ r. r ≡ k)
    (λ yes. let l = most (suc n) (omega arith) yes in omega arith)
    (λ no.
    let low : k ≤ n = elim (cases_eq k (suc n)) [
      | inl same ↦ absurd (both_ways _ no (ap (λ j. begins_phrase (take j text)) (sym same) ∙ b))
      | inr differ ↦ omega arith
    ] in
    front_is text n k low b (λ m l e. most m (omega arith) e))

-- where the front of a text that begins a phrase ends
pub record Ends (text : List ℕ) (k : ℕ) : Type 0 where
  pub within : k ≤ length text
  pub begins : begins_phrase (take k text) ≡ true
  pub most : (m : ℕ) → m ≤ length text → begins_phrase (take m text) ≡ true → m ≤ k

pub end_is : (text : List ℕ) (k : ℕ) → Ends text k → phrase_end text ≡ k
unfolding phrase_end
end_is text k e = front_is text (length text) k e.within e.begins e.most

-- the front that is UTF-8 is no longer than the text
front-le : (text front : List ℕ) → IsValidFront text front → length front ≤ length text
front-le text front v = let e = ap length v.start ∙ length-take (length front) text in omega arith

-- a front of the front is a front of the text
inner_front : (text front : List ℕ) (m : ℕ) → IsValidFront text front → m ≤ length front → take m text ≡ take m front
inner_front text front m v h = sym (ap (take m) v.start ∙ take-take m (length front) text h)

-- the allowed characters at the front of the text's valid front end where the phrase does
pub allowed_end : (text front : List ℕ) → IsValidFront text front → IsUtf8 front → Ends text (allowed_bytes 11 (chars front))
allowed_end text front v valid =
    let cs = chars front in
    let k = allowed_bytes 11 cs in
    let spells = encodes-chars front valid in
    let low : k ≤ length front = let h = front_within 11 cs in let l = ap length spells in omega arith in
    let spelled : Spelled 11 (take k text) = subst (Spelled 11) (ap (take k) spells ∙ sym (inner_front text front k v low)) (front_spelled 11 cs (scalars-chars front valid)) in
    record {
      within = let h = front-le text front v in omega arith;
      begins = spelled_begins (take k text) spelled;
      most = λ m h b.
          let s = begins_spelled (take m text) b in
          let l = v.longest m h (s.characters, (s.valid, s.spells)) in
          let parts : encodes s.characters ++ drop m front ≡ encodes cs =
          ap (λ xs. xs ++ drop m front) (s.spells ∙ inner_front text front m v l) ∙ (take-append-drop m front ∙ sym spells) in
          let most = front_longest s.characters cs (drop m front) 11 parts s.allowed s.few in
          let count = ap length s.spells ∙ length-take-le m text h in
          omega arith;
    }

-- a text that isn't empty and is its front is a phrase
pub phrase_yes : (text : List ℕ) → 0 < length text → Ends text (length text) → is_phrase text ≡ true
unfolding is_phrase
phrase_yes text h e = and_from _ _ (lt-ltb 0 (length text) h) (sym (ap begins_phrase (take-length text)) ∙ e.begins)

-- and one that is empty, or longer than its front, is none
pub phrase_no : (text : List ℕ) (k : ℕ) → Ends text k → (0 < k → length text ≤ k → ⊥) → is_phrase text ≡ false
unfolding is_phrase
phrase_no text k e none =
    false_from_ne_true _
    (λ yes.
    let p = and_parts (ltb 0 (length text)) (begins_phrase text) yes in
    let some = ltb-true 0 (length text) p.0 in
    let l = e.most (length text) (omega arith) (ap begins_phrase (take-length text) ∙ p.1) in
    none (omega arith) l)

-- a front as long as the text is the text
pub front_whole : (text front : List ℕ) → IsValidFront text front → length text ≤ length front → front ≡ text
front_whole text front v h =
    let l : length front ≡ length text = let k = front-le text front v in omega arith in
    v.start ∙ (ap (λ n. take n text) l ∙ take-length text)

-- at most 11 characters take at most 44 bytes
four_each : (cs : List ℕ) → length (encodes cs) ≤ 4 * length cs
four_each [] = omega arith
four_each (c ∷ cs) =
    let h = four_each cs in
    let w = length-encode c in
    let b = len_utf8_bounds c in
    let l = length-append (encode c) (encodes cs) in
    omega arith

pub phrase_short : (text : List ℕ) → is_phrase text ≡ true → length text ≤ 44
unfolding is_phrase
phrase_short text e =
    let s = begins_spelled text (and_parts (ltb 0 (length text)) (begins_phrase text) e).1 in
    let h = four_each s.characters in
    let l = ap length s.spells in
    let f = s.few in
    omega arith

-- a text that begins with an allowed character, and one that begins with another
pub more_allowed : (text rest : List ℕ) (c n : ℕ) → IsUtf8 text → text ≡ encode c ++ rest → is_allowed c ≡ true
    → allowed_bytes (suc n) (chars text) ≡ (length text - length rest) + allowed_bytes n (chars rest)
more_allowed text rest c n valid e allowed =
    let l = ap length e ∙ length-append (encode c) rest in
    let w = length-encode c in
    let width : len_utf8 c ≡ length text - length rest = omega arith in
    ap (allowed_bytes (suc n)) (chars_past_char text rest c valid e)
    ∙ (cond-true (is_allowed c) (len_utf8 c + allowed_bytes n (chars rest)) 0 allowed ∙ ap (λ k. k + allowed_bytes n (chars rest)) width)

pub none_allowed : (text rest : List ℕ) (c n : ℕ) → IsUtf8 text → text ≡ encode c ++ rest → is_allowed c ≡ false → allowed_bytes n (chars text) ≡ 0
none_allowed text rest c zero valid e refused = refl
none_allowed text rest c (suc n) valid e refused =
    ap (allowed_bytes (suc n)) (chars_past_char text rest c valid e) ∙ cond-false (is_allowed c) (len_utf8 c + allowed_bytes n (chars rest)) 0 refused

-- an empty text has no allowed characters
pub nothing_allowed : (text : List ℕ) (n : ℕ) → length text ≡ 0 → allowed_bytes n (chars text) ≡ 0
nothing_allowed text zero e = refl
nothing_allowed text (suc n) e = ap (allowed_bytes (suc n)) (chars_none text e)

-- the valid front of a text with a fault
pub front_before_fault : (text front : List ℕ) (n m : ℕ) → IsValidUpTo text n → m ≡ n → front ≡ take m text → IsValidFront text front
front_before_fault text front n m fault e f =
    let short = fault.short in
    let count : length front ≡ n = ap length f ∙ (length-take-le m text (omega arith) ∙ e) in
    record {
      start = f ∙ ap (λ k. take k text) (e ∙ sym count);
      longest = λ k h valid. elim (cases_lt n k) [ inl more ↦ absurd (fault.longest k more valid) | inr less ↦ omega arith ];
    }

-- what a reader of phrases answers, by the place where the allowed characters end
pub place_is : (text front : List ℕ) (place : ℕ) → IsValidFront text front → IsUtf8 front → place ≡ allowed_bytes 11 (chars front) → place ≡ phrase_end text
place_is text front place v valid e = e ∙ sym (end_is text (allowed_bytes 11 (chars front)) (allowed_end text front v valid))

pub refused : (text front : List ℕ) (place : ℕ) → IsValidFront text front → IsUtf8 front → place ≡ allowed_bytes 11 (chars front) → (0 < place → length text ≤ place → ⊥) → is_phrase text ≡ false
refused text front place v valid e none = phrase_no text place (subst (Ends text) (sym e) (allowed_end text front v valid)) none

pub accepted : (text front : List ℕ) (place : ℕ) → IsValidFront text front → IsUtf8 front → place ≡ allowed_bytes 11 (chars front) → (place ≡ 0 → ⊥) → length text ≤ place → is_phrase text ≡ true
accepted text front place v valid e some whole =
    let ends : Ends text place = subst (Ends text) (sym e) (allowed_end text front v valid) in
    let h = ends.within in
    let same : place ≡ length text = omega arith in
    phrase_yes text (omega arith) (subst (Ends text) same ends)

pub accepted_whole : (text front : List ℕ) (place : ℕ) → IsValidFront text front → place ≤ length front → length text ≤ place → front ≡ text
accepted_whole text front place v within whole = front_whole text front v (omega arith)

-- a phrase has from 1 to 11 characters
pub phrase_few : (text : List ℕ) → is_phrase text ≡ true → length (chars text) ≤ 11
unfolding is_phrase
phrase_few text e =
    let p = and_parts (is_utf8 text) (list_all is_allowed (chars text) && leb (length (chars text)) 11) (and_parts (ltb 0 (length text)) (begins_phrase text) e).1 in
    leb-true _ _ (and_parts (list_all is_allowed (chars text)) (leb (length (chars text)) 11) p.1).1

pub phrase_some : (text : List ℕ) → is_phrase text ≡ true → 1 ≤ length (chars text)
unfolding is_phrase
phrase_some text e =
    let p = and_parts (ltb 0 (length text)) (begins_phrase text) e in
    let u = and_parts (is_utf8 text) (list_all is_allowed (chars text) && leb (length (chars text)) 11) p.1 in
    let h = four_each (chars text) in
    let l = ap length (encodes-chars text (IsUtf8-from_is_utf8 text u.0)) in
    let some = ltb-true 0 (length text) p.0 in
    omega arith
