-- Phrases, and the characters that they are made of.
use Rattle.std.specs.Prelude.{◌≡◌, ℕ, zero, suc, ◌+◌, ◌-◌, ◌≤◌, Bool, true, ◌&&◌, List, [], ◌∷◌, ◌++◌, drop, flat_map, take, encode_utf8_all, length, ◌==◌, nat_le, nat_lt}
use Rattle.std.specs.Str.{IsUtf8, all_scalars, chars, is_utf8}
use Rattle.std.specs.List.{list_all, range_with_len}
use Rattle.std.proofs.Common.{refl, ap, sym, ◌∙◌, arith, ⊎_elim, length-drop}
use Rattle.std.proofs.lemmas.Bool.{and_from, and_parts, eq-eqb, false≢true, leb-true, le-leb, lt-ltb}
use Rattle.std.proofs.lemmas.List.{length-take-le, nil_from_length}
use Rattle.std.proofs.lemmas.Str.{IsUtf8-append, IsUtf8-from_is_utf8, chars-append, chars-encodes, chars-nil, is_utf8-from_IsUtf8, scalars-chars}
use Rattle.chew_spec_syllable.specs.Key.{is_key}
use Rattle.chew_spec_syllable.specs.Phrase.{begins_phrase, is_allowed, is_phrase}
use Rattle.chew_spec_syllable.specs.Row.{Row, greatest_freq, is_pair, is_row}
use Rattle.chew_spec_syllable.specs.Syllable.{is_code}
use Rattle.chew_spec_dictionary.specs.Call.{is_proper}
use Rattle.chew_spec_dictionary.specs.System.{freq_of, peak_of}
use Rattle.chew_spec_dictionary.proofs.Peaks.{freq_within_peak, peak_reached}
use Rattle.chew_spec_dictionary.proofs.Rows.{under_key}
use Rattle.chew_spec_phrasing.specs.Usable.{phrase_len}
use Rattle.chew_spec_preedit.specs.Cell.{Cell, Sound, Symbol, has_sound, is_cell, is_sound}
use Rattle.chew_spec_preedit.proofs.Kept.{list_all-join}
use Rattle.chew_spec_preedit.proofs.Parts.{list_all-drop, list_all-take}
use Rattle.chew_spec_preedit.proofs.Places.{has_sound-within, sounds-from}
use Rattle.chew_spec_editor.specs.Learning.{code_in, key_at, learn_call}
use Rattle.chew_spec_editor.proofs.ShownRows.{IsRow-from, passes}
use Rattle.chew_spec_editor.proofs.SoundPlaces.{range-each}

-- a character that may stand in a phrase
abbrev pub is_character : ℕ → Bool
is_character c = is_allowed c && all_scalars (c ∷ [])

pub allowed-characters : (cs : List ℕ) → list_all is_character cs ≡ true → list_all is_allowed cs ≡ true
allowed-characters [] e = refl
allowed-characters (c ∷ cs) e =
    let parts = and_parts (is_character c) (list_all is_character cs) e in
    and_from (is_allowed c) (list_all is_allowed cs) ((and_parts (is_allowed c) (all_scalars (c ∷ [])) parts.0).0) (allowed-characters cs parts.1)

pub scalar-characters : (cs : List ℕ) → list_all is_character cs ≡ true → all_scalars cs ≡ true
scalar-characters [] e = refl
scalar-characters (c ∷ cs) e =
    let parts = and_parts (is_character c) (list_all is_character cs) e in
    and_from _ (all_scalars cs) ((and_parts _ true ((and_parts (is_allowed c) (all_scalars (c ∷ [])) parts.0).1)).0) (scalar-characters cs parts.1)

both-characters : (cs : List ℕ) → list_all is_allowed cs ≡ true → all_scalars cs ≡ true → list_all is_character cs ≡ true
both-characters [] e f = refl
both-characters (c ∷ cs) e f =
    let allowed = and_parts (is_allowed c) (list_all is_allowed cs) e in
    let scalars = and_parts _ (all_scalars cs) f in
    and_from (is_character c) (list_all is_character cs) (and_from (is_allowed c) (all_scalars (c ∷ [])) allowed.0 (and_from _ true scalars.0 refl))
    (both-characters cs allowed.1 scalars.1)

-- a text of such characters
pub record IsText (text : List ℕ) : Type 0 where
  pub utf8 : IsUtf8 text
  pub characters : list_all is_character (chars text) ≡ true

pub IsText-phrase : (phrase : List ℕ) → is_phrase phrase ≡ true → IsText phrase
unfolding is_phrase
IsText-phrase phrase e =
    let parts = and_parts (nat_lt 0 (length phrase)) (begins_phrase phrase) e in
    let text = and_parts (is_utf8 phrase) _ parts.1 in
    let utf8 = IsUtf8-from_is_utf8 phrase text.0 in
    record { utf8 = utf8; characters = both-characters (chars phrase) ((and_parts (list_all is_allowed (chars phrase)) (nat_le (length (chars phrase)) 11) text.1).0) (scalars-chars phrase utf8) }

pub IsText-append : (text other : List ℕ) → IsText text → IsText other → (chars (text ++ other) ≡ chars text ++ chars other) × IsText (text ++ other)
IsText-append text other h g =
    let joined = chars-append text other h.utf8 in (
      joined,
      record {
        utf8 = IsUtf8-append text other h.utf8 g.utf8;
        characters = ap (list_all is_character) joined ∙ list_all-join is_character (chars text) (chars other) h.characters g.characters;
      },
    )

pub phrase_len-most : (phrase : List ℕ) → is_phrase phrase ≡ true → phrase_len phrase ≤ 11
unfolding is_phrase
phrase_len-most phrase e =
    let text = and_parts (is_utf8 phrase) _ ((and_parts (nat_lt 0 (length phrase)) (begins_phrase phrase) e).1) in
    leb-true (length (chars phrase)) 11 ((and_parts (list_all is_allowed (chars phrase)) (nat_le (length (chars phrase)) 11) text.1).1)

pub phrase_len-encoded : (cs : List ℕ) → list_all is_character cs ≡ true → phrase_len (encode_utf8_all cs) ≡ length cs
phrase_len-encoded cs e = ap length (chars-encodes cs (scalar-characters cs e))

-- 1 to 11 such characters are a phrase
pub is_phrase-encoded : (cs : List ℕ) → list_all is_character cs ≡ true → 1 ≤ length cs → length cs ≤ 11 → is_phrase (encode_utf8_all cs) ≡ true
unfolding is_phrase
is_phrase-encoded cs e l m =
    let text = encode_utf8_all cs in
    let same = chars-encodes cs (scalar-characters cs e) in
    and_from (nat_lt 0 (length text)) _ (by_length (length text) refl)
    (and_from (is_utf8 text) _ (is_utf8-from_IsUtf8 text (cs, (scalar-characters cs e, refl)))
    (and_from (list_all is_allowed (chars text)) _ (ap (list_all is_allowed) same ∙ allowed-characters cs e)
    (le-leb (length (chars text)) 11 (let n = ap length same in omega arith))))
  where
    by_length : (n : ℕ) → length (encode_utf8_all cs) ≡ n → nat_lt 0 n ≡ true
    by_length zero f =
        let none = ap chars (nil_from_length (encode_utf8_all cs) f) ∙ chars-nil in
        absurd (let n = ap length (sym (chars-encodes cs (scalar-characters cs e)) ∙ none) in omega arith)
    by_length (suc n) f = lt-ltb 0 (suc n) (omega arith)

-- the codes of syllables
codes-of : (cells : List Cell) → list_all is_sound cells ≡ true → list_all is_cell cells ≡ true → (length (flat_map code_in cells) ≡ length cells) × (list_all is_code (flat_map code_in cells) ≡ true)
codes-of [] e f = (refl, refl)
codes-of (Sound code ∷ cells) e f =
    let cell = and_parts (is_code code) (list_all is_cell cells) f in
    let rest = codes-of cells e cell.1 in
    (ap suc rest.0, and_from (is_code code) (list_all is_code (flat_map code_in cells)) cell.0 rest.1)
codes-of (Symbol byte ∷ cells) e f = absurd (false≢true e)

-- so many syllables from a place on
pub record AreSounds (cells : List Cell) (place len : ℕ) : Type 0 where
  pub within : place + len ≤ length cells
  pub sounds : list_all is_sound (take len (drop place cells)) ≡ true

pub AreSounds-places : (cells : List Cell) (place len : ℕ) → 1 ≤ len → list_all (has_sound cells) (range_with_len place len) ≡ true → AreSounds cells place len
AreSounds-places cells place len l e =
    let last = has_sound-within cells (place + len - 1) (range-each (has_sound cells) place len (place + len - 1) e (omega arith) (omega arith)) in
    record { within = omega arith; sounds = sounds-from cells place len (λ k m n. range-each (has_sound cells) place len k e m n) }

pub length-key_at : (cells : List Cell) (place len : ℕ) → list_all is_cell cells ≡ true → AreSounds cells place len
    → (length (key_at cells place len) ≡ len) × (list_all is_code (key_at cells place len) ≡ true)
length-key_at cells place len e h =
    let codes = codes-of (take len (drop place cells)) h.sounds (list_all-take is_cell len (drop place cells) (list_all-drop is_cell place cells e)) in
    let within = h.within in
    (codes.0 ∙ length-take-le len (drop place cells) (omega (arith, length-drop place cells)), codes.1)

-- syllables with as many characters
pub is_pair-at : (cells : List Cell) (place : ℕ) (cs : List ℕ) → list_all is_cell cells ≡ true → AreSounds cells place (length cs)
    → list_all is_character cs ≡ true → 1 ≤ length cs → length cs ≤ 11 → is_pair (key_at cells place (length cs)) (encode_utf8_all cs) ≡ true
is_pair-at cells place cs e h c l m =
    let key = key_at cells place (length cs) in
    let phrase = encode_utf8_all cs in
    let long = length-key_at cells place (length cs) e h in
    let count = long.0 in
    and_from (is_key key) _
    (and_from (list_all is_code key) _ long.1 (and_from (nat_le 1 (length key)) (nat_le (length key) 11) (le-leb 1 (length key) (omega arith)) (le-leb (length key) 11 (omega arith))))
    (and_from (is_phrase phrase) (phrase_len phrase == length key) (is_phrase-encoded cs c l m)
    (eq-eqb (phrase_len phrase) (length key) (phrase_len-encoded cs c ∙ sym count)))

-- a phrase is learnt with frequencies in order and in range
peak-in_range : (system : List Row) (key : List ℕ) → list_all is_row system ≡ true → peak_of system key ≤ greatest_freq
peak-in_range system key e =
    ⊎_elim
    (λ none. let n : peak_of system key ≡ 0 = none in omega arith)
    (λ some.
    let row = under_key system key some.0 some.1 in
    let freq = leb-true some.0.freq greatest_freq ((IsRow-from some.0 (passes is_row system some.0 e row.0)).freq) in
    let same = some.2 in
    omega arith)
    (peak_reached system key)

pub is_proper-learn : (system : List Row) (key phrase : List ℕ) → list_all is_row system ≡ true → is_pair key phrase ≡ true → is_proper (learn_call system key phrase) ≡ true
is_proper-learn system key phrase e p =
    and_from (is_pair key phrase) _ p
    (and_from (nat_le (freq_of system key phrase) (peak_of system key)) (nat_le (peak_of system key) greatest_freq)
    (le-leb (freq_of system key phrase) (peak_of system key) (freq_within_peak system key phrase))
    (le-leb (peak_of system key) greatest_freq (peak-in_range system key e)))
