-- The keys that a text names, printed, are the text.
use Rattle.std.proofs.Common.{◌≡◌, ℕ, suc, ◌+◌, ◌<◌, Bool, true, false, cond, not, ◌||◌, get_or, List, [], ◌∷◌, ◌++◌, length, map, Option, Some, None, refl, sym, ap, ◌∙◌, arith}
use Rattle.std.specs.Prelude.{bytes_eq}
use Rattle.std.specs.Fmt.{digits}
use Rattle.std.specs.List.{after_first, before_first, find, flat_map, join_with_byte, list_all, list_any, position_or_len}
use Rattle.std.specs.Option.{option_and_then, option_map}
use Rattle.std.proofs.lemmas.Bool.{and_parts, eqb-true, not-true, or_parts, cond-false, cond_both}
use Rattle.std.proofs.lemmas.Grind.{flat_map-append}
use Rattle.std.proofs.lemmas.List.{append-nil, append_assoc}
use Rattle.std.proofs.lemmas.List.Splits.{join_with_byte-slice_split}
use Rattle.std.proofs.lemmas.List.Sums.{passes_at_first, split_at_first}
use Rattle.std.proofs.lemmas.Slice.Eq.{bytes_eq-Decides}
use Rattle.chew_spec_text.specs.KeyStroke.{KeyStroke, NamedKey, Char, key_names, key_named, key_text, keys_behind, keys_of_parts, keys_in_parts, keys_in}
use Rattle.chew_spec_text.proofs.Found.{holds_in, found_among, found_by}
use Rattle.chew_spec_text.proofs.KeyRange.{is_end}
use Rattle.chew_spec_text.proofs.KeyText.{begins}
use Rattle.chew_spec_text.proofs.Splits.{none_dropped, parts_free, some_part}

-- a name between its brackets
abbrev in_brackets : List ℕ → List ℕ
in_brackets name = 60 ∷ (name ++ 62 ∷ [])

-- the entry has this name, is printed by its name
abbrev has_name : List ℕ → NamedKey → Bool
has_name name entry = bytes_eq entry.name name

abbrev is_printed : NamedKey → Bool
is_printed entry = bytes_eq (key_text entry.key) (in_brackets entry.name)

-- each key that has a name is printed by it
all_printed : list_all is_printed key_names ≡ true
unfolding digits
all_printed = refl

-- the key of an entry
of_entry : (name : List ℕ) (entry : Option NamedKey) (key : KeyStroke) → holds_in (has_name name) entry ≡ true → holds_in is_printed entry ≡ true
    → option_map (λ (e : NamedKey). e.key) entry ≡ Some key → key_text key ≡ in_brackets name
of_entry name None key h k e = absurd cc
of_entry name (Some entry) key h k e =
    let same : key ≡ entry.key = cc in
    ap key_text same ∙ ((bytes_eq-Decides (key_text entry.key) (in_brackets entry.name)).0 k ∙ ap in_brackets ((bytes_eq-Decides entry.name name).0 h))

-- the key of a name is printed by it
name_printed : (name : List ℕ) (key : KeyStroke) → key_named name ≡ Some key → key_text key ≡ in_brackets name
name_printed name key e =
    of_entry name (find (has_name name) key_names) key (found_by (has_name name) key_names) (found_among (has_name name) is_printed key_names all_printed) e

-- characters are printed as themselves
chars_printed : (bytes : List ℕ) → list_any begins bytes ≡ false → flat_map key_text (map Char bytes) ≡ bytes
chars_printed [] h = refl
chars_printed (byte ∷ bytes) h =
    let both = or_parts _ _ h in
    ap (λ text. text ++ flat_map key_text (map Char bytes)) (cond-false (begins byte) _ (byte ∷ []) both.0) ∙ ap (λ more. byte ∷ more) (chars_printed bytes both.1)

-- one of two that isn't the first
or_later : (a b : Bool) → a ≡ false → (a || b) ≡ true → b ≡ true
or_later true b e h = absurd cc
or_later false b e h = h

-- a byte that is there has a place
place_within : (p : ℕ → Bool) (xs : List ℕ) → list_any p xs ≡ true → position_or_len p xs < length xs
place_within p [] h = absurd cc
place_within p (x ∷ xs) h =
    cond_both (not (p x)) (1 + position_or_len p xs) 0 (λ n. n < suc (length xs))
    (λ e. let later : position_or_len p xs < length xs = place_within p xs (or_later (p x) _ (not-true _ e) h) in omega arith) (λ _. omega arith)

-- what is cut at the end of a name
cut_at_end : (part : List ℕ) → list_any is_end part ≡ true → part ≡ before_first is_end part ++ (62 ∷ after_first is_end part)
cut_at_end part h =
    let place = place_within is_end part h in
    split_at_first is_end part 0 place
    ∙ ap (λ byte. before_first is_end part ++ (byte ∷ after_first is_end part)) (eqb-true (get_or part (position_or_len is_end part) 0) 62 (passes_at_first is_end part 0 place))

-- a name's key and characters, where the part has an end of a name
named_printed : (name after part : List ℕ) (key : Option KeyStroke) (keys : List KeyStroke) → key_named name ≡ key → list_any begins after ≡ false
    → part ≡ name ++ (62 ∷ after) → option_map (λ k. k ∷ map Char after) key ≡ Some keys → flat_map key_text keys ≡ 60 ∷ part
named_printed name after part None keys n h cut e = absurd cc
named_printed name after part (Some key) keys n h cut e =
    let same : keys ≡ key ∷ map Char after = cc in
    ap (flat_map key_text) same
    ∙ (ap (λ text. text ++ flat_map key_text (map Char after)) (name_printed name key n)
    ∙ (ap (λ text. in_brackets name ++ text) (chars_printed after h)
    ∙ ap (λ text. 60 ∷ text) (append_assoc name (62 ∷ []) after ∙ sym cut)))

-- the keys of a part behind a '<', by whether it has an end
ended_printed : (part : List ℕ) (test : Bool) (keys : List KeyStroke) → list_any is_end part ≡ test → list_any begins part ≡ false
    → cond test (option_map (λ k. k ∷ map Char (after_first is_end part)) (key_named (before_first is_end part))) None ≡ Some keys
    → flat_map key_text keys ≡ 60 ∷ part
ended_printed part false keys t h e = absurd cc
ended_printed part true keys t h e =
    named_printed (before_first is_end part) (after_first is_end part) part (key_named (before_first is_end part)) keys refl
    (none_dropped begins (position_or_len is_end part + 1) part h) (cut_at_end part t) e

-- two lists of keys, joined
both_there : (a b : Option (List KeyStroke)) (keys : List KeyStroke) → option_and_then (λ xs. option_map (λ ys. xs ++ ys) b) a ≡ Some keys
    → (xs : List KeyStroke) × (ys : List KeyStroke) × (a ≡ Some xs) × (b ≡ Some ys) × (keys ≡ xs ++ ys)
both_there None b keys e = absurd cc
both_there (Some xs) None keys e = absurd cc
both_there (Some xs) (Some ys) keys e = let same : keys ≡ xs ++ ys = cc in (xs, ys, refl, refl, same)

-- the keys of parts of which each follows a '<'
parts_printed : (parts : List (List ℕ)) (keys : List KeyStroke) → list_all (λ part. not (list_any begins part)) parts ≡ true
    → keys_of_parts parts ≡ Some keys → flat_map key_text keys ≡ flat_map (λ part. 60 ∷ part) parts
parts_printed [] keys h e = let same : keys ≡ [] = cc in ap (flat_map key_text) same
parts_printed (part ∷ parts) keys h e =
    let free = and_parts _ _ h in
    let b = both_there (keys_behind part) (keys_of_parts parts) keys e in
    ap (flat_map key_text) b.4
    ∙ (flat_map-append key_text b.0 b.1
    ∙ (ap (λ text. text ++ flat_map key_text b.1) (ended_printed part (list_any is_end part) b.0 refl (not-true _ free.0) b.2)
    ∙ ap (λ text. (60 ∷ part) ++ text) (parts_printed parts b.1 free.1 b.3)))

-- parts that a '<' parts
joined : (part : List ℕ) (parts : List (List ℕ)) → part ++ flat_map (λ more. 60 ∷ more) parts ≡ join_with_byte 60 (part ∷ parts)
joined part [] = append-nil part
joined part (next ∷ parts) = ap (λ text. part ++ (60 ∷ text)) (joined next parts)

-- the keys of characters and such parts
all_printed_parts : (part : List ℕ) (parts : List (List ℕ)) (keys : List KeyStroke) → list_all (λ p. not (list_any begins p)) (part ∷ parts) ≡ true
    → keys_in_parts (part ∷ parts) ≡ Some keys → flat_map key_text keys ≡ join_with_byte 60 (part ∷ parts)
all_printed_parts part parts keys h e =
    let free = and_parts (not (list_any begins part)) (list_all (λ p. not (list_any begins p)) parts) h in
    let b = both_there (Some (map Char part)) (keys_of_parts parts) keys e in
    let first : b.0 ≡ map Char part = cc in
    ap (flat_map key_text) (b.4 ∙ ap (λ xs. xs ++ b.1) first)
    ∙ (flat_map-append key_text (map Char part) b.1
    ∙ (ap (λ text. text ++ flat_map key_text b.1) (chars_printed part (not-true _ free.0))
    ∙ (ap (λ text. part ++ text) (parts_printed parts b.1 free.1 b.3) ∙ joined part parts)))

-- the keys of a text, printed, are the text
pub keys_printed : (text : List ℕ) (keys : List KeyStroke) → keys_in text ≡ Some keys → flat_map key_text keys ≡ text
unfolding keys_in
keys_printed text keys e =
    let s = some_part begins text in
    all_printed_parts s.0 s.1 keys (sym (ap (list_all (λ p. not (list_any begins p))) s.2) ∙ parts_free begins text) (sym (ap keys_in_parts s.2) ∙ e)
    ∙ (sym (ap (join_with_byte 60) s.2) ∙ join_with_byte-slice_split 60 text)
