-- The keys that a text of printable characters names are keys of a script.
use Rattle.std.proofs.Common.{◌≡◌, ℕ, Bool, true, eqb, List, [], ◌∷◌, ◌++◌, map, Option, Some, None, refl, ◌∙◌}
use Rattle.std.specs.Prelude.{bytes_eq}
use Rattle.std.specs.List.{after_first, before_first, find, list_all, list_any, slice_split}
use Rattle.std.specs.Option.{option_and_then, option_map}
use Rattle.std.proofs.lemmas.Bool.{and_parts, and_from, cond_both}
use Rattle.std.proofs.lemmas.List.Folds.{list_all-append, list_all-map}
use Rattle.chew_spec_text.specs.KeyStroke.{KeyStroke, NamedKey, Char, is_key_stroke, is_printable, key_names, key_named, keys_behind, keys_of_parts, keys_in_parts, keys_in}
use Rattle.chew_spec_text.proofs.Found.{holds_in, found_among, made_of}
use Rattle.chew_spec_text.proofs.Splits.{all_dropped, split_all}

-- the keys are there and of a script, or there are none
abbrev pub in_range : Option (List KeyStroke) → Bool
in_range keys = holds_in (list_all is_key_stroke) keys

-- what stands behind a byte
pub all_after : (p q : ℕ → Bool) (xs : List ℕ) → list_all p xs ≡ true → list_all p (after_first q xs) ≡ true
all_after p q xs h = all_dropped p _ xs h

-- the byte ends a name
abbrev pub is_end : ℕ → Bool
is_end byte = eqb byte 62

-- the key of a name
named_range : (name : List ℕ) → holds_in is_key_stroke (key_named name) ≡ true
named_range name =
    let by_name = λ (entry : NamedKey). bytes_eq entry.name name in
    made_of (λ (entry : NamedKey). entry.key) is_key_stroke (find by_name key_names) (found_among by_name (λ (entry : NamedKey). is_key_stroke entry.key) key_names refl)

-- characters
chars_range : (bytes : List ℕ) → list_all is_printable bytes ≡ true → list_all is_key_stroke (map Char bytes) ≡ true
chars_range bytes h = list_all-map is_key_stroke Char bytes ∙ h

-- a key and characters
joined_range : (key : Option KeyStroke) (keys : List KeyStroke) → holds_in is_key_stroke key ≡ true → list_all is_key_stroke keys ≡ true
    → in_range (option_map (λ k. k ∷ keys) key) ≡ true
joined_range None keys h k = refl
joined_range (Some key) keys h k = and_from _ _ h k

-- what follows a '<'
behind_range : (part : List ℕ) → list_all is_printable part ≡ true → in_range (keys_behind part) ≡ true
behind_range part h =
    let key = key_named (before_first is_end part) in
    let rest = after_first is_end part in
    cond_both (list_any is_end part) (option_map (λ k. k ∷ map Char rest) key) None (λ keys. in_range keys ≡ true)
    (λ _. joined_range key (map Char rest) (named_range (before_first is_end part)) (chars_range rest (all_after is_printable is_end part h)))
    (λ _. refl)

-- such keys and more
more_range : (keys more : Option (List KeyStroke)) → in_range keys ≡ true → in_range more ≡ true
    → in_range (option_and_then (λ ks. option_map (λ others. ks ++ others) more) keys) ≡ true
more_range None more h k = refl
more_range (Some keys) None h k = refl
more_range (Some keys) (Some more) h k = list_all-append is_key_stroke keys more ∙ and_from _ _ h k

-- parts of which each follows a '<'
parts_range : (parts : List (List ℕ)) → list_all (list_all is_printable) parts ≡ true → in_range (keys_of_parts parts) ≡ true
parts_range [] h = refl
parts_range (part ∷ parts) h =
    let both = and_parts _ _ h in more_range (keys_behind part) (keys_of_parts parts) (behind_range part both.0) (parts_range parts both.1)

-- characters and such parts
all_parts_range : (parts : List (List ℕ)) → list_all (list_all is_printable) parts ≡ true → in_range (keys_in_parts parts) ≡ true
all_parts_range [] h = refl
all_parts_range (characters ∷ parts) h =
    let both = and_parts _ _ h in more_range (Some (map Char characters)) (keys_of_parts parts) (chars_range characters both.0) (parts_range parts both.1)

-- the keys of a text
pub keys_range : (text : List ℕ) → list_all is_printable text ≡ true → in_range (keys_in text) ≡ true
unfolding keys_in
keys_range text h = all_parts_range (slice_split (λ byte. eqb byte 60) text) (split_all is_printable (λ byte. eqb byte 60) text h)
