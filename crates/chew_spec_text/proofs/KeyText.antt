-- A key is read from the front of a text.
use Rattle.std.proofs.Common.{◌≡◌, ℕ, Bool, false, eqb, List, [], ◌∷◌, ◌++◌, map, Option, Some, None, refl, sym, ap, ◌∙◌}
use Rattle.std.specs.List.{list_any, slice_split, onto_first}
use Rattle.std.specs.Option.{option_and_then, option_map}
use Rattle.std.proofs.lemmas.Bool.{or_parts, cond-false}
use Rattle.chew_spec_text.specs.KeyStroke.{KeyStroke, Char, key_text, keys_behind, keys_of_parts, keys_in_parts, keys_in}
use Rattle.chew_spec_text.proofs.Splits.{some_part}

-- the byte begins a name
abbrev pub begins : ℕ → Bool
begins byte = eqb byte 60

-- bytes before the first part
abbrev onto_front : List ℕ → List (List ℕ) → List (List ℕ)
onto_front [] parts = parts
onto_front (x ∷ front) parts = onto_first x (onto_front front parts)

-- bytes without a '<' stand before the first part of the rest
split_front : (front rest : List ℕ) → list_any begins front ≡ false → slice_split begins (front ++ rest) ≡ onto_front front (slice_split begins rest)
split_front [] rest h = refl
split_front (x ∷ front) rest h =
    let both = or_parts _ _ h in cond-false (begins x) _ _ both.0 ∙ ap (onto_first x) (split_front front rest both.1)

-- which are in that part
front_in : (front part : List ℕ) (parts : List (List ℕ)) → onto_front front (part ∷ parts) ≡ (front ++ part) ∷ parts
front_in [] part parts = refl
front_in (x ∷ front) part parts = ap (onto_first x) (front_in front part parts)

-- a key before others
abbrev pub before : KeyStroke → Option (List KeyStroke) → Option (List KeyStroke)
before key keys = option_map (λ more. key ∷ more) keys

-- a character before others
char_more : (byte : ℕ) (part : List ℕ) (o : Option (List KeyStroke))
    → option_map (λ keys. map Char (byte ∷ part) ++ keys) o ≡ before (Char byte) (option_map (λ keys. map Char part ++ keys) o)
char_more byte part None = refl
char_more byte part (Some keys) = refl

-- the same before parts
char_parts : (byte : ℕ) (parts : List (List ℕ)) → keys_in_parts (onto_first byte parts) ≡ before (Char byte) (keys_in_parts parts)
char_parts byte [] = refl
char_parts byte (part ∷ parts) = char_more byte part (keys_of_parts parts)

-- a byte that begins no name is read as a key
pub read_char : (byte : ℕ) (rest : List ℕ) → begins byte ≡ false → keys_in (byte ∷ rest) ≡ before (Char byte) (keys_in rest)
unfolding keys_in
read_char byte rest h = ap keys_in_parts (cond-false (begins byte) _ _ h) ∙ char_parts byte (slice_split begins rest)

-- a key by its name before others
named_more : (key : KeyStroke) (part : List ℕ) (o : Option (List KeyStroke))
    → option_map (λ keys. [] ++ keys) (option_map (λ more. (key ∷ map Char part) ++ more) o) ≡ before key (option_map (λ keys. map Char part ++ keys) o)
named_more key part None = refl
named_more key part (Some keys) = refl

-- these bytes, a name and its '>', are read as the key, whatever follows
abbrev pub IsNamed : List ℕ → KeyStroke → Type 0
IsNamed front key = (after : List ℕ) → keys_behind (front ++ after) ≡ Some (key ∷ map Char after)

-- a name is read as its key
pub read_name : (front : List ℕ) (key : KeyStroke) (rest : List ℕ) → list_any begins front ≡ false → IsNamed front key
    → keys_in (60 ∷ (front ++ rest)) ≡ before key (keys_in rest)
unfolding keys_in
read_name front key rest h named =
    let s = some_part begins rest in
    let split : slice_split begins (front ++ rest) ≡ (front ++ s.0) ∷ s.1 = split_front front rest h ∙ (ap (onto_front front) s.2 ∙ front_in front s.0 s.1) in
    ap (λ parts. keys_in_parts ([] ∷ parts)) split
    ∙ (ap (λ o. option_map (λ keys. [] ++ keys) (option_and_then (λ keys. option_map (λ more. keys ++ more) (keys_of_parts s.1)) o)) (named s.0)
    ∙ (named_more key s.0 (keys_of_parts s.1) ∙ ap (λ parts. before key (keys_in_parts parts)) (sym s.2)))

-- the key is read from its text, whatever follows
abbrev pub IsRead : KeyStroke → Type 0
IsRead key = (rest : List ℕ) → keys_in (key_text key ++ rest) ≡ before key (keys_in rest)
