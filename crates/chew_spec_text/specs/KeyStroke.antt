-- The keys of a script, and how they are written.
use Rattle.std.specs.Prelude.{ℕ, Bool, true, ◌&&◌, List, [], ◌∷◌, ◌++◌, map, find, codes, decimal, bytes_eq, ◌==◌, nat_le, Option, Some, None, if◌then◌else◌}
use Rattle.std.specs.Option.{option_and_then, option_map}
use Rattle.std.specs.List.{after_first, before_first, list_any, range_with_len, slice_split}

-- a key of a script
pub data KeyStroke : Type 0 where
  -- a printable ASCII byte
  Char : (byte : ℕ) → KeyStroke
  Enter : KeyStroke
  Backspace : KeyStroke
  Delete : KeyStroke
  Left : KeyStroke
  Right : KeyStroke
  Home : KeyStroke
  End : KeyStroke
  Up : KeyStroke
  Down : KeyStroke
  PageUp : KeyStroke
  PageDown : KeyStroke
  Tab : KeyStroke
  Esc : KeyStroke
  -- adds the phrase of this many cells to the user's dictionary
  Add : (cells : ℕ) → KeyStroke
  -- takes it from there
  Forget : (cells : ℕ) → KeyStroke
  -- hides it, whether the user or the system has it
  Hide : (cells : ℕ) → KeyStroke

-- a byte from the space to '~'
abbrev pub is_printable : ℕ → Bool
is_printable byte = nat_le 32 byte && nat_le byte 126

-- the key is one that a script can name
abbrev pub is_key_stroke : KeyStroke → Bool
is_key_stroke (Char byte) = is_printable byte
is_key_stroke (Add cells) = nat_le 2 cells && nat_le cells 9
is_key_stroke (Forget cells) = nat_le 1 cells && nat_le cells 9
is_key_stroke (Hide cells) = nat_le 2 cells && nat_le cells 9
is_key_stroke _ = true

-- a key, and its name in a script
pub record NamedKey : Type 0 where
  pub name : List ℕ
  pub key : KeyStroke

-- the key of this name
abbrev pub named : List ℕ → KeyStroke → NamedKey
named name key = record { name = name; key = key }

-- a name of this letter and a number of cells
abbrev pub named_for : List ℕ → (ℕ → KeyStroke) → ℕ → NamedKey
named_for letter key cells = named (letter ++ decimal cells) (key cells)

-- the names of keys, which a script writes between '<' and '>'
abbrev pub key_names : List NamedKey
key_names =
    named (codes "E") Enter ∷ (named (codes "B") Backspace ∷ (named (codes "D") Delete
    ∷ (named (codes "L") Left ∷ (named (codes "R") Right ∷ (named (codes "H") Home ∷ (named (codes "Z") End
    ∷ (named (codes "U") Up ∷ (named (codes "V") Down ∷ (named (codes "P") PageUp ∷ (named (codes "N") PageDown
    ∷ (named (codes "T") Tab ∷ (named (codes "X") Esc ∷ (named (codes "lt") (Char 60) ∷ []))))))))))))) ++
    (map (named_for (codes "C") Add) (range_with_len 2 8) ++ (map (named_for (codes "F") Forget) (range_with_len 1 9)
    ++ map (named_for (codes "K") Hide) (range_with_len 2 8)))

-- the text of a key: itself, or its name between '<' and '>'
abbrev pub key_text : KeyStroke → List ℕ
key_text (Char byte) = if byte == 60 then codes "<lt>" else byte ∷ []
key_text Enter = codes "<E>"
key_text Backspace = codes "<B>"
key_text Delete = codes "<D>"
key_text Left = codes "<L>"
key_text Right = codes "<R>"
key_text Home = codes "<H>"
key_text End = codes "<Z>"
key_text Up = codes "<U>"
key_text Down = codes "<V>"
key_text PageUp = codes "<P>"
key_text PageDown = codes "<N>"
key_text Tab = codes "<T>"
key_text Esc = codes "<X>"
key_text (Add cells) = codes "<C" ++ (decimal cells ++ codes ">")
key_text (Forget cells) = codes "<F" ++ (decimal cells ++ codes ">")
key_text (Hide cells) = codes "<K" ++ (decimal cells ++ codes ">")

-- the key of a name
abbrev pub key_named : List ℕ → Option KeyStroke
key_named name = option_map (λ entry. entry.key) (find (λ entry. bytes_eq entry.name name) key_names)

-- the keys of what follows a '<': a name, which ends at the first '>', and characters
abbrev pub keys_behind : List ℕ → Option (List KeyStroke)
keys_behind part =
    if list_any (λ byte. byte == 62) part
    then option_map (λ key. key ∷ map Char (after_first (λ byte. byte == 62) part)) (key_named (before_first (λ byte. byte == 62) part))
    else None

-- the keys of parts of which each follows a '<'
abbrev pub keys_of_parts : List (List ℕ) → Option (List KeyStroke)
keys_of_parts [] = Some []
keys_of_parts (part ∷ parts) = option_and_then (λ keys. option_map (λ more. keys ++ more) (keys_of_parts parts)) (keys_behind part)

-- characters, and parts of which each follows a '<'
abbrev pub keys_in_parts : List (List ℕ) → Option (List KeyStroke)
keys_in_parts [] = Some []
keys_in_parts (characters ∷ parts) = option_map (λ keys. map Char characters ++ keys) (keys_of_parts parts)

-- the keys that a text names: characters are keys by themselves
unfoldable pub keys_in : List ℕ → Option (List KeyStroke)
keys_in text = keys_in_parts (slice_split (λ byte. byte == 60) text)
