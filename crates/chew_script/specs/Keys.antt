-- The definition's key that the code's KeyStroke stands for, and lists of keys.
use Rattle.std.specs.Prelude.{List, map}
use Rattle.std.specs.Global.{Vec}
use Rattle.chew_spec_text.specs.KeyStroke as spec
use Rattle.chew_script.specs.declared.keystroke.KeyStroke.{KeyStroke}
use Rattle.chew_script.specs.declared.keystroke.KeyStroke.TheVariants.{Char, Enter, Backspace, Delete, Left, Right, Home, End, Up, Down, PageUp, PageDown, Tab, Esc, Add, Forget, Hide}

-- the definition's key
abbrev pub key_of : KeyStroke → spec.KeyStroke
key_of (Char byte) = spec.Char byte
key_of Enter = spec.Enter
key_of Backspace = spec.Backspace
key_of Delete = spec.Delete
key_of Left = spec.Left
key_of Right = spec.Right
key_of Home = spec.Home
key_of End = spec.End
key_of Up = spec.Up
key_of Down = spec.Down
key_of PageUp = spec.PageUp
key_of PageDown = spec.PageDown
key_of Tab = spec.Tab
key_of Esc = spec.Esc
key_of (Add cells) = spec.Add cells
key_of (Forget cells) = spec.Forget cells
key_of (Hide cells) = spec.Hide cells

-- the definition's keys
abbrev pub keys_of : List KeyStroke → List spec.KeyStroke
keys_of keys = map key_of keys

-- the keys of each context
abbrev pub lists_of : List (Vec KeyStroke) → List (List spec.KeyStroke)
lists_of contexts = map (λ keys. keys_of keys.items) contexts
