-- Words for the laws of any layout.
use Rattle.std.specs.Prelude.{ℕ, Bool, true, false, List, [], ◌∷◌, filter}
use Rattle.std.specs.List.{range_with_len}
use Rattle.chew_spec_layout.specs.Layout.{Layout, feed}
use Rattle.chew_spec_layout.specs.Step.{Step, NotMine}

-- the layout after these keys, one after another
abbrev pub after : Layout → List ℕ → Layout
after layout [] = layout
after layout (key ∷ keys) = after (feed layout key).layout keys

-- the step of a key that is the layout's
abbrev pub is_own : Step → Bool
is_own NotMine = false
is_own _ = true

-- the bytes that are keys of the layout as it is, in their order
abbrev pub own_keys : Layout → List ℕ
own_keys layout = filter (λ key. is_own (feed layout key).step) (range_with_len 0 256)
