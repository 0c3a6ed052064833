-- What a source has left to read, where it tells it.
use Rattle.std.specs.Prelude.{◌≡◌, ℕ, ◌<◌, ◌≤◌, List, [], ◌++◌, length, take, drop, Option, IfSome}
use Rattle.std.specs.Option.{option_map}

-- a read of n bytes moves the front of what is left to the front of the buffer; none only at the end
pub record MovesFront (left buffer filled : List ℕ) (n : ℕ) : Type 0 where
  pub there : n ≤ length left
  pub moved : filled ≡ take n left ++ drop n buffer
  pub ends : n ≡ 0 → 0 < length buffer → left ≡ []

-- a read of n bytes into a buffer, by a source that may tell what it has left
pub record Reads (before after : Option (List ℕ)) (buffer filled : List ℕ) (n : ℕ) : Type 0 where
  pub fits : n ≤ length buffer
  pub rest : after ≡ option_map (drop n) before
  pub front : IfSome before (λ left. MovesFront left buffer filled n)

-- some bytes of what was left are gone, at most so many
pub record Loses (before after : Option (List ℕ)) (most : ℕ) : Type 0 where
  pub count : ℕ
  pub within : count ≤ most
  pub rest : after ≡ option_map (drop count) before

-- some reads gave a text: it is the front of what was left, and what follows it is left
pub record ReadsText (before after : Option (List ℕ)) (text : List ℕ) : Type 0 where
  pub rest : after ≡ option_map (drop (length text)) before
  pub front : IfSome before (λ left. text ≡ take (length text) left)

-- reads gave a text of a bounded length: as much of what was left as the bound allows
pub record ReadsUpTo (before after : Option (List ℕ)) (text : List ℕ) (most : ℕ) : Type 0 where
  pub fits : length text ≤ most
  pub rest : after ≡ option_map (drop most) before
  pub front : IfSome before (λ left. text ≡ take most left)
