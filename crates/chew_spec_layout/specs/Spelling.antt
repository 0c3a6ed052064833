-- A spelling: letters, and the marks of Zhuyin that they stand for.
use Rattle.std.specs.Prelude.{ℕ, List, ◌++◌, flat_map, map}
use Rattle.std.specs.Str.{encode_utf8_all}

-- letters, and the marks that they spell
pub record Spelling : Type 0 where
  pub letters : List ℕ
  pub marks : List ℕ

abbrev pub spelled : List ℕ → List ℕ → Spelling
spelled letters marks = record { letters = letters; marks = encode_utf8_all marks }

-- two spellings, one behind the other
abbrev pub joined : Spelling → Spelling → Spelling
joined first next = record { letters = first.letters ++ next.letters; marks = first.marks ++ next.marks }

-- each of the initials with each of the endings
abbrev pub combined : List Spelling → List Spelling → List Spelling
combined initials endings = flat_map (λ initial. map (joined initial) endings) initials
