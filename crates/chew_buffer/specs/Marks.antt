-- The definitions' marks that the code's stand for.
use Rattle.std.specs.Prelude.{ℕ, Bool, List, map, filter, bytes_eq}
use Rattle.chew_spec_layers.specs.Mark as spec
use Rattle.chew_spec_layers.specs.Mark.{Marked}
use Rattle.chew_buffer.specs.declared.mark.Mark.{Mark}
use Rattle.chew_buffer.specs.declared.mark.Mark.TheVariants.{Live, Grave}
use Rattle.chew_buffer.specs.Order.{Pair}

-- the mark that the code's stands for
abbrev pub meaning : Mark → spec.Mark
meaning (Live freq time) = spec.Live freq time
meaning Grave = spec.Grave

-- a pair with its mark, a live one and a grave
abbrev pub marked_of : List ℕ → List ℕ → Mark → Marked
marked_of key phrase mark = record { key = key; phrase = phrase; mark = meaning mark }

abbrev pub live_of : List ℕ → List ℕ → (freq time : ℕ) → Marked
live_of key phrase freq time = record { key = key; phrase = phrase; mark = spec.Live freq time }

abbrev pub grave_of : List ℕ → List ℕ → Marked
grave_of key phrase = record { key = key; phrase = phrase; mark = spec.Grave }

-- the marks of a map's entries
abbrev pub marks_in : List (Pair × Mark) → List Marked
marks_in entries = map (λ e. marked_of e.0.key e.0.phrase e.1) entries

-- the mark is that of a pair of the key
abbrev pub is_mark_under : List ℕ → Marked → Bool
is_mark_under key marked = bytes_eq marked.key key

-- the marks of a key's pairs
abbrev pub marks_under : List Marked → List ℕ → List Marked
marks_under marks key = filter (is_mark_under key) marks
