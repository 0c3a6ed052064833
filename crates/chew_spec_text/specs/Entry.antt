-- The line of an entry of the history in a trace.
use Rattle.std.specs.Prelude.{ℕ, List, [], ◌∷◌, map, codes, decimal}
use Rattle.std.specs.List.{join_with_byte}
use Rattle.chew_spec_dictionary.specs.Call.{Call, Look, Learn, Forget, Hide, Freeze, Install}
use Rattle.chew_spec_dictionary.specs.History.{Entry}
use Rattle.chew_spec_text.specs.Line.{with_line_feed}

-- the parts, parted by one space each
abbrev pub parted : List (List ℕ) → List ℕ
parted parts = join_with_byte 32 parts

-- the codes of syllables, parted by commas
abbrev pub codes_text : List ℕ → List ℕ
codes_text key = join_with_byte 44 (map decimal key)

-- the word of a call, and what it is about
abbrev pub call_parts : Call → List (List ℕ)
call_parts (Look run) = codes "look" ∷ (codes_text run ∷ [])
call_parts (Learn key phrase orig peak) = codes "learn" ∷ (codes_text key ∷ (phrase ∷ (decimal orig ∷ (decimal peak ∷ []))))
call_parts (Forget key phrase) = codes "forget" ∷ (codes_text key ∷ (phrase ∷ []))
call_parts (Hide key phrase) = codes "hide" ∷ (codes_text key ∷ (phrase ∷ []))
call_parts Freeze = codes "freeze" ∷ []
call_parts (Install number) = codes "install" ∷ (decimal number ∷ [])

-- who made the call, and the call
unfoldable pub entry_text : Entry → List ℕ
entry_text entry = with_line_feed (parted (decimal entry.who ∷ call_parts entry.call))
