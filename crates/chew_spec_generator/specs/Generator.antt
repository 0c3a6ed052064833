-- The generated script of a number: what is drawn, and what is typed by it. The generator is this project's own, with the
-- factor and the summand of Knuth's MMIX.
use Rattle.std.specs.Prelude.{ℕ, zero, suc, ◌+◌, ◌*◌, ◌/◌, ◌%◌, ◌^◌, List, [], ◌∷◌, ◌++◌, flat_map, codes, nat_lt, ◌==◌, unwrap_or, if◌then◌else◌}
use Rattle.chew_spec_text.specs.KeyStroke.{KeyStroke, Enter, keys_in}
use Rattle.chew_spec_text.specs.Line.{with_line_feed}

-- the number behind a number, of 64 bits
abbrev pub next_number : ℕ → ℕ
next_number number = (number * 6_364_136_223_846_793_005 + 1_442_695_040_888_963_407) % 2 ^ 64

-- what a number draws, 0 to 7
abbrev pub draw_of : ℕ → ℕ
draw_of number = number / 2 ^ 33 % 8

-- the number that many behind a number
unfoldable pub number_after : ℕ → ℕ → ℕ
number_after zero number = number
number_after (suc n) number = number_after n (next_number number)

-- what so many numbers behind a number draw
unfoldable pub draws_from : ℕ → ℕ → List ℕ
draws_from zero number = []
draws_from (suc n) number = draw_of (next_number number) ∷ draws_from n (next_number number)

-- the text of a step's keys, by what was drawn
abbrev pub step_text : ℕ → List ℕ
step_text draw =
    if nat_lt draw 3 then codes "hk4"
    else if nat_lt draw 5 then codes "g4"
    else if draw == 5 then codes "hk4g4"
    else if draw == 6 then codes "<E>"
    else codes "<L>"

-- the keys that it names
abbrev pub step_keys : ℕ → List KeyStroke
step_keys draw = unwrap_or (keys_in (step_text draw)) []

-- how many steps a line has, and how many lines of steps a script has
abbrev pub line_steps : ℕ
line_steps = 16

abbrev pub line_count : ℕ
line_count = 256

-- a line of the first context with the steps of these draws
abbrev pub line_of_draws : List ℕ → List ℕ
line_of_draws draws = codes "1:" ++ flat_map step_text draws

-- so many lines of steps behind a number
unfoldable pub lines_from : ℕ → ℕ → List (List ℕ)
lines_from zero number = []
lines_from (suc n) number = line_of_draws (draws_from line_steps number) ∷ lines_from n (number_after line_steps number)

-- the script of a number: lines of steps, and a line of Enter
unfoldable pub generated : ℕ → List ℕ
generated number = flat_map with_line_feed (lines_from line_count number ++ codes "1:<E>" ∷ [])

-- the keys that it types
unfoldable pub generated_keys : ℕ → List KeyStroke
generated_keys number = flat_map step_keys (draws_from (line_count * line_steps) number) ++ Enter ∷ []
