-- The score of a segmentation. Its numbers are this project's own. It is a difference, so it is told by what
-- is gained and what is lost.
use Rattle.std.specs.Prelude.{ℕ, ◌+◌, ◌-◌, ◌*◌, ◌/◌, List, [], ◌∷◌, length, sum, sum_by, zip, ◌==◌, if◌then◌else◌}

abbrev pub difference : ℕ → ℕ → ℕ
difference x y = (x - y) + (y - x)

-- the differences of lengths, over all pairs of pieces
abbrev pub spread : List ℕ → ℕ
spread [] = 0
spread (x ∷ xs) = sum_by (difference x) xs + spread xs

-- what a piece's frequency counts: a piece of one syllable has a 512th of its frequency
abbrev pub weight : ℕ × ℕ → ℕ
weight (len, freq) = if len == 1 then freq / 512 else freq

-- what n syllables in pieces of these lengths and frequencies gain, and what they lose
abbrev pub gain : (lengths freqs : List ℕ) → ℕ
gain lengths freqs =
    1000 * sum lengths + 1000 * (6 * sum lengths / length lengths) + sum_by weight (zip lengths freqs)

abbrev pub loss : (lengths : List ℕ) → ℕ
loss lengths = 100 * spread lengths
