-- How a learn changes the frequency of a pair that is held already. The numbers are this project's own.
use Rattle.std.specs.Prelude.{ℕ, ◌+◌, ◌-◌, ◌/◌, min, max, nat_lt, nat_le, if◌then◌else◌}
use Rattle.chew_spec_syllable.specs.Row.{greatest_freq}

-- learnt again soon, after less than this many learns; and late, after this many and more
abbrev pub soon : ℕ
soon = 4000

abbrev pub late : ℕ
late = 50_000

-- up by a part of the way from orig to the greatest: at or above the greatest by at most the step, and below it
-- by at least the step
abbrev pub rise : (freq orig greatest part step : ℕ) → ℕ
rise freq orig greatest part step =
    if nat_le greatest freq
    then freq + min ((greatest - orig) / part + 1) step
    else freq + max ((greatest - orig) / part + 1) step

-- a fifth of what is above orig, at least 10, and not below orig
abbrev pub fall : (freq orig : ℕ) → ℕ
fall freq orig = max (freq - max ((freq - orig) / 5) 10) orig

-- the new frequency, ticks learns after the last one
unfoldable pub update : (freq orig greatest ticks : ℕ) → ℕ
update freq orig greatest ticks = min greatest_freq (
    if nat_lt ticks soon then rise freq orig greatest 5 10
    else if nat_lt ticks late then rise freq orig greatest 10 5
    else fall freq orig)
