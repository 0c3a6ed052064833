-- Lists of syllables, by their codes.
use Rattle.std.specs.Prelude.{ℕ, Bool, ◌&&◌, List, length, nat_le}
use Rattle.std.specs.List.{list_all}
use Rattle.chew_spec_syllable.specs.Syllable.{is_code}

-- a key, under which the dictionary holds phrases: 1 to 11 syllables
abbrev pub is_key : List ℕ → Bool
is_key codes = list_all is_code codes && (nat_le 1 (length codes) && nat_le (length codes) 11)

-- a run, which is looked up as a whole: at most 39 syllables
abbrev pub is_run : List ℕ → Bool
is_run codes = list_all is_code codes && nat_le (length codes) 39
