-- The calls of the user's dictionary, and its replies.
use Rattle.std.specs.Prelude.{ℕ, ◌+◌, Bool, ◌&&◌, List, length, nat_le, ◌==◌, true, chars}
use Rattle.chew_spec_syllable.specs.Key.{is_run}
use Rattle.chew_spec_syllable.specs.Phrase.{is_phrase}
use Rattle.chew_spec_syllable.specs.Row.{is_pair, greatest_freq}
use Rattle.chew_spec_dictionary.specs.HiddenPairs.{can_hide}

pub data Call : Type 0 where
  Look : (run : List ℕ) → Call
  Learn : (key phrase : List ℕ) (orig peak : ℕ) → Call
  Forget : (key phrase : List ℕ) → Call
  Hide : (key phrase : List ℕ) → Call
  Freeze : Call
  Install : (number : ℕ) → Call

-- a row that a look-up found for the interval of a run that begins at start and has len syllables, and whether it is
-- hidden
pub record Hit : Type 0 where
  pub start : ℕ
  pub len : ℕ
  pub phrase : List ℕ
  pub freq : ℕ
  pub hidden : Bool

-- a hit is within a run, has as many characters as its len, and a frequency in range
abbrev pub is_hit : Hit → Bool
is_hit hit = is_phrase hit.phrase && ((length (chars hit.phrase) == hit.len)
    && (nat_le (hit.start + hit.len) 39 && (nat_le 1 hit.len && (nat_le hit.len 11 && nat_le hit.freq greatest_freq))))

pub data Reply : Type 0 where
  Rows : (hits : List Hit) → Reply
  Learned : (freq time : ℕ) → Reply
  Full : Reply
  Forgot : Reply
  NotThere : Reply
  Hid : Reply
  Frozen : (number : ℕ) → Reply
  Installed : Reply

-- the call may be made: its phrase has as many characters as its key has syllables, its frequencies are in order and in
-- range, and what it hides can be hidden
abbrev pub is_proper : Call → Bool
is_proper (Look run) = is_run run
is_proper (Learn key phrase orig peak) = is_pair key phrase && (nat_le orig peak && nat_le peak greatest_freq)
is_proper (Forget key phrase) = is_pair key phrase
is_proper (Hide key phrase) = is_pair key phrase && can_hide key
is_proper Freeze = true
is_proper (Install number) = true
