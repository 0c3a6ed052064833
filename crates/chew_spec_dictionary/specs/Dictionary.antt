-- The user's dictionary: a finite map from pairs of a key and a phrase to a frequency and a time. The map
-- is a list of rows in image order, no pair twice. A pair may be hidden.
use Rattle.std.specs.Prelude.{ℕ, Bool, true, ◌&&◌, ◌+◌, ◌-◌, ◌^◌, min, max, not, List, [], ◌∷◌, length, filter, ◌==◌, nat_le, is_some, Option, Some, None, if◌then◌else◌}
use Rattle.std.specs.List.{list_all}
use Rattle.std.specs.Ordering.{match_ordering, is_lt}
use Rattle.chew_spec_syllable.specs.Row.{Row, image_cmp, is_pair_of}
use Rattle.chew_spec_dictionary.specs.Call.{Reply, Learned, Full, Forgot, NotThere, Hid}
use Rattle.chew_spec_dictionary.specs.Frequency.{update}
use Rattle.chew_spec_dictionary.specs.HiddenPairs.{hidden_time, is_hidden, shown_rows}
use Rattle.chew_spec_dictionary.specs.System.{peak_of, row_of}

-- the life counts the learns, up to 2^64 - 1; the cap, at which no new pair is added, never changes
pub record Dictionary : Type 0 where
  pub pairs : List Row
  pub life : ℕ
  pub cap : ℕ

-- what a call leaves, and its reply
pub record Outcome : Type 0 where
  pub left : Dictionary
  pub reply : Reply

-- the rows are in image order, no pair twice: each is below all that follow
abbrev pub is_map : List Row → Bool
is_map [] = true
is_map (row ∷ rows) = list_all (λ later. is_lt (image_cmp row later)) rows && is_map rows

-- the row at its place in image order, in place of an earlier one of its pair
abbrev pub put_row : Row → List Row → List Row
put_row row [] = row ∷ []
put_row row (first ∷ rest) = match_ordering (image_cmp row first) (row ∷ (first ∷ rest)) (row ∷ rest) (first ∷ put_row row rest)

-- the map without a pair
abbrev pub without : List ℕ → List ℕ → List Row → List Row
without key phrase pairs = filter (λ row. not (is_pair_of key phrase row)) pairs

-- a row put in at the time, in place of an earlier one of its pair
abbrev pub put_pair : Dictionary → List ℕ → List ℕ → (freq time : ℕ) → List Row
put_pair had key phrase freq time = put_row (record { key = key; phrase = phrase; freq = freq; time = time }) had.pairs

-- the time of a learn: the life, but never that of a hidden pair
abbrev pub time_of_learn : Dictionary → ℕ
time_of_learn had = min had.life (2 ^ 64 - 2)

-- the pair has this frequency now and the life as its time, and the life rises
abbrev pub learned : Dictionary → List ℕ → List ℕ → ℕ → Outcome
learned had key phrase freq = record {
  left = record {
    pairs = put_pair had key phrase freq (time_of_learn had);
    life = min (had.life + 1) (2 ^ 64 - 1);
    cap = had.cap;
  };
  reply = Learned freq (time_of_learn had);
}

-- where the map is full, nothing changes
abbrev pub unless_full : Dictionary → Outcome → Outcome
unless_full had outcome = if nat_le had.cap (length had.pairs) then record { left = had; reply = Full } else outcome

-- the frequency of a pair that is new or was hidden: orig, or 1 where that is 0
abbrev pub first_freq : ℕ → ℕ
first_freq orig = if orig == 0 then 1 else orig

-- the frequency of a pair that is held and not hidden, once it is learnt again
abbrev pub relearned_freq : Dictionary → Row → (orig peak : ℕ) → ℕ
relearned_freq had row orig peak =
    update row.freq orig (max (max orig peak) (peak_of (shown_rows had.pairs) row.key)) (had.life - row.time)

-- the frequency of a pair that is held, once it is learnt
abbrev pub held_freq : Dictionary → Row → (orig peak : ℕ) → ℕ
held_freq had row orig peak = if is_hidden row then first_freq orig else relearned_freq had row orig peak

-- a new pair and a hidden one begin with orig, any other goes on from its frequency
unfoldable pub learn : Dictionary → List ℕ → List ℕ → (orig peak : ℕ) → Outcome
learn had key phrase orig peak =
    learn_held (row_of had.pairs key phrase)
  where
    learn_held : Option Row → Outcome
    learn_held None = unless_full had (learned had key phrase (first_freq orig))
    learn_held (Some row) = learned had key phrase (held_freq had row orig peak)

-- the pair goes, hidden or not
unfoldable pub forget : Dictionary → List ℕ → List ℕ → Outcome
forget had key phrase =
    if is_some (row_of had.pairs key phrase)
    then record { left = record had { pairs = without key phrase had.pairs }; reply = Forgot }
    else record { left = had; reply = NotThere }

-- the pair is hidden with this frequency; the life stays
abbrev pub hid : Dictionary → List ℕ → List ℕ → ℕ → Outcome
hid had key phrase freq = record { left = record had { pairs = put_pair had key phrase freq hidden_time }; reply = Hid }

-- a pair is hidden with the frequency that it has, or 0 where it is not held
unfoldable pub hide : Dictionary → List ℕ → List ℕ → Outcome
hide had key phrase =
    hide_held (row_of had.pairs key phrase)
  where
    hide_held : Option Row → Outcome
    hide_held None = unless_full had (hid had key phrase 0)
    hide_held (Some row) = if is_hidden row then record { left = had; reply = NotThere } else hid had key phrase row.freq
