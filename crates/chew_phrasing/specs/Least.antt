-- The first row of an interval to be shown, of those that keep the choices, in whatever order they come.
use Rattle.std.specs.Prelude.{◌≡◌, ℕ, Bool, true, false, List, [], ◌∷◌, Contains, bytes_eq, Option, Some, None, if◌then◌else◌}
use Rattle.std.specs.List.{list_any}
use Rattle.std.specs.Cmp.Lexicographic.{slice_cmp}
use Rattle.std.specs.Ordering.{is_lt, nat_cmp, ordering_then}
use Rattle.chew_spec_dictionary.specs.Call.{Hit}
use Rattle.chew_spec_dictionary.specs.Look.{Interval, shown_hit_cmp}
use Rattle.chew_spec_phrasing.specs.CombinedRows.{as_shown, is_shown}
use Rattle.chew_spec_phrasing.specs.Usable.{Choice, keeps_choices}

-- it passes, and of the others that do none is shown before it
pub record IsBefore (passes : Hit → Bool) (hits : List Hit) (first : Hit) : Type 0 where
  pub among : Contains hits first
  pub does : passes first ≡ true
  pub unbeaten : (hit : Hit) → Contains hits hit → passes hit ≡ true → is_lt (shown_hit_cmp hit first) ≡ false

-- the first to be shown of those that pass, or none where none does
pub record IsLeast (passes : Hit → Bool) (hits : List Hit) (first : Option Hit) : Type 0 where
  pub some : (hit : Hit) → first ≡ Some hit → IsBefore passes hits hit
  pub none : first ≡ None → (hit : Hit) → Contains hits hit → passes hit ≡ false

-- the phrase keeps the choices
abbrev pub keeps : List Choice → Interval → Hit → Bool
keeps choices at hit = keeps_choices choices at hit.phrase

-- a hit that was found, where it is shown
abbrev pub found_one : Hit → List Hit
found_one hit = if is_shown hit then as_shown hit ∷ [] else []

-- a row of the system, where no hit that was found has its phrase
abbrev pub free_one : List Hit → Interval → List ℕ → ℕ → List Hit
free_one found at phrase freq =
    if list_any (λ hit. bytes_eq hit.phrase phrase) found then []
    else record { start = at.start; len = at.len; phrase = phrase; freq = freq; hidden = false } ∷ []

-- a row of this phrase and frequency is shown before the first so far, where there is one
abbrev pub comes_before : List ℕ → ℕ → Option Hit → Bool
comes_before phrase freq None = true
comes_before phrase freq (Some first) = is_lt (ordering_then (nat_cmp first.freq freq) (slice_cmp nat_cmp phrase first.phrase))
