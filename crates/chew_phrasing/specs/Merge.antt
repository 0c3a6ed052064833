-- Two lists of entries made one, in which no entry of the two is beaten by none.
use Rattle.std.specs.Prelude.{◌≡◌, ◌<◌, ◌⊎◌, List, Contains}
use Rattle.chew_phrasing.specs.Table.{Entry}

-- the entry stands in place of another of the same lengths: its frequencies count more, or as much, and it is longer
-- at the first
pub record Beats (entry other : Entry) : Type 0 where
  pub counts : entry.counts ≡ other.counts
  pub more : (other.freq < entry.freq) ⊎ ((other.freq ≡ entry.freq) × (other.len < entry.len))

-- an entry of both, or one that beats it, is among them
pub record HasAtLeast (all : List Entry) (entry : Entry) : Type 0 where
  pub top : Entry
  pub among : Contains all top
  pub is : (top ≡ entry) ⊎ Beats top entry

-- all entries are of the two lists, and each of these, or one that beats it, is among all
pub record IsMerged (own other all : List Entry) : Type 0 where
  pub from : (entry : Entry) → Contains all entry → Contains own entry ⊎ Contains other entry
  pub own_kept : (entry : Entry) → Contains own entry → HasAtLeast all entry
  pub other_kept : (entry : Entry) → Contains other entry → HasAtLeast all entry
