-- Where the children of a node begin, or its rows.
use Rattle.std.specs.Prelude.{ℕ, List}
use Rattle.chew_spec_syllable.specs.Row.{Row}
use Rattle.chew_trie_read.specs.Search.{first_child_at, first_row_at}
use Rattle.chew_trie_read.specs.declared.keys.Start.{Start}
use Rattle.chew_trie_read.specs.declared.keys.Start.TheVariants.{Children, Rows}

abbrev pub start_at : List Row → Start → ℕ → ℕ
start_at rows Children i = first_child_at rows i
start_at rows Rows i = first_row_at rows i
