-- The header has their number.
use Rattle.std.proofs.Common.{◌≡◌, true, List, length, ap, ◌∙◌, subst, arith}
use Rattle.std.specs.List.{list_all}
use Rattle.chew_spec_syllable.specs.Row.{Row, is_row}
use Rattle.chew_spec_dictionary.specs.Dictionary.{is_map}
use Rattle.chew_trie_read.specs.declared.image.Image.TheInside.{Inside}
use Rattle.chew_trie_read.proofs.Stored.{read_of, rows_counted}
use Rattle.chew_trie_read.proofs.image.Image.rows.Goals as goal

pub returns-clause-value : goal.returns-clause-value
returns-clause-value c =
    ap (λ (x : Inside). x.counts.rows) c.self-inside.view_is ∙ rows_counted c.self.inside.bytes.now c.self.inside.counts c.self.invariant ∙ ap (λ (r : List Row). length r) c.self.view_is

pub returns-clause-map : goal.returns-clause-map
returns-clause-map c = subst (λ (r : List Row). is_map r ≡ true) c.self.view_is (read_of c.self.inside.bytes.now c.self.inside.counts c.self.invariant).map

pub returns-clause-each : goal.returns-clause-each
returns-clause-each c = subst (λ (r : List Row). list_all is_row r ≡ true) c.self.view_is (read_of c.self.inside.bytes.now c.self.inside.counts c.self.invariant).each

pub returns-clause-few : goal.returns-clause-few
returns-clause-few c =
    let n = ap (λ (x : Inside). x.counts.rows) c.self-inside.view_is ∙ rows_counted c.self.inside.bytes.now c.self.inside.counts c.self.invariant in
    let few = (read_of c.self.inside.bytes.now c.self.inside.counts c.self.invariant).few in
    omega arith
