-- The key is read from its last code to its first.
use Rattle.std.proofs.Common.{◌≡◌, ℕ, ◌≤◌, List, length, Some, sym, ap, ◌∙◌, subst, arith}
use Rattle.std.proofs.lemmas.Bool.{false≢true}
use Rattle.std.proofs.lemmas.List.{take_rest}
use Rattle.chew_spec_syllable.specs.Row.{Row}
use Rattle.chew_trie_read.specs.Search.{key_at}
use Rattle.chew_trie_read.proofs.Climbing.{Climbed, climbed_all, climbed_more, climbed_room, key_fits, row_some}
use Rattle.chew_trie_read.proofs.keys.key_of.Goals as goal

pub overflow_sub-from : goal.overflow_sub-from
overflow_sub-from c =
    climbed_room c.args.image.now c.node_of-start.result c.climbing.node c.climbing.from c.climbing.syllables c.rows-rows.ensures.each c.node_of-start.ensures.within c.climbing.invariant c.climbing-test.true

pub climbing-smaller : goal.climbing-smaller
climbing-smaller c =
    let room = climbed_room c.args.image.now c.node_of-start.result c.climbing.node c.climbing.from c.climbing.syllables c.rows-rows.ensures.each c.node_of-start.ensures.within c.climbing.invariant c.climbing-test.true in
    omega arith

pub climbing-preserved : goal.climbing-preserved
climbing-preserved c =
    let room = climbed_room c.args.image.now c.node_of-start.result c.climbing.node c.climbing.from c.climbing.syllables c.rows-rows.ensures.each c.node_of-start.ensures.within c.climbing.invariant c.climbing-test.true in
    climbed_more c.args.image.now c.node_of-start.result c.climbing.node c.parent_of-node.result c.climbing.from c.climbing.syllables c.syllable_of.result c.climbing.invariant c.climbing-test.true room
    c.parent_of-node.ensures.within c.parent_of-node.ensures.parent c.syllable_of.ensures

pub of_some-requires-clause-some : goal.of_some-requires-clause-some
of_some-requires-clause-some c =
    let root : c.climbing.node ≡ 0 = omega arith in
    let all = subst (λ (n : ℕ). Climbed c.args.image.now c.node_of-start.result n c.climbing.from c.climbing.syllables) root c.climbing.invariant in
    let some = row_some c.args.image.now c.args.place _ c.rows-rows.ensures.each c.requires c.node_of-start.ensures.key.3 in
    let fits = key_fits c.args.image.now c.node_of-start.result c.climbing.from c.climbing.syllables c.rows-rows.ensures.each c.node_of-start.ensures.within some all in
    let whole = sym (take_rest c.climbing.syllables c.climbing.from) in
    subst (λ (l : List ℕ). 1 ≤ length l) whole fits.0

pub of_some-requires-clause-few : goal.of_some-requires-clause-few
of_some-requires-clause-few c =
    let root : c.climbing.node ≡ 0 = omega arith in
    let all = subst (λ (n : ℕ). Climbed c.args.image.now c.node_of-start.result n c.climbing.from c.climbing.syllables) root c.climbing.invariant in
    let some = row_some c.args.image.now c.args.place _ c.rows-rows.ensures.each c.requires c.node_of-start.ensures.key.3 in
    let fits = key_fits c.args.image.now c.node_of-start.result c.climbing.from c.climbing.syllables c.rows-rows.ensures.each c.node_of-start.ensures.within some all in
    let whole = sym (take_rest c.climbing.syllables c.climbing.from) in
    subst (λ (l : List ℕ). length l ≤ 11) whole fits.1

pub returns : goal.returns
returns c =
    let root : c.climbing.node ≡ 0 = omega arith in
    let all = subst (λ (n : ℕ). Climbed c.args.image.now c.node_of-start.result n c.climbing.from c.climbing.syllables) root c.climbing.invariant in
    let there = c.node_of-start.ensures.key in
    let key : key_at c.args.image.now c.node_of-start.result ≡ c.of_some.result =
    sym (climbed_all c.args.image.now c.node_of-start.result c.climbing.from c.climbing.syllables all) ∙ sym (take_rest c.climbing.syllables c.climbing.from) ∙ sym c.of_some.ensures in
    (there.0, there.1, there.2, there.3 ∙ ap (λ (k : List ℕ). let row : Row = record { key = k; phrase = there.0; freq = there.1; time = there.2 } in Some row) key)
