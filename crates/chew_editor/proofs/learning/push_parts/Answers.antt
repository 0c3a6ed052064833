-- One part more, until all are there.
use Rattle.std.proofs.Common.{◌*◌, ◌+◌, ◌/◌, ◌++◌, ◌∷◌, [], ℕ, ap, ap₂, arith, encode_utf8_all, flat_map, length, map, subst, sym, true, ◌≡◌, ◌∙◌}
use Rattle.std.specs.List.{range_with_len}
use Rattle.std.proofs.lemmas.List.{length-map}
use Rattle.chew_spec_syllable.specs.Row.{is_pair}
use Rattle.chew_spec_editor.specs.Learning.{code_in}
use Rattle.chew_plain.specs.Call.{call_of}
use Rattle.chew_plain.proofs.Looks.{one_more}
use Rattle.chew_preedit.specs.CellItem.{cell_of}
use Rattle.chew_editor.specs.Spans.{eleven, learn_of, learns_in}
use Rattle.chew_editor.proofs.LearnSteps.{mapped-part, parts-end}
use Rattle.chew_editor.proofs.learning.push_parts.Goals as goal

pub push_part-requires-clause-pair : goal.push_part-requires-clause-pair
push_part-requires-clause-pair g c =
    let cells = c.args.cells.now in
    let n = c.loop-n.n in
    subst (λ cs. is_pair (flat_map code_in cs) (encode_utf8_all c.part-in-loop-n.result.now) ≡ true)
    (sym (ap (map cell_of) c.part.ensures.value ∙ mapped-part cell_of (11 * n) 11 cells))
    (subst (λ text. is_pair (flat_map code_in (eleven n (map cell_of cells))) (encode_utf8_all text) ≡ true) (sym c.part-in-loop-n.ensures.value)
    (c.requires.each n (omega (arith, length-map cells cell_of, c.loop-n-test.true))))

pub loop-n-preserved : goal.loop-n-preserved
loop-n-preserved g c =
    let system = g.L.Lexicon.rows c.args.system.now in
    let cells = c.args.cells.now in
    let shown = c.args.shown.now in
    let n = c.loop-n.n in
    let had = map call_of c.loop-n.calls.items in
    one_more (λ k. learn_of system (eleven k (map cell_of cells)) (eleven k shown)) had _ _ n ((length cells + 10) / 11) c.loop-n-test.true
    (c.in_ok-push_part.ensures ∙ ap₂ (λ cs text. had ++ learn_of system cs text ∷ [])
    (ap (map cell_of) c.part.ensures.value ∙ mapped-part cell_of (11 * n) 11 cells) c.part-in-loop-n.ensures.value)
    c.loop-n.invariant

pub returns : goal.returns
unfolding learns_in
returns g c =
    let system = g.L.Lexicon.rows c.args.system.now in
    let cells = c.args.cells.now in
    let part = λ (n : ℕ). learn_of system (eleven n (map cell_of cells)) (eleven n c.args.shown.now) in
    parts-end part (map call_of c.loop-n.calls.items) _ c.loop-n.n ((length cells + 10) / 11) c.loop-n-test.false c.loop-n.invariant
    ∙ ap (λ m. map call_of c.args.calls.now.items ++ map part (range_with_len 0 ((m + 10) / 11))) (sym (length-map cells cell_of))
