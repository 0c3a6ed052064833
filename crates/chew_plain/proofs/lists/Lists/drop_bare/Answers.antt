-- A key's list that has no rows is taken out, which leaves the rows as they are.
use Rattle.std.proofs.Common.{length, ap, sym, ◌∙◌}
use Rattle.std.proofs.lemmas.Bool.{eqb-true}
use Rattle.std.proofs.lemmas.List.{nil_from_length}
use Rattle.chew_spec_dictionary.specs.Dictionary.{is_map}
use Rattle.chew_plain.specs.ByKey.{all_rows, are_own}
use Rattle.chew_plain.proofs.ByKey.{bare_by_key, own_remove}
use Rattle.chew_plain.proofs.lists.Lists.drop_bare.Goals.{in-Some-1, in-None-1}
use Rattle.chew_plain.proofs.lists.Lists.drop_bare.Goals as goal

pub invariant_of-self : goal.invariant_of-self
invariant_of-self c =
    let empty = ap length (sym c.as_slice.ensures.value) ∙ eqb-true (length c.as_slice.result.now) 0 (sym c.is_empty.ensures ∙ c.if-is_empty.true) in
    let bare = ap (all_rows (λ list. list.items)) c.remove-list.ensures.entries
    ∙ bare_by_key (λ list. list.items) c.of-ranked.result c.self.inside.lists.entries c.in-Some.list.now (sym c.in-Some.ensures.value) (nil_from_length c.in-Some.list.now.items empty) in
    (ap is_map bare ∙ c.self.invariant.0, ap (are_own (λ list. list.items)) c.remove-list.ensures.entries ∙ own_remove (λ list. list.items) c.of-ranked.result c.self.inside.lists.entries c.self.invariant.1)

pub returns-then-is_empty : goal.returns-then-is_empty
returns-then-is_empty c =
    let empty = ap length (sym c.as_slice.ensures.value) ∙ eqb-true (length c.as_slice.result.now) 0 (sym c.is_empty.ensures ∙ c.if-is_empty.true) in
    let bare = ap (all_rows (λ list. list.items)) c.remove-list.ensures.entries
    ∙ bare_by_key (λ list. list.items) c.of-ranked.result c.self.inside.lists.entries c.in-Some.list.now (sym c.in-Some.ensures.value) (nil_from_length c.in-Some.list.now.items empty)
    ∙ c.self.view_is in
    elim c.match-list.branch [
      | in-Some-1 w ↦ w.self-is ∙ bare
      | in-None-1 w ↦ w.self-is ∙ bare
    ]
