-- A length that a break parts has no list, nor one without a row.
use Rattle.std.proofs.Common.{sym, ◌∙◌}
use Rattle.chew_editor.proofs.CandidateLists.{list-broken, list-none, list-one}
use Rattle.chew_editor.proofs.candidates.push_list.Goals as goal

pub returns-then-not-is_whole_at : goal.returns-then-not-is_whole_at
returns-then-not-is_whole_at c =
    list-broken c.args.rows.now c.args.breaks.now c.args.place c.args.len c.args.lists.now.items (sym c.is_whole_at.ensures ∙ c.if-not-is_whole_at.true)

pub returns-then-is_empty : goal.returns-then-is_empty
returns-then-is_empty c =
    list-none c.args.rows.now c.args.breaks.now c.args.place c.args.len c.list.result.now c.args.lists.now.items
    (c.list.ensures.value ∙ (c.of-found.ensures ∙ c.in_ok-rows_of.ensures)) (sym c.is_empty.ensures ∙ c.if-is_empty.true)

pub returns : goal.returns
returns c =
    list-one c.args.rows.now c.args.breaks.now c.args.place c.args.len c.list.result.now c.of-found.result c.args.lists.now.items _
    (sym c.is_whole_at.ensures ∙ c.if-not-is_whole_at.false) (c.list.ensures.value ∙ (c.of-found.ensures ∙ c.in_ok-rows_of.ensures)) (sym c.list.ensures.value)
    (sym c.is_empty.ensures ∙ c.if-is_empty.false) c.in_ok-push.ensures.items
