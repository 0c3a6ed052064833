-- The first lengths that differ decide.
use Rattle.std.proofs.Common.{◌≡◌, nat_cmp, sym, refl, ap, ap₂, ◌∙◌, arith}
use Rattle.chew_phrasing.specs.Table.{Entry}
use Rattle.chew_phrasing.proofs.Walking.{equal_numbers, first_decides, goes_on, rest_decides, rest_has_order, same_at_end}
use Rattle.chew_phrasing.proofs.order.+lengths_order.Goals as goal

pub returns-then-left-eq0 : goal.returns-then-left-eq0
returns-then-left-eq0 t c = λ mine yours h i.
    same_at_end c.args.levels.now c.args.left c.args.entry.now c.args.other.now mine yours c.if-left-eq0.true h i

pub overflow_sub-rest : goal.overflow_sub-rest
overflow_sub-rest t c =
    let on = (goes_on c.args.levels.now c.args.left c.args.entry.now c.requires.order (omega arith)).goes_on in
    let within = on.within in
    let len = c.from.ensures ∙ ap (λ (e : Entry). e.len) c.entry.view_is in
    omega arith

pub next-requires : goal.next-requires
next-requires t c = goes_on c.args.levels.now c.args.left c.args.entry.now c.requires.order (omega arith)

pub next-requires-in-Equal : goal.next-requires-in-Equal
next-requires-in-Equal t c = goes_on c.args.levels.now c.args.left c.args.other.now c.requires.other (omega arith)

pub lengths_order-requires : goal.lengths_order-requires
lengths_order-requires t c =
    let on = c.next.ensures in
    let len = c.from.ensures ∙ ap (λ (e : Entry). e.len) c.entry.view_is in
    let other_len = ap (λ (e : Entry). e.len) c.other.view_is in
    let a = on.from_one in
    let b = on.within in
    let same : c.entry.inside.len ≡ c.other.inside.len = equal_numbers c.entry.inside.len c.other.inside.len (sym c.in-Equal.ensures) in (
      omega arith,
      (
        rest_has_order c.args.levels.now c.args.left _ c.from.result c.args.entry.now c.next.result c.requires.order (omega arith) len refl c.next.ensures,
        rest_has_order c.args.levels.now c.args.left _ c.from.result c.args.other.now c.next-in-Equal.result c.requires.other (omega arith) (omega arith) refl c.next-in-Equal.ensures,
      ),
    )

pub returns-in-Equal : goal.returns-in-Equal
returns-in-Equal t c = λ mine yours h i.
    let len = c.from.ensures ∙ ap (λ (e : Entry). e.len) c.entry.view_is in
    rest_decides c.args.levels.now c.args.left _ c.from.result c.args.entry.now c.args.other.now c.next.result c.next-in-Equal.result c.lengths_order.result mine yours
    (omega arith) (c.in-Equal.ensures ∙ ap₂ nat_cmp (ap (λ (e : Entry). e.len) c.entry.view_is) (ap (λ (e : Entry). e.len) c.other.view_is)) len refl c.next.ensures c.next-in-Equal.ensures c.lengths_order.ensures h i

pub returns-in_default : goal.returns-in_default
returns-in_default t c = λ mine yours h i.
    first_decides c.args.levels.now c.args.left c.args.entry.now c.args.other.now c.cmp.result mine yours (omega arith)
    (c.cmp.ensures ∙ ap₂ nat_cmp (ap (λ (e : Entry). e.len) c.entry.view_is) (ap (λ (e : Entry). e.len) c.other.view_is)) c.in_default.not-Equal h i
