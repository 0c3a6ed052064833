-- The two searches cut the rows at the key.
use Rattle.std.proofs.Common.{◌≡◌, ℕ, ◌+◌, ◌-◌, ap, sym, ◌∙◌, take, drop, arith, rules, is_lt, not}
use Rattle.std.proofs.lemmas.List.{take_rest}
use Rattle.std.proofs.lemmas.List.Sorted.{IsPartitionPoint-from_clause}
use Rattle.chew_plain.specs.Order.{key_cmp}
use Rattle.chew_plain.proofs.KeyRows.{below_key_first, upto_key_first_in_rest, rows_found_in_rest}
use Rattle.chew_plain.proofs.find.places_at.Goals as goal

pub returns-clause-value : goal.returns-clause-value
returns-clause-value c =
    let rows = c.args.rows.now in
    let key = c.args.key.now in
    let low = c.partition_point-low.result in
    let front = IsPartitionPoint-from_clause (λ row. is_lt (key_cmp row.key key)) _ _ c.partition_point-low.ensures.partitioned (below_key_first key rows c.requires) (λ a r q k. search rules) in
    let back = IsPartitionPoint-from_clause (λ row. not (is_lt (key_cmp key row.key))) _ _ c.partition_point-count.ensures.partitioned (upto_key_first_in_rest key rows low c.requires) (λ a r q k. search rules) in
    ap (λ (n : ℕ). take n (drop low rows)) (let e : low + c.partition_point-count.result - low ≡ c.partition_point-count.result = omega arith in e)
    ∙ ap (take c.partition_point-count.result) (sym (take_rest rows low))
    ∙ rows_found_in_rest key rows low c.partition_point-count.result c.partition_point-low.ensures.bound front back c.partition_point-count.ensures.bound
