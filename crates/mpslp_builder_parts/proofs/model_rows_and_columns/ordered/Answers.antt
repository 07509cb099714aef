use Rattle.std.{proofs.Common.{IsPermutation, ap, arith, length, subst, sym, ℕ}, specs.List.range_with_len}
use Rattle.mpslp_builder_parts.proofs.OrderLemmas.{sorted_in_place, taken_in_place}
use Rattle.mpslp_builder_parts.proofs.RankLemmas.{order_apart, order_within}
use Rattle.mpslp_builder_parts.proofs.model_rows_and_columns.ordered.Goals as goal

pub in_order-requires-clause-within : goal.in_order-requires-clause-within
in_order-requires-clause-within g c =
    let count = length c.args.entries.items in
    order_within count c.deref-3.result.now
    (subst (IsPermutation (range_with_len 0 count)) (sym c.deref-3.ensures.value)
    (subst (λ (n : ℕ). IsPermutation (range_with_len 0 n) c.in_ok-order.order.items)
    (ap length c.deref-2.ensures.value) c.in_ok-order.ensures.permutation))

pub in_order-requires-clause-apart : goal.in_order-requires-clause-apart
in_order-requires-clause-apart g c =
    let count = length c.args.entries.items in
    order_apart count c.deref-3.result.now
    (subst (IsPermutation (range_with_len 0 count)) (sym c.deref-3.ensures.value)
    (subst (λ (n : ℕ). IsPermutation (range_with_len 0 n) c.in_ok-order.order.items)
    (ap length c.deref-2.ensures.value) c.in_ok-order.ensures.permutation))

pub returns-then-is_in_order-clause-sorted : goal.returns-then-is_in_order-clause-sorted
returns-then-is_in_order-clause-sorted g c =
    sorted_in_place c.args.entries.items c.in_ok-numbers.numbers.items c.len.result (omega (arith, c.len.ensures))
    c.in_ok-numbers.ensures c.deref.result.now c.deref.ensures.value (c.is_in_order.ensures c.if-is_in_order.true)

pub returns-then-is_in_order-clause-taken : goal.returns-then-is_in_order-clause-taken
returns-then-is_in_order-clause-taken g c =
    taken_in_place c.args.entries.items c.in_ok-numbers.numbers.items c.len.result (omega (arith, c.len.ensures))
    c.in_ok-numbers.ensures
