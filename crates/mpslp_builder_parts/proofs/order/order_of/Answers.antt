use Rattle.std.{proofs.Common.{IsPermutation, List, ap, length, map, subst, sym, ◌∙◌}, specs.List.{range_with_len, Sorted.IsSortedBy}}
use Rattle.std.specs.Ordering.{is_lt}
use Rattle.mpslp_types.specs.Name.{bytes_cmp}
use Rattle.mpslp_builder_parts.proofs.OrderLemmas.{have_bytes, if_ok, numbers-permutation, own-fronts, sorted_numbers}
use Rattle.mpslp_builder_parts.specs.{Ordered.name_at, declared.order.Front.Front}
use Rattle.mpslp_builder_parts.proofs.order.order_of.Goals as goal

pub returns-clause-permutation : goal.returns-clause-permutation
returns-clause-permutation g c =
    let all = range_with_len 0 (length c.args.entries.now) in
    if_ok c.numbers_of.result
    (λ order is. subst (IsPermutation all) (sym (is ∙ ap (λ (fs : List Front). map (λ f. f.number) fs) c.deref.ensures.value))
    (numbers-permutation c.args.entries.now c.shared_len-shared.result all c.in_ok-fronts_of.field-0.items
    c.in_ok-fronts.fronts.items c.in_ok-fronts_of.ensures.fronts c.in_ok-fronts.ensures.permutation))
    c.numbers_of.ensures

pub returns-clause-sorted : goal.returns-clause-sorted
returns-clause-sorted g c =
    let entries = c.args.entries.now in
    let shared = c.shared_len-shared.result in
    let fronts = c.in_ok-fronts.fronts.items in
    if_ok c.numbers_of.result
    (λ order is. subst (IsSortedBy (λ n m. is_lt (bytes_cmp (name_at entries n) (name_at entries m))))
    (sym (is ∙ ap (λ (fs : List Front). map (λ f. f.number) fs) c.deref.ensures.value))
    (sorted_numbers entries shared (have_bytes entries shared c.in_ok-fronts_of.ensures.bytes) fronts
    (own-fronts entries shared c.shared_len-shared.ensures c.in_ok-fronts_of.field-0.items fronts c.in_ok-fronts_of.ensures.fronts
    c.in_ok-fronts.ensures.permutation) c.in_ok-fronts.ensures.sorted))
    c.numbers_of.ensures
