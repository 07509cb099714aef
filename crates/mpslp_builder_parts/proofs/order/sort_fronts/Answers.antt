use Rattle.std.{proofs.{Common.rules, lemmas.{Fn.always_returns_same, List.Sorted.ranks_by}}, specs.Ordering.is_lt}
use Rattle.mpslp_builder_parts.{proofs.OrderLemmas.front_total, specs.{Ordered.front_cmp, declared.order.Front.Front}}
use Rattle.mpslp_builder_parts.proofs.order.sort_fronts.Goals as goal

pub returns-clause-sorted : goal.returns-clause-sorted
returns-clause-sorted g c =
    c.in_ok-sort_by.ensures.sorted (λ a b. is_lt (front_cmp c.args.entries.now a b))
    (ranks_by (front_total c.args.entries.now) (λ (f : Front). f)) (always_returns_same _ _ _ (λ a r f' k. search rules))
