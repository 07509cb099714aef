use Rattle.std.{proofs.{Common.{of_calls, rules, sym, ◌∙◌}, lemmas.List.Sorted.IsPartitionPoint-from_clause}, specs.Ordering.is_gt}
use Rattle.mpslp_types.proofs.SearchLemmas.{parted, place_after, place_from_point}
use Rattle.mpslp_types.proofs.sorted_map.insertion_index.Goals as goal

pub returns : goal.returns
returns g c =
    let cmp = g.K.Key.cmp in
    let key = g.Q.Query.key c.args.query.now in
    place_from_point cmp key _ _ c.partition_point.ensures.bound
    (IsPartitionPoint-from_clause (λ entry. is_gt (cmp key entry.0)) c.args.entries.now c.partition_point.result
    c.partition_point.ensures.partitioned (parted cmp g.met.K.Key.total key _ c.requires) (λ a r f k. search (rules, of_calls)))

pub returns-then-ends_below : goal.returns-then-ends_below
returns-then-ends_below g c =
    place_after _ g.met.K.Key.total _ _ c.requires (sym c.ends_below.ensures ∙ c.if-ends_below.true)
