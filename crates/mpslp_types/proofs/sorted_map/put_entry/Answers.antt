use Rattle.std.{proofs.{Common.{ap, sym, ◌∙◌}, lemmas.List.Sums.prefix_len-le-length}, specs.{FinMap.is_sorted, Prelude.insert}}
use Rattle.mpslp_types.proofs.{PutKeyLemmas.put-insert, SearchLemmas.sorted-put}
use Rattle.mpslp_types.proofs.sorted_map.put_entry.Goals as goal

pub insert-requires : goal.insert-requires
insert-requires g c = rw (c.insertion_index-at.ensures, ← c.deref.ensures.len) (prefix_len-le-length _ _)

pub returns-clause-ok : goal.returns-clause-ok
returns-clause-ok g c =
    c.in_ok-insert.ensures.items
    ∙ ap (λ i. insert c.args.entries.now.items i (c.args.key, c.args.value))
    (rw (← c.deref.ensures.value) c.insertion_index-at.ensures) ∙ sym (put-insert g.K.Key.cmp _ _ _ c.requires.absent)

pub returns-clause-sorted : goal.returns-clause-sorted
returns-clause-sorted g c = ap (is_sorted g.K.Key.cmp) (returns-clause-ok g c) ∙ sorted-put _ g.met.K.Key.total _ _ _
    c.requires.sorted
