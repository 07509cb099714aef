use Rattle.std.{proofs.Common.{ap, cond, sym, ◌∙◌}, specs.{Ordering.is_eq, Prelude.{None, Some}}}
use Rattle.mpslp_types.proofs.SearchLemmas.{found_here, found_nowhere, number_here, number_nowhere}
use Rattle.mpslp_types.proofs.sorted_map.find_index.Goals as goal

pub returns-then-is_eq : goal.returns-then-is_eq
returns-then-is_eq g c =
    let cmp = g.K.Key.cmp in
    let key = g.Q.Query.key c.args.query.now in
    let tie = ap is_eq (sym c.compare.ensures) ∙ sym c.is_eq.ensures ∙ c.if-is_eq.true in
    sym (number_here cmp key _ _ _ c.insertion_index-at.ensures c.if-at-entries.true c.index-entries-at.is tie)

pub returns-else-is_eq : goal.returns-else-is_eq
returns-else-is_eq g c =
    let cmp = g.K.Key.cmp in
    let key = g.Q.Query.key c.args.query.now in
    let entry = c.index-entries-at.result in
    sym (number_nowhere cmp key _
    (found_here cmp g.met.K.Key.total key _ _ entry c.requires c.insertion_index-at.ensures c.if-at-entries.true
    c.index-entries-at.is ∙ ap (λ b. cond b (Some entry.1) None) (ap is_eq (sym c.compare.ensures)
    ∙ sym c.is_eq.ensures ∙ c.if-is_eq.false)))

pub returns-else-at-entries : goal.returns-else-at-entries
returns-else-at-entries g c =
    let cmp = g.K.Key.cmp in
    let key = g.Q.Query.key c.args.query.now in
    sym (number_nowhere cmp key _ (found_nowhere cmp g.met.K.Key.total key _ _ c.requires c.insertion_index-at.ensures
    c.if-at-entries.false))
