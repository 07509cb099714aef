use Rattle.std.{proofs.Common.{ap, cond, sym, ◌∙◌}, specs.{Ordering.is_eq, Prelude.{None, Some}}}
use Rattle.mpslp_types.proofs.{SearchLemmas.{found_here, found_nowhere}, sorted_map.find_entry.Goals.else-at-entries}
use Rattle.mpslp_types.proofs.sorted_map.find_entry.Goals.{then-at-entries+else-is_eq}
use Rattle.mpslp_types.proofs.sorted_map.find_entry.Goals as goal

pub returns-then-is_eq : goal.returns-then-is_eq
returns-then-is_eq g c =
    let cmp = g.K.Key.cmp in
    let key = g.Q.Query.key c.args.query.now in
    let entry = c.index-entries-at.result in
    sym (found_here cmp g.met.K.Key.total key _ _ entry c.requires c.insertion_index-at.ensures c.if-at-entries.true
    c.index-entries-at.is ∙ ap (λ b. cond b (Some entry.1) None) (ap is_eq (sym c.compare.ensures)
    ∙ sym c.is_eq.ensures ∙ c.if-is_eq.true))

pub returns : goal.returns
returns g c =
    let cmp = g.K.Key.cmp in
    let key = g.Q.Query.key c.args.query.now in
    elim c.if-at-entries.branch [
      | then-at-entries+else-is_eq w ↦
          let entry = w.index-entries-at.result in
          sym (found_here cmp g.met.K.Key.total key _ _ entry c.requires c.insertion_index-at.ensures w.if-at-entries.true
          w.index-entries-at.is
          ∙ ap (λ b. cond b (Some entry.1) None) (ap is_eq (sym w.compare.ensures) ∙ sym w.is_eq.ensures ∙ w.if-is_eq.false))
      | else-at-entries w ↦ sym (found_nowhere cmp g.met.K.Key.total key _ _ c.requires c.insertion_index-at.ensures
          w.if-at-entries.false)
    ]
