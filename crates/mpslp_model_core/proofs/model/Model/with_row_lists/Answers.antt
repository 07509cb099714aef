use Rattle.std.proofs.{Common.{sym, ap, subst, ℕ, ◌≤◌, get_or, length}, lemmas.Option.slice_get-get_or}
use Rattle.mpslp_model_core.{proofs.{ViewLemmas.all_sorted, ByRowLemmas.numbers_within}}
use Rattle.mpslp_model_core.proofs.model.Model.with_row_lists.Goals as goal

pub elements_by_row-requires-clause-sorted : goal.elements_by_row-requires-clause-sorted
elements_by_row-requires-clause-sorted c = all_sorted c.self.inside.parts.columns c.self.invariant.parts.cells

pub elements_by_row-requires-clause-within : goal.elements_by_row-requires-clause-within
elements_by_row-requires-clause-within c k d below l e under = let columns = c.self.inside.parts.columns in
    let column = get_or columns k d in
    let cells = column.1.cells in subst (λ (n : ℕ). (get_or cells l e).0 ≤ n) (sym (ap length c.as_slice.ensures.value))
    (numbers_within c.self.inside.parts c.self.invariant.parts k column (slice_get-get_or columns k d below) l (get_or cells l e)
    (slice_get-get_or cells l e under))
