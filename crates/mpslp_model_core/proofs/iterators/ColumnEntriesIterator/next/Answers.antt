use Rattle.std.{proofs.Common.{subst, ℕ, suc, List, arith}, specs.List.All}
use Rattle.mpslp_decimal.specs.Decimal.{Number}
use Rattle.mpslp_model_core.specs.Iterators.{IsOfRow}
use Rattle.mpslp_model_core.proofs.iterators.ColumnEntriesIterator.next.Goals as goal

pub index_of_row_number-requires : goal.index_of_row_number-requires
index_of_row_number-requires c = subst (λ (cells : List (ℕ × Number)). All IsOfRow cells) c.in_ok-cell.ensures.steps
    c.self.invariant 0 c.in_ok-cell.cell.now (omega arith)

pub invariant_of-self-2 : goal.invariant_of-self-2
invariant_of-self-2 c = λ k d below. subst (λ (cells : List (ℕ × Number)). All IsOfRow cells) c.in_ok-cell.ensures.steps
    c.self.invariant (suc k) d (omega (arith, below))
