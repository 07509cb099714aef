use Rattle.std.proofs.Common.{suc}
use Rattle.mpslp_model_core.{specs.ByRow.columns_with, proofs.ByRowLemmas.{noted, ArePut}}
use Rattle.mpslp_model_core.proofs.by_row.elements_by_row.Given as goal

-- the columns up to this one are listed
abbrev pub invariant-loop-number : goal.invariant-loop-number
invariant-loop-number l = ArePut l.columns l.rows (λ i. columns_with l.columns (suc i) l.number) l.starts.items l.list.items

-- and in the lists of the rows of its coefficients up to this one, this column too
abbrev pub invariant-loop-place : goal.invariant-loop-place
invariant-loop-place l = ArePut l.columns l.rows (λ i. noted l.columns l.number l.place i) l.starts.items l.list.items
