use Rattle.std.proofs.Common.{suc}
use Rattle.mpslp_model_core.{specs.ByRow.columns_with, proofs.ByRowLemmas.{noted, AreCounted}}
use Rattle.mpslp_model_core.proofs.by_row.counts_by_row.Given as goal

-- the coefficients of the columns up to this one are counted
abbrev pub invariant-loop-j : goal.invariant-loop-j
invariant-loop-j l = AreCounted l.rows (λ i. columns_with l.columns (suc i) l.j) l.counts.items

-- and those of this column up to this one
abbrev pub invariant-loop-cell : goal.invariant-loop-cell
invariant-loop-cell l = AreCounted l.rows (λ i. noted l.columns l.j l.cell-index i) l.counts.items
