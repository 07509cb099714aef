use Rattle.std.proofs.Common.{◌≡◌, ℕ, List, length, take, min, sum_by}
use Rattle.mpslp_model_core.specs.Model.{Row}
use Rattle.mpslp_model_core.proofs.row_names.count_bytes.Given as goal

abbrev pub invariant-loop-row : goal.invariant-loop-row
invariant-loop-row l = l.count ≡ min 18446744073709551615
    (sum_by (λ (row : List ℕ × Row). length row.0) (take l.row-index l.rows))
