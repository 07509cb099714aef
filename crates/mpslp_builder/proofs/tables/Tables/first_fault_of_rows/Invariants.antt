use Rattle.std.proofs.Common.{◌≡◌, drop}
use Rattle.std.specs.Prelude.{None, filter_map}
use Rattle.mpslp_types.specs.Lists.{head_of}
use Rattle.mpslp_builder.specs.Tables.{draft}
use Rattle.mpslp_builder.specs.FaultFound.{kind_of_row_fault, named_fault}
use Rattle.mpslp_builder.proofs.tables.Tables.first_fault_of_rows.Given as goal

-- the result is that of the remaining kinds
abbrev pub invariant-loop-fault : goal.invariant-loop-fault
invariant-loop-fault l = head_of (filter_map (λ fault. named_fault (draft None None l.self) (kind_of_row_fault fault))
    (drop l.fault-index l.faults)) ≡ head_of
    (filter_map (λ fault. named_fault (draft None None l.self) (kind_of_row_fault fault)) l.faults)
