use Rattle.std.proofs.Common.{◌≡◌, ◌≤◌, drop, length, false}
use Rattle.std.specs.List.{list_any}
use Rattle.mpslp_builder.proofs.tables.file_faults.has_faulty.Given as goal

-- no entry from this index on has an error
abbrev pub invariant-loop-index : goal.invariant-loop-index
invariant-loop-index g l = record {
  none : list_any (λ e. g.V.Faulty.is_wrong e.1) (drop l.index l.entries.entries) ≡ false;
  within : l.index ≤ length l.entries.entries;
}

abbrev pub decreases-loop-index : goal.decreases-loop-index
decreases-loop-index g l = l.index
