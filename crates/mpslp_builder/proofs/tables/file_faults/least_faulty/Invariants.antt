use Rattle.std.proofs.Common.{◌≡◌, ◌<◌, ◌≤◌, drop, length}
use Rattle.std.specs.Option.{option_and_then, ForSome}
use Rattle.mpslp_builder.specs.FaultFound.{least_name, entry_name}
use Rattle.mpslp_builder.proofs.tables.file_faults.least_faulty.Given as goal

-- the entry is that of the least name among those from this index on
abbrev pub invariant-loop-index : goal.invariant-loop-index
invariant-loop-index g l = record {
  name : option_and_then (entry_name l.entries.entries) l.least ≡ least_name (g.V.Faulty.fails l.fn.fault)
      (drop l.index l.entries.entries);
  there : ForSome l.least (λ i. i < length l.entries.entries);
  within : l.index ≤ length l.entries.entries;
}

abbrev pub decreases-loop-index : goal.decreases-loop-index
decreases-loop-index g l = l.index
