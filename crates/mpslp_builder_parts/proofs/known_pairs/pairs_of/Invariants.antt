use Rattle.std.proofs.Common.{◌≡◌, ◌≤◌, ◌<◌, ℕ, false}
use Rattle.mpslp_builder_parts.specs.{KnownPairs.{has_pair, in_pairs}, StoredColumns.last_of}
use Rattle.mpslp_builder_parts.proofs.known_pairs.pairs_of.Given as goal

-- the pairs of the columns up to this one are in the set
abbrev pub invariant-loop-column : goal.invariant-loop-column
invariant-loop-column l = record {
  own : (i r : ℕ) → r < 4294967296 → i < l.column → in_pairs l.pairs i r ≡ has_pair l.log (last_of l.columns.entries) i r;
  others : (i r : ℕ) → r < 4294967296 → l.column ≤ i → in_pairs l.pairs i r ≡ false;
}
