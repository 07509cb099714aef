use Rattle.std.{proofs.Common.{◌≡◌, drop, List, ℕ}, specs.{Prelude.Some, List.flat_map}}
use Rattle.mpslp_builder.{specs.{Calls.row_name, LineTables.Follows, RowTerms.term_declared}, proofs.LineLemmas.Decides}
use Rattle.mpslp_builder.proofs.tables.Tables.declare_first.Given as goal

-- the result depends on the terms that are left
abbrev pub invariant-loop-k : goal.invariant-loop-k
invariant-loop-k l = record {
  kept : Follows l.fn.self l.self;
  rows : l.self.rows.entries ≡ l.fn.self.rows.entries;
  declared : (name : List ℕ) → row_name l.fn.self l.row ≡ Some name
      → Decides l.self (flat_map (term_declared name) (drop l.k l.terms)) l.fn.self (flat_map (term_declared name) l.terms);
}
