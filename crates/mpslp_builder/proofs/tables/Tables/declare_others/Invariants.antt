use Rattle.std.{proofs.Common.{◌≡◌, List, ℕ}, specs.{Prelude.Some, List.flat_map}}
use Rattle.mpslp_builder.{specs.{Calls.row_name, LineTables.Follows, RowTerms.term_declared}, proofs.LineLemmas.Decides}
use Rattle.mpslp_builder.proofs.tables.Tables.declare_others.Given as goal

-- the result depends on the terms that are left
abbrev pub invariant-loop-name : goal.invariant-loop-name
invariant-loop-name l = record {
  next : (goal.iterator-loop-name).can_next l.name-iterator;
  finite : (goal.iterator-loop-name).is_finite l.name-iterator;
  kept : Follows l.fn.self l.self;
  rows : l.self.rows.entries ≡ l.fn.self.rows.entries;
  declared : (name : List ℕ) → row_name l.fn.self l.row ≡ Some name
      → Decides l.self (flat_map (term_declared name) l.name-iterator) l.fn.self
      (flat_map (term_declared name) l.fn.terms.entries);
}
