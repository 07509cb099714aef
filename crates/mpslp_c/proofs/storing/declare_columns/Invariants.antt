use Rattle.std.specs.Prelude.{drop}
use Rattle.mpslp_c.{specs.Stored.column_items, proofs.KnownLemmas.Leads}
use Rattle.mpslp_c.proofs.storing.declare_columns.Given as goal

-- the columns before `j` and their elements are declared
abbrev pub invariant-loop-j : goal.invariant-loop-j
invariant-loop-j l = record {
  leads : Leads (column_items l.model.names.now l.objective l.model.rows.now l.model.elements.now 0 l.model.columns.now)
      l.fn.builder (column_items l.model.names.now l.objective l.model.rows.now l.model.elements.now l.j
      (drop l.j l.model.columns.now)) l.builder;
}
