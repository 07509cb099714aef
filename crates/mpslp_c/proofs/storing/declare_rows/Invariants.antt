use Rattle.std.specs.Prelude.{drop}
use Rattle.mpslp_c.{specs.Stored.row_items, proofs.KnownLemmas.Leads}
use Rattle.mpslp_c.proofs.storing.declare_rows.Given as goal

-- the rows before `i` are declared
abbrev pub invariant-loop-i : goal.invariant-loop-i
invariant-loop-i l = record {
  leads : Leads (row_items l.names 0 l.rows) l.fn.builder
      (row_items l.names l.i (drop l.i l.rows)) l.builder;
}
