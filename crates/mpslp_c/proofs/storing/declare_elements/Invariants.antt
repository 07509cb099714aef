use Rattle.std.specs.Prelude.{slice_range}
use Rattle.mpslp_c.{specs.Stored.element_items, proofs.KnownLemmas.Leads}
use Rattle.mpslp_c.proofs.storing.declare_elements.Given as goal

-- the elements before `k` are declared
abbrev pub invariant-loop-k : goal.invariant-loop-k
invariant-loop-k l = record {
  leads : Leads (element_items l.names l.rows l.column l.first (slice_range l.elements l.first l.end)) l.fn.builder
      (element_items l.names l.rows l.column l.k (slice_range l.elements l.k l.end)) l.builder;
}
