use Rattle.mpslp_lp_write.proofs.Prelude
use Prelude.{take, ◌≤◌, ◌-◌, flat_map, row_name, row_columns, line_text, AreTerms, AreNamesOf, numbered_term_lines}
use Rattle.mpslp_io.specs.Printing.{Prints}
use Rattle.mpslp_lp_write.proofs.lp.rows.put_many_terms.Given as goal

-- the terms so far were put, and some of the next ones are known with the names of their columns
abbrev pub invariant-loop-k : goal.invariant-loop-k
invariant-loop-k g l = record {
  put : Prints line_text g.W.Sink l.fn.output l.output
      (flat_map (numbered_term_lines l.model (row_name l.model l.i)) (take l.k (row_columns l.model (row_name l.model l.i))));
  begun : l.from ≤ l.k;
  near : l.k - l.from ≤ 8;
  known : AreTerms l.model l.i l.from 8 l.terms;
  named : AreNamesOf l.model l.i l.from 8 l.terms l.names;
}
