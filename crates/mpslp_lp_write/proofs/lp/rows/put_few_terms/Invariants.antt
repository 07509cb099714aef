use Rattle.mpslp_lp_write.proofs.Prelude
use Prelude.{take, flat_map, row_name, row_columns, line_text, numbered_term_lines}
use Rattle.mpslp_io.specs.Printing.{Prints}
use Rattle.mpslp_lp_write.proofs.lp.rows.put_few_terms.Given as goal

-- the terms so far were put
abbrev pub invariant-loop-k : goal.invariant-loop-k
invariant-loop-k g l =
    let row = row_name l.model l.i in
    Prints line_text g.W.Sink l.fn.output l.output
    (flat_map (numbered_term_lines l.model row) (take l.k (row_columns l.model row)))
