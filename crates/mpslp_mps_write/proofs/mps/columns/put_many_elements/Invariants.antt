use Rattle.std.{proofs.Common.{take, ◌≤◌, ◌-◌}, specs.List.{flat_map}}
use Rattle.mpslp_model_core.specs.Views.{column_name, column_elements}
use Rattle.mpslp_mps_write.specs.MpsLinesAt.{element_lines, AreRowsOf}
use Rattle.mpslp_mps_text.specs.CanonicalMps.{line_text}
use Rattle.mpslp_io.specs.Printing.{Prints}
use Rattle.mpslp_mps_write.proofs.mps.columns.put_many_elements.Given as goal

-- the lines of the coefficients so far were put, and the rows of some of the next ones are known
abbrev pub invariant-loop-k : goal.invariant-loop-k
invariant-loop-k g l =
    let name = column_name l.model l.j in
    record {
      put : Prints line_text g.W.Sink l.fn.output l.output
          (flat_map (element_lines name) (take l.k (column_elements l.model name)));
      begun : l.from ≤ l.k;
      near : l.k - l.from ≤ 8;
      known : AreRowsOf l.model l.j l.from 8 l.rows;
    }
