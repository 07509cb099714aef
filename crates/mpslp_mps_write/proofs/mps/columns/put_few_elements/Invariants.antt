use Rattle.std.proofs.Common.{take}
use Rattle.std.specs.List.{flat_map}
use Rattle.mpslp_model_core.specs.Views.{column_name, column_elements}
use Rattle.mpslp_mps_write.specs.MpsLinesAt.{element_lines}
use Rattle.mpslp_mps_text.specs.CanonicalMps.{line_text}
use Rattle.mpslp_io.specs.Printing.{Prints}
use Rattle.mpslp_mps_write.proofs.mps.columns.put_few_elements.Given as goal

-- the lines of the coefficients so far were put
abbrev pub invariant-loop-k : goal.invariant-loop-k
invariant-loop-k g l =
    let name = column_name l.model l.j in
    Prints line_text g.W.Sink l.fn.output l.output (flat_map (element_lines name) (take l.k (column_elements l.model name)))
