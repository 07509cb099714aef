use Rattle.std.{proofs.Common.{take}, specs.List.{flat_map}}
use Rattle.mpslp_model_core.specs.Views.{column_name, numbered_elements}
use Rattle.mpslp_io.specs.Printing.{Puts}
use Rattle.mpslp_conversions.specs.ShownText.{entry_text}
use Rattle.mpslp_conversions.proofs.shown_text.put_entries.Given as goal

-- the lines of the nonzeros before this one were put
abbrev pub invariant-loop-k : goal.invariant-loop-k
invariant-loop-k g l =
    Puts g.W.Sink l.fn.output l.output
    (flat_map (entry_text l.j) (take l.k (numbered_elements l.model (column_name l.model l.j))))
