use Rattle.mpslp_model_core.specs.Views.{column_name, column_elements}
use Rattle.mpslp_mps_write.specs.MpsLinesAt.{element_lines}
use Rattle.mpslp_io.proofs.LinesAtLemmas.{flat_map-next}
use Rattle.mpslp_io.proofs.OutputLemmas.{prints_then, prints_same}
use Rattle.mpslp_mps_write.proofs.mps.columns.put_few_elements.Goals as goal

pub loop-k-preserved : goal.loop-k-preserved
loop-k-preserved g c =
    let name = column_name c.args.model.now c.args.j in
    prints_same (flat_map-next (element_lines name) (column_elements c.args.model.now name) c.loop-k.k)
    (prints_then c.loop-k.invariant c.put_element.ensures)
