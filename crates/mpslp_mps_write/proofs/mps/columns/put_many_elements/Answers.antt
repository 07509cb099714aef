use Rattle.std.proofs.Common.{arith}
use Rattle.mpslp_model_core.specs.Views.{column_name}
use Rattle.mpslp_mps_write.specs.MpsLinesAt.{element_lines}
use Rattle.mpslp_io.proofs.{LinesAtLemmas.{flat_map-next}, OutputLemmas.{prints_then, prints_same}}
use Rattle.mpslp_mps_write.proofs.mps.columns.put_many_elements.Goals as goal

pub put_element-requires-clause-row : goal.put_element-requires-clause-row
put_element-requires-clause-row = grind arith

pub loop-k-preserved : goal.loop-k-preserved
loop-k-preserved g c = record {
  put =
      prints_same (flat_map-next (element_lines (column_name c.args.model.now c.args.j)) _ c.loop-k.k)
      (prints_then c.loop-k.invariant.put c.put_element.ensures);
  begun = grind arith;
  near = grind arith;
  known = grind arith;
}
