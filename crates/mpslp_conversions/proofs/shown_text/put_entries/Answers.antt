use Rattle.std.proofs.Common.{arith}
use Rattle.mpslp_model_core.specs.Views.{column_name, numbered_elements}
use Rattle.mpslp_io.proofs.{LinesAtLemmas.{flat_map-next}, OutputLemmas.{puts_nothing, puts_then, puts_same}}
use Rattle.mpslp_conversions.{specs.ShownText.{entry_text}, proofs.ShownLemmas.{all-elements}}
use Rattle.mpslp_conversions.proofs.shown_text.put_entries.Goals as goal

pub loop-k-init : goal.loop-k-init
loop-k-init g c = puts_nothing c.args.output.now

pub loop-k-preserved : goal.loop-k-preserved
loop-k-preserved g c =
    let m = c.args.model.now in
    puts_same (flat_map-next (entry_text c.args.j) (numbered_elements m (column_name m c.args.j)) c.loop-k.k)
    (puts_then c.loop-k.invariant c.put_entry.ensures)

pub returns : goal.returns
returns = grind (arith, puts_same, all-elements)
