use Rattle.std.proofs.Common.{sym}
use Rattle.mpslp_model_core.proofs.ColumnLemmas.{spans_counted}
use Rattle.mpslp_model_core.proofs.model_columns.ModelColumns.len.Goals as goal

pub returns : goal.returns
returns c = sym (spans_counted c.self.inside.cells.items c.self.view_is c.as_slice.ensures.value)
