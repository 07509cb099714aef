use Rattle.std.proofs.Common.{sym, ap, ◌∙◌}
use Rattle.mpslp_model_core.specs.{ModelColumns.span_bounds, ModelParts.bounds_in, Numbered.each_part}
use Rattle.mpslp_model_core.proofs.ColumnLemmas.{bounds-columns_of}
use Rattle.mpslp_model_core.proofs.model_columns.ModelColumns.iter.Goals as goal

pub returns : goal.returns
returns c = c.of.ensures ∙ ap (each_part span_bounds) c.deref.ensures.value
    ∙ sym (bounds-columns_of c.self.inside.columns.items c.self.inside.cells.items) ∙ ap (each_part bounds_in) c.self.view_is
