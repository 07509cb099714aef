use Rattle.std.proofs.Common.{sym, ap, ◌∙◌, length}
use Rattle.mpslp_model_core.{specs.ModelColumns.span_bounds, proofs.ViewLemmas.length-part}
use Rattle.mpslp_model_core.proofs.iterators.ColumnsExactSizeIterator.len.Goals as goal

pub returns-clause-value : goal.returns-clause-value
returns-clause-value c = c.len.ensures.value ∙ sym (length-part span_bounds _) ∙ ap length c.self.view_is
