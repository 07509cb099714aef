use Rattle.std.{proofs.Common.{ap, subst, sym, ◌∙◌, ℕ, ◌<◌, List, length}, specs.{Prelude.Some, Option.option_map}}
use Rattle.mpslp_decimal.specs.Decimal.{Number}
use Rattle.mpslp_model_core.specs.ModelColumns.{ModelColumn, span_cells}
use Rattle.mpslp_model_core.proofs.ColumnLemmas.{spans_counted, column_read, span_within}
use Rattle.mpslp_model_core.proofs.model_columns.ModelColumns.cells_at.Goals as goal

pub entry_at-requires : goal.entry_at-requires
entry_at-requires c =
    subst (λ (n : ℕ). c.args.j < n) (spans_counted c.self.inside.cells.items c.self.view_is c.deref-2.ensures.value) c.requires

pub cells_of-requires : goal.cells_of-requires
cells_of-requires c = span_within c.self.inside.cells.items c.deref-2.ensures.value (ap length c.deref.ensures.value)
    c.self.invariant c.args.j c.entry_at.ensures

pub returns : goal.returns
returns c = ap (option_map (λ (column : List ℕ × ModelColumn). column.1.cells))
    (column_read c.self.inside.cells.items c.self.view_is c.deref-2.ensures.value c.args.j c.entry_at.ensures)
    ∙ ap (λ (cells : List (ℕ × Number)). Some cells) (sym (c.cells_of.ensures
    ∙ ap (λ (cells : List (ℕ × Number)). span_cells cells c.entry_at.result.now.1) c.deref.ensures.value))
