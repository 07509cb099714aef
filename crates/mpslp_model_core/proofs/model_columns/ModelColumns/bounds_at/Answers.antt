use Rattle.std.{proofs.Common.{ap, subst, sym, ◌∙◌, ℕ, ◌<◌, List}, specs.{Prelude.Some, Option.option_map}}
use Rattle.mpslp_model_core.{specs.{Model.Column, ModelColumns.ModelColumn}, proofs.ColumnLemmas.{spans_counted, column_read}}
use Rattle.mpslp_model_core.proofs.model_columns.ModelColumns.bounds_at.Goals as goal

pub entry_at-requires : goal.entry_at-requires
entry_at-requires c =
    subst (λ (n : ℕ). c.args.j < n) (spans_counted c.self.inside.cells.items c.self.view_is c.deref.ensures.value) c.requires

pub returns : goal.returns
returns c = ap (option_map (λ (column : List ℕ × ModelColumn). column.1.bounds))
    (column_read c.self.inside.cells.items c.self.view_is c.deref.ensures.value c.args.j c.entry_at.ensures)
    ∙ ap (λ (bounds : Column). Some bounds) (sym c.bounds.ensures)
