use Rattle.std.{proofs.Common.{sym, ap, ◌∙◌, ℕ, List}, specs.{Prelude.position, FinMap.is_sorted}}
use Rattle.mpslp_types.specs.Name.{same_bytes, bytes_cmp}
use Rattle.mpslp_model_core.specs.{ModelColumns.ModelColumn, declared.model_columns.ColumnSpan.ColumnSpan}
use Rattle.mpslp_model_core.proofs.ColumnLemmas.{is_sorted-columns_of, position-columns_of}
use Rattle.mpslp_model_core.proofs.model_columns.ModelColumns.index_of.Goals as goal

pub index_of-requires : goal.index_of-requires
index_of-requires c = ap (is_sorted bytes_cmp) c.deref.ensures.value
    ∙ sym (is_sorted-columns_of c.self.inside.columns.items c.self.inside.cells.items)
    ∙ ap (is_sorted bytes_cmp) c.self.view_is ∙ c.requires

pub returns : goal.returns
returns c = c.index_of.ensures
    ∙ ap (position (λ (e : List ℕ × ColumnSpan). same_bytes c.args.name.now e.0)) c.deref.ensures.value
    ∙ sym (position-columns_of c.args.name.now c.self.inside.columns.items c.self.inside.cells.items)
    ∙ ap (position (λ (column : List ℕ × ModelColumn). same_bytes c.args.name.now column.0)) c.self.view_is
