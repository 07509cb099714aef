use Rattle.std.proofs.Common.{ap, length, subst, sym, ◌<◌, ◌∙◌}
use Rattle.std.specs.List.{All}
use Rattle.mpslp_model_core.specs.{Numbered.each_part}
use Rattle.mpslp_builder_parts.specs.{ColumnTable.ColumnEntries, Parts.{bounds_of, cells_of, moved_in}}
use Rattle.mpslp_builder_parts.proofs.{OrderLemmas.if_ok, TableLemmas.all_whole}
use Rattle.mpslp_builder_parts.proofs.column_table.ColumnTable.into_columns.Goals as goal

pub columns_in-requires-clause-known : goal.columns_in-requires-clause-known
columns_in-requires-clause-known c = all_whole c.self.inside.log c.self.inside.columns.entries c.self.invariant.within
    c.self.invariant.once

pub columns_in-requires-clause-within : goal.columns_in-requires-clause-within
columns_in-requires-clause-within c =
    subst (λ (columns : ColumnEntries). All (λ column. All (λ cell. cell.0 < length c.args.ranks.now)
    (cells_of column.1)) columns.entries) (sym c.self.view_is) c.requires.within

pub returns-clause-bounds : goal.returns-clause-bounds
returns-clause-bounds c = if_ok c.columns_in.result
    (λ _ is. is ∙ ap (λ (columns : ColumnEntries). each_part bounds_of columns.entries) c.self.view_is)
    c.columns_in.ensures.bounds

pub returns-clause-cells : goal.returns-clause-cells
returns-clause-cells c = if_ok c.columns_in.result (λ _ is. is
    ∙ ap (λ (columns : ColumnEntries). each_part (moved_in c.args.ranks.now) columns.entries) c.self.view_is)
    c.columns_in.ensures.cells

pub columns_in-requires-clause-numbers : goal.columns_in-requires-clause-numbers
columns_in-requires-clause-numbers c = c.self.invariant.columns
