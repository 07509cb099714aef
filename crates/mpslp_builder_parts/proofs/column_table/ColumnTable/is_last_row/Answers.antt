use Rattle.std.{proofs.Common.{ap, sym, ◌∙◌}, specs.{FinMap.find, Ordering.nat_cmp, Prelude.{is_some}}}
use Rattle.mpslp_builder_parts.specs.{ColumnTable.{ColumnEntries, cells_in_column}}
use Rattle.mpslp_builder_parts.proofs.TableLemmas.{has_in_column}
use Rattle.mpslp_builder_parts.proofs.column_table.ColumnTable.is_last_row.Goals as goal

pub returns : goal.returns
returns c last = sym (has_in_column c.self.inside.log c.self.inside.columns.entries c.args.column c.args.row
    ∙ ap (λ (columns : ColumnEntries). is_some (find nat_cmp c.args.row (cells_in_column columns c.args.column))) c.self.view_is)
    ∙ c.is_last_row.ensures last
