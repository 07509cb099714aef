use Rattle.std.{proofs.Common.{ap, ◌∙◌}, specs.Option.option_map}
use Rattle.mpslp_builder_parts.specs.{ColumnTable.{ColumnEntries, name_in}, StoredColumns.parts_of}
use Rattle.mpslp_builder_parts.proofs.ColumnLemmas.{name_of_part}
use Rattle.mpslp_builder_parts.proofs.column_table.ColumnTable.take_name.Goals as goal

pub returns-in-Some : goal.returns-in-Some
returns-in-Some c = ap (option_map (λ e. e.0)) c.in-Some.ensures.entry ∙ name_of_part (parts_of c.self.inside.log)
    c.self.inside.columns.entries c.args.column ∙ ap (λ (columns : ColumnEntries). name_in columns c.args.column) c.self.view_is

pub returns : goal.returns
returns c = ap (option_map (λ e. e.0)) c.in-None.ensures.entry ∙ name_of_part (parts_of c.self.inside.log)
    c.self.inside.columns.entries c.args.column ∙ ap (λ (columns : ColumnEntries). name_in columns c.args.column) c.self.view_is
