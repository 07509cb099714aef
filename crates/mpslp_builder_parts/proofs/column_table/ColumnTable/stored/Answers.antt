use Rattle.std.proofs.Common.{ap, sym, ◌∙◌}
use Rattle.mpslp_model_core.specs.Numbered.{each_part}
use Rattle.mpslp_builder_parts.specs.{ColumnTable.ColumnEntries, Parts.definition_in, StoredColumns.parts_of}
use Rattle.mpslp_builder_parts.proofs.ColumnLemmas.{each_part-twice}
use Rattle.mpslp_builder_parts.proofs.column_table.ColumnTable.stored.Goals as goal

pub returns : goal.returns
returns c = sym (each_part-twice (parts_of c.self.inside.log) definition_in c.self.inside.columns.entries)
    ∙ ap (λ (columns : ColumnEntries). each_part definition_in columns.entries) c.self.view_is
