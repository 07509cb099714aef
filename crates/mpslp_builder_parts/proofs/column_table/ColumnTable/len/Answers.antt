use Rattle.std.proofs.Common.{ap, length, subst, sym, ◌∙◌}
use Rattle.mpslp_model_core.specs.Numbered.{IsOnce, each_part}
use Rattle.mpslp_builder_parts.specs.{ColumnTable.ColumnEntries, Parts.cells_of, StoredColumns.parts_of}
use Rattle.mpslp_builder_parts.proofs.ColumnLemmas.{each_part-twice, once-from_distinct}
use Rattle.mpslp_builder_parts.proofs.TakenLemmas.{length-each_part}
use Rattle.mpslp_builder_parts.proofs.column_table.ColumnTable.len.Goals as goal

pub returns-clause-len : goal.returns-clause-len
returns-clause-len c = c.len.ensures.len ∙ sym (length-each_part (parts_of c.self.inside.log) c.self.inside.columns.entries)
    ∙ ap (λ (columns : ColumnEntries). length columns.entries) c.self.view_is

pub returns-clause-once : goal.returns-clause-once
returns-clause-once c = let es = c.self.inside.columns.entries in
    subst (λ (columns : ColumnEntries). IsOnce (each_part cells_of columns.entries)) c.self.view_is
    (subst IsOnce (sym (each_part-twice (parts_of c.self.inside.log) cells_of es))
    (once-from_distinct (λ stored. cells_of (parts_of c.self.inside.log stored)) es c.len.ensures.unique))
