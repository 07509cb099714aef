use Rattle.std.proofs.Common.{IsTrue, ap, length, subst, sym, ℕ, ◌∙◌, ◌≡◌, ◌↔◌}
use Rattle.mpslp_builder_parts.specs.{ColumnTable.ColumnEntries, StoredColumns.parts_of}
use Rattle.mpslp_builder_parts.proofs.TakenLemmas.{length-each_part}
use Rattle.mpslp_builder_parts.proofs.column_table.ColumnTable.is_empty.Goals as goal

pub returns : goal.returns
returns c = subst (λ (n : ℕ). IsTrue c.is_empty.result ↔ (n ≡ 0))
    (sym (length-each_part (parts_of c.self.inside.log) c.self.inside.columns.entries)
    ∙ ap (λ (columns : ColumnEntries). length columns.entries) c.self.view_is) c.is_empty.ensures
