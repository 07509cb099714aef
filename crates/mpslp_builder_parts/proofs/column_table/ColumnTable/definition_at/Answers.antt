use Rattle.std.{proofs.Common.{ap, List, ℕ, ◌∙◌}, specs.{Option.option_map}}
use Rattle.mpslp_builder_parts.specs.{Parts.definition_in, StoredColumns.{definition_of_stored, parts_of}}
use Rattle.mpslp_builder_parts.specs.declared.known_pairs.StoredColumn.{StoredColumn}
use Rattle.mpslp_builder_parts.proofs.ColumnLemmas.{parts_there}
use Rattle.mpslp_builder_parts.proofs.column_table.ColumnTable.definition_at.Goals as goal

pub returns-in-Some : goal.returns-in-Some
returns-in-Some c = ap (option_map (λ (e : List ℕ × StoredColumn). definition_of_stored e.1)) c.in-Some.ensures.entry
    ∙ parts_there (parts_of c.self.inside.log) c.self.inside.columns.entries c.args.self.now c.self.view_is
    definition_in c.args.column

pub returns-in-None : goal.returns-in-None
returns-in-None c = ap (option_map (λ (e : List ℕ × StoredColumn). definition_of_stored e.1)) c.in-None.ensures.entry
    ∙ parts_there (parts_of c.self.inside.log) c.self.inside.columns.entries c.args.self.now c.self.view_is
    definition_in c.args.column
