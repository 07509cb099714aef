use Rattle.std.{proofs.Common.{ap, sym, ◌∙◌}, specs.Prelude.is_some}
use Rattle.mpslp_builder_parts.specs.{ColumnTable.{ColumnEntries, name_in}, StoredColumns.parts_of}
use Rattle.mpslp_builder_parts.proofs.ColumnLemmas.{found_name, found_part, name_of_part}
use Rattle.mpslp_builder_parts.proofs.column_table.ColumnTable.number_of.Goals as goal

pub returns-in-Some-clause-number : goal.returns-in-Some-clause-number
returns-in-Some-clause-number c = let es = c.self.inside.columns.entries in
    ap (λ (columns : ColumnEntries). name_in columns c.in-Some.number) (sym c.self.view_is)
    ∙ sym (name_of_part (parts_of c.self.inside.log) es c.in-Some.number)
    ∙ found_name c.args.name.now es c.in-Some.number c.in-Some._key.now c.in-Some._stored.now
    c.in-Some.ensures.entry c.in-Some.ensures.key

pub returns-in-Some-clause-found : goal.returns-in-Some-clause-found
returns-in-Some-clause-found c = ap is_some c.in-Some.ensures.value
    ∙ found_part (parts_of c.self.inside.log) c.self.inside.columns.entries c.args.self.now c.self.view_is c.args.name.now

pub returns-in-None-clause-found : goal.returns-in-None-clause-found
returns-in-None-clause-found c = ap is_some c.in-None.ensures.value
    ∙ found_part (parts_of c.self.inside.log) c.self.inside.columns.entries c.args.self.now c.self.view_is c.args.name.now
