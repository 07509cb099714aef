use Rattle.mpslp_builder.{specs.Tables.no_part, proofs.ReadingLemmas.number_there}
use Rattle.mpslp_builder.proofs.tables.Tables.column_number.Goals as goal

pub returns-then-is_column-clause-found : goal.returns-then-is_column-clause-found
returns-then-is_column-clause-found c =
    number_there no_part c.args.self.now.columns.entries c.args.self.now.recent c.args.name.now
    (c.is_column.ensures c.if-is_column.true)

pub returns-then-is_column-2-clause-found : goal.returns-then-is_column-2-clause-found
returns-then-is_column-2-clause-found c =
    number_there no_part c.args.self.now.columns.entries c.saturating_add-next.result c.args.name.now
    (c.is_column-2.ensures c.if-is_column-2.true)
