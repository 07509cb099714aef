use Rattle.mpslp_builder.{specs.Tables.definition_of, proofs.TableDrafts.once-from_distinct}
use Rattle.mpslp_builder.proofs.tables.Tables.each_name_occurs_once.Goals as goal

pub returns : goal.returns
returns c = record {
  rows = once-from_distinct definition_of c.args.self.now.rows.entries c.len-rows.ensures.unique;
  columns = c.len-columns.ensures.once;
}
