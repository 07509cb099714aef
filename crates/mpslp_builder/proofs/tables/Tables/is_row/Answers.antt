use Rattle.std.proofs.Common.{◌∙◌}
use Rattle.mpslp_builder.{specs.Tables.definition_of, proofs.TableDrafts.has_name-each_part}
use Rattle.mpslp_builder.proofs.tables.Tables.is_row.Goals as goal

pub returns : goal.returns
returns c = c.contains_key.ensures ∙ has_name-each_part definition_of c.args.name.now c.args.self.now.rows.entries
