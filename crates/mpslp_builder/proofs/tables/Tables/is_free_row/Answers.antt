use Rattle.std.{proofs.Common.{ap, ◌∙◌, false}, specs.{Prelude.{Option, Some, None}, Option.option_map_or}}
use Rattle.mpslp_builder.specs.{Declaration.{RowDefinition, is_free_definition}, Tables.definition_of}
use Rattle.mpslp_builder.proofs.TableDrafts.{at_name-each_part}
use Rattle.mpslp_builder.proofs.tables.Tables.is_free_row.Goals as goal

pub returns-in-Some : goal.returns-in-Some
returns-in-Some c = c.is_free.ensures ∙ ap (λ (o : Option RowDefinition). option_map_or is_free_definition o false)
    (at_name-each_part definition_of c.args.name.now c.args.self.now.rows.entries (Some c.in-Some.row.now)
    c.in-Some.ensures.value)

pub returns-in-None : goal.returns-in-None
returns-in-None c = ap (λ (o : Option RowDefinition). option_map_or is_free_definition o false)
    (at_name-each_part definition_of c.args.name.now c.args.self.now.rows.entries None c.in-None.ensures.value)
