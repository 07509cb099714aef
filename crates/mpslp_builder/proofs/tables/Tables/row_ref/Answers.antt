use Rattle.std.{proofs.Common.{◌∙◌, ap, true, false}, specs.Prelude.{is_some, None}}
use Rattle.mpslp_builder.specs.{Declaration.{is_objective, has_name}, Tables.{definition_of, draft}}
use Rattle.mpslp_builder.proofs.{TableDrafts.{has_name-each_part, found_name, or_right}, ReadingLemmas.number_there}
use Rattle.mpslp_builder.proofs.tables.Tables.row_ref.Goals as goal

pub returns-in-Some-clause-place : goal.returns-in-Some-clause-place
returns-in-Some-clause-place c = found_name c.args.name.now c.args.self.now.rows.entries c.in-Some.index c.in-Some._key.now
    c.in-Some._row.now c.in-Some.ensures.entry c.in-Some.ensures.key

pub returns-in-Some-clause-found : goal.returns-in-Some-clause-found
returns-in-Some-clause-found c = or_right (is_objective (draft None None c.args.self.now) c.args.name.now)
    (has_name (draft None None c.args.self.now).rows c.args.name.now) true c.if-is_objective.ensures
    (ap is_some c.in-Some.ensures.value ∙ has_name-each_part definition_of c.args.name.now c.args.self.now.rows.entries)

pub returns-in-None-clause-found : goal.returns-in-None-clause-found
returns-in-None-clause-found c = or_right (is_objective (draft None None c.args.self.now) c.args.name.now)
    (has_name (draft None None c.args.self.now).rows c.args.name.now) false c.if-is_objective.ensures
    (ap is_some c.in-None.ensures.value ∙ has_name-each_part definition_of c.args.name.now c.args.self.now.rows.entries)

pub returns-then-is_row_at-clause-found : goal.returns-then-is_row_at-clause-found
returns-then-is_row_at-clause-found c = or_right (is_objective (draft None None c.args.self.now) c.args.name.now)
    (has_name (draft None None c.args.self.now).rows c.args.name.now) true c.if-is_objective.ensures (number_there definition_of
    c.args.self.now.rows.entries c.args.self.now.recent_row c.args.name.now (c.is_row_at.ensures c.if-is_row_at.true))

pub returns-then-is_row_at-2-clause-found : goal.returns-then-is_row_at-2-clause-found
returns-then-is_row_at-2-clause-found c = or_right (is_objective (draft None None c.args.self.now) c.args.name.now)
    (has_name (draft None None c.args.self.now).rows c.args.name.now) true c.if-is_objective.ensures (number_there definition_of
    c.args.self.now.rows.entries c.saturating_add-next.result c.args.name.now (c.is_row_at-2.ensures c.if-is_row_at-2.true))
