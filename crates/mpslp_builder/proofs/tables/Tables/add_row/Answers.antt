use Rattle.std.{proofs.Common.{refl, sym, ap, ◌∙◌, None}, specs.Prelude.{true, false, is_some}}
use Rattle.mpslp_types.specs.Name.{same_bytes}
use Rattle.mpslp_builder_parts.{proofs.ColumnLemmas.value_back}
use Rattle.mpslp_builder.{specs.Declaration.is_objective, specs.Tables.draft, proofs.TableDrafts.{row_refused, row_new}}
use Rattle.indexmap.{specs.IndexMap.set_value_at, proofs.CallerLemmas.insert_entry-new}
use Rattle.mpslp_builder.proofs.tables.Tables.add_row.Goals as goal

pub returns-in_default : goal.returns-in_default
returns-in_default c = row_refused c.args.self.now _ c.args.name _ false _
    (ap (is_objective (draft None None c.args.self.now)) (sym c.as_bytes.ensures) ∙ sym c.is_objective.ensures
    ∙ c.if-is_objective.false) (ap is_some c.in_default.ensures.absent) refl
    (record { objective = refl; rows = c.in_default.ensures.err; columns = refl })

pub returns-in_default-old : goal.returns-in_default-old
returns-in_default-old c =
    let t = c.args.self.now in
    let absent = sym c.in-Ok.ensures.old ∙ c.in_default-old.is in row_new t _ c.args.name _
    (ap (is_objective (draft None None t)) (sym c.as_bytes.ensures) ∙ sym c.is_objective.ensures ∙ c.if-is_objective.false) absent
    (c.has_room.ensures c.if-not-has_room.false) (record {
      objective = refl;
      rows = c.in-Ok.ensures.entries ∙ insert_entry-new (λ x y. same_bytes x y) t.rows c.args.name c.args.parts absent;
      columns = refl;
    })

pub returns : goal.returns
returns c =
    let t = c.args.self.now in
    let there = sym c.in-Some.is ∙ c.in-Ok.ensures.old in row_refused t _ c.args.name _ true _
    (ap (is_objective (draft None None t)) (sym c.as_bytes.ensures) ∙ sym c.is_objective.ensures ∙ c.if-is_objective.false)
    (ap is_some (sym there)) refl (record {
      objective = refl;
      rows = (λ i. set_value_at (c.in-Ok.ensures.entries i) (c.in-Ok.ensures.index i) c.in-Some.old)
          ∙ value_back c.args.name c.args.parts c.in-Some.old t.rows.entries there;
      columns = refl;
    })
