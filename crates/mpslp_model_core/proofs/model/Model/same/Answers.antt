use Rattle.std.{proofs.Common.{◌≡◌, sym, ◌∙◌, true}, specs.Cmp.Lexicographic.pointwise}
use Rattle.mpslp_model_core.specs.{Same.same_named_column, Columned.column_entries, SameLaws.{decides-lists, decides-named-column}}
use Rattle.mpslp_model_core.proofs.SameModels.{parts-same, same-parts}
use Rattle.mpslp_model_core.proofs.model.Model.same.Goals as goal

pub returns-then-same_rows : goal.returns-then-same_rows
returns-then-same_rows c =
    let m = c.self.inside.parts in
    let n = c.other.inside.parts in
    let tested : c.same_columns.result ≡ pointwise same_named_column (column_entries m.columns) (column_entries n.columns) =
    c.same_columns.ensures in
    let is_equality = decides-lists same_named_column decides-named-column (column_entries m.columns)
    (column_entries n.columns) in (
      (λ h. same-parts {m = m} {n = n} c.self.view_is c.other.view_is (record {
        objective = c.has_same_objective.ensures.0 c.if-has_same_objective.true;
        rows = sym c.deref.ensures.value ∙ c.same_rows.ensures.0 c.if-same_rows.true
            ∙ c.deref-then-has_same_objective.ensures.value;
        columns = is_equality.0 (sym tested ∙ h);
      })),
      (λ same. tested ∙ is_equality.1 (parts-same {m = m} {n =
          n} c.self.view_is c.self.invariant.parts c.other.view_is c.other.invariant.parts same).columns),
    )

pub returns-else-same_rows : goal.returns-else-same_rows
returns-else-same_rows c = let one : c.args.self.now ≡ c.args.other.now →
    c.same_rows.result ≡ true = λ same. c.same_rows.ensures.1
    (c.deref.ensures.value ∙ (parts-same {m = c.self.inside.parts} {n = c.other.inside.parts} c.self.view_is
    c.self.invariant.parts c.other.view_is c.other.invariant.parts same).rows
    ∙ sym c.deref-then-has_same_objective.ensures.value) in
    ((λ h. let other = c.if-same_rows.false in absurd cc), one)
