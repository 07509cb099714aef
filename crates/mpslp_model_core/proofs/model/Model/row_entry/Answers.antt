use Rattle.std.proofs.Common.{◌≡◌, sym, ap, subst, ◌∙◌, ℕ, ◌<◌, List, length}
use Rattle.std.specs.{Prelude.{Some, slice_get}}
use Rattle.mpslp_model_core.proofs.{ViewLemmas.{all_sorted, count_columns}, ByRowLemmas.{row_below, listed_in, columns_seen, column_below}}
use Rattle.mpslp_model_core.proofs.ByRowLemmas.{row_seen_length, element_column, element_below, element_placed, element_value, has_list}
use Rattle.mpslp_model_core.proofs.model.Model.row_entry.Goals as goal

pub element_at-element-requires-clause-row : goal.element_at-element-requires-clause-row
element_at-element-requires-clause-row c = has_list (listed_in c.in-Some.lists c.self.invariant c.in-Some.is).by_row c.args.i
    (row_below c.self.view_is c.self.invariant.parts c.args.i c.requires.row)

pub element_at-element-requires-clause-element : goal.element_at-element-requires-clause-element
element_at-element-requires-clause-element c =
    subst (λ (len : ℕ). c.args.k < len)
    (sym (row_seen_length c.in-Some.lists c.self.view_is (listed_in c.in-Some.lists c.self.invariant c.in-Some.is)
    c.args.i c.requires.row)) c.requires.entry

pub cells_at-requires : goal.cells_at-requires
cells_at-requires c = subst (λ (n : ℕ). c.element_at-element.result.column < n)
    (sym (count_columns c.self.view_is c.self.invariant.parts))
    (element_below c.in-Some.lists c.self.view_is (listed_in c.in-Some.lists c.self.invariant c.in-Some.is) c.args.i
    c.args.k c.requires.row c.element_at-element.result c.element_at-element.ensures)

pub entry_at-cell-requires : goal.entry_at-cell-requires
entry_at-cell-requires c = element_placed c.in-Some.lists c.self.view_is
    (listed_in c.in-Some.lists c.self.invariant c.in-Some.is) c.args.i c.args.k c.requires.row
    c.element_at-element.result c.element_at-element.ensures c.cells_at.result.now c.cells_at.ensures

pub column_with-j-requires-clause-sorted : goal.column_with-j-requires-clause-sorted
column_with-j-requires-clause-sorted c = all_sorted c.self.inside.parts.columns c.self.invariant.parts.cells

pub column_with-j-requires-clause-element : goal.column_with-j-requires-clause-element
column_with-j-requires-clause-element c = subst (λ (len : ℕ). c.args.k < len) (sym (ap length
    (columns_seen c.self.view_is c.self.invariant.parts c.args.i c.requires.row))) c.requires.entry

pub coefficient-requires-clause-column : goal.coefficient-requires-clause-column
coefficient-requires-clause-column c = column_below c.args.self.now c.args.i c.args.k c.column_with-j.result
    (subst (λ (js : List ℕ). slice_get js c.args.k ≡ Some c.column_with-j.result)
    (columns_seen c.self.view_is c.self.invariant.parts c.args.i c.requires.row) c.column_with-j.ensures)

pub returns-in_default-clause-column : goal.returns-in_default-clause-column
returns-in_default-clause-column c = subst (λ (js : List ℕ). slice_get js c.args.k ≡ Some c.column_with-j.result) (columns_seen
    c.self.view_is c.self.invariant.parts c.args.i c.requires.row) c.column_with-j.ensures

pub returns-clause-column : goal.returns-clause-column
returns-clause-column c = element_column c.in-Some.lists c.self.view_is
    (listed_in c.in-Some.lists c.self.invariant c.in-Some.is) c.args.i c.args.k c.requires.row
    c.element_at-element.result c.element_at-element.ensures

pub returns-clause-value : goal.returns-clause-value
returns-clause-value c = c.value.ensures ∙ element_value c.in-Some.lists c.self.view_is
    (listed_in c.in-Some.lists c.self.invariant c.in-Some.is) c.args.i c.args.k c.requires.row
    c.element_at-element.result c.element_at-element.ensures c.cells_at.result.now c.cells_at.ensures
    c.entry_at-cell.result.now c.entry_at-cell.ensures
