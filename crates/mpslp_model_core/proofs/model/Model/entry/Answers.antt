use Rattle.std.{proofs.Common.{sym, ap, subst, ◌∙◌, ℕ, ◌<◌, length, List}, specs.Prelude.{Some, slice_get}}
use Rattle.mpslp_decimal.specs.Decimal.{Number}
use Rattle.mpslp_model_core.proofs.ViewLemmas.{above_zero, count_columns, cells_seen, length_seen, entry_numbered}
use Rattle.mpslp_model_core.proofs.model.Model.entry.Goals as goal

pub cells_at-requires : goal.cells_at-requires
cells_at-requires c = subst (λ (n : ℕ). c.args.j < n)
    (sym (count_columns c.self.view_is c.self.invariant.parts)) c.requires.column

pub row_cells-requires : goal.row_cells-requires
row_cells-requires c = (cells_seen c.self.inside.parts c.self.invariant.parts c.args.self.now c.self.view_is c.args.j
    c.cells_at.result.now c.cells_at.ensures).sorted

pub entry_at-cell-requires : goal.entry_at-cell-requires
entry_at-cell-requires c =
    subst (λ (n : ℕ). c.args.k < n)
    (sym (
    ap length c.row_cells.ensures
    ∙ length_seen c.self.inside.parts c.self.invariant.parts c.args.self.now c.self.view_is c.args.j c.cells_at.result.now
    (cells_seen c.self.inside.parts c.self.invariant.parts c.args.self.now c.self.view_is c.args.j c.cells_at.result.now
    c.cells_at.ensures)
    ))
    c.requires.entry

pub index_of_row_number-requires : goal.index_of_row_number-requires
index_of_row_number-requires c = above_zero c.cells_at.result.now c.args.k c.entry_at-cell.result.now
    (ap (λ (es : List (ℕ × Number)). slice_get es c.args.k) (sym c.row_cells.ensures) ∙ c.entry_at-cell.ensures)

pub returns : goal.returns
returns c = entry_numbered c.self.inside.parts c.self.invariant.parts c.args.self.now c.self.view_is c.args.j
    c.cells_at.result.now (cells_seen c.self.inside.parts c.self.invariant.parts c.args.self.now c.self.view_is c.args.j
    c.cells_at.result.now c.cells_at.ensures) c.args.k c.entry_at-cell.result.now
    (ap (λ (es : List (ℕ × Number)). slice_get es c.args.k) (sym c.row_cells.ensures) ∙ c.entry_at-cell.ensures)
    c.index_of_row_number.result c.index_of_row_number.ensures
    ∙ ap (λ (x : Number). Some (Some c.index_of_row_number.result, x)) (sym c.value.ensures)
