use Rattle.std.{proofs.Common.{sym, ap, subst, ◌∙◌, ℕ, ◌<◌, List, map}, specs.{Prelude.Some, List.All}}
use Rattle.mpslp_decimal.specs.Decimal.{Number}
use Rattle.mpslp_model_core.specs.Iterators.{IsOfRow, entry_of_cell}
use Rattle.mpslp_model_core.proofs.ViewLemmas.{all_of_rows, count_columns, cells_seen, entries_seen}
use Rattle.mpslp_model_core.proofs.model.Model.column_entries.Goals as goal

pub cells_at-requires : goal.cells_at-requires
cells_at-requires c =
    subst (λ (n : ℕ). c.args.j < n) (sym (count_columns c.self.view_is c.self.invariant.parts)) c.requires

pub row_cells-requires : goal.row_cells-requires
row_cells-requires c = (cells_seen c.self.inside.parts c.self.invariant.parts c.args.self.now c.self.view_is c.args.j
    c.cells_at.result.now c.cells_at.ensures).sorted

pub of-requires : goal.of-requires
of-requires c = subst (λ (cells : List (ℕ × Number)). All IsOfRow cells) (sym c.row_cells.ensures)
    (all_of_rows c.cells_at.result.now)

pub returns : goal.returns
returns c = ap (map (λ (entry : ℕ × Number). (Some entry.0, entry.1))) (c.of.ensures ∙ ap (map entry_of_cell) c.row_cells.ensures)
    ∙ entries_seen c.self.inside.parts c.self.invariant.parts c.args.self.now c.self.view_is c.args.j c.cells_at.result.now
    (cells_seen c.self.inside.parts c.self.invariant.parts c.args.self.now c.self.view_is c.args.j c.cells_at.result.now
    c.cells_at.ensures)
