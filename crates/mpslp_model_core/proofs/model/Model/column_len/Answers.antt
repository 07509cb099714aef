use Rattle.std.proofs.Common.{sym, ap, subst, ◌∙◌, ℕ, ◌<◌, length}
use Rattle.mpslp_model_core.proofs.ViewLemmas.{count_columns, cells_seen, length_seen}
use Rattle.mpslp_model_core.proofs.model.Model.column_len.Goals as goal

pub cells_at-requires : goal.cells_at-requires
cells_at-requires c =
    subst (λ (n : ℕ). c.args.j < n) (sym (count_columns c.self.view_is c.self.invariant.parts)) c.requires

pub row_cells-requires : goal.row_cells-requires
row_cells-requires c = (cells_seen c.self.inside.parts c.self.invariant.parts c.args.self.now c.self.view_is c.args.j
    c.cells_at.result.now c.cells_at.ensures).sorted

pub returns : goal.returns
returns c = ap length c.row_cells.ensures ∙ length_seen c.self.inside.parts c.self.invariant.parts c.args.self.now
    c.self.view_is c.args.j c.cells_at.result.now (cells_seen c.self.inside.parts c.self.invariant.parts c.args.self.now
    c.self.view_is c.args.j c.cells_at.result.now c.cells_at.ensures)
