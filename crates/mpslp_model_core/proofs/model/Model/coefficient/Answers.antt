use Rattle.std.proofs.Common.{sym, subst, ◌∙◌, ℕ, suc, ◌<◌}
use Rattle.mpslp_model_core.{specs.Views.row_name, proofs.ViewLemmas.{count_columns, cells_seen, value_seen, row_numbered}}
use Rattle.mpslp_model_core.proofs.model.Model.coefficient.Goals as goal

pub cells_at-requires : goal.cells_at-requires
cells_at-requires c = subst (λ (n : ℕ). c.args.j < n)
    (sym (count_columns c.self.view_is c.self.invariant.parts)) c.requires.column

pub value_at-requires : goal.value_at-requires
value_at-requires c = (cells_seen c.self.inside.parts c.self.invariant.parts c.args.self.now c.self.view_is c.args.j
    c.cells_at.result.now c.cells_at.ensures).sorted

pub returns : goal.returns
returns c = c.value_at.ensures ∙ value_seen c.self.inside.parts c.self.invariant.parts c.args.self.now c.self.view_is c.args.j
    c.cells_at.result.now (cells_seen c.self.inside.parts c.self.invariant.parts c.args.self.now c.self.view_is c.args.j
    c.cells_at.result.now c.cells_at.ensures) (suc c.args.i) (row_name c.args.self.now c.args.i)
    (row_numbered c.self.view_is c.self.invariant.parts c.args.i c.requires.row)
