use Rattle.std.{proofs.Common.{sym, ap, subst, ◌∙◌, ℕ, ◌<◌}, specs.Prelude.Some}
use Rattle.mpslp_model_core.{specs.Model.LinearModel, proofs.ViewLemmas.{count_columns, cells_seen, value_seen}}
use Rattle.mpslp_model_core.proofs.model.Model.objective_coefficient.Goals as goal

pub cells_at-requires : goal.cells_at-requires
cells_at-requires c =
    subst (λ (n : ℕ). c.args.j < n) (sym (count_columns c.self.view_is c.self.invariant.parts)) c.requires

pub objective_value-requires : goal.objective_value-requires
objective_value-requires c = (cells_seen c.self.inside.parts c.self.invariant.parts c.args.self.now c.self.view_is c.args.j
    c.cells_at.result.now c.cells_at.ensures).sorted

pub returns : goal.returns
returns c = c.objective_value.ensures
    ∙ value_seen c.self.inside.parts c.self.invariant.parts c.args.self.now c.self.view_is c.args.j c.cells_at.result.now
    (cells_seen c.self.inside.parts c.self.invariant.parts c.args.self.now c.self.view_is c.args.j c.cells_at.result.now
    c.cells_at.ensures) 0 c.args.self.now.objective (ap (λ (m : LinearModel). Some m.objective) c.self.view_is)
