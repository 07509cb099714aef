use Rattle.std.proofs.Common.{sym, subst, ◌∙◌, ℕ, ◌<◌, List}
use Rattle.mpslp_model_core.{specs.Model.Column, proofs.ViewLemmas.{count_columns, column_read}}
use Rattle.mpslp_model_core.proofs.model.Model.column_name.Goals as goal

pub name_at-requires : goal.name_at-requires
name_at-requires c = subst (λ (n : ℕ). c.args.j < n) (sym (count_columns c.self.view_is c.self.invariant.parts)) c.requires

pub returns : goal.returns
returns c = column_read (λ (e : List ℕ × Column). e.0) c.args.j c.self.view_is c.self.invariant.parts ∙ c.name_at.ensures
