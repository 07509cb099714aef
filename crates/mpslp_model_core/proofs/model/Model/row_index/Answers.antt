use Rattle.std.{proofs.Common.{sym, ap, ◌∙◌, ℕ, List}, specs.Prelude.position}
use Rattle.mpslp_types.specs.Name.{same_bytes}
use Rattle.mpslp_model_core.{specs.Model.Row, proofs.ViewLemmas.{rows_seen, position-map}}
use Rattle.mpslp_model_core.proofs.model.Model.row_index.Goals as goal

pub returns : goal.returns
returns c = c.index_of.ensures ∙ ap (λ (es : List (List ℕ × Row)). position (λ e. same_bytes c.args.name.now e.0) es)
    (c.deref.ensures.value ∙ sym (rows_seen c.self.view_is c.self.invariant.parts))
    ∙ sym (position-map (same_bytes c.args.name.now) (λ (e : List ℕ × Row). e.0) _)
