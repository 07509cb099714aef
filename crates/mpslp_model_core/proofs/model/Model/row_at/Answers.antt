use Rattle.std.proofs.Common.{sym, ap, subst, ◌∙◌, ℕ, ◌<◌, List, length}
use Rattle.mpslp_model_core.{specs.Model.Row, proofs.ViewLemmas.{rows_seen, count_seen, entry_seen}}
use Rattle.mpslp_model_core.proofs.model.Model.row_at.Goals as goal

pub entry_at-requires : goal.entry_at-requires
entry_at-requires c = subst (λ (n : ℕ). c.args.i < n)
    (sym (ap length c.deref.ensures.value ∙ count_seen (rows_seen c.self.view_is c.self.invariant.parts))) c.requires

pub returns : goal.returns
returns c = entry_seen (λ (e : List ℕ × Row). e.1) c.args.i (rows_seen c.self.view_is c.self.invariant.parts
    ∙ sym c.deref.ensures.value) c.entry_at.ensures
