use Rattle.std.{proofs.Common.{sym, ap, ◌∙◌, ℕ, List}, specs.Prelude.position}
use Rattle.mpslp_types.specs.Name.{same_bytes}
use Rattle.mpslp_model_core.specs.ModelColumns.{ModelColumn}
use Rattle.mpslp_model_core.proofs.ViewLemmas.{columns_rise, column_names_seen, position-map}
use Rattle.mpslp_model_core.proofs.model.Model.column_index.Goals as goal

pub index_of-requires : goal.index_of-requires
index_of-requires c = columns_rise c.self.inside.parts c.self.invariant.parts

pub returns : goal.returns
returns c = c.index_of.ensures ∙ sym (position-map (same_bytes c.args.name.now) (λ (e : List ℕ × ModelColumn). e.0) _)
    ∙ ap (position (same_bytes c.args.name.now)) (sym (column_names_seen c.self.view_is c.self.invariant.parts))
