use Rattle.std.{proofs.Common.{sym, ap, subst, ◌∙◌, ℕ, ◌<◌, arith}, specs.Prelude.Some}
use Rattle.mpslp_model_core.proofs.ViewLemmas.{rows_seen, count_seen, name_seen, name_ordered, name_inside}
use Rattle.mpslp_model_core.proofs.model.Model.row_name_bytes.Goals as goal

pub name_at-requires-clause-row : goal.name_at-requires-clause-row
name_at-requires-clause-row c =
    let below = subst (λ (n : ℕ). c.args.i < n) (sym (count_seen (rows_seen c.self.view_is c.self.invariant.parts))) c.requires in
    let len = c.self.invariant.names.len in omega arith

pub name_at-requires-clause-order : goal.name_at-requires-clause-order
name_at-requires-clause-order c = name_ordered c.self.inside.parts.rows.items c.self.invariant.names c.args.i
    (subst (λ (n : ℕ). c.args.i < n) (sym (count_seen (rows_seen c.self.view_is c.self.invariant.parts))) c.requires)

pub name_at-requires-clause-room : goal.name_at-requires-clause-room
name_at-requires-clause-room c = name_inside c.self.invariant.names c.args.i
    (subst (λ (n : ℕ). c.args.i < n) (sym (count_seen (rows_seen c.self.view_is c.self.invariant.parts))) c.requires)

pub returns : goal.returns
returns c = name_seen c.self.inside.row_names c.self.view_is c.self.invariant.parts c.self.invariant.names c.args.i
    (subst (λ (n : ℕ). c.args.i < n) (sym (count_seen (rows_seen c.self.view_is c.self.invariant.parts))) c.requires)
    ∙ ap Some (sym c.name_at.ensures)
