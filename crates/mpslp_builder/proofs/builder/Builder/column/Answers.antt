use Rattle.mpslp_builder.proofs.Prelude
use Prelude.{refl, ap, ◌∙◌, Draft, with_declaration, declare_column}
use Rattle.mpslp_builder.proofs.LineLemmas.{has_column_of}
use Rattle.mpslp_builder.proofs.builder.Builder.column.Goals as goal

pub invariant_of-self : goal.invariant_of-self
invariant_of-self c = (
  c.start_column.ensures.kept.made c.self.inside.sense c.self.inside.constant c.self.invariant.0,
  c.start_column.ensures.kept.numbered,
)

pub invariant_of-self-2 : goal.invariant_of-self-2
invariant_of-self-2 c = (
  c.start_column.ensures.kept.made c.self.inside.sense c.self.inside.constant c.self.invariant.0,
  c.start_column.ensures.kept.numbered,
)

pub returns : goal.returns
returns c =
    let t = c.self.inside.tables in
    let u = c.start_column.new.self in
    (has_column_of t u u c.args.name c.in_ok-start_column.field-0 c.in_ok-start_column.ensures.started
    (record { objective = refl; rows = refl; columns = refl })).declared.declared c.self.inside.sense c.self.inside.constant
    ∙ ap (λ (all : Draft). with_declaration all (declare_column c.args.name)) c.self.view_is
