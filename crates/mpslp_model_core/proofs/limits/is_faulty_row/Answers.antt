use Rattle.std.proofs.Common.{sym, ◌∙◌}
use Rattle.mpslp_model_core.{specs.RowForms.row_definition, proofs.PlainRowLemmas.plain_faulty}
use Rattle.mpslp_model_core.proofs.limits.is_faulty_row.Goals as goal

pub returns-then-is_plain : goal.returns-then-is_plain
returns-then-is_plain c = c.has_infinite_rhs.ensures
    ∙ plain_faulty (row_definition c.args.definition.now) c.args.rhs c.args.range.now
    (sym c.is_plain.ensures ∙ c.if-is_plain.true)
