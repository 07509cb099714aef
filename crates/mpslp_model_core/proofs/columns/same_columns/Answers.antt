use Rattle.std.proofs.Common.{sym, ◌∙◌}
use Rattle.mpslp_model_core.proofs.ColumnLemmas.{same_on, other_on}
use Rattle.mpslp_model_core.proofs.columns.same_columns.Goals as goal

pub returns-then-not-is_same_column : goal.returns-then-not-is_same_column
returns-then-not-is_same_column c =
    sym (c.loop-j.invariant ∙ other_on c.args.own.now c.args.other.now c.loop-j.j c.is_same_column.result
    c.is_same_column.ensures c.if-not-is_same_column.true)

pub loop-j-preserved : goal.loop-j-preserved
loop-j-preserved c = c.loop-j.invariant ∙ same_on c.args.own.now c.args.other.now c.loop-j.j c.is_same_column.result
    c.is_same_column.ensures c.if-not-is_same_column.false
