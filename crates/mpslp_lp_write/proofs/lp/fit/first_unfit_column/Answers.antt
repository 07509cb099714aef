use Rattle.mpslp_lp_write.proofs.Prelude
use Prelude.{sym, ap, ◌∙◌, not, arith, column_names, is_no_lp_name}
use Rattle.mpslp_lp_write.proofs.FirstPlace.{first-after, first-here, first-nowhere}
use Rattle.mpslp_lp_write.proofs.lp.fit.first_unfit_column.Goals as goal

pub loop-j-init : goal.loop-j-init
loop-j-init c = omega arith

pub loop-j-preserved : goal.loop-j-preserved
loop-j-preserved c = first-after is_no_lp_name (column_names c.args.model.now) c.loop-j.j _ c.loop-j.invariant
    c.column_name.ensures (ap not (sym c.is_lp.ensures ∙ c.if-not-is_lp.false))

pub returns-then-not-is_lp : goal.returns-then-not-is_lp
returns-then-not-is_lp c = first-here is_no_lp_name (column_names c.args.model.now) c.loop-j.j _ c.loop-j.invariant
    c.column_name.ensures (ap not (sym c.is_lp.ensures ∙ c.if-not-is_lp.true))

pub returns : goal.returns
returns c = first-nowhere is_no_lp_name (column_names c.args.model.now) c.loop-j.j c.loop-j.invariant (omega arith)
