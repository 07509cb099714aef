use Rattle.mpslp_lp_write.proofs.Prelude
use Prelude.{sym, ap, ◌∙◌, not, arith, row_names, is_no_lp_name}
use Rattle.mpslp_lp_write.proofs.FirstPlace.{first-after, first-here, first-nowhere}
use Rattle.mpslp_lp_write.proofs.lp.fit.first_unfit_row.Goals as goal

pub loop-i-init : goal.loop-i-init
loop-i-init c = omega arith

pub loop-i-preserved : goal.loop-i-preserved
loop-i-preserved c = first-after is_no_lp_name (row_names c.args.model.now) c.loop-i.i _ c.loop-i.invariant
    c.row_name.ensures (ap not (sym c.is_lp.ensures ∙ c.if-not-is_lp.false))

pub returns-then-not-is_lp : goal.returns-then-not-is_lp
returns-then-not-is_lp c = first-here is_no_lp_name (row_names c.args.model.now) c.loop-i.i _ c.loop-i.invariant
    c.row_name.ensures (ap not (sym c.is_lp.ensures ∙ c.if-not-is_lp.true))

pub returns : goal.returns
returns c = first-nowhere is_no_lp_name (row_names c.args.model.now) c.loop-i.i c.loop-i.invariant (omega arith)
