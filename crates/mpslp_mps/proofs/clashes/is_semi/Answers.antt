use Rattle.mpslp_mps.proofs.{Prelude.{Err, ◌∙◌}, OrderLemmas.integer-answered}
use Rattle.mpslp_mps.proofs.clashes.is_semi.Goals as goal

pub returns-in-Err : goal.returns-in-Err
returns-in-Err c = c.is_kind_clash.ensures
    ∙ integer-answered c.args.builder.now c.args.column.now (Err c.in-Err.fault) c.each_builder_is_made.ensures c.in-Err.ensures
