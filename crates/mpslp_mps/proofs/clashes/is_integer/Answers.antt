use Rattle.mpslp_mps.proofs.{Prelude.{Err, ◌∙◌}, OrderLemmas.semi-answered}
use Rattle.mpslp_mps.proofs.clashes.is_integer.Goals as goal

pub returns-in-Err : goal.returns-in-Err
returns-in-Err c = c.is_kind_clash.ensures
    ∙ semi-answered c.args.builder.now c.args.column.now (Err c.in-Err.fault) c.each_builder_is_made.ensures c.in-Err.ensures
