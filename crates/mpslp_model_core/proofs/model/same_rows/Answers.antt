use Rattle.mpslp_model_core.specs.{Same.same_row, SameLaws.{decides-lists, decides-named, decides-row, answered}}
use Rattle.mpslp_model_core.proofs.model.same_rows.Goals as goal

pub returns : goal.returns
returns c = answered _ (decides-lists _ (decides-named same_row decides-row)) c.args.a.now c.args.b.now c.eq.result c.eq.ensures
