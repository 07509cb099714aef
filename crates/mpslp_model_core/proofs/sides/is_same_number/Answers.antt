use Rattle.std.{proofs.Common.rules, specs.Bool.one_answer}
use Rattle.mpslp_model_core.specs.{Same.same_number, SameLaws.decides-number}
use Rattle.mpslp_model_core.proofs.sides.is_same_number.Goals as goal

pub returns : goal.returns
returns c = one_answer c.eq.result (same_number c.args.a c.args.b) (search rules) (decides-number c.args.a c.args.b)
