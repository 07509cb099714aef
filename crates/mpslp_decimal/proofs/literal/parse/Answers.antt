use Rattle.std.proofs.Common.{ap, arith, rules, sym, ◌∙◌}
use Rattle.std.specs.Prelude.{Ok}
use Rattle.mpslp_decimal.proofs.PlainLemmas.{zero-text}
use Rattle.mpslp_decimal.proofs.literal.parse.Goals as goal

pub returns-in-48 : goal.returns-in-48
returns-in-48 c =
    ap Ok c.zero.ensures
    ∙ sym (zero-text c.args.text.now (omega (arith, c.in-48.len_at_least, c.in-48.len_below)) (search rules))
