use Rattle.std.proofs.Common.{sym, ◌∙◌}
use Rattle.mpslp_types.proofs.ReservedLemmas.{reserved-other}
use Rattle.mpslp_types.proofs.names.lp.is_reserved.Goals as goal

pub returns-else-may_be_reserved : goal.returns-else-may_be_reserved
returns-else-may_be_reserved c =
    c.if-may_be_reserved.false ∙ sym (reserved-other c.args.text.now (sym c.may_be_reserved.ensures ∙ c.if-may_be_reserved.false))
