use Rattle.mpslp_lp.proofs.plain_tokens.next_limit.Goals as goal

pub returns : goal.returns
returns c = c.limit_from.ensures _ c.in-Some.ensures.next
