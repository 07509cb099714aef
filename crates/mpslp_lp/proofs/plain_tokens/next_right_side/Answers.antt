use Rattle.mpslp_lp.proofs.plain_tokens.next_right_side.Goals as goal

pub returns : goal.returns
returns c = c.right_side_after.ensures _ c.in_ok-relation.ensures
