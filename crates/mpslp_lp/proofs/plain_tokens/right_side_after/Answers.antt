use Rattle.mpslp_lp.proofs.plain_tokens.right_side_after.Goals as goal

pub returns : goal.returns
returns c = λ found begins. record { after_relation = c.args.tokens.now; compares = begins; side = c.in_ok-limit.ensures }
