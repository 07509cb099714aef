use Rattle.std.proofs.Common.{arith}
use Rattle.mpslp_lp.proofs.Prelude.{subst, terminal_with_text, HasLegalNameKind}
use Rattle.mpslp_lp.proofs.plain_row_starts.unsigned_from.Goals as goal

pub returns-in_ok-column-in-Number-clause-term : goal.returns-in_ok-column-in-Number-clause-term
returns-in_ok-column-in-Number-clause-term = grind (arith, terminal_with_text)

pub returns-in-Name-clause-term : goal.returns-in-Name-clause-term
returns-in-Name-clause-term = grind (arith, terminal_with_text)

pub returns-in-Name-clause-legal : goal.returns-in-Name-clause-legal
returns-in-Name-clause-legal c = subst (λ kind. HasLegalNameKind kind c.args.token.now.text.now) c.in-Name.is c.requires
