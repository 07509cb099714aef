use Rattle.mpslp_lp.proofs.PlainPhrases.{some-after}
use Rattle.mpslp_lp.proofs.plain_rows.take_rest_of_row.Goals as goal

pub returns : goal.returns
returns c = let terms = c.in_ok-left.ensures in some-after _ _ _ _ _ _ _ _ _ terms.0 terms.1 c.take_right_side_in_row.ensures
