use Rattle.mpslp_lp.proofs.PlainPhrases.{some-after}
use Rattle.mpslp_lp.proofs.plain_row_starts.take_new_row.Goals as goal

pub returns-in-Between-InRow : goal.returns-in-Between-InRow
returns-in-Between-InRow c = λ between. let start = c.in_ok-left.ensures between in
    some-after _ _ _ _ _ _ _ _ _ start.0 start.1 c.take_rest_of_row.ensures
