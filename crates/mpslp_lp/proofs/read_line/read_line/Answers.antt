use Rattle.mpslp_lp.proofs.{Prelude.{sym, ◌∙◌}, IllegalLines.{line-taken, line-refused}}
use Rattle.mpslp_lp.proofs.read_line.read_line.Goals as goal

pub returns-in-Ok : goal.returns-in-Ok
returns-in-Ok c = line-taken _ _ _ _ _ (sym c.has_legal_length.ensures ∙ c.if-not-has_legal_length.false) c.in-Ok.ensures

pub returns-in-Err : goal.returns-in-Err
returns-in-Err c =
    line-refused _ _ _ _ _ _ (sym c.has_legal_length.ensures ∙ c.if-not-has_legal_length.false) c.in-Err.ensures
    c.error_of_line.ensures
