use Rattle.std.proofs.Common.{sym, ◌∙◌}
use Rattle.mpslp_model_core.proofs.PlainRowLemmas.{no_side_faulty}
use Rattle.mpslp_model_core.proofs.bounds.DeclaredColumn.is_faulty.Goals as goal

pub returns-then-has_no_side : goal.returns-then-has_no_side
returns-then-has_no_side c =
    c.is_semi.ensures ∙ no_side_faulty c.args.self.now (sym c.has_no_side.ensures ∙ c.if-has_no_side.true)
