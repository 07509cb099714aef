use Rattle.std.proofs.Common.{sym, ◌∙◌}
use Rattle.mpslp_builder.proofs.LineLemmas.{any-found}
use Rattle.mpslp_builder.proofs.row_terms.is_among.Goals as goal

pub returns-in-Rising : goal.returns-in-Rising
returns-in-Rising c = c.has_term.ensures ∙ sym (any-found c.args.name.now c.args.terms.now)
