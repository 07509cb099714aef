use Rattle.std.{proofs.Common.{sym, ap, ◌∙◌}, specs.Prelude.{Option, unwrap_or}}
use Rattle.mpslp_decimal.specs.Decimal.{Number, zero_number}
use Rattle.mpslp_model_core.proofs.ViewLemmas.{none_first}
use Rattle.mpslp_model_core.proofs.columns.objective_value.Goals as goal

pub returns-in_default : goal.returns-in_default
returns-in_default c = c.zero-in_default.ensures ∙ ap (λ (o : Option Number). unwrap_or o zero_number)
    (sym (none_first c.args.cells.now c.first-item.result c.requires c.in-len1-up.len_at_least c.first-item.is
    c.if-first-eq0.false))
