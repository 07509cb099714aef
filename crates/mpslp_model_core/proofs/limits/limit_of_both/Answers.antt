use Rattle.std.proofs.Common.{ap, sym, ◌∙◌, ◌≡◌}
use Rattle.mpslp_decimal.specs.Decimal.{Number}
use Rattle.mpslp_types.specs.declared.kinds.Limit.TheVariants.{Finite}
use Rattle.mpslp_model_core.specs.{Limits.by_limits, SameLaws.decides-number, WrongParts.is_faulty_row}
use Rattle.mpslp_model_core.proofs.PlainRowLemmas.{same_faulty}
use Rattle.mpslp_model_core.proofs.limits.limit_of_both.Goals as goal

pub returns-then-is_same_number : goal.returns-then-is_same_number
returns-then-is_same_number c = λ b r.
    let same : c.args.lower ≡ c.args.upper =
    (decides-number c.args.lower c.args.upper).0 (sym c.is_same_number.ensures ∙ c.if-is_same_number.true) in
    same_faulty c.args.lower b r ∙ ap (λ (d : Number). is_faulty_row (by_limits (Finite c.args.lower) (Finite d)) b r) same
