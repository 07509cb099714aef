-- The order of limits.
use Rattle.std.{proofs.Common.{ap, arith, not, sym, ◌∙◌, ◌≡◌}, specs.{Ordering.{is_le, is_lt}, Prelude.IsTrue}}
use Rattle.mpslp_decimal.{proofs.OrderOfValues.{order-decimal, reverse-int_cmp}, specs.Decimal.scaled}
use Rattle.mpslp_types.specs.{Laws.{is_limit, limit_cmp}, Limit.is_at_most, declared.kinds.Limit.{Limit, TheVariants.Finite}}

pub limits-ordered : (a b : Limit) → IsTrue (is_limit a) → IsTrue (is_limit b) → is_at_most a b ≡ is_le (limit_cmp a b)
limits-ordered (Finite a) (Finite b) p q =
    ap (λ r. not (is_lt r)) (sym (reverse-int_cmp (scaled a) _))
    ∙ grind arith
    ∙ ap is_le (sym (order-decimal a b p q))
limits-ordered _ _ p q = grind arith
