-- Laws of names and limits.
use Rattle.std.specs.Prelude.{◌≡◌, ℕ, Bool, true, IsTrue, List}
use Rattle.std.specs.Ordering.{is_le}
use Rattle.std.specs.declared.cmp.Ordering.{Ordering}
use Rattle.mpslp_decimal.specs.Decimal.{is_decimal}
use Rattle.mpslp_types.specs.Name.{IsMpsName}
use Rattle.mpslp_types.specs.NameTests.{IsLpName}
use Rattle.mpslp_types.specs.Limit.{is_at_most}
use Rattle.mpslp_types.specs.contracts.kinds.LimitOrd.TheImpl as limit_ord
use Rattle.mpslp_types.specs.declared.kinds.Limit.{Limit}
use Rattle.mpslp_types.specs.declared.kinds.Limit.TheVariants.{Finite}

-- What is a legal name in LP is one in MPS.
abbrev pub LpNamesAreMpsNames : Type 0
LpNamesAreMpsNames = (name : List ℕ) → IsLpName name → IsMpsName name

-- the result of `cmp` of limits
abbrev pub limit_cmp : Limit → Limit → Ordering
limit_cmp = (limit_ord.ghosts).cmp

-- an infinity or a decimal, like each value of the type `Limit`
abbrev pub is_limit : Limit → Bool
is_limit (Finite value) = is_decimal value
is_limit _ = true

-- A limit is at most another if and only if it does not come after it.
abbrev pub LimitsAreOrdered : Type 0
LimitsAreOrdered = (a b : Limit) → IsTrue (is_limit a) → IsTrue (is_limit b) → is_at_most a b ≡ is_le (limit_cmp a b)
