-- Limits in packed form.
use Rattle.mpslp_types.specs.declared.kinds.Limit.{Limit}
use Rattle.mpslp_types.specs.declared.kinds.Limit.TheVariants as limits
use Rattle.mpslp_model_core.specs.declared.packed.StoredLimit.{StoredLimit}
use Rattle.mpslp_model_core.specs.declared.packed.StoredLimit.TheVariants as stored

abbrev pub limit_of_stored : StoredLimit → Limit
limit_of_stored stored.MinusInf = limits.MinusInf
limit_of_stored (stored.Finite value) = limits.Finite value
limit_of_stored stored.PlusInf = limits.PlusInf
