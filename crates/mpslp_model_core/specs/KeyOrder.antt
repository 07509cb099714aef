-- The order of the keys of coefficients is total.
use Rattle.std.specs.Cmp.{IsTotalOrder, then_total, on_total}
use Rattle.std.specs.Cmp.Lexicographic.{nat_list_cmp_total}
use Rattle.mpslp_model_core.specs.Model.{CoefficientKey, key_cmp}

pub key_total : IsTotalOrder key_cmp
key_total = then_total (on_total (λ (p : CoefficientKey). p.column) nat_list_cmp_total) (on_total (λ (p : CoefficientKey). p.row) nat_list_cmp_total)
