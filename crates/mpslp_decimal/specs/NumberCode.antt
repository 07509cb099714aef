-- How a decimal is stored.
use Rattle.std.specs.Prelude.{ℤ, refl}
use Rattle.std.specs.Coded.{Coded, code_by, coded×, coded_ℤ}
use Rattle.mpslp_decimal.specs.Decimal.{Number}

-- a number is stored as the pair of its fields
abbrev pub number_code : Coded Number
number_code = code_by (ℤ × ℤ) (coded× coded_ℤ coded_ℤ) (λ d. (d.mantissa, d.exponent)) (λ p. record { mantissa = p.0; exponent = p.1 }) (λ _. refl)
