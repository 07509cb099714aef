-- A model is encoded as its parts, one after another.
use Rattle.std.specs.Prelude.{ℕ, List, refl}
use Rattle.std.specs.Coded.{Coded, code_by, coded×, coded_list, coded_ℕ}
use Rattle.std.specs.FinMap as maps
use Rattle.std.specs.FinMap.{FinMap}
use Rattle.mpslp_decimal.specs.Decimal.{Number}
use Rattle.mpslp_decimal.specs.NumberCode.{number_code}
use Rattle.mpslp_model_core.specs.Model.{CoefficientKey, Row, Column, LinearModel, key_cmp}
use Rattle.mpslp_types.specs.Name.{bytes_cmp}
use Rattle.mpslp_types.specs.declared.kinds.Sense.{Sense}
use Rattle.mpslp_types.specs.declared.kinds.Kind.{Kind}
use Rattle.mpslp_types.specs.declared.kinds.Limit.{Limit}
use Rattle.mpslp_types.specs.contracts.kinds.Sense as senses
use Rattle.mpslp_types.specs.contracts.kinds.Kind as kinds
use Rattle.mpslp_types.specs.contracts.kinds.Limit as limits

abbrev pub name_code : Coded (List ℕ)
name_code = coded_list coded_ℕ

abbrev pub key_code : Coded CoefficientKey
key_code = code_by (List ℕ × List ℕ) (coded× name_code name_code) (λ p. (p.row, p.column)) (λ p. record { row = p.0; column = p.1 }) (λ _. refl)

abbrev pub row_code : Coded Row
row_code = code_by (Limit × Limit) (coded× limits.the_row.coded limits.the_row.coded) (λ r. (r.lower, r.upper)) (λ p. record { lower = p.0; upper = p.1 }) (λ _. refl)

abbrev pub column_code : Coded Column
column_code = code_by (Kind × (Limit × Limit)) (coded× kinds.the_row.coded (coded× limits.the_row.coded limits.the_row.coded))
    (λ c. (c.kind, (c.lower, c.upper))) (λ p. record { kind = p.0; lower = p.1.0; upper = p.1.1 }) (λ _. refl)

abbrev pub linear_model_code : Coded LinearModel
linear_model_code =
    code_by ((Sense × (List ℕ × Number)) × (FinMap bytes_cmp Row × (FinMap bytes_cmp Column × FinMap key_cmp Number)))
    (coded× (coded× senses.the_row.coded (coded× name_code number_code)) (coded× (maps.code name_code row_code) (coded× (maps.code name_code column_code) (maps.code key_code number_code))))
    (λ m. ((m.sense, (m.objective, m.constant)), (m.rows, (m.columns, m.coefficients))))
    (λ p. record { sense = p.0.0; objective = p.0.1.0; constant = p.0.1.1; rows = p.1.0; columns = p.1.1.0; coefficients = p.1.1.1 })
    (λ _. refl)
