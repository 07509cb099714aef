use Rattle.std.{proofs.Common.{arith, ◌≡◌, sym, ap, ◌∙◌, ◌+◌, ℕ, List}, specs.{Prelude.{Option, Some}, Option.{option_map}}}
use Rattle.mpslp_decimal.specs.Decimal.{Number}
use Rattle.mpslp_model_core.specs.{Model.{CoefficientKey}, Views.{column_name, column_elements}}
use Rattle.mpslp_mps_write.proofs.ColumnLemmas.{element-seen, row-within, row-named}
use Rattle.mpslp_mps_write.proofs.mps.columns.row_of_coefficient.Goals as goal

pub row_name_bytes-requires : goal.row_name_bytes-requires
row_name_bytes-requires = grind (arith, element-seen, row-within)

pub returns : goal.returns
returns c = λ within.
    let m = c.args.model.now in
    let (e, at, index, value) =
    element-seen m (column_elements m (column_name m c.args.j)) (c.args.from + c.args.n) c.entry-i.result.0 c.entry-i.result.1
    c.entry-i.ensures in
    let row : c.row_name_bytes.result.now ≡ e.0.row = row-named m e.0.row _ c.entry-i.result.0 index c.row_name_bytes.ensures in
    ap (λ (o : Option (CoefficientKey × Number)). option_map (λ (e : CoefficientKey × Number). e.0.row) o) at
    ∙ ap (λ (name : List ℕ). Some name) (sym row)
