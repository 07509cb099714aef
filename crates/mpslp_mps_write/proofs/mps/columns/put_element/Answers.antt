use Rattle.std.proofs.{Common.{◌≡◌, sym, ap, ◌∙◌, [], ◌∷◌}, lemmas.Option.{get_or_from_slice_get}}
use Rattle.std.specs.{Prelude.{Option, Some}, Option.{option_map, option_map_or}}
use Rattle.mpslp_decimal.specs.Decimal.{Number}
use Rattle.mpslp_model_core.specs.{Model.{CoefficientKey}, Views.{column_name, column_names, column_elements}}
use Rattle.mpslp_mps_text.specs.CanonicalMps.{coefficient_line}
use Rattle.mpslp_mps_write.{specs.MpsLinesAt.{element_lines}, proofs.ColumnLemmas.{element-seen}}
use Rattle.mpslp_io.proofs.OutputLemmas.{prints_same}
use Rattle.mpslp_mps_write.proofs.mps.columns.put_element.Goals as goal

pub returns : goal.returns
returns g c =
    let m = c.args.model.now in
    let name = column_name m c.args.j in
    let column : c.as_bytes.result.now ≡ name =
    c.as_bytes.ensures ∙ sym (get_or_from_slice_get (column_names m) c.args.j _ [] c.column_name.ensures) in
    let (e, at, index, value) = element-seen m (column_elements m name) c.args.k c.entry-i.result.0 c.entry-i.result.1
    c.entry-i.ensures in
    let named : Some e.0.row ≡ Some c.args.row.now =
    sym (ap (λ (o : Option (CoefficientKey × Number)). option_map (λ (e : CoefficientKey × Number). e.0.row) o) at)
    ∙ c.requires.row in
    let row : c.args.row.now ≡ e.0.row = cc in
    prints_same ((λ i. coefficient_line (column i) (row i, sym value i) ∷ [])
    ∙ sym (ap (λ (o : Option (CoefficientKey × Number)). option_map_or (element_lines name) o []) at))
    c.put_value_line.ensures
