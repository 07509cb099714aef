-- The lines of columns, printed one after another.
use Rattle.std.proofs.Common.{◌≡◌, refl, sym, ap, ◌∙◌, ℕ, ◌<◌, ◌≤◌, Bool, false, cond, List, [], ◌∷◌, ◌++◌, length, map, arith}
use Rattle.std.proofs.lemmas.{List.Quantifiers.{position-Some}, Option.{slice_get-map, get_or_from_slice_get}}
use Rattle.std.specs.{Prelude.{Option, Some, None, slice_get, unwrap_or}, List.{flat_map, cons_option}, Option.{option_map}}
use Rattle.std.specs.{FinMap.{find, entries}}
use Rattle.mpslp_decimal.specs.Decimal.{Number, is_zero, zero_number}
use Rattle.mpslp_types.{specs.{Name.{same_bytes}, declared.kinds.{Kind.{Kind}, Limit.{Limit}}}}
use Rattle.mpslp_model_core.specs.Model.{LinearModel, CoefficientKey, Column, key_cmp, IsSound, is_integer_column as has_integer_kind}
use Rattle.mpslp_model_core.specs.{Model.{listing_of}, Views.{column_elements}}
use Rattle.mpslp_builder.proofs.{SlotLemmas.{same_name}}
use Rattle.mpslp_mps_text.specs.CanonicalMps.{Lines, bound_line, column_bound_lines, coefficient_line, column_coefficients}
use Rattle.mpslp_mps_text.specs.CanonicalMps.{printed_coefficients, is_integer_column}
use Rattle.mpslp_mps_text.specs.PrintedValues.{PrintedBound, printed_bounds}
use Rattle.mpslp_builder.proofs.ListingLemmas.{place_at, coefficient-not_zero}
use Rattle.mpslp_io.{specs.LinesAt.{lines_at}, proofs.LinesAtLemmas.{lines_seen}}
use Rattle.mpslp_mps_write.specs.MpsLinesAt.{is_wanted, of_part, element_lines, objective_line_at, objective_lines}
use Rattle.mpslp_mps_write.{specs.declared.mps.columns.Part.{Part}, proofs.CellLemmas.{by_row, column-cells}}
use Rattle.mpslp_model_core.specs.Views as views

-- ---- the column with a number

abbrev Columns : Type 0
Columns = List (List ℕ × Column)

no_bool : (b : Bool) → ◌≡◌ {A = Option Bool} None (Some b) → ⊥
no_bool b e = cc

-- whether the column with a number is integer, as an accessor returns it
at-kind : (es : Columns) (j : ℕ) (b : Bool) → option_map has_integer_kind (slice_get (map (λ e. e.1) es) j) ≡ Some b
    → (e : List ℕ × Column) × (slice_get es j ≡ Some e) × (is_integer_column e ≡ b)
at-kind = grind (arith, slice_get-map, no_bool)

-- the lines of the column with a number, if it is in the part
pub part-lines : (part : Part) (f : List ℕ × Column → Lines) (es : Columns) (j : ℕ) (b : Bool)
    → option_map has_integer_kind (slice_get (map (λ e. e.1) es) j) ≡ Some b
    → cond (is_wanted part b) (lines_at f es j) [] ≡ lines_at (of_part part f) es j
part-lines = grind (arith, at-kind)

-- ---- the lines of one column

elements-lines : (column : List ℕ) (es : List (CoefficientKey × Number))
    → flat_map (element_lines column) es ≡ map (coefficient_line column) (map by_row es)
elements-lines column [] = refl
elements-lines column (e ∷ es) = grind (arith, elements-lines column es)

module _ (m : LinearModel) (sound : IsSound m) (column : List ℕ) where
  abbrev here : Option Number
  here = find key_cmp (place_at m.objective column) (entries m.coefficients)

  abbrev row_lines : Lines
  row_lines = flat_map (element_lines column) (column_elements m column)

  joined : (o : Option Number) (es : List (CoefficientKey × Number)) → ((v : Number) → o ≡ Some v → is_zero v ≡ false)
      → objective_line_at m.objective column (unwrap_or o zero_number) es ++ map (coefficient_line column) (map by_row es)
      ≡ map (coefficient_line column)
      (printed_coefficients m.objective (cons_option (option_map (λ (value : Number). (m.objective, value)) o) (map by_row es)))
  joined = grind arith

  pub column-joined : objective_lines m column ++ row_lines
      ≡ map (coefficient_line column) (printed_coefficients m.objective (column_coefficients (listing_of m) column))
  column-joined = grind (arith, elements-lines, joined, coefficient-not_zero, column-cells)

-- ---- the line of the objective, and that of a coefficient of a row

pub cell-needed : (objective column : List ℕ) (value : Number) (es : List (CoefficientKey × Number)) → is_zero value ≡ false
    → coefficient_line column (objective, value) ∷ [] ≡ objective_line_at objective column value es
cell-needed = grind arith

pub cell-only : (objective column : List ℕ) (value : Number) (es : List (CoefficientKey × Number)) → length es ≤ 0
    → coefficient_line column (objective, value) ∷ [] ≡ objective_line_at objective column value es
cell-only = grind arith

-- a coefficient as the accessors number it
pub element-seen : (m : LinearModel) (es : List (CoefficientKey × Number)) (k i : ℕ) (value : Number)
    → ◌≡◌ {A = Option (Option ℕ × Number)} (slice_get (map (λ e. (views.row_index m e.0.row, e.1)) es) k) (Some (Some i, value))
    → (e : CoefficientKey × Number) × (slice_get es k ≡ Some e) × (views.row_index m e.0.row ≡ Some i) × (e.1 ≡ value)
element-seen = grind (arith, slice_get-map)

pub row-within : (m : LinearModel) (row : List ℕ) (i : ℕ) → views.row_index m row ≡ Some i → i < views.num_rows m
row-within = grind arith

pub row-named : (m : LinearModel) (row name : List ℕ) (i : ℕ) → views.row_index m row ≡ Some i →
    slice_get (views.row_names m) i ≡ Some name → name ≡ row
row-named m row name i is named =
    let passes = (position-Some (same_bytes row) (views.row_names m) i [] is).1 in
    let at = get_or_from_slice_get (views.row_names m) i name [] named in
    sym (same_name row name (sym (ap (same_bytes row) at) ∙ passes))

-- ---- the bounds of the column with a number, by the accessors

bounds-seen : (es : Columns) (j : ℕ) (kind : Kind) (lower upper : Limit)
    → option_map (λ column. column.kind) (slice_get (map (λ e. e.1) es) j) ≡ Some kind
    → option_map (λ column. column.lower) (slice_get (map (λ e. e.1) es) j) ≡ Some lower
    → option_map (λ column. column.upper) (slice_get (map (λ e. e.1) es) j) ≡ Some upper
    → option_map (λ column. printed_bounds column.kind column.lower column.upper) (slice_get (map (λ e. e.1) es) j)
    ≡ Some (printed_bounds kind lower upper)
bounds-seen = grind arith

pub bounds-lines : (es : Columns) (j : ℕ) (name : List ℕ) (kind : Kind) (lower upper : Limit) →
    slice_get (map (λ e. e.0) es) j ≡ Some name → option_map (λ column. column.kind) (slice_get (map (λ e. e.1) es) j) ≡ Some kind
    → option_map (λ column. column.lower) (slice_get (map (λ e. e.1) es) j) ≡ Some lower
    → option_map (λ column. column.upper) (slice_get (map (λ e. e.1) es) j) ≡ Some upper
    → map (bound_line name) (printed_bounds kind lower upper) ≡ lines_at column_bound_lines es j
bounds-lines es j name kind lower upper named p q r =
    lines_seen es j (λ (column : Column). printed_bounds column.kind column.lower column.upper)
    (λ (n : List ℕ) (bs : List PrintedBound). map (bound_line n) bs) name _ named (bounds-seen es j kind lower upper p q r)
