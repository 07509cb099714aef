-- The lines of the right-hand side and of the range of a row, by the accessors of a model.
use Rattle.std.proofs.Common.{arith, ◌≡◌, refl, sym, ap, ◌∙◌, ℕ, zero, suc, Bool, true, false, cond, List, [], ◌∷◌, map}
use Rattle.std.specs.{Prelude.{Option, Some, None, unwrap_or, slice_get, codes, if◌then◌else◌}, List.{list_all}, Option.{option_map}}
use Rattle.std.specs.{Option.{option_map_or}, Cmp.{second_so}, FinMap.{entries}}
use Rattle.mpslp_decimal.specs.Decimal.{Number, is_zero, zero_number, difference_of, have_same_value}
use Rattle.mpslp_mps_write.{proofs.DifferenceLemmas.{difference-zero}, specs.MpsLinesAt.{printed_letter}}
use Rattle.mpslp_model_core.specs.{Model.{LinearModel, Row, IsSound, is_sound_row}, Views.{row_sense, row_range, right_hand_side}}
use Rattle.mpslp_types.specs.{Limit.{are_sides}, declared.kinds.Limit.{Limit, TheVariants.{MinusInf, Finite}}}
use Rattle.mpslp_mps_fields.specs.DataLine.{letter_of}
use Rattle.mpslp_mps_text.specs.CanonicalMps.{short_line, Lines, row_line, vector_line, range_lines}
use Rattle.mpslp_mps_text.specs.PrintedValues.{printed_type, printed_rhs}
use Rattle.mpslp_io.{specs.LinesAt.{lines_at}, proofs.LinesAtLemmas.{lines_seen, nothing_seen}}

abbrev Rows : Type 0
Rows = List (List ℕ × Row)

-- ---- the line in ROWS

letter-stated : (lower upper : Limit) → are_sides lower upper ≡ true
    → printed_letter (row_sense (record { lower = lower; upper = upper })) ∷ [] ≡ letter_of (printed_type lower upper)
letter-stated = grind arith

-- by the accessor
abbrev row_stated : List ℕ → ℕ → Lines
row_stated row sense = short_line ((printed_letter sense ∷ []) ∷ row ∷ []) ∷ []

rows-stated : (es : Rows) (i : ℕ) → list_all is_sound_row es ≡ true
    → lines_at (λ e. row_stated e.0 (row_sense e.1)) es i ≡ lines_at (λ row. row_line row ∷ []) es i
rows-stated [] i sound = refl
rows-stated (e ∷ es) zero sound = grind (arith, letter-stated)
rows-stated (e ∷ es) (suc i) sound = rows-stated es i (second_so (is_sound_row e) (list_all is_sound_row es) sound)

pub row-put : (m : LinearModel) → IsSound m → (i : ℕ) (name : List ℕ) (sense : ℕ)
    → slice_get (map (λ e. e.0) (entries m.rows)) i ≡ Some name
    → option_map row_sense (slice_get (map (λ e. e.1) (entries m.rows)) i) ≡ Some sense
    → row_stated name sense ≡ lines_at (λ row. row_line row ∷ []) (entries m.rows) i
row-put m sound i name sense named is =
    lines_seen (entries m.rows) i row_sense row_stated name sense named is ∙ rows-stated (entries m.rows) i sound.rows

-- ---- the right-hand side

-- by the lower limit and the accessor
abbrev side_by : Limit → Number → Number
side_by (Finite lower) side = lower
side_by _ side = side

side-stated : (row : Row) → side_by row.lower (right_hand_side row) ≡ printed_rhs row.lower row.upper
side-stated = grind arith

-- ---- the range

-- by the accessor, which returns 0 if there is no range
abbrev range_stated : List ℕ → Number → Lines
range_stated row range = if is_zero range then [] else vector_line (codes "RNG") row range ∷ []

range-seen : (name : List ℕ) (a b : Number) (o : Option Number) → difference_of b a ≡ o
    → range_stated name (unwrap_or o zero_number)
    ≡ option_map_or (λ value. vector_line (codes "RNG") name value ∷ []) (if have_same_value a b then None else o) []
range-seen = grind (arith, difference-zero)

range-stated : (row : List ℕ × Row) → range_stated row.0 (row_range row.1) ≡ range_lines row
range-stated row = by row.0 row.1.lower row.1.upper
  where
    by : (name : List ℕ) (lower upper : Limit)
        → range_stated name (row_range (record { lower = lower; upper = upper }))
        ≡ range_lines (name, record { lower = lower; upper = upper })
    by name MinusInf upper = refl
    by name (Finite a) MinusInf = refl
    by name (Finite a) (Finite b) = range-seen name a b (difference_of b a) refl
    by name _ _ = refl

each-stated : (es : Rows) (i : ℕ) → lines_at (λ e. range_stated e.0 (row_range e.1)) es i ≡ lines_at range_lines es i
each-stated es i = λ j. lines_at (λ e. range-stated e j) es i

pub range-put : (es : Rows) (i : ℕ) (name : List ℕ) (range : Number) → slice_get (map (λ e. e.0) es) i ≡ Some name
    → option_map row_range (slice_get (map (λ e. e.1) es) i) ≡ Some range → is_zero range ≡ false
    → vector_line (codes "RNG") name range ∷ [] ≡ lines_at range_lines es i
range-put es i name range named is some =
    sym (ap (λ (none : Bool). cond none [] (vector_line (codes "RNG") name range ∷ [])) some)
    ∙ lines_seen es i row_range range_stated name range named is ∙ each-stated es i

pub range-left : (es : Rows) (i : ℕ) (range : Number) → option_map row_range (slice_get (map (λ e. e.1) es) i) ≡ Some range
    → is_zero range ≡ true → [] ≡ lines_at range_lines es i
range-left es i range is none =
    nothing_seen es i row_range range_stated range is
    (λ name. ap (λ (b : Bool). cond b [] (vector_line (codes "RNG") name range ∷ [])) none) ∙ each-stated es i
