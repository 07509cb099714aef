-- Models as values, and as lists of their parts.
use Rattle.std.specs.Prelude.{◌≡◌, ◌<◌, ℕ, Bool, true, false, ◌&&◌, not, IsTrue, List, ◌∷◌, length}
use Rattle.mpslp_types.specs.Basics.{list_all, ordering_then, Ordering, FinMap, entries, keys, Number, IsDecimal, is_decimal, is_zero, IsMpsName, bytes_cmp, is_mps_name, is_one_of, are_sides, are_semi_bounds, has_bounded_distance}
use Rattle.mpslp_types.specs.declared.kinds.{Sense.Sense, Kind.Kind, Kind.TheVariants.Continuous, Kind.TheVariants.Integer, Kind.TheVariants.Semi, Limit.Limit}

-- the place of a coefficient: a row, or the objective, and a column
pub record CoefficientKey : Type 0 where
  pub row : List ℕ
  pub column : List ℕ

-- By column, then by row. So the coefficients of a column are adjacent, in the order of their rows.
abbrev pub key_cmp : CoefficientKey → CoefficientKey → Ordering
key_cmp a b = ordering_then (bytes_cmp a.column b.column) (bytes_cmp a.row b.row)

-- ---- a model: its rows, columns and coefficients, by their names

pub record Row : Type 0 where
  pub lower : Limit
  pub upper : Limit

pub record Column : Type 0 where
  pub kind : Kind
  pub lower : Limit
  pub upper : Limit

-- The objective is not a row. A missing coefficient is 0.
pub record LinearModel : Type 0 where
  pub sense : Sense
  pub objective : List ℕ
  pub constant : Number
  pub rows : FinMap bytes_cmp Row
  pub columns : FinMap bytes_cmp Column
  pub coefficients : FinMap key_cmp Number

abbrev pub is_integer_column : Column → Bool
is_integer_column column = is_integer_kind column.kind
  where
    is_integer_kind : Kind → Bool
    is_integer_kind Continuous = false
    is_integer_kind Integer = true
    is_integer_kind Semi = false

-- ---- well-formed models

-- a semi-continuous column, which is 0 or within its bounds, requires such bounds
abbrev pub suits : Kind → Limit → Limit → Bool
suits Continuous lower upper = true
suits Integer lower upper = true
suits Semi lower upper = are_semi_bounds lower upper

abbrev pub is_sound_row : List ℕ × Row → Bool
is_sound_row row = is_mps_name row.0 && (are_sides row.1.lower row.1.upper && has_bounded_distance row.1.lower row.1.upper)

abbrev pub is_sound_column : List ℕ × Column → Bool
is_sound_column column = is_mps_name column.0 && (are_sides column.1.lower column.1.upper && suits column.1.kind column.1.lower column.1.upper)

-- a nonzero decimal, of an existing column and an existing row or the objective
abbrev pub is_sound_coefficient : LinearModel → CoefficientKey × Number → Bool
is_sound_coefficient m coefficient =
    let key = coefficient.0 in
    is_decimal coefficient.1 && (not (is_zero coefficient.1)
    && (is_one_of (keys m.columns) key.column && is_one_of (m.objective ∷ keys m.rows) key.row))

-- Properties of every model.
pub record IsSound (m : LinearModel) : Type 0 where
  pub objective : IsMpsName m.objective
  pub objective_is_no_row : is_one_of (keys m.rows) m.objective ≡ false
  pub constant : IsDecimal m.constant
  pub has_column : 0 < length (keys m.columns)
  pub rows : IsTrue (list_all is_sound_row (entries m.rows))
  pub columns : IsTrue (list_all is_sound_column (entries m.columns))
  pub coefficients : IsTrue (list_all (is_sound_coefficient m) (entries m.coefficients))

-- ---- the listing of a model: each of its maps as the list of its entries, in byte order

pub record Listing : Type 0 where
  pub sense : Sense
  pub objective : List ℕ
  pub constant : Number
  pub rows : List (List ℕ × Row)
  pub columns : List (List ℕ × Column)
  pub coefficients : List (CoefficientKey × Number)

abbrev pub listing_of : LinearModel → Listing
listing_of m = record {
  sense = m.sense;
  objective = m.objective;
  constant = m.constant;
  rows = entries m.rows;
  columns = entries m.columns;
  coefficients = entries m.coefficients;
}
