-- Drafts that a builder can hold.
use Rattle.std.specs.Prelude.{◌≡◌, ℕ, Bool, true, false, ◌&&◌, IsTrue, List, []}
use Rattle.std.specs.List.{list_all}
use Rattle.mpslp_decimal.specs.Decimal.{is_decimal}
use Rattle.mpslp_types.specs.Name.{is_mps_name}
use Rattle.mpslp_types.specs.Limit.{is_given}
use Rattle.mpslp_builder.specs.Declaration.{RowDefinition, by_type, by_limits, Declaration, declare_sense, declare_objective, declare_constant, declare_row, declare_rhs, declare_range, declare_column, declare_coefficient, declare_lower, declare_upper, Declarations, Draft, empty_draft, draft_of, has_name, is_free_row}
use Rattle.mpslp_builder.specs.Refusal.{refusals_in_turn}

abbrev pub are_given : RowDefinition → Bool
are_given (by_type type) = true
are_given (by_limits lower upper) = is_given lower && is_given upper

-- new names are legal, and values are decimals. Files and calls make only such declarations
abbrev pub is_legal : Declaration → Bool
is_legal (declare_sense _) = true
is_legal (declare_objective name) = is_mps_name name
is_legal (declare_constant value) = is_decimal value
is_legal (declare_row name definition) = is_mps_name name && are_given definition
is_legal (declare_rhs row value) = is_decimal value
is_legal (declare_range row value) = is_decimal value
is_legal (declare_column name) = is_mps_name name
is_legal (declare_coefficient key value) = is_decimal value
is_legal (declare_lower column limit) = is_given limit
is_legal (declare_upper column limit) = is_given limit
is_legal _ = true

-- No row of type N has a right-hand side: one that is given declares nothing.
abbrev pub HasNoFreeRhs : Draft → Type 0
HasNoFreeRhs all = (row : List ℕ) → IsTrue (is_free_row all row) → has_name all.rhs_values row ≡ false

-- Legal declarations make the draft, one after another, and none of them is rejected.
pub record IsMade (all : Draft) : Type 0 where
  pub declarations : Declarations
  pub legal : IsTrue (list_all is_legal declarations)
  pub unrefused : refusals_in_turn empty_draft declarations ≡ []
  pub draft : all ≡ draft_of declarations
  pub no_free_rhs : HasNoFreeRhs all
