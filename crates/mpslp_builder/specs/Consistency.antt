-- Which declarations are consistent, regardless of their order.
use Rattle.std.specs.Prelude.{ℕ, Bool, true, false, ◌&&◌, ◌||◌, not, if◌then◌else◌, IsTrue, List, [], ◌∷◌, ◌++◌, is_some}
use Rattle.mpslp_types.specs.Basics.{list_all, list_any, option_map_or, are_distinct, is_infinite_size, same_bytes, is_plus_infinite, is_minus_infinite}
use Rattle.mpslp_builder.specs.Declaration.{Declaration, declare_sense, declare_objective, declare_constant, declare_row, declare_rhs, declare_range, declare_coefficient, declare_lower, declare_upper, declare_marked, declare_integer, declare_binary, declare_semi, Declarations, Draft, draft_of, has_name, is_objective, has_row, has_column, is_integer, is_semi, is_free_row, is_definition_by_limits, have_infinite_side, CoefficientKey}

-- what at most one declaration may fill; only columns and their types may be declared repeatedly
pub data Slot : Type 0 where
  sense_slot : Slot
  objective_slot : Slot
  constant_slot : Slot
  row_slot : List ℕ → Slot
  rhs_slot : List ℕ → Slot
  range_slot : List ℕ → Slot
  coefficient_slot : CoefficientKey → Slot
  lower_slot : List ℕ → Slot
  upper_slot : List ℕ → Slot

abbrev pub same_slot : Slot → Slot → Bool
same_slot sense_slot sense_slot = true
same_slot objective_slot objective_slot = true
same_slot constant_slot constant_slot = true
same_slot (row_slot a) (row_slot b) = same_bytes a b
same_slot (rhs_slot a) (rhs_slot b) = same_bytes a b
same_slot (range_slot a) (range_slot b) = same_bytes a b
same_slot (coefficient_slot a) (coefficient_slot b) = same_bytes a.row b.row && same_bytes a.column b.column
same_slot (lower_slot a) (lower_slot b) = same_bytes a b
same_slot (upper_slot a) (upper_slot b) = same_bytes a b
same_slot _ _ = false

-- the slots that a declaration fills. The objective and a row cannot share a name, and no right-hand side or range can be
-- declared for a row by limits
abbrev pub slots_of : Declaration → List Slot
slots_of (declare_sense _) = sense_slot ∷ []
slots_of (declare_objective name) = objective_slot ∷ row_slot name ∷ []
slots_of (declare_constant _) = constant_slot ∷ []
slots_of (declare_row name definition) = row_slot name ∷ (if is_definition_by_limits definition then rhs_slot name ∷ range_slot name ∷ [] else [])
slots_of (declare_rhs row _) = rhs_slot row ∷ []
slots_of (declare_range row _) = range_slot row ∷ []
slots_of (declare_coefficient key _) = coefficient_slot key ∷ []
slots_of (declare_lower column _) = lower_slot column ∷ []
slots_of (declare_upper column _) = upper_slot column ∷ []
slots_of _ = []

abbrev pub all_slots : Declarations → List Slot
all_slots [] = []
all_slots (declaration ∷ more) = slots_of declaration ++ all_slots more

-- the names that a declaration uses are declared
abbrev pub is_known : Draft → Declaration → Bool
is_known all (declare_rhs row _) = has_row all row
is_known all (declare_range row _) = has_row all row
is_known all (declare_coefficient key _) = has_row all key.row && has_column all key.column
is_known all (declare_lower column _) = has_column all column
is_known all (declare_upper column _) = has_column all column
is_known all (declare_marked column) = has_column all column
is_known all (declare_integer column) = has_column all column
is_known all (declare_binary column) = has_column all column
is_known all (declare_semi column) = has_column all column
is_known all _ = true

-- no range on the objective or on a row of type N, no range of infinite magnitude, no limit or bound that no value meets, and
-- no column that is both integer and semi-continuous
abbrev pub is_allowed : Draft → Declaration → Bool
is_allowed all (declare_row name definition) = not (have_infinite_side definition)
is_allowed all (declare_range row value) = not (is_objective all row || is_free_row all row) && not (is_infinite_size value)
is_allowed all (declare_lower column limit) = not (is_plus_infinite limit)
is_allowed all (declare_upper column limit) = not (is_minus_infinite limit)
is_allowed all (declare_marked column) = not (is_semi all column)
is_allowed all (declare_integer column) = not (is_semi all column)
is_allowed all (declare_binary column) = not (is_semi all column)
is_allowed all (declare_semi column) = not (is_integer all column)
is_allowed all _ = true

-- the objective has a right-hand side, which is its negated constant
abbrev pub has_objective_rhs : Draft → Bool
has_objective_rhs all = option_map_or (has_name all.rhs_values) all.objective false

-- the constant is declared, or the objective has a right-hand side, but not both
abbrev pub has_one_constant : Draft → Bool
has_one_constant all = not (is_some all.constant && has_objective_rhs all)

abbrev pub declares_objective : Declaration → Bool
declares_objective (declare_objective _) = true
declares_objective _ = false

abbrev pub has_objective : Declarations → Bool
has_objective declarations = list_any declares_objective declarations

-- Each slot is filled at most once, the objective's slot is filled, and every name that is used is declared somewhere.
pub record AreConsistent (declarations : Declarations) : Type 0 where
  pub objective : IsTrue (has_objective declarations)
  pub once : IsTrue (are_distinct same_slot (all_slots declarations))
  pub one_constant : IsTrue (has_one_constant (draft_of declarations))
  pub known : IsTrue (list_all (is_known (draft_of declarations)) declarations)
  pub allowed : IsTrue (list_all (is_allowed (draft_of declarations)) declarations)
