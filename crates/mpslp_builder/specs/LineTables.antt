-- What is known of tables while a line of a column is declared, by number.
use Rattle.std.specs.Prelude.{◌≡◌, ◌≢◌, ℕ, Bool, true, false, ◌&&◌, List, [], ◌∷◌, ◌++◌, Option, Some, None, Result, Ok, Err}
use Rattle.std.specs.Option.{ForSome}
use Rattle.std.specs.Ordering.{nat_cmp}
use Rattle.std.specs.FinMap.{find}
use Rattle.std.specs.declared.alloc.AllocError.{AllocError}
use Rattle.mpslp_decimal.specs.Decimal.{Number}
use Rattle.mpslp_types.specs.declared.kinds.Sense.{Sense}
use Rattle.mpslp_builder_parts.specs.declared.column_table.Inserted.{Inserted}
use Rattle.mpslp_builder_parts.specs.declared.column_table.Inserted.TheVariants.{New, There}
use Rattle.mpslp_builder.specs.Declaration.{declare_column, Declarations, with_declarations, has_row, has_column}
use Rattle.mpslp_builder.specs.Refusal.{refusals_in_turn}
use Rattle.mpslp_builder.specs.Made.{IsMade}
use Rattle.mpslp_builder.specs.Tables.{draft, IsNumbered}
use Rattle.mpslp_builder.specs.Calls.{row_name, column_name, column_satisfies, cells_at, IsSameTables}
use Rattle.mpslp_builder.specs.ColumnLine.{column_line, entry_declared, listed}
use Rattle.mpslp_builder.specs.declared.entries.Entries.{Entries}
use Rattle.mpslp_builder.specs.declared.tables.lines.RowNumbers.{RowNumbers}
use Rattle.mpslp_builder.specs.declared.tables.lines.LinePlace.{LinePlace}
use Rattle.mpslp_builder.specs.declared.tables.Tables.{Tables}

-- these are the numbers of the rows, which differ
pub record AreRows (t : Tables) (entries : Entries) (rows : RowNumbers) : Type 0 where
  pub first : row_name t rows.first ≡ Some entries.first.row.now
  pub second : ForSome entries.second (λ entry. row_name t rows.second ≡ Some entry.row.now)
  pub apart : ForSome entries.second (λ entry. rows.second ≢ rows.first)

-- these rows are declared, and they differ
pub record AreKnownRows (t : Tables) (entries : Entries) : Type 0 where
  pub first : has_row (draft None None t) entries.first.row.now ≡ true
  pub second : ForSome entries.second (λ entry. has_row (draft None None t) entry.row.now ≡ true)
  pub apart : ForSome entries.second (λ entry. entry.row.now ≢ entries.first.row.now)

-- the column has no coefficient in these rows
pub record AreFree (t : Tables) (column : ℕ) (rows : RowNumbers) : Type 0 where
  pub first : find nat_cmp rows.first (cells_at t column) ≡ None
  pub second : find nat_cmp rows.second (cells_at t column) ≡ None

pub record IsLinePlace (t : Tables) (name : List ℕ) (is_marked : Bool) (entries : Entries) (place : LinePlace) : Type 0 where
  pub column : column_name t place.column ≡ Some name
  pub apart : (is_marked && column_satisfies t place.column (λ parts. parts.semi)) ≡ false
  pub rows : AreRows t entries place.rows
  pub free : AreFree t place.column place.rows

-- the column is declared, and none of the declarations of another line is rejected
pub record IsFreeLine (t : Tables) (name : List ℕ) (is_marked : Bool) (entries : Entries) : Type 0 where
  pub sense : Option Sense
  pub constant : Option Number
  pub there : has_column (draft sense constant t) name ≡ true
  pub free : refusals_in_turn (draft sense constant t) (column_line is_marked name (listed entries)) ≡ []

-- these declarations are made, and none of them is rejected
pub record AreDeclared (t : Tables) (declarations : Declarations) (u : Tables) : Type 0 where
  pub free : (sense : Option Sense) (constant : Option Number) → refusals_in_turn (draft sense constant t) declarations ≡ []
  pub declared : (sense : Option Sense) (constant : Option Number) → draft sense constant u ≡ with_declarations (draft sense constant t) declarations

-- a first part of these declarations is made, none of it is rejected, and nothing else is declared
pub record HasPart (t : Tables) (declarations : Declarations) (u : Tables) : Type 0 where
  pub made : Declarations
  pub left : Declarations
  pub parts : declarations ≡ made ++ left
  pub declared : AreDeclared t made u

-- these declarations of the column of a number are made, whatever its name is
abbrev pub AreDeclaredOfColumn : Tables → ℕ → (List ℕ → Declarations) → Tables → Type 0
AreDeclaredOfColumn t column declarations u = (name : List ℕ) → column_name t column ≡ Some name → AreDeclared t (declarations name) u

-- a first part of them is made
abbrev pub HasPartOfColumn : Tables → ℕ → (List ℕ → Declarations) → Tables → Type 0
HasPartOfColumn t column declarations u = (name : List ℕ) → column_name t column ≡ Some name → HasPart t (declarations name) u

-- a coefficient of the column of a number, in the row of a number, is declared, whatever their names are
abbrev pub IsEntryDeclared : Tables → ℕ → ℕ → Number → Tables → Type 0
IsEntryDeclared t column row value u =
    (name : List ℕ) (of_row : List ℕ) → column_name t column ≡ Some name → row_name t row ≡ Some of_row → AreDeclared t (entry_declared name (of_row, value)) u

-- what a builder needs of its tables holds after a call if it did before, and all names have kept their numbers
pub record Follows (t u : Tables) : Type 0 where
  pub numbered : IsNumbered u
  pub made : (sense : Option Sense) (constant : Option Number) → IsMade (draft sense constant t) → IsMade (draft sense constant u)
  pub rows : (n : ℕ) → row_name u n ≡ row_name t n
  pub columns : (i : ℕ) (name : List ℕ) → column_name t i ≡ Some name → column_name u i ≡ Some name

-- a column of this name and number is new, and has nothing yet
pub record HasStarted (t : Tables) (name : List ℕ) (column : ℕ) (u : Tables) : Type 0 where
  pub named : column_name u column ≡ Some name
  pub declared : AreDeclared t (declare_column name ∷ []) u
  pub cells : cells_at u column ≡ []
  pub semi : column_satisfies u column (λ parts. parts.semi) ≡ false

-- a column of this name is new, or it is there and nothing changes; it has this number
abbrev pub Starts : Tables → List ℕ → Result Inserted AllocError → Tables → Type 0
Starts t name (Ok (New column)) u = (has_column (draft None None t) name ≡ false) × HasStarted t name column u
Starts t name (Ok (There column)) u = (column_name t column ≡ Some name) × IsSameTables t u
Starts t name (Err _) u = IsSameTables t u
