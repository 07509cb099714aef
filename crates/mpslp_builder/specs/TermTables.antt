-- What is known of tables while the terms of a row are declared, by number.
use Rattle.std.specs.Prelude.{◌≡◌, ◌⊎◌, ℕ, List, [], ◌∷◌, ◌++◌, Option, Some, Ok, Err}
use Rattle.std.specs.List.{flat_map}
use Rattle.mpslp_decimal.specs.Decimal.{Number}
use Rattle.mpslp_types.specs.Lists.{head_of}
use Rattle.mpslp_types.specs.declared.kinds.Sense.{Sense}
use Rattle.mpslp_types.specs.declared.faults.BuildFault.{BuildFault}
use Rattle.mpslp_types.specs.declared.faults.BuildFault.TheVariants.{OutOfMemory}
use Rattle.mpslp_builder.specs.Declaration.{Declaration, declare_column, Declarations}
use Rattle.mpslp_builder.specs.Refusal.{refusals}
use Rattle.mpslp_builder.specs.Answer.{Answer}
use Rattle.mpslp_builder.specs.Tables.{draft}
use Rattle.mpslp_builder.specs.Calls.{column_name, row_name}
use Rattle.mpslp_builder.specs.ColumnLine.{entry_declared}
use Rattle.mpslp_builder.specs.LineTables.{AreDeclared, HasPart}
use Rattle.mpslp_builder.specs.RowTerms.{term_declared}
use Rattle.mpslp_builder.specs.declared.tables.Tables.{Tables}

-- the column of this number has this name, and it is declared if it was not
pub record HasColumn (t : Tables) (name : List ℕ) (column : ℕ) (u : Tables) : Type 0 where
  pub named : column_name u column ≡ Some name
  pub declared : AreDeclared t (declare_column name ∷ []) u

-- the declarations before the one with this error are made
pub record IsBeforeRejected (t : Tables) (declarations : Declarations) (fault : BuildFault) (u : Tables) : Type 0 where
  pub made : Declarations
  pub rejected : Declaration
  pub left : Declarations
  pub parts : declarations ≡ made ++ rejected ∷ left
  pub declared : AreDeclared t made u
  pub error : (sense : Option Sense) (constant : Option Number) → head_of (refusals (draft sense constant u) rejected) ≡ Some fault

-- these declarations are made, or those before the one whose error is returned, or there is no memory and a first part is made
abbrev pub AreDeclaredUnless : Tables → Declarations → Answer → Tables → Type 0
AreDeclaredUnless t declarations (Ok _) u = AreDeclared t declarations u
AreDeclaredUnless t declarations (Err fault) u = IsBeforeRejected t declarations fault u ⊎ ((fault ≡ OutOfMemory) × HasPart t declarations u)

-- the same for a coefficient of the column of a number, in the row of a number, whatever their names are
abbrev pub EntryIsDeclaredUnless : Tables → ℕ → ℕ → Number → Answer → Tables → Type 0
EntryIsDeclaredUnless t column row value answer u =
    (name : List ℕ) (of_row : List ℕ) → column_name t column ≡ Some name → row_name t row ≡ Some of_row
    → AreDeclaredUnless t (entry_declared name (of_row, value)) answer u

-- the same for a term of the row of a number, whatever its name is
abbrev pub TermIsDeclaredUnless : Tables → ℕ → List ℕ × Number → Answer → Tables → Type 0
TermIsDeclaredUnless t row term answer u = (name : List ℕ) → row_name t row ≡ Some name → AreDeclaredUnless t (term_declared name term) answer u

-- the same for terms of the row of a number
abbrev pub TermsAreDeclaredUnless : Tables → ℕ → List (List ℕ × Number) → Answer → Tables → Type 0
TermsAreDeclaredUnless t row terms answer u = (name : List ℕ) → row_name t row ≡ Some name → AreDeclaredUnless t (flat_map (term_declared name) terms) answer u
