-- What a line of COLUMNS declares of its column, and of each of its rows and values.
use Rattle.std.specs.Prelude.{◌≡◌, ℕ, Bool, true, List, [], ◌∷◌}
use Rattle.std.specs.Option.{ForSome}
use Rattle.mpslp_decimal.specs.Decimal.{Number}
use Rattle.mpslp_builder.specs.Declaration.{declare_column, declare_marked, declare_coefficient, Declarations, Draft, has_column}
use Rattle.mpslp_types.specs.Lists.{when}
use Rattle.mpslp_mps.specs.Context.{Context}

abbrev pub front_declared : Bool → List ℕ → Declarations
front_declared marked column = declare_column column ∷ when marked (declare_marked column)

abbrev pub value_declared : List ℕ → List ℕ × Number → Declarations
value_declared column pair = declare_coefficient (record { row = pair.0; column = column }) pair.1 ∷ []

-- The column of the line before is declared.
abbrev pub HasLastColumn : Context → Draft → Type 0
HasLastColumn context earlier = ForSome context.last_column (λ name. has_column earlier name ≡ true)
