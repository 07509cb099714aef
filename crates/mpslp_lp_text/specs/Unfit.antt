-- The first name of a model that is not legal in LP.
use Rattle.std.specs.Prelude.{ℕ, Bool, not, if◌then◌else◌, List, map, position, Option, Some, None}
use Rattle.mpslp_types.specs.Basics.{option_map, is_lp_name}
use Rattle.mpslp_model_core.specs.Model.{LinearModel, Listing, listing_of}
use Rattle.mpslp_types.specs.declared.faults.NameAt.{NameAt, TheVariants.Objective, TheVariants.Row, TheVariants.Column}

abbrev pub is_no_lp_name : List ℕ → Bool
is_no_lp_name name = not (is_lp_name name)

-- the index of the first name that is not an LP name
abbrev pub first_unfit : List (List ℕ) → Option ℕ
first_unfit names = position is_no_lp_name names

-- the first place, or else the second
abbrev pub or_else : Option NameAt → Option NameAt → Option NameAt
or_else (Some place) other = Some place
or_else None other = other

-- the name of the objective first, then the first row, then the first column
abbrev pub unfit_in : Listing → Option NameAt
unfit_in m =
    if is_no_lp_name m.objective then Some Objective
    else or_else (option_map Row (first_unfit (map (λ row. row.0) m.rows))) (option_map Column (first_unfit (map (λ column. column.0) m.columns)))

abbrev pub unfit : LinearModel → Option NameAt
unfit m = unfit_in (listing_of m)
