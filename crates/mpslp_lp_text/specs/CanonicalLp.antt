-- The canonical LP text of a model.
use Rattle.std.specs.Prelude.{ℕ, pos, negsuc, Bool, true, false, if◌then◌else◌, List, [], ◌∷◌, ◌++◌, map, filter, filter_map, codes, Option, Some}
use Rattle.mpslp_types.specs.Basics.{list_any, flat_map, option_map, find_entry as find, Number, is_zero, is_negative, size_of, zero_number, have_same_value, same_bytes}
use Rattle.mpslp_model_core.specs.Model.{LinearModel, Row, Column, CoefficientKey, key_cmp, Listing, listing_of}
use Rattle.mpslp_types.specs.declared.kinds.{Sense.Sense, Sense.TheVariants.Minimize, Sense.TheVariants.Maximize, Kind.Kind, Kind.TheVariants.Continuous, Kind.TheVariants.Integer, Kind.TheVariants.Semi, Limit.Limit, Limit.TheVariants.MinusInf, Limit.TheVariants.Finite}
use Rattle.mpslp_lp_tokens.specs.declared.relations.Relation.{Relation, TheVariants.AtMost, TheVariants.AtLeast, TheVariants.EqualTo}
use Rattle.mpslp_lp_text.specs.Printed.{PrintedLine, Lexeme, word, label, number, sign, sense, minus_infinity, text_of, semi_continuous}

abbrev pub Lines : Type 0
Lines = List PrintedLine

-- ---- lines

-- the words of a section, in column 1
abbrev pub heading : List (List ℕ) → PrintedLine
heading words = record { indent = 0; lexemes = map word words }

-- names, and the bounds of a column, after one space
abbrev pub short_line : List Lexeme → PrintedLine
short_line lexemes = record { indent = 1; lexemes = lexemes }

-- what belongs to a name, after two spaces
abbrev pub long_line : List Lexeme → PrintedLine
long_line lexemes = record { indent = 2; lexemes = lexemes }

-- a section whose heading is printed only if there are lines
abbrev pub under_heading : List ℕ → Lines → Lines
under_heading section [] = []
under_heading section (line ∷ lines) = heading (section ∷ []) ∷ line ∷ lines

abbrev pub label_line : List ℕ → PrintedLine
label_line name = short_line (label name ∷ [])

-- the sign of a number, and its absolute value
abbrev pub signed_lexemes : Number → List Lexeme
signed_lexemes value = sign (is_negative value) ∷ number (size_of value) ∷ []

-- a column, and the value of its coefficient
abbrev pub Term : Type 0
Term = List ℕ × Number

abbrev pub term_line : Term → PrintedLine
term_line term = long_line (signed_lexemes term.1 ++ word term.0 ∷ [])

-- ---- the objective

abbrev pub sense_word : Sense → List ℕ
sense_word Minimize = codes "Minimize"
sense_word Maximize = codes "Maximize"

-- the coefficient of a column in a row, or in the objective, if it has one there
abbrev pub term_in : Listing → List ℕ → List ℕ × Column → Option Term
term_in m row column = option_map (λ value. (column.0, value)) (find key_cmp (record { row = row; column = column.0 }) m.coefficients)

abbrev pub has_coefficients : Listing → List ℕ × Column → Bool
has_coefficients m column = list_any (λ (entry : CoefficientKey × Number). same_bytes entry.0.column column.0) m.coefficients

-- a column without coefficients is in the objective, with 0
abbrev pub objective_term : Listing → List ℕ × Column → Option Term
objective_term m column = if has_coefficients m column then term_in m m.objective column else Some (column.0, zero_number)

abbrev pub objective_terms : Listing → List Term
objective_terms m = filter_map (objective_term m) m.columns

abbrev pub constant_lines : Number → Lines
constant_lines value = if is_zero value then [] else long_line (signed_lexemes value) ∷ []

abbrev pub objective_section : Listing → Lines
objective_section m =
    heading (sense_word m.sense ∷ []) ∷ label_line m.objective ∷ (map term_line (objective_terms m) ++ constant_lines m.constant)

-- ---- rows

-- a ranged row: the lower limit comes before the terms
abbrev pub left_lines : Limit → Limit → Lines
left_lines (Finite lower) (Finite upper) =
    if have_same_value lower upper then [] else long_line (number lower ∷ sense AtMost ∷ []) ∷ []
left_lines _ _ = []

abbrev pub right_line : Relation → Number → PrintedLine
right_line relation value = long_line (sense relation ∷ number value ∷ [])

-- a value that is read as minus infinity
abbrev pub minus_large : Number
minus_large = record { mantissa = negsuc 0; exponent = pos 20 }

-- a row without limits is at least -1e20, which is read as minus infinity
abbrev pub last_line : Limit → Limit → PrintedLine
last_line (Finite lower) (Finite upper) = if have_same_value lower upper then right_line EqualTo upper else right_line AtMost upper
last_line _ (Finite upper) = right_line AtMost upper
last_line (Finite lower) _ = right_line AtLeast lower
last_line _ _ = right_line AtLeast minus_large

-- a row without terms has the first column, with 0
abbrev pub some_term : List (List ℕ × Column) → List Term → List Term
some_term (column ∷ _) [] = (column.0, zero_number) ∷ []
some_term _ terms = terms

abbrev pub row_terms : Listing → List ℕ → List Term
row_terms m row = some_term m.columns (filter_map (term_in m row) m.columns)

abbrev pub row_lines : Listing → List ℕ × Row → Lines
row_lines m row =
    label_line row.0 ∷ (left_lines row.1.lower row.1.upper ++ (map term_line (row_terms m row.0) ++ last_line row.1.lower row.1.upper ∷ []))

abbrev pub rows_section : Listing → Lines
rows_section m = heading (codes "Subject" ∷ codes "To" ∷ []) ∷ flat_map (row_lines m) m.rows

-- ---- bounds, if they are not 0 and infinity

-- what is printed for a column with these bounds
abbrev pub bound_lexemes : List ℕ → Limit → Limit → List Lexeme
bound_lexemes column MinusInf (Finite upper) = minus_infinity ∷ sense AtMost ∷ word column ∷ sense AtMost ∷ number upper ∷ []
bound_lexemes column (Finite lower) (Finite upper) =
    if have_same_value lower upper then word column ∷ sense EqualTo ∷ number upper ∷ []
    else number lower ∷ sense AtMost ∷ word column ∷ sense AtMost ∷ number upper ∷ []
bound_lexemes column (Finite lower) _ = if is_zero lower then [] else word column ∷ sense AtLeast ∷ number lower ∷ []
bound_lexemes column _ _ = word column ∷ word (codes "free") ∷ []

abbrev pub line_of_some : List Lexeme → Lines
line_of_some [] = []
line_of_some (piece ∷ lexemes) = short_line (piece ∷ lexemes) ∷ []

abbrev pub bound_lines : List ℕ × Column → Lines
bound_lines column = line_of_some (bound_lexemes column.0 column.1.lower column.1.upper)

abbrev pub bounds_section : Listing → Lines
bounds_section m = under_heading (codes "Bounds") (flat_map bound_lines m.columns)

-- ---- integer columns

abbrev pub is_integer_kind : Kind → Bool
is_integer_kind Integer = true
is_integer_kind Continuous = false
is_integer_kind Semi = false

abbrev pub is_integer_column : List ℕ × Column → Bool
is_integer_column column = is_integer_kind column.1.kind

abbrev pub name_line : List ℕ × Column → PrintedLine
name_line column = short_line (word column.0 ∷ [])

abbrev pub generals_section : Listing → Lines
generals_section m = under_heading (codes "Generals") (map name_line (filter is_integer_column m.columns))

-- ---- semi-continuous columns

abbrev pub is_semi_kind : Kind → Bool
is_semi_kind Semi = true
is_semi_kind Continuous = false
is_semi_kind Integer = false

abbrev pub is_semi_column : List ℕ × Column → Bool
is_semi_column column = is_semi_kind column.1.kind

abbrev pub semi_heading : PrintedLine
semi_heading = record { indent = 0; lexemes = semi_continuous ∷ [] }

abbrev pub under_semi_heading : Lines → Lines
under_semi_heading [] = []
under_semi_heading (line ∷ lines) = semi_heading ∷ line ∷ lines

abbrev pub semis_section : Listing → Lines
semis_section m = under_semi_heading (map name_line (filter is_semi_column m.columns))

-- ---- the text

abbrev pub listed_lines : Listing → Lines
listed_lines m =
    objective_section m ++ (rows_section m ++ (bounds_section m ++ (generals_section m ++ (semis_section m ++ heading (codes "End" ∷ []) ∷ []))))

abbrev pub canonical_lines : LinearModel → Lines
canonical_lines m = listed_lines (listing_of m)

abbrev pub canonical_lp : LinearModel → List ℕ
canonical_lp m = text_of (canonical_lines m)
