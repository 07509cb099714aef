-- The shapes of data lines: which fields they have. A line of another shape has a wrong number of fields.
use Rattle.std.specs.Prelude.{ℕ, Bool, true, false, if◌then◌else◌, List, [], ◌∷◌, codes, Option, Some, None}
use Rattle.mpslp_types.specs.Basics.{find, is_one_of, same_bytes, marker}
use Rattle.mpslp_types.specs.declared.kinds.{Sense.Sense, Sense.TheVariants.Minimize, Sense.TheVariants.Maximize, RowType.RowType}
use Rattle.mpslp_mps_fields.specs.Line.{Fields}
use Rattle.mpslp_types.specs.declared.kinds.RowType.TheVariants as types
use Rattle.mpslp_mps_fields.specs.declared.bound_types.BoundType.{BoundType, TheVariants.Lower, TheVariants.Upper, TheVariants.Fixed, TheVariants.Free, TheVariants.NoLower, TheVariants.NoUpper, TheVariants.Binary, TheVariants.IntegerLower, TheVariants.IntegerUpper, TheVariants.SemiUpper}

-- ---- OBJSENSE and OBJNAME: a word, after the keyword or on a line of its own

abbrev pub word_shape : Fields → Option (List ℕ)
word_shape (word ∷ []) = Some word
word_shape _ = None

abbrev pub sense_of : List ℕ → Option Sense
sense_of word =
    if is_one_of (codes "MAX" ∷ codes "MAXIMIZE" ∷ []) word then Some Maximize
    else (if is_one_of (codes "MIN" ∷ codes "MINIMIZE" ∷ []) word then Some Minimize else None)

-- ---- ROWS: type and name

pub record RowLine : Type 0 where
  pub letter : List ℕ
  pub name : List ℕ

abbrev pub row_shape : Fields → Option RowLine
row_shape (letter ∷ name ∷ []) = Some (record { letter = letter; name = name })
row_shape _ = None

-- the letter of a row type
abbrev pub letter_of : RowType → List ℕ
letter_of types.Free = codes "N"
letter_of types.AtMost = codes "L"
letter_of types.AtLeast = codes "G"
letter_of types.Equal = codes "E"

abbrev pub row_types : List RowType
row_types = types.Free ∷ types.AtMost ∷ types.AtLeast ∷ types.Equal ∷ []

abbrev pub row_type : List ℕ → Option RowType
row_type letter = find (λ type. same_bytes letter (letter_of type)) row_types

-- ---- COLUMNS: a column, and one or two pairs of row and value; or a marker line

-- a row and the literal of a value
pub record Pair : Type 0 where
  pub row : List ℕ
  pub literal : List ℕ

abbrev pub pair : List ℕ → List ℕ → Pair
pair row literal = record { row = row; literal = literal }

-- the column or the set name, and the pairs
pub record ValuesLine : Type 0 where
  pub name : List ℕ
  pub pairs : List Pair

abbrev pub column_shape : Fields → Option ValuesLine
column_shape (column ∷ row ∷ value ∷ []) = Some (record { name = column; pairs = pair row value ∷ [] })
column_shape (column ∷ row ∷ value ∷ other ∷ second ∷ []) = Some (record { name = column; pairs = pair row value ∷ pair other second ∷ [] })
column_shape _ = None

-- the second field is `'MARKER'`
abbrev pub is_marker_line : Fields → Bool
is_marker_line (_ ∷ second ∷ _) = same_bytes second marker
is_marker_line _ = false

abbrev pub third_field : Fields → Option (List ℕ)
third_field (_ ∷ _ ∷ third ∷ _) = Some third
third_field _ = None

-- the word of a line of three fields; in a marker line it opens or closes an integer block
abbrev pub marker_shape : Fields → Option (List ℕ)
marker_shape (_ ∷ _ ∷ word ∷ []) = Some word
marker_shape _ = None

abbrev pub opening_word : List ℕ
opening_word = codes "'INTORG'"

abbrev pub closing_word : List ℕ
closing_word = codes "'INTEND'"

-- ---- RHS and RANGES: one or two pairs of row and value, after a set name or without one

-- a set name that is absent counts as the empty name
abbrev pub vector_shape : Fields → Option ValuesLine
vector_shape (row ∷ value ∷ []) = Some (record { name = []; pairs = pair row value ∷ [] })
vector_shape (set ∷ row ∷ value ∷ []) = Some (record { name = set; pairs = pair row value ∷ [] })
vector_shape (row ∷ value ∷ other ∷ second ∷ []) = Some (record { name = []; pairs = pair row value ∷ pair other second ∷ [] })
vector_shape (set ∷ row ∷ value ∷ other ∷ second ∷ []) = Some (record { name = set; pairs = pair row value ∷ pair other second ∷ [] })
vector_shape _ = None

-- ---- BOUNDS: a type, an optional set name, a column, and a value if the type takes one

abbrev pub letters_of : BoundType → List ℕ
letters_of Lower = codes "LO"
letters_of Upper = codes "UP"
letters_of Fixed = codes "FX"
letters_of Free = codes "FR"
letters_of NoLower = codes "MI"
letters_of NoUpper = codes "PL"
letters_of Binary = codes "BV"
letters_of IntegerLower = codes "LI"
letters_of IntegerUpper = codes "UI"
letters_of SemiUpper = codes "SC"

abbrev pub bound_types : List BoundType
bound_types = Lower ∷ Upper ∷ Fixed ∷ Free ∷ NoLower ∷ NoUpper ∷ Binary ∷ IntegerLower ∷ IntegerUpper ∷ SemiUpper ∷ []

abbrev pub bound_type : List ℕ → Option BoundType
bound_type letters = find (λ type. same_bytes letters (letters_of type)) bound_types

abbrev pub takes_value : BoundType → Bool
takes_value Free = false
takes_value NoLower = false
takes_value NoUpper = false
takes_value Binary = false
takes_value _ = true

-- whether the type declares the column integer, or semi-continuous
abbrev pub is_integer_type : BoundType → Bool
is_integer_type Binary = true
is_integer_type IntegerLower = true
is_integer_type IntegerUpper = true
is_integer_type _ = false

abbrev pub is_semi_type : BoundType → Bool
is_semi_type SemiUpper = true
is_semi_type _ = false

-- an absent set name counts as the empty name; if the type takes no value, there is no literal
pub record BoundLine : Type 0 where
  pub set : List ℕ
  pub column : List ℕ
  pub literal : Option (List ℕ)

-- the fields after a type that takes a value
abbrev pub line_with_value : Fields → Option BoundLine
line_with_value (column ∷ value ∷ []) = Some (record { set = []; column = column; literal = Some value })
line_with_value (set ∷ column ∷ value ∷ []) = Some (record { set = set; column = column; literal = Some value })
line_with_value _ = None

-- the fields after a type that takes no value; a fourth field of the line is ignored
abbrev pub line_without_value : Fields → Option BoundLine
line_without_value (column ∷ []) = Some (record { set = []; column = column; literal = None })
line_without_value (set ∷ column ∷ []) = Some (record { set = set; column = column; literal = None })
line_without_value (set ∷ column ∷ _ ∷ []) = Some (record { set = set; column = column; literal = None })
line_without_value _ = None

abbrev pub bound_shape : BoundType → Fields → Option BoundLine
bound_shape type more = if takes_value type then line_with_value more else line_without_value more
