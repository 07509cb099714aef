-- The text that shows a model, line by line.
use Rattle.std.specs.Prelude.{ℕ, List, [], ◌∷◌, ◌++◌, Option, codes, decimal}
use Rattle.std.specs.List.{flat_map, enumerate_from}
use Rattle.std.specs.Option.{option_map_or}
use Rattle.std.specs.FinMap.{entries}
use Rattle.mpslp_decimal.specs.Decimal.{Number, negated}
use Rattle.mpslp_decimal.specs.NumberText.{number_text}
use Rattle.mpslp_model_core.specs.Model.{LinearModel, Row, Column}
use Rattle.mpslp_model_core.specs.Views.{num_rows, num_columns, num_elements, row_sense, right_hand_side, row_range, coefficient_at, numbered_elements}
use Rattle.mpslp_types.specs.declared.kinds.Sense.{Sense}
use Rattle.mpslp_types.specs.declared.kinds.Sense.TheVariants.{Minimize, Maximize}
use Rattle.mpslp_types.specs.declared.kinds.Kind.{Kind}
use Rattle.mpslp_types.specs.declared.kinds.Kind.TheVariants.{Continuous, Integer, Semi}
use Rattle.mpslp_types.specs.declared.kinds.Limit.{Limit}
use Rattle.mpslp_types.specs.declared.kinds.Limit.TheVariants.{MinusInf, Finite, PlusInf}

-- words with a space before each, and the line feed
abbrev pub words_after_blanks : List (List ℕ) → List ℕ
words_after_blanks [] = codes "\n"
words_after_blanks (word ∷ words) = codes " " ++ (word ++ words_after_blanks words)

abbrev pub line_of : List ℕ → List (List ℕ) → List ℕ
line_of first words = first ++ words_after_blanks words

abbrev pub sense_word : Sense → List ℕ
sense_word Minimize = codes "minimize"
sense_word Maximize = codes "maximize"

abbrev pub kind_word : Kind → List ℕ
kind_word Continuous = codes "continuous"
kind_word Integer = codes "integer"
kind_word Semi = codes "semi"

abbrev pub limit_text : Limit → List ℕ
limit_text MinusInf = codes "-inf"
limit_text (Finite value) = number_text value
limit_text PlusInf = codes "inf"

-- ---- the model as a whole

abbrev pub sense_line : LinearModel → List ℕ
sense_line m = line_of (codes "sense") (sense_word m.sense ∷ [])

abbrev pub objective_line : LinearModel → List ℕ
objective_line m =
    line_of (codes "objective") (m.objective ∷ codes "constant" ∷ number_text m.constant ∷ codes "offset" ∷ number_text (negated m.constant) ∷ [])

abbrev pub counts_line : LinearModel → List ℕ
counts_line m =
    line_of (codes "rows") (decimal (num_rows m) ∷ codes "columns" ∷ decimal (num_columns m) ∷ codes "elements" ∷ decimal (num_elements m) ∷ [])

-- ---- rows

-- a row with its number, name, letter, limits, right-hand side and range
abbrev pub row_line : ℕ → List ℕ → ℕ → Limit → Limit → Number → Number → List ℕ
row_line i name letter lower upper rhs range =
    line_of (codes "row")
    (decimal i ∷ name ∷ (letter ∷ []) ∷ limit_text lower ∷ limit_text upper ∷ codes "rhs" ∷ number_text rhs ∷ codes "range" ∷ number_text range ∷ [])

abbrev pub row_text : ℕ × (List ℕ × Row) → List ℕ
row_text row =
    let limits = row.1.1 in
    row_line row.0 row.1.0 (row_sense limits) limits.lower limits.upper (right_hand_side limits) (row_range limits)

-- in byte order of their names, numbered from 0
abbrev pub rows_text : LinearModel → List ℕ
rows_text m = flat_map row_text (enumerate_from 0 (entries m.rows))

-- ---- columns

-- a column with its number, name, type, bounds and objective coefficient
abbrev pub column_line : ℕ → List ℕ → Kind → Limit → Limit → Number → List ℕ
column_line j name kind lower upper value =
    line_of (codes "column")
    (decimal j ∷ name ∷ kind_word kind ∷ limit_text lower ∷ limit_text upper ∷ codes "objective" ∷ number_text value ∷ [])

-- a nonzero with the numbers of its column and row
abbrev pub entry_line : ℕ → ℕ → Number → List ℕ
entry_line j i value = line_of (codes "entry") (decimal j ∷ decimal i ∷ number_text value ∷ [])

-- each nonzero is in a row with a number
abbrev pub entry_text : ℕ → Option ℕ × Number → List ℕ
entry_text j entry = option_map_or (λ i. entry_line j i entry.1) entry.0 []

-- the nonzeros of a column, in the order of rows
abbrev pub entries_text : LinearModel → ℕ → List ℕ → List ℕ
entries_text m j name = flat_map (entry_text j) (numbered_elements m name)

-- a column, followed by its nonzeros
abbrev pub column_text : LinearModel → ℕ × (List ℕ × Column) → List ℕ
column_text m column =
    let name = column.1.0 in
    let bounds = column.1.1 in
    column_line column.0 name bounds.kind bounds.lower bounds.upper (coefficient_at m m.objective name) ++ entries_text m column.0 name

-- in byte order of their names, numbered from 0
abbrev pub columns_text : LinearModel → List ℕ
columns_text m = flat_map (column_text m) (enumerate_from 0 (entries m.columns))

-- ---- the whole

abbrev pub shown_text : LinearModel → List ℕ
shown_text m = sense_line m ++ (objective_line m ++ (counts_line m ++ (rows_text m ++ columns_text m)))
