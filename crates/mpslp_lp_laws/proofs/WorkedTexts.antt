-- The canonical LP texts of worked models, by computation: each text is that of the model, and declares it.
use Rattle.mpslp_lp_laws.proofs.Prelude
use Prelude.{◌≡◌, refl, ap, map, Bool, Each, Option, ℕ, ℤ, pos, negsuc, Some, None, List, ◌∷◌, [], ◌++◌, codes, length, true, list_all}
use Prelude.{Number, zero_number, Fault, LinearModel, CoefficientKey, Row, Column, Listing, Sense, Minimize, Maximize, Kind, Limit}
use Prelude.{MinusInf, Finite, PlusInf, empty_draft, has_objective, model_of, refusals_in_turn, is_lp_text, declarations_of, draft_of}
use Prelude.{listed_lines, text_of, unfit, unfit_in}
use Rattle.std.specs.Fmt.{digits}
use Rattle.mpslp_decimal.specs.Decimal.{trailing_zeros}
use Rattle.mpslp_types.specs.declared.{kinds.Kind.TheVariants.{Continuous, Integer, Semi}, faults.{BuildFault.BuildFault, NameAt.NameAt}}
use Rattle.mpslp_builder.specs.{Made.is_legal, FileFault.file_fault}
use Rattle.mpslp_lp_laws.proofs.ListedText.{model_in, is_in_order, IsPrinted, line_text-from_passes, unfit-listed}
use Prim.Native.String.{String}
use Rattle.mpslp_types.specs.declared.faults.NameAt.TheVariants as places

-- ---- models by their entries, in byte order

abbrev number : ℤ → ℤ → Number
number m e = record { mantissa = m; exponent = e }

abbrev units : ℤ → Number
units m = number m (pos 0)

abbrev one : Number
one = units (pos 1)

abbrev finite : ℤ → Limit
finite m = Finite (units m)

abbrev zero_limit : Limit
zero_limit = finite (pos 0)

-- a multiple of 10
abbrev tens : ℕ → Limit
tens n = Finite (number (pos n) (pos 1))

abbrev row : String → Limit → Limit → List ℕ × Row
row name lower upper = (codes name, record { lower = lower; upper = upper })

abbrev column : String → Kind → Limit → Limit → List ℕ × Column
column name kind lower upper = (codes name, record { kind = kind; lower = lower; upper = upper })

-- a column of the usual kind and bounds
abbrev usual : String → List ℕ × Column
usual name = column name Continuous zero_limit PlusInf

abbrev entry : String → String → Number → CoefficientKey × Number
entry column row value = (record { row = codes row; column = codes column }, value)

abbrev listing : Sense → String → Number → List (List ℕ × Row) → List (List ℕ × Column) → List (CoefficientKey × Number) → Listing
listing sense objective constant rows columns coefficients =
    record {
      sense = sense;
      objective = codes objective;
      constant = constant;
      rows = rows;
      columns =
          columns;
      coefficients = coefficients;
    }

-- a model without rows, of this column X
abbrev of_column : Kind → Limit → Limit → Listing
of_column kind lower upper = listing Minimize "C" zero_number [] (column "X" kind lower upper ∷ []) (entry "X" "C" one ∷ [])

-- what makes a text that of a model, which it declares
abbrev tests : Listing × List ℕ →
    Bool × List ℕ × Option NameAt × Bool × Bool × Bool × List BuildFault × Option Fault × LinearModel
tests row = let declared = declarations_of row.1 in (
  is_in_order row.0,
  text_of (listed_lines row.0),
  unfit_in row.0,
  is_lp_text row.1,
  has_objective declared,
  list_all is_legal declared,
  refusals_in_turn empty_draft declared,
  file_fault (draft_of declared),
  model_of (draft_of declared),
)

abbrev passing : Listing × List ℕ →
    Bool × List ℕ × Option NameAt × Bool × Bool × Bool × List BuildFault × Option Fault × LinearModel
passing row = (true, row.1, None, true, true, true, [], None, model_in row.0)

abbrev IsRowPrinted : Listing × List ℕ → Type 0
IsRowPrinted row = IsPrinted row.0 row.1

each-printed : (rows : List (Listing × List ℕ)) → map tests rows ≡ map passing rows → Each IsRowPrinted rows
each-printed [] e = tt
each-printed (row ∷ rows) e = let h : tests row ≡ passing row = cc in (
  line_text-from_passes row.0 row.1 (ap (λ t. t.0) h) (ap (λ t. t.1) h) (ap (λ t. t.2) h) (record {
    is_text = ap (λ t. t.3) h;
    objective = ap (λ t. t.4) h;
    legal = ap (λ t. t.5) h;
    unrefused = ap (λ t. t.6) h;
    no_fault = ap (λ t. t.7) h;
    model = ap (λ t. t.8) h;
  }),
  each-printed rows cc,
)

-- ---- the texts

abbrev worked_texts : List (Listing × List ℕ)
worked_texts =
    -- a small model
    (
      listing Minimize "COST" zero_number (row "LIM1" MinusInf (finite (pos 4)) ∷ row "MYG" (finite (pos 1)) PlusInf ∷ [])
          (usual "X" ∷ usual "Y" ∷ [])
          (entry "X" "COST" one ∷ entry "X" "LIM1" one ∷ entry "Y" "COST" (units (pos 2)) ∷ entry "Y" "MYG"
          (number (pos 15) (negsuc 0)) ∷ []),
      codes "Minimize\n COST:\n  + 1 X\n  + 2 Y\nSubject To\n LIM1:\n  + 1 X\n  <= 4\n MYG:\n  + 1.5 Y\n  >= 1\nEnd\n",
    ) ∷
    -- an integer column from 0 to 1
    (of_column Integer zero_limit (finite (pos 1)), codes "Minimize\n C:\n  + 1 X\nSubject To\nBounds\n 0 <= X <= 1\nGenerals\n X\nEnd\n") ∷
    -- a semi-continuous column
    (
      listing Minimize "C" zero_number (row "R" MinusInf (finite (pos 1)) ∷ [])
          (column "X" Semi zero_limit (finite (pos 4)) ∷ usual "Y" ∷ []) (entry "X" "C" one ∷ entry "X" "R" one ∷ entry "Y" "C" one ∷ []),
      codes "Minimize\n C:\n  + 1 X\n  + 1 Y\nSubject To\n R:\n  + 1 X\n  <= 1\nBounds\n 0 <= X <= 4\nSemi-Continuous\n X\nEnd\n",
    ) ∷
    -- an integer column without an upper bound
    (of_column Integer zero_limit PlusInf, codes "Minimize\n C:\n  + 1 X\nSubject To\nGenerals\n X\nEnd\n") ∷
    -- a negative constant
    (
      listing Minimize "C" (units (negsuc 4)) [] (usual "X" ∷ []) (entry "X" "C" one ∷ []),
      codes "Minimize\n C:\n  + 1 X\n  - 5\nSubject To\nEnd\n",
    ) ∷
    -- a column without a lower bound
    (of_column Continuous MinusInf (finite (negsuc 0)), codes "Minimize\n C:\n  + 1 X\nSubject To\nBounds\n -infinity <= X <= -1\nEnd\n") ∷
    -- a fixed column
    (of_column Continuous zero_limit zero_limit, codes "Minimize\n C:\n  + 1 X\nSubject To\nBounds\n X = 0\nEnd\n") ∷
    -- a free column
    (of_column Continuous MinusInf PlusInf, codes "Minimize\n C:\n  + 1 X\nSubject To\nBounds\n X free\nEnd\n") ∷
    -- only a lower bound
    (
      of_column Continuous (Finite (number (negsuc 24) (negsuc 0))) PlusInf,
      codes "Minimize\n C:\n  + 1 X\nSubject To\nBounds\n X >= -2.5\nEnd\n",
    ) ∷
    -- a column without coefficients, a row without terms, and a free row
    (
      listing Minimize "C" zero_number (row "R" MinusInf (finite (pos 3)) ∷ row "S" MinusInf PlusInf ∷ []) (usual "X" ∷ usual "Y" ∷ [])
          (entry "Y" "S" (units (pos 2)) ∷ []),
      codes "Minimize\n C:\n  + 0 X\nSubject To\n R:\n  + 0 X\n  <= 3\n S:\n  + 2 Y\n  >= -1e20\nEnd\n",
    ) ∷
    -- ranged rows
    (
      listing Minimize "C" zero_number
          (row "G1" (tens 1) (finite (pos 12)) ∷ row "L1" (finite (pos 8)) (tens 1) ∷ row "R1" (tens 1) (finite (pos 13))
          ∷ row "R2" (finite (pos 7)) (tens 1) ∷ row "R3" (tens 1) (tens 1) ∷ []) (usual "X" ∷ [])
          (entry "X" "G1" one ∷ entry "X" "L1" one ∷ entry "X" "R1" one ∷ entry "X" "R2" one ∷ entry "X" "R3" one ∷ []),
      codes "Minimize\n C:\nSubject To\n G1:\n  10 <=\n  + 1 X\n  <= 12\n L1:\n  8 <=\n  + 1 X\n  <= 10\n R1:\n  10 <=\n  + 1 X\n"
          ++ codes "  <= 13\n R2:\n  7 <=\n  + 1 X\n  <= 10\n R3:\n  + 1 X\n  = 10\nEnd\n",
    ) ∷
    -- coefficients of either sign
    (
      listing Minimize "obj" zero_number (row "c" MinusInf (finite (pos 1)) ∷ []) (usual "x" ∷ usual "x1" ∷ usual "y" ∷ [])
          (entry "x" "c" one ∷ entry "x" "obj" (number (pos 3) (pos 5)) ∷ entry "x1" "obj" (units (pos 3))
          ∷ entry "y" "obj" (units (negsuc 1)) ∷ []),
      codes "Minimize\n obj:\n  + 300000 x\n  + 3 x1\n  - 2 y\nSubject To\n c:\n  + 1 x\n  <= 1\nEnd\n",
    ) ∷
    -- integer columns, one of them fixed
    (
      listing Minimize "obj" zero_number []
          (column "x" Integer (finite (pos 1)) (finite (pos 1)) ∷ usual "y" ∷ column "z" Integer zero_limit PlusInf ∷ [])
          (entry "x" "obj" one ∷ entry "y" "obj" one ∷ []),
      codes "Minimize\n obj:\n  + 1 x\n  + 1 y\n  + 0 z\nSubject To\nBounds\n x = 1\nGenerals\n x\n z\nEnd\n",
    ) ∷
    -- a maximized model with all sections
    (
      listing Maximize "obj" zero_number (row "c1" MinusInf (tens 2) ∷ row "c2" MinusInf (tens 3) ∷ row "c3" zero_limit zero_limit ∷ [])
          (column "x1" Continuous zero_limit (tens 4) ∷ usual "x2" ∷ usual "x3" ∷ column "x4" Integer (finite (pos 2))
          (finite (pos 3)) ∷ [])
          (entry "x1" "c1" (units (negsuc 0)) ∷ entry "x1" "c2" one ∷ entry "x1" "obj" one ∷ entry "x2" "c1" one
          ∷ entry "x2" "c2" (units (negsuc 2)) ∷ entry "x2" "c3" one ∷ entry "x2" "obj" (units (pos 2)) ∷ entry "x3" "c1" one
          ∷ entry "x3" "c2" one ∷ entry "x3" "obj" (units (pos 3)) ∷ entry "x4" "c1" (number (pos 1) (pos 1))
          ∷ entry "x4" "c3" (number (negsuc 34) (negsuc 0)) ∷ entry "x4" "obj" one ∷ []),
      codes "Maximize\n obj:\n  + 1 x1\n  + 2 x2\n  + 3 x3\n  + 1 x4\nSubject To\n c1:\n  - 1 x1\n  + 1 x2\n  + 1 x3\n  + 10 x4\n"
          ++ codes "  <= 20\n c2:\n  + 1 x1\n  - 3 x2\n  + 1 x3\n  <= 30\n c3:\n  + 1 x2\n  - 3.5 x4\n  = 0\nBounds\n 0 <= x1 <= 40\n"
          ++ codes " 2 <= x4 <= 3\nGenerals\n x4\nEnd\n",
    ) ∷
    -- a column between two bounds
    (
      listing Minimize "C" zero_number (row "R" MinusInf (finite (pos 1)) ∷ [])
          (column "X" Continuous zero_limit (finite (pos 4)) ∷ usual "Y" ∷ [])
          (entry "X" "C" one ∷ entry "X" "R" one ∷ entry "Y" "C" one ∷ []),
      codes "Minimize\n C:\n  + 1 X\n  + 1 Y\nSubject To\n R:\n  + 1 X\n  <= 1\nBounds\n 0 <= X <= 4\nEnd\n",
    ) ∷
    []

pub worked_texts-printed : Each IsRowPrinted worked_texts
unfolding digits trailing_zeros
worked_texts-printed = each-printed worked_texts refl

-- the first has 92 bytes
pub small_length : length (codes
    "Minimize\n COST:\n  + 1 X\n  + 2 Y\nSubject To\n LIM1:\n  + 1 X\n  <= 4\n MYG:\n  + 1.5 Y\n  >= 1\nEnd\n") ≡ 92
small_length = refl

-- ---- names that are not legal in LP: that of the objective is reported first, then that of a row, then that of a column

abbrev named : String → String → String → Listing
named objective second_row column_name = listing Minimize objective zero_number
    (row "a" MinusInf PlusInf ∷ row second_row MinusInf PlusInf ∷ []) (column column_name Continuous zero_limit PlusInf ∷ []) []

pub unfit_objective : unfit (model_in (named "free" "b-1" "x-1")) ≡ Some places.Objective
unfit_objective = unfit-listed (named "free" "b-1" "x-1") places.Objective refl refl

pub unfit_row : unfit (model_in (named "C" "b-1" "x-1")) ≡ Some (places.Row 1)
unfit_row = unfit-listed (named "C" "b-1" "x-1") (places.Row 1) refl refl

pub unfit_column : unfit (model_in (named "C" "b" "x-1")) ≡ Some (places.Column 0)
unfit_column = unfit-listed (named "C" "b" "x-1") (places.Column 0) refl refl

pub unfit_reserved : unfit (model_in (named "C" "b" "free")) ≡ Some (places.Column 0)
unfit_reserved = unfit-listed (named "C" "b" "free") (places.Column 0) refl refl
