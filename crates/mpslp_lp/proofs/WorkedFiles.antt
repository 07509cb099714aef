-- Worked files: each declares the model that is written out, by computation.
use Rattle.mpslp_lp.proofs.Prelude
use Prelude.{◌≡◌, refl, ℤ, Option, None, codes, list_all, flat_map, zero_number, CoefficientKey, Row, Column, LinearModel, Draft}
use Prelude.{empty_draft, draft_of, refusals_in_turn, is_legal, model_of, file_fault, Sense, Limit, MinusInf, Finite, PlusInf}
use Prelude.{means-from_none, is_lp_text, declarations_of, DeclaresLp, BuildFault, map, Bool}
use Rattle.std.specs.{Fmt.{digits}, Prelude.{ℕ, pos, negsuc, List, ◌∷◌, [], ◌++◌, true}}
use Rattle.mpslp_decimal.specs.Decimal.{trailing_zeros, Number}
use Rattle.mpslp_types.specs.declared.kinds.{Kind.{Kind, TheVariants.{Continuous, Integer, Semi}}, Sense.TheVariants.{Minimize, Maximize}}
use Rattle.mpslp_types.specs.declared.faults.Fault.{Fault}
use Rattle.mpslp_builder.specs.Consistency.{has_objective}
use Prim.Native.String.{String}
use Rattle.std.specs.FinMap as maps

-- lines, each followed by a line feed
abbrev pub text : List (List ℕ) → List ℕ
text lines = flat_map (λ line. line ++ 10 ∷ []) lines

abbrev pub draft_in : List ℕ → Draft
draft_in bytes = draft_of (declarations_of bytes)

-- the tests that make a file declare the model of its draft, and the model
pub record Passes (bytes : List ℕ) (m : LinearModel) : Type 0 where
  pub is_text : is_lp_text bytes ≡ true
  pub objective : has_objective (declarations_of bytes) ≡ true
  pub legal : list_all is_legal (declarations_of bytes) ≡ true
  pub unrefused : refusals_in_turn empty_draft (declarations_of bytes) ≡ []
  pub no_fault : file_fault (draft_in bytes) ≡ None
  pub model : model_of (draft_in bytes) ≡ m

pub declares-from_passes : (bytes : List ℕ) (m : LinearModel) → Passes bytes m → DeclaresLp bytes (model_of (draft_in bytes))
declares-from_passes bytes m h =
    record { text = h.is_text; means = means-from_none (declarations_of bytes) h.objective h.legal h.unrefused h.no_fault }

-- ---- models by their entries, in byte order

abbrev number : ℤ → ℤ → Number
number m e = record { mantissa = m; exponent = e }

abbrev units : ℤ → Number
units m = number m (pos 0)

abbrev one : Number
one = units (pos 1)

abbrev finite : ℤ → Limit
finite m = Finite (units m)

abbrev row : String → Limit → Limit → List ℕ × Row
row name lower upper = (codes name, record { lower = lower; upper = upper })

abbrev column : String → Kind → Limit → Limit → List ℕ × Column
column name kind lower upper = (codes name, record { kind = kind; lower = lower; upper = upper })

-- a column of the usual kind and bounds
abbrev usual : String → List ℕ × Column
usual name = column name Continuous (finite (pos 0)) PlusInf

abbrev entry : String → String → Number → CoefficientKey × Number
entry column row value = (record { row = codes row; column = codes column }, value)

abbrev model : Sense → String → List (List ℕ × Row) → List (List ℕ × Column) → List (CoefficientKey × Number) → LinearModel
model sense objective rows columns coefficients = record {
  sense = sense;
  objective = codes objective;
  constant = zero_number;
  rows = maps.from_sorted rows;
  columns = maps.from_sorted columns;
  coefficients = maps.from_sorted coefficients;
}

-- ---- texts with one line that varies

abbrev pub four_lines : List ℕ → List ℕ
four_lines line = text (codes "min" ∷ codes "st" ∷ line ∷ codes "end" ∷ [])

abbrev pub unlabelled_lines : List (List ℕ)
unlabelled_lines = codes "min x" ∷ codes "st" ∷ codes "x >= 1" ∷ codes "c2: x <= 5" ∷ codes "x <= 4" ∷ []

abbrev pub binary_lines : List ℕ → List ℕ
binary_lines bound = codes "min x + y\nbounds\n" ++ bound ++ codes "\nbinaries\nx\ngenerals\nz\nend\n"

abbrev pub semi_lines : List ℕ → List ℕ
semi_lines bound = codes "min x + y\nbounds\n" ++ bound ++ codes "\nSEMI-\ncontinuous\nx\ngen\ny\nend\n"

-- ---- the files

abbrev worked_files : List (List ℕ × LinearModel)
worked_files =
    -- a small file, with a comment, lines broken between tokens, and words in upper case
    (
      codes "\\ the same model\nMIN\nCOST: 2Y + X\ns.t.\nMYG: 1.5 Y => 1\nLIM1: X\n <= 4\nEND\n",
      model Minimize "COST"
          (row "LIM1" MinusInf (finite (pos 4)) ∷ row "MYG" (finite (pos 1)) PlusInf ∷ []) (usual "X" ∷ usual "Y" ∷ [])
          (entry "X" "COST" one ∷ entry "X" "LIM1" one ∷ entry "Y" "COST" (units (pos 2)) ∷ entry "Y" "MYG"
          (number (pos 15) (negsuc 0)) ∷ []),
    ) ∷
    -- a ranged row with one infinite limit
    (
      four_lines (codes "1 <= x + y <= 1e20"),
      model Minimize "obj" (row "c1" (finite (pos 1)) PlusInf ∷ []) (usual "x" ∷ usual "y" ∷ [])
          (entry "x" "c1" one ∷ entry "y" "c1" one ∷ []),
    ) ∷
    -- numbers that touch names, and runs of signs
    (
      codes "min 3e5x + 3x1 + - 2 y st c: x <= 1 end\n",
      model Minimize "obj"
          (row "c" MinusInf (finite (pos 1)) ∷ []) (usual "x" ∷ usual "x1" ∷ usual "y" ∷ [])
          (entry "x" "c" one ∷ entry "x" "obj" (number (pos 3) (pos 5)) ∷ entry "x1" "obj" (units (pos 3)) ∷ entry "y"
          "obj" (units (negsuc 1)) ∷ []),
    ) ∷
    -- a name that begins like an exponent
    (codes "min efficiency end\n", model Minimize "obj" [] (usual "efficiency" ∷ []) (entry "efficiency" "obj" one ∷ [])) ∷
    -- rows without labels are numbered among all rows
    (
      text (unlabelled_lines ++ codes "end" ∷ []),
      model Minimize "obj"
          (row "c1" (finite (pos 1)) PlusInf ∷ row "c2" MinusInf (finite (pos 5)) ∷ row "c3" MinusInf
          (finite (pos 4)) ∷ []) (usual "x" ∷ [])
          (entry "x" "c1" one ∷ entry "x" "c2" one ∷ entry "x" "c3" one ∷ entry "x" "obj" one ∷ []),
    ) ∷
    -- a binary column that is fixed, and an integer column that is used nowhere else
    (
      binary_lines (codes "x = 1"),
      model Minimize "obj" []
          (column "x" Integer (finite (pos 1)) (finite (pos 1)) ∷ usual "y" ∷ column "z" Integer (finite (pos 0)) PlusInf ∷ [])
          (entry "x" "obj" one ∷ entry "y" "obj" one ∷ []),
    ) ∷
    -- a maximized model with all sections but Binaries
    (
      codes "Maximize\n obj: x1 + 2 x2 + 3 x3 + x4\nSubject To\n c1: - x1 + x2 + x3 + 10 x4 <= 20\n c2: x1 - 3 x2 + x3 <= 30\n"
          ++ codes " c3: x2 - 3.5 x4 = 0\nBounds\n 0 <= x1 <= 40\n 2 <= x4 <= 3\nGenerals\n x4\nEnd\n",
      model Maximize "obj"
          (row "c1" MinusInf (Finite (number (pos 2) (pos 1))) ∷ row "c2" MinusInf (Finite (number (pos 3) (pos 1)))
          ∷ row "c3" (finite (pos 0)) (finite (pos 0)) ∷ [])
          (column "x1" Continuous (finite (pos 0)) (Finite (number (pos 4) (pos 1))) ∷ usual "x2" ∷ usual "x3"
          ∷ column "x4" Integer (finite (pos 2)) (finite (pos 3)) ∷ [])
          (entry "x1" "c1" (units (negsuc 0)) ∷ entry "x1" "c2" one ∷ entry "x1" "obj" one ∷ entry "x2" "c1" one
          ∷ entry "x2" "c2" (units (negsuc 2)) ∷ entry "x2" "c3" one ∷ entry "x2" "obj" (units (pos 2)) ∷ entry "x3" "c1" one
          ∷ entry "x3" "c2" one ∷ entry "x3" "obj" (units (pos 3)) ∷ entry "x4" "c1" (number (pos 1) (pos 1))
          ∷ entry "x4" "c3" (number (negsuc 34) (negsuc 0)) ∷ entry "x4" "obj" one ∷ []),
    ) ∷
    -- semi-continuous columns, whose section is before another one
    (
      semi_lines (codes "1 <= x <= 4"),
      model Minimize "obj" []
          (column "x" Semi (finite (pos 1)) (finite (pos 4)) ∷ column "y" Integer (finite (pos 0)) PlusInf ∷ [])
          (entry "x" "obj" one ∷ entry "y" "obj" one ∷ []),
    ) ∷
    -- without the dash, the word opens the section, and the name after it is that of a column
    (
      codes "min x semi continuous bounds continuous <= 2 end\n",
      model Minimize "obj" []
          (column "continuous" Semi (finite (pos 0)) (finite (pos 2)) ∷ usual "x" ∷ []) (entry "x" "obj" one ∷ []),
    ) ∷
    []

-- what `Passes` compares
abbrev Tests : Type 0
Tests = Bool × Bool × Bool × List BuildFault × Option Fault × LinearModel

abbrev tests : List ℕ × LinearModel → Tests
tests row = let declared = declarations_of row.0 in (
  is_lp_text row.0,
  has_objective declared,
  list_all is_legal declared,
  refusals_in_turn empty_draft declared,
  file_fault (draft_of declared),
  model_of (draft_of declared),
)

abbrev passing : List ℕ × LinearModel → Tests
passing row = (true, true, true, [], None, row.1)

pub worked_files-pass : map tests worked_files ≡ map passing worked_files
unfolding digits trailing_zeros
worked_files-pass = refl
