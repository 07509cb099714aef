-- Worked files: their tokens are those of the phrases that are written out, which declare what is listed, by computation.
use Rattle.mpslp_lp_sentences.proofs.Prelude
use Prelude.{ap, Bool, Terminal, String, ◌≡◌, refl, sym, ◌∙◌, map, false≢true, ℕ, ℤ, pos, negsuc, true, false, None, Some, List, ◌∷◌, []}
use Prelude.{◌++◌, codes, is_none, list_all, flat_map, lines, Sense, Minimize, Maximize, Limit, MinusInf, Finite, PlusInf, BuildFault}
use Prelude.{by_limits, empty_draft, declare_sense, declare_objective, declare_constant, declare_row, declare_column, declare_coefficient}
use Prelude.{declare_lower, declare_upper, declare_integer, declare_binary, declare_semi, Declaration, Declarations, refusals_in_turn, Plus}
use Prelude.{Minus, AtMost, AtLeast, EqualTo, terminals, seen, lexical_fault, is_lp_text, declarations_of, Side, Term, Item, Row}
use Prelude.{RowSection, File, side, term, a_term, a_constant, objective, row, row_between, no_rows, rows, bound, free_bound}
use Prelude.{bounds_between, bounds, generals, binaries, semis, file, file_tokens, is_file, file_declares, Option}
use Rattle.std.{proofs.Common.take, specs.Fmt.digits}
use Rattle.mpslp_decimal.{proofs.CutLemmas.Each, specs.Decimal.{Number, trailing_zeros}}
use Rattle.mpslp_types.specs.declared.faults.BuildFault.TheVariants.{DuplicateRhs, DuplicateEntry, SemiContinuous}
use Rattle.mpslp_lp_sentences.{specs.{Phrases.Objective, Sentence.IsSentence}, proofs.SentenceFound.sentences-read}
use Rattle.mpslp_lp_tokens.specs.declared.words.SectionWord.TheVariants as words

-- a text, how many of its lines are read, the phrases of these, and what they declare
abbrev Worked : Type 0
Worked = List ℕ × ℕ × File × Declarations

abbrev Tests : Type 0
Tests = Bool × Bool × List Terminal × Declarations × List BuildFault × Declarations

-- the first lines of the text are the file, which declares these, and the reader's definition says the same
abbrev tests : Worked → Tests
tests it = let seen = take it.1 (lines it.0) in (
  is_file it.2,
  list_all (λ line. is_none (lexical_fault line)) seen,
  flat_map terminals seen,
  file_declares it.2,
  refusals_in_turn empty_draft it.3,
  declarations_of it.0,
)

abbrev passing : Worked → Tests
passing it = (true, true, file_tokens it.2, it.3, [], it.3)

abbrev IsWorked : Worked → Type 0
IsWorked it = IsSentence it.0 it.3

each_sentence : (its : List Worked) → map tests its ≡ map passing its → Each IsWorked its
each_sentence [] e = tt
each_sentence (it ∷ its) e = let h : tests it ≡ passing it = cc in (
  record {
    whole = it.2;
    right = ap (λ t. t.0) h;
    count = it.1;
    sound = ap (λ t. t.1) h;
    tokens = ap (λ t. t.2) h;
    declares = ap (λ t. t.3) h;
    unrefused = ap (λ t. t.4) h;
  },
  each_sentence its cc,
)

-- ---- values

abbrev number : ℤ → ℤ → Number
number m e = record { mantissa = m; exponent = e }

abbrev units : ℕ → Number
units n = number (pos n) (pos 0)

abbrev finite : ℕ → Limit
finite n = Finite (units n)

-- the sides `n` and `inf`
abbrev value : ℕ → Side
value n = side None (Some (units n))

-- the items and terms `x` and `+ x`
abbrev first : String → Term
first name = term [] None (codes name)

abbrev plus : String → Term
plus name = term (Plus ∷ []) None (codes name)

-- an objective that is minimized
abbrev min : Option (List ℕ) → List Item → Objective
min = objective Minimize

-- the rows after `st`
abbrev st : List Row → RowSection
st = rows (seen.Opens words.Rows ∷ [])

-- ---- declarations

abbrev declared : Sense → String → Declarations → Declarations
declared sense name more = declare_sense sense ∷ declare_objective (codes name) ∷ more

-- `term` of a row or the objective
abbrev put : String → String → Number → Declarations
put owner name coefficient = declare_column (codes name) ∷ declare_coefficient
    (record { row = codes owner; column = codes name }) coefficient ∷ []

abbrev limited : String → Limit → Limit → Declaration
limited name lower upper = declare_row (codes name) (by_limits lower upper)

abbrev bounded : String → Limit → Limit → Declarations
bounded name lower upper = declare_column (codes name) ∷ declare_lower (codes name) lower ∷ declare_upper (codes name) upper ∷ []

-- ---- a small file

abbrev small : List ℕ
small = codes "\\ the same model\nMIN\nCOST: 2Y + X\ns.t.\nMYG: 1.5 Y => 1\nLIM1: X\n <= 4\nEND\n"

abbrev small_file : File
small_file = file (min (Some (codes "COST")) (a_term (term [] (Some (units 2)) (codes "Y")) ∷ a_term (plus "X") ∷ []))
    (st (row (Some (codes "MYG")) (term [] (Some (number (pos 15) (negsuc 0))) (codes "Y") ∷ []) AtLeast
    (value 1) ∷ row (Some (codes "LIM1")) (first "X" ∷ []) AtMost (value 4) ∷ [])) []

abbrev small_declared : Declarations
small_declared = declared Minimize "COST" (put "COST" "Y" (units 2) ++ (put "COST" "X" (units 1) ++ limited "MYG"
    (finite 1) PlusInf ∷ (put "MYG" "Y" (number (pos 15) (negsuc 0)) ++ limited "LIM1" MinusInf (finite 4) ∷ put "LIM1" "X" (units 1))))

-- ---- the texts

abbrev worked_sentences : List Worked
worked_sentences =
    (small, 8, small_file, small_declared) ∷
    -- the lines after `end` are ignored
    (small ++ codes "[ x ^ 2 ]\nend\n", 8, small_file, small_declared) ∷
    -- rows without labels are numbered among all rows
    (
      codes "min x\nst\nx >= 1\nc2: x <= 5\nx <= 4\nend\n",
      6,
      file (min None (a_term (first "x") ∷ []))
          (st (row None (first "x" ∷ []) AtLeast (value 1) ∷ row (Some (codes "c2")) (first "x" ∷ []) AtMost (value 5)
          ∷ row None (first "x" ∷ []) AtMost (value 4) ∷ [])) [],
      declared Minimize "obj" (put "obj" "x" (units 1) ++ limited "c1" (finite 1) PlusInf ∷ (put "c1" "x" (units 1)
          ++ limited "c2" MinusInf (finite 5) ∷ (put "c2" "x" (units 1) ++ limited "c3" MinusInf (finite 4) ∷ put "c3" "x" (units 1)))),
    ) ∷
    -- a constant before the terms, and no rows
    (
      codes "min C: - 5 + X\nend\n",
      2,
      file (min (Some (codes "C")) (a_constant (Minus ∷ []) (units 5) ∷ a_term (plus "X") ∷ [])) no_rows [],
      declared Minimize "C" (declare_constant (number (negsuc 4) (pos 0)) ∷ put "C" "X" (units 1)),
    ) ∷
    -- a run of signs, numbers that touch names, and all on one line
    (
      codes "min 3e5x + 3x1 + - 2 y st c: x <= 1 end\n",
      1,
      file (min None (a_term (term [] (Some (number (pos 3) (pos 5))) (codes "x"))
          ∷ a_term (term (Plus ∷ []) (Some (units 3)) (codes "x1")) ∷ a_term (term (Plus ∷ Minus ∷ []) (Some (units 2)) (codes "y")) ∷ []))
          (st (row (Some (codes "c")) (first "x" ∷ []) AtMost (value 1) ∷ [])) [],
      declared Minimize "obj" (put "obj" "x" (number (pos 3) (pos 5)) ++ (put "obj" "x1" (units 3)
          ++ (put "obj" "y" (number (negsuc 1) (pos 0)) ++ limited "c" MinusInf (finite 1) ∷ put "c" "x" (units 1)))),
    ) ∷
    -- a ranged row with one infinite limit, and a free column
    (
      codes "min\nst\n1 <= x + y <= 1e20\nbounds x free\nend\n",
      5,
      file (min None []) (st (row_between None (value 1) (first "x" ∷ plus "y" ∷ []) (side None (Some (number (pos 1) (pos 20)))) ∷ []))
          (bounds (free_bound (codes "x") ∷ []) ∷ []),
      declared Minimize "obj" (limited "c1" (finite 1) PlusInf ∷ (put "c1" "x" (units 1) ++ (put "c1" "y" (units 1)
          ++ bounded "x" MinusInf PlusInf))),
    ) ∷
    -- bounds by words
    (
      codes "min C: X bounds -inf <= X <= infinity end\n",
      1,
      file (min (Some (codes "C")) (a_term (first "X") ∷ [])) no_rows
          (bounds (bounds_between (side (Some Minus) None) (codes "X") (side None None) ∷ []) ∷ []),
      declared Minimize "C" (put "C" "X" (units 1) ++ bounded "X" MinusInf PlusInf),
    ) ∷
    -- three sections, in this order
    (
      codes "min x + y\nbounds\nx = 1\nbinaries\nx\ngenerals\nz\nend\n",
      8,
      file (min None (a_term (first "x") ∷ a_term (plus "y") ∷ [])) no_rows
          (bounds (bound (codes "x") EqualTo (value 1) ∷ []) ∷ binaries (codes "x" ∷ []) ∷ generals (codes "z" ∷ []) ∷ []),
      declared Minimize "obj" (put "obj" "x" (units 1) ++ (put "obj" "y" (units 1) ++ (bounded "x" (finite 1) (finite 1)
          ++ declare_column (codes "x") ∷ declare_binary (codes "x") ∷ declare_column (codes "z") ∷ declare_integer (codes "z") ∷ []))),
    ) ∷
    -- semi-continuous columns: a heading of three tokens, and one of a word with a column that is named like the third
    (
      codes "max 3 + x\nbounds\n1 <= x <= 4\nsemi-\ncontinuous\nx\nend\n",
      7,
      file (objective Maximize None (a_constant [] (units 3) ∷ a_term (plus "x") ∷ [])) no_rows
          (bounds (bounds_between (value 1) (codes "x") (value 4) ∷ [])
          ∷ semis (seen.Opens words.Semi ∷ seen.Sign Minus ∷ seen.Name (codes "continuous") ∷ []) (codes "x" ∷ []) ∷ []),
      declared Maximize "obj" (declare_constant (units 3) ∷ (put "obj" "x" (units 1)
          ++ (bounded "x" (finite 1) (finite 4) ++ declare_column (codes "x") ∷ declare_semi (codes "x") ∷ []))),
    ) ∷ (
      codes "min x\nsemi continuous\nend\n",
      3,
      file (min None (a_term (first "x") ∷ [])) no_rows (semis (seen.Opens words.Semi ∷ []) (codes "continuous" ∷ []) ∷ []),
      declared Minimize "obj" (put "obj" "x" (units 1) ++ declare_column (codes "continuous") ∷ declare_semi (codes "continuous") ∷ []),
    ) ∷
    -- what follows a right-hand side is the next row
    (
      codes "min\nst\nx >= 2 + y <= 5\nend\n",
      4,
      file (min None [])
          (st (row None (first "x" ∷ []) AtLeast (value 2) ∷ row None (plus "y" ∷ []) AtMost (value 5) ∷ [])) [],
      declared Minimize "obj" (limited "c1" (finite 2) PlusInf ∷ (put "c1" "x" (units 1)
          ++ limited "c2" MinusInf (finite 5) ∷ put "c2" "y" (units 1))),
    ) ∷
    []

pub worked_sentences-right : Each IsWorked worked_sentences
unfolding digits trailing_zeros
worked_sentences-right = each_sentence worked_sentences refl

-- ---- files whose declarations are rejected

abbrev rejected_files : List (File × BuildFault)
rejected_files =
    -- two constants, a column twice in a row, and a column of two kinds
    (file (min None (a_constant [] (units 3) ∷ a_constant (Plus ∷ []) (units 4) ∷ [])) (st []) [], DuplicateRhs)
    ∷ (file (min None []) (st (row None (first "x" ∷ plus "x" ∷ []) AtMost (value 1) ∷ [])) [], DuplicateEntry)
    ∷ (file (min None []) no_rows (generals (codes "x" ∷ []) ∷ semis (seen.Opens words.Semi ∷ []) (codes "x" ∷ []) ∷ []), SemiContinuous)
    ∷ []

pub rejected : map (λ row. refusals_in_turn empty_draft (file_declares row.0)) rejected_files ≡ map (λ row. row.1 ∷ [])
    rejected_files
unfolding digits trailing_zeros
rejected = refl

-- ---- phrases that are not right

abbrev wrong_files : List File
wrong_files =
    -- a constant without its sign, a row without terms, a section twice, and `subject that`
    file (min None (a_constant [] (units 3) ∷ a_constant [] (units 4) ∷ [])) no_rows []
    ∷ file (min None []) (st (row None [] AtMost (value 1) ∷ [])) []
    ∷ file (min None []) no_rows (bounds [] ∷ generals [] ∷ bounds [] ∷ [])
    ∷ file (min None []) (rows (seen.Opens words.Subject ∷ seen.Name (codes "that") ∷ []) []) []
    ∷ []

pub wrong : map is_file wrong_files ≡ map (λ _. false) wrong_files
wrong = refl

-- ---- bytes that are no sentence

no_sentence : (bytes : List ℕ) (declared : Declarations) → is_lp_text bytes ≡ false → IsSentence bytes declared → ⊥
no_sentence bytes declared no_text sentence = absurd (false≢true (sym no_text ∙ (sentences-read bytes declared sentence).0))

pub equality_on_the_left : (declared : Declarations) → IsSentence (codes "min x\nst\n1 = x <= 3\nend\n") declared → ⊥
unfolding digits trailing_zeros
equality_on_the_left declared = no_sentence _ declared refl

pub mixed_senses : (declared : Declarations) → IsSentence (codes "min x\nst\n1 <= x >= 0\nend\n") declared → ⊥
unfolding digits trailing_zeros
mixed_senses declared = no_sentence _ declared refl

pub end_twice : (declared : Declarations) → IsSentence (codes "min x\nst\nx <= 1\nend end\n") declared → ⊥
unfolding digits trailing_zeros
end_twice declared = no_sentence _ declared refl

pub no_end : (declared : Declarations) → IsSentence (codes "min x\nst\nx <= 1\n") declared → ⊥
unfolding digits trailing_zeros
no_end declared = no_sentence _ declared refl
