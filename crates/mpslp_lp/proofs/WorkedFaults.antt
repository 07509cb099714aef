-- The tokens of worked lines, and the first errors of worked files, by computation.
use Rattle.mpslp_lp.proofs.Prelude
use Prelude.{◌≡◌, refl, Option, Some, None, codes, whole_fault, FaultKind, BadToken, BinaryBounds, BoundsCrossed, ConstantInRow}
use Prelude.{DuplicateBound, DuplicateEntry, DuplicateRhs, DuplicateRow, Indicator, InfiniteValue, LimitsCrossed, LimitTooLarge, MissingEnd}
use Prelude.{MixedSenses, NameLikeExponent, NegativeUpper, Quadratic, RangeInexact, SectionOrder, SectionRepeated, SemiBounds}
use Prelude.{SemiContinuous, Sos, Token, tokens, fault_on_line, first_lp_fault, TokenKind}
use Rattle.std.specs.{Fmt.digits, Prelude.{map, ℕ, List, ◌∷◌, [], ◌++◌}}
use Rattle.mpslp_decimal.specs.Decimal.{trailing_zeros}
use Rattle.mpslp_types.specs.declared.faults.Fault.{Fault}
use Rattle.mpslp_lp_tokens.specs.declared.tokens.TokenKind.TheVariants.{Word, Number, Greater}
use Rattle.mpslp_lp.proofs.WorkedFiles.{text, four_lines, unlabelled_lines, binary_lines, semi_lines}

abbrev token : TokenKind → ℕ → List ℕ → Token
token kind start bytes = record { kind = kind; start = start; text = bytes }

pub touching_tokens : tokens (codes "  3x1>=2")
    ≡ token Number 2 (codes "3") ∷ token Word 3 (codes "x1") ∷ token Greater 5 (codes ">=") ∷ token Number 7 (codes "2") ∷ []
touching_tokens = refl

abbrev on_line : ℕ → FaultKind → Option Fault
on_line n kind = Some (fault_on_line n kind)

abbrev of_whole : FaultKind → Option Fault
of_whole kind = Some (whole_fault kind None)

abbrev of_name : FaultKind → List ℕ → Option Fault
of_name kind name = Some (whole_fault kind (Some name))

abbrev with_row : List ℕ → List ℕ
with_row line = codes "min x\nst\n" ++ line ++ codes "\nend\n"

abbrev faulty_texts : List (List ℕ × Option Fault)
faulty_texts = (four_lines (codes "1e-18 <= x + y <= 1e19"), of_name RangeInexact (codes "c1"))
    ∷ (four_lines (codes "-9e19 <= x + y <= 9e19"), of_name LimitTooLarge (codes "c1"))
    ∷ (with_row (codes "[ x ^ 2 ] <= 1"), on_line 3 Quadratic) ∷ (with_row (codes "c: y = 1 -> x <= 3"), on_line 3 Indicator)
    ∷ (with_row (codes "x + 3 <= 5"), on_line 3 ConstantInRow) ∷ (with_row (codes "1 <= x >= 0"), on_line 3 MixedSenses)
    ∷ (with_row (codes "x + x <= 1"), on_line 3 DuplicateEntry) ∷ (semi_lines (codes "-1 <= x <= 4"), of_name SemiBounds (codes "x"))
    ∷ (codes "min x\ngen\nx\nsemi\nx\nend\n", on_line 5 SemiContinuous) ∷ (codes "min x\nsemi\nx\nbin\nx\nend\n", on_line 5 SemiContinuous)
    ∷ (four_lines (codes "5 <= x + y <= 3"), of_name LimitsCrossed (codes "c1"))
    ∷ (four_lines (codes "x + y >= inf"), on_line 3 InfiniteValue) ∷ (codes "min e9 st end\n", on_line 1 NameLikeExponent)
    ∷ (text (unlabelled_lines ++ codes "c3: x <= 9" ∷ codes "end" ∷ []), on_line 6 DuplicateRow)
    ∷ (binary_lines (codes "x <= 5"), of_name BinaryBounds (codes "x"))
    ∷ (binary_lines (codes "x <= -1"), of_name NegativeUpper (codes "x"))
    ∷ (binary_lines (codes "x >= 2"), of_name BoundsCrossed (codes "x"))
    ∷ (with_row (codes "sos1"), on_line 3 Sos) ∷ (with_row (codes "x <= 4 <= 5"), on_line 3 BadToken)
    ∷ (with_row (codes "max"), on_line 3 SectionRepeated) ∷ ([], of_whole MissingEnd) ∷ (codes "min x bin st end\n", on_line 1 SectionOrder)
    ∷ (codes "min x gen st end\n", on_line 1 SectionOrder) ∷ (codes "min x bounds st end\n", on_line 1 SectionOrder)
    ∷ (codes "min x end bounds\n", on_line 1 SectionOrder) ∷ (codes "min x end end\n", on_line 1 SectionRepeated)
    ∷ (codes "min x end y\n", on_line 1 BadToken) ∷ (codes "st x >= 1 end\n", on_line 1 SectionOrder)
    ∷ (codes "min x + max end\n", on_line 1 SectionRepeated) ∷ (codes "min x + bounds end\n", on_line 1 BadToken)
    ∷ (codes "min x st 3 = x = 4 end\n", on_line 1 MixedSenses) ∷ (codes "min x st - - inf <= x end\n", on_line 1 BadToken)
    ∷ (codes "min x st 1 <= 3 >= x end\n", on_line 1 ConstantInRow) ∷ (codes "min 3 + 4 st end\n", on_line 1 DuplicateRhs)
    ∷ (codes "min x bounds 1 <= x >= 0 end\n", on_line 1 MixedSenses) ∷ (codes "min x bounds x >= 1 x = 2 end\n", on_line 1 DuplicateBound)
    ∷ (codes "min x\nsemis\nx\nend\n", of_name SemiBounds (codes "x")) ∷ (codes "min x semi x semis x end\n", on_line 1 SectionRepeated)
    ∷ (codes "min x semi - x end\n", on_line 1 BadToken) ∷ (codes "min x semis st end\n", on_line 1 SectionOrder) ∷ []

pub faulty_texts-right : map (λ row. first_lp_fault row.0) faulty_texts ≡ map (λ row. row.1) faulty_texts
unfolding digits trailing_zeros
faulty_texts-right = refl
