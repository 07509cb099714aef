-- The first error of a line is that of its form, or else the least of what it declares.
-- Errors of declarations have kinds from UnknownRow on, except for a column that would be both integer and semi-continuous,
-- which comes before both.
use Rattle.std.proofs.Common.{Bool, List, [], ap, arith, cond, false, map, refl, true, ℕ, ◌++◌, ◌∙◌, ◌∷◌, ◌≡◌}
use Rattle.std.{proofs.lemmas.Bool.Decides.nat_tests, specs.{List.{list_all, list_any}, Option.option_map_or, Prelude.{None, Option, Some}}}
use Rattle.std.specs.Prelude.{nat_le, nat_lt, ◌||◌}
use Rattle.mpslp_types.specs.{FaultOrder.{kind_rank, least_kind}, Lists.those_of, declared.faults.BuildFault.BuildFault}
use Rattle.mpslp_types.specs.declared.faults.FaultKind.{FaultKind}
use Rattle.mpslp_builder.{proofs.RefusalLemmas.{left_none, right_none}, specs.{Declaration.{Declarations, Draft}, Refusal.refusals_in_turn}}
use Rattle.mpslp_lines.proofs.{ClashLemmas.has_kind_clash, DeclaringLemmas.unrefused, HeldLemmas.held-among, LeastLemmas.are_rising}
use Rattle.mpslp_lines.proofs.LeastLemmas.{earlier_of, is_from, least-append, least-none, least-those_of, lesser, stays-least}
use Rattle.mpslp_lines.specs.{Declaring.{declared_fault, declaring_faults, first_fault, is_kind_clash}, FaultTests.{FaultTests, first_held}}
use Rattle.mpslp_lines.specs.FaultTests.{has_legal_length, is_legal_byte, kind_of_build_fault, legal_tests}
use Rattle.mpslp_types.specs.declared.faults.FaultKind.TheVariants as kinds

-- ---- what is declared

late_kinds : (refusals : List BuildFault) → list_any is_kind_clash refusals ≡ false
    → list_all (is_from kinds.UnknownRow) (map kind_of_build_fault refusals) ≡ true
late_kinds [] h = refl
late_kinds (fault ∷ faults) h = grind (arith, late_kinds faults)

clash_or_later_all : (refusals : List BuildFault) →
    list_all (is_from kinds.SemiContinuous) (map kind_of_build_fault refusals) ≡ true
clash_or_later_all [] = refl
clash_or_later_all (fault ∷ faults) = grind (arith, clash_or_later_all faults)

-- a property of all is a property of the least
least_is : (p : FaultKind → Bool) (faults : List FaultKind) → list_all p faults ≡ true →
    option_map_or p (least_kind faults) true ≡ true
least_is p [] h = refl
least_is p (kind ∷ faults) h = grind (arith, least_is p faults)

three : (a b c : ℕ) → nat_le a b ≡ true → nat_le b c ≡ true → nat_le a c ≡ true
three = grind (arith, nat_tests)

-- ---- both together

-- an error of the form whose kind comes before all kinds of what is declared
form_before : (tests : FaultTests) (kind from : FaultKind) (earlier : Draft) (ds : Declarations) → are_rising tests ≡ true
    → first_held tests ≡ Some kind → is_from kind from ≡ true
    → list_all (is_from from) (declaring_faults earlier ds) ≡ true → first_fault tests earlier ds ≡ Some kind
form_before tests kind from earlier ds rising held early late =
    let faults = declaring_faults earlier ds in
    least-append _ faults
    ∙ ap (λ o. earlier_of o (least_kind faults)) (least-those_of tests rising ∙ held)
    ∙ ap (λ k. Some k) (stays-least kind _ (grind (arith, three, early, least_is (is_from from) faults late)))

-- an error of the form whose kind comes before all of what is declared, if no column types clash
pub form-first : (tests : FaultTests) (kind : FaultKind) (earlier : Draft) (ds : Declarations) → are_rising tests ≡ true
    → first_held tests ≡ Some kind → is_from kind kinds.UnknownRow ≡ true
    → has_kind_clash earlier ds ≡ false → first_fault tests earlier ds ≡ Some kind
form-first tests kind earlier ds rising held early none =
    form_before tests kind kinds.UnknownRow earlier ds rising held early (late_kinds (refusals_in_turn earlier ds) none)

-- the same for a kind that also comes before a clash
form-earliest : (tests : FaultTests) (kind : FaultKind) (earlier : Draft) (ds : Declarations) → are_rising tests ≡ true
    → first_held tests ≡ Some kind → is_from kind kinds.SemiContinuous ≡ true
    → first_fault tests earlier ds ≡ Some kind
form-earliest tests kind earlier ds rising held early =
    form_before tests kind kinds.SemiContinuous earlier ds rising held early (clash_or_later_all (refusals_in_turn earlier ds))

-- the least error is a clash of column types, if there is one
clash-least : (refusals : List BuildFault) → list_any is_kind_clash refusals ≡ true
    → least_kind (map kind_of_build_fault refusals) ≡ Some kinds.SemiContinuous
clash-least [] h = cc
clash-least (fault ∷ faults) h = by fault (clash-least faults) h
  where
    rest : Option FaultKind
    rest = least_kind (map kind_of_build_fault faults)

    by : (f : BuildFault) → (list_any is_kind_clash faults ≡ true → rest ≡ Some kinds.SemiContinuous)
        → (is_kind_clash f || list_any is_kind_clash faults) ≡ true
        → Some (lesser (kind_of_build_fault f) rest) ≡ Some kinds.SemiContinuous
    by = grind (arith, stays-least, least_is, clash_or_later_all, lesser)

-- the kind comes after a clash of column types
abbrev pub is_after_clash : FaultKind → Bool
is_after_clash kind = nat_lt (kind_rank kinds.SemiContinuous) (kind_rank kind)

-- a clash of column types is reported before the later tests of the form of a line
pub clash-first : (tests : FaultTests) (earlier : Draft) (ds : Declarations) → are_rising tests ≡ true
    → list_all (λ test. is_after_clash test.1) tests ≡ true → has_kind_clash earlier ds ≡ true
    → first_fault tests earlier ds ≡ Some kinds.SemiContinuous
clash-first tests earlier ds rising following clash =
    least-append _ _ ∙ (λ i. earlier_of (least-those_of tests rising i) (clash-least (refusals_in_turn earlier ds) clash i))
    ∙ from _ refl
  where
    from : (o : Option FaultKind) → first_held tests ≡ o → earlier_of o (Some kinds.SemiContinuous) ≡ Some kinds.SemiContinuous
    from None held = refl
    from (Some kind) held = ap (λ b. Some (cond b kinds.SemiContinuous kind)) (held-among _ tests kind following held)

-- no error of the form
pub declared-first : (tests : FaultTests) (earlier : Draft) (ds : Declarations) → are_rising tests ≡ true →
    first_held tests ≡ None → first_fault tests earlier ds ≡ declared_fault earlier ds
declared-first = grind (arith, least-append, earlier_of, least-those_of)

-- ---- no error

pub record IsFaultless (tests : FaultTests) (earlier : Draft) (ds : Declarations) : Type 0 where
  pub form : those_of tests ≡ []
  pub unrefused : refusals_in_turn earlier ds ≡ []

-- A line has no error if its form has none and none of its declarations is rejected.
pub faultless : (tests : FaultTests) (earlier : Draft) (ds : Declarations) → first_fault tests earlier ds ≡ None
    → IsFaultless tests earlier ds
faultless = grind (arith, least-none, left_none, unrefused, right_none)

pub no_fault : (tests : FaultTests) (earlier : Draft) (ds : Declarations) → those_of tests ≡ [] → refusals_in_turn earlier ds ≡ []
    → first_fault tests earlier ds ≡ None
no_fault = grind arith

-- ---- length and bytes, which come first

pub too-long : (line outside : List ℕ) (tests : FaultTests) (earlier : Draft) (ds : Declarations)
    → are_rising (legal_tests line outside ++ tests) ≡ true → has_legal_length line ≡ false
    → first_fault (legal_tests line outside ++ tests) earlier ds ≡ Some kinds.LineTooLong
too-long line outside tests earlier ds rising long =
    form-earliest (legal_tests line outside ++ tests) _ earlier ds rising (rw long refl) refl

pub bad-byte : (line outside : List ℕ) (tests : FaultTests) (earlier : Draft) (ds : Declarations)
    → are_rising (legal_tests line outside ++ tests) ≡ true → has_legal_length line ≡ true
    → list_all is_legal_byte outside ≡ false → first_fault (legal_tests line outside ++ tests) earlier ds ≡ Some kinds.BadByte
bad-byte line outside tests earlier ds rising length bad =
    form-earliest (legal_tests line outside ++ tests) _ earlier ds rising (rw (length, bad) refl) refl

pub legal-only : (line outside : List ℕ) (tests : FaultTests) → has_legal_length line ≡ true →
    list_all is_legal_byte outside ≡ true → those_of (legal_tests line outside ++ tests) ≡ those_of tests
legal-only line outside tests length bytes = rw (length, bytes) refl

pub legal-first : (line outside : List ℕ) (tests : FaultTests) (earlier : Draft) (ds : Declarations) →
    has_legal_length line ≡ true → list_all is_legal_byte outside ≡ true
    → first_fault (legal_tests line outside ++ tests) earlier ds ≡ first_fault tests earlier ds
legal-first = grind arith
