-- The tests of equality decide whether two values are equal.
use Rattle.std.proofs.Common.{◌≡◌, refl, sym, ap, ◌∙◌, List, Bool}
use Rattle.std.specs.Prelude.{◌&&◌, ℕ}
use Rattle.std.specs.Bool.{nat_eq, Decides, one_answer}
use Rattle.std.proofs.lemmas.Bool.Decides.{Decides-eqb}
use Rattle.std.specs.Ordering.{int_eq}
use Rattle.std.specs.Cmp.{signed_Decides, IsPartialEquivalence}
use Rattle.std.proofs.lemmas.Bool.Decides.{Decides-and}
use Rattle.std.specs.Cmp.Lexicographic.{pointwise, pointwise_decides, same_text, nat_list_eq_equiv}
use Rattle.mpslp_decimal.specs.Decimal.{Number}
use Rattle.mpslp_types.specs.Name.{same_bytes}
use Rattle.mpslp_model_core.specs.Model.{Row, Column}
use Rattle.mpslp_model_core.specs.Same.{same_number, same_limit, same_kind, same_row, same_column, same_cell, same_column_with, same_named_column}
use Rattle.mpslp_types.specs.declared.kinds.Kind.TheVariants.{Continuous, Integer, Semi}
use Rattle.mpslp_types.specs.declared.kinds.Limit.{Limit}
use Rattle.mpslp_types.specs.declared.kinds.Limit.TheVariants.{MinusInf, Finite, PlusInf}

-- the test decides whether two values are equal
abbrev pub IsEqualityTest : {X : Type 0} → (X → X → Bool) → Type 0
IsEqualityTest {X} test = (x y : X) → Decides (test x y) (x ≡ y)

pub decides-lists : {X : Type 0} (test : X → X → Bool) → IsEqualityTest test → IsEqualityTest (pointwise test)
decides-lists test is_equality = pointwise_decides is_equality

-- a result that equals that of the test decides it too
pub answered : {X : Type 0} (test : X → X → Bool) → IsEqualityTest test → (x y : X) (b : Bool) → b ≡ test x y → Decides b (x ≡ y)
answered test is_equality x y b e = (λ h. (is_equality x y).0 (sym e ∙ h), λ same. e ∙ (is_equality x y).1 same)

-- such a test is symmetric and transitive
pub lawful : {X : Type 0} (test : X → X → Bool) → IsEqualityTest test → IsPartialEquivalence test
lawful test is_equality = record {
  symm = λ x y. one_answer (test x y) (test y x) (is_equality x y) ((λ h. sym ((is_equality y x).0 h)), (λ same. (is_equality y x).1 (sym same)));
  trans = λ x y z h k. (is_equality x z).1 ((is_equality x y).0 h ∙ (is_equality y z).0 k);
}

-- ---- limits, rows and columns

pub decides-number : IsEqualityTest same_number
decides-number a b =
    let both = Decides-and (int_eq a.mantissa b.mantissa) (int_eq a.exponent b.exponent) (signed_Decides a.mantissa b.mantissa) (signed_Decides a.exponent b.exponent) in
    ((λ h. let e = both.0 h in λ i. record { mantissa = e.0 i; exponent = e.1 i }), (λ e. both.1 (ap (λ (n : Number). n.mantissa) e, ap (λ (n : Number). n.exponent) e)))

abbrev number_in : Limit → Number → Number
number_in (Finite a) other = a
number_in _ other = other

decides-limit : IsEqualityTest same_limit
decides-limit MinusInf MinusInf = ((λ h. refl), (λ e. refl))
decides-limit MinusInf (Finite b) = ((λ h. absurd cc), (λ e. absurd cc))
decides-limit MinusInf PlusInf = ((λ h. absurd cc), (λ e. absurd cc))
decides-limit (Finite a) MinusInf = ((λ h. absurd cc), (λ e. absurd cc))
decides-limit (Finite a) (Finite b) = ((λ h. ap (λ (n : Number). Finite n) ((decides-number a b).0 h)), (λ e. (decides-number a b).1 (ap (λ (l : Limit). number_in l a) e)))
decides-limit (Finite a) PlusInf = ((λ h. absurd cc), (λ e. absurd cc))
decides-limit PlusInf MinusInf = ((λ h. absurd cc), (λ e. absurd cc))
decides-limit PlusInf (Finite b) = ((λ h. absurd cc), (λ e. absurd cc))
decides-limit PlusInf PlusInf = ((λ h. refl), (λ e. refl))

decides-kind : IsEqualityTest same_kind
decides-kind Continuous Continuous = ((λ h. refl), (λ e. refl))
decides-kind Continuous Integer = ((λ h. absurd cc), (λ e. absurd cc))
decides-kind Continuous Semi = ((λ h. absurd cc), (λ e. absurd cc))
decides-kind Integer Continuous = ((λ h. absurd cc), (λ e. absurd cc))
decides-kind Integer Integer = ((λ h. refl), (λ e. refl))
decides-kind Integer Semi = ((λ h. absurd cc), (λ e. absurd cc))
decides-kind Semi Continuous = ((λ h. absurd cc), (λ e. absurd cc))
decides-kind Semi Integer = ((λ h. absurd cc), (λ e. absurd cc))
decides-kind Semi Semi = ((λ h. refl), (λ e. refl))

pub decides-row : IsEqualityTest same_row
decides-row a b =
    let both = Decides-and (same_limit a.lower b.lower) (same_limit a.upper b.upper) (decides-limit a.lower b.lower) (decides-limit a.upper b.upper) in
    ((λ h. let e = both.0 h in λ i. record { lower = e.0 i; upper = e.1 i }), (λ e. both.1 (ap (λ (r : Row). r.lower) e, ap (λ (r : Row). r.upper) e)))

pub decides-column : IsEqualityTest same_column
decides-column a b =
    let sides = same_limit a.lower b.lower && same_limit a.upper b.upper in
    let limits = Decides-and (same_limit a.lower b.lower) (same_limit a.upper b.upper) (decides-limit a.lower b.lower) (decides-limit a.upper b.upper) in
    let all = Decides-and (same_kind a.kind b.kind) sides (decides-kind a.kind b.kind) limits in
    ((λ h. let e = all.0 h in λ i. record { kind = e.0 i; lower = e.1.0 i; upper = e.1.1 i }), (λ e. all.1 (ap (λ (c : Column). c.kind) e, (ap (λ (c : Column). c.lower) e, ap (λ (c : Column). c.upper) e))))

-- with names
pub decides-named : {X : Type 0} (test : X → X → Bool) → IsEqualityTest test → IsEqualityTest (λ (a b : List ℕ × X). same_bytes a.0 b.0 && test a.1 b.1)
decides-named test is_equality a b =
    let names : Decides (same_bytes a.0 b.0) (a.0 ≡ b.0) = ((λ h. same_text a.0 b.0 (sym h)), (λ e. ap (same_bytes a.0) (sym e) ∙ nat_list_eq_equiv.refl a.0)) in
    let both = Decides-and (same_bytes a.0 b.0) (test a.1 b.1) names (is_equality a.1 b.1) in
    ((λ h. let e = both.0 h in λ i. (e.0 i, e.1 i)), (λ e. both.1 (ap (λ (p : List ℕ × _). p.0) e, ap (λ (p : List ℕ × _). p.1) e)))

-- ---- columns with their coefficients

decides-cell : IsEqualityTest same_cell
decides-cell a b =
    let both = Decides-and (nat_eq a.0 b.0) (same_number a.1 b.1) (Decides-eqb a.0 b.0) (decides-number a.1 b.1) in
    ((λ h. let e = both.0 h in λ i. (e.0 i, e.1 i)), (λ e. both.1 (ap (λ (p : ℕ × Number). p.0) e, ap (λ (p : ℕ × Number). p.1) e)))

decides-column-with : IsEqualityTest same_column_with
decides-column-with a b =
    let both = Decides-and (same_column a.0 b.0) (pointwise same_cell a.1 b.1) (decides-column a.0 b.0) (decides-lists same_cell decides-cell a.1 b.1) in
    ((λ h. let e = both.0 h in λ i. (e.0 i, e.1 i)), (λ e. both.1 (ap (λ (p : Column × List (ℕ × Number)). p.0) e, ap (λ (p : Column × List (ℕ × Number)). p.1) e)))

pub decides-named-column : IsEqualityTest same_named_column
decides-named-column = decides-named same_column_with decides-column-with
