-- The least kind of failing tests in the order of kinds is that of the first one.
use Rattle.std.proofs.{Common.{Bool, List, [], ap, arith, cond, false, refl, true, ℕ, ◌++◌, ◌∙◌, ◌∷◌, ◌≡◌}, lemmas.Bool.Decides.nat_tests}
use Rattle.std.specs.{Cmp.{first_so, second_so}, List.list_all, Option.option_map_or, Prelude.{None, Option, Some, nat_le, nat_lt, ◌&&◌}}
use Rattle.mpslp_types.specs.{FaultOrder.{kind_rank, least_kind}, Lists.those_of, declared.faults.FaultKind.FaultKind}
use Rattle.mpslp_lines.specs.FaultTests.{FaultTests, first_held}

-- not before the kind, in the order of kinds
abbrev pub is_from : FaultKind → FaultKind → Bool
is_from kind other = nat_le (kind_rank kind) (kind_rank other)

-- each test's kind comes before those of later tests
abbrev pub are_rising : FaultTests → Bool
are_rising [] = true
are_rising (test ∷ more) = list_all (λ later. is_from test.1 later.1) more && are_rising more

not_less : (a b : ℕ) → nat_le a b ≡ true → nat_lt b a ≡ false
not_less = grind (arith, nat_tests)

held-from : (kind : FaultKind) (tests : FaultTests) → list_all (λ later. is_from kind later.1) tests ≡ true
    → option_map_or (is_from kind) (first_held tests) true ≡ true
held-from kind [] h = refl
held-from kind (test ∷ more) h =
    elim test.0 as (λ b. option_map_or (is_from kind) (cond b (Some test.1) (first_held more)) true ≡ true) [
      | true ↦ first_so _ _ h
      | false ↦ held-from kind more (second_so (is_from kind test.1) (list_all (λ later. is_from kind later.1) more) h)
    ]

-- the lesser of a kind and an optional one, as in `least_kind`
abbrev pub lesser : FaultKind → Option FaultKind → FaultKind
lesser kind o = elim o as (λ _. FaultKind)
    [ None ↦ kind | Some other ↦ cond (nat_lt (kind_rank other) (kind_rank kind)) other kind ]

pub stays-least : (kind : FaultKind) (o : Option FaultKind) → option_map_or (is_from kind) o true ≡ true → lesser kind o ≡ kind
stays-least = grind (arith, not_less)

pub least-those_of : (tests : FaultTests) → are_rising tests ≡ true → least_kind (those_of tests) ≡ first_held tests
least-those_of [] h = refl
least-those_of (test ∷ more) h =
    let from = first_so _ _ h in
    let rest = least-those_of more (second_so (list_all (λ later. is_from test.1 later.1) more) (are_rising more) h) in
    elim test.0 as (λ b. least_kind (cond b (test.1 ∷ those_of more) (those_of more)) ≡ cond b (Some test.1) (first_held more)) [
      | true ↦ ap (λ o. Some (lesser test.1 o)) rest ∙ ap (λ kind. Some kind) (stays-least test.1 _ (held-from test.1 more from))
      | false ↦ rest
    ]

-- ---- two lists of kinds

-- the one that comes first
abbrev pub earlier_of : Option FaultKind → Option FaultKind → Option FaultKind
earlier_of None o = o
earlier_of (Some kind) o = Some (lesser kind o)

three : (a b c : ℕ) → nat_lt b a ≡ true → nat_lt c b ≡ true → nat_lt c a ≡ true
three = grind (arith, nat_tests)

three_not : (a b c : ℕ) → nat_lt b a ≡ false → nat_lt c b ≡ false → nat_lt c a ≡ false
three_not = grind (arith, nat_tests)

lesser-both : (kind : FaultKind) (o p : Option FaultKind) → lesser kind (earlier_of o p) ≡ lesser (lesser kind o) p
lesser-both kind (Some a) (Some b) = grind (arith, three, three_not)
lesser-both kind _ _ = refl

pub least-append : (xs ys : List FaultKind) → least_kind (xs ++ ys) ≡ earlier_of (least_kind xs) (least_kind ys)
least-append [] ys = refl
least-append (x ∷ xs) ys = ap (λ o. Some (lesser x o)) (least-append xs ys)
    ∙ ap (λ kind. Some kind) (lesser-both x (least_kind xs) _)

-- ---- no kind at all

pub least-none : (kinds : List FaultKind) → least_kind kinds ≡ None → kinds ≡ []
least-none [] h = refl
least-none (kind ∷ kinds) h = cc
