-- Declarations mean their model if and only if they have no whole-file error.
use Rattle.mpslp_builder.proofs.Prelude
use Prelude.{arith, ◌≡◌, refl, ℕ, List, [], ◌∷◌, Bool, true, false, not, cond, map, ◌&&◌, Option, Some, None, filter, filter_map, list_all}
use Prelude.{cons_option, option_map, option_map_or, second_so, Number, RowDefinition, Draft, at_name, names_in, limits_of}
use Prelude.{has_infinite_rhs, is_inexact, is_too_large, is_crossed, has_crossed_bounds, has_semi_bounds, has_negative_upper}
use Prelude.{has_binary_bounds, row_passes, is_nonempty, head_of, whole_fault, rows_where, names_with, file_fault, Fault, FaultKind}
use Prelude.{InfiniteLimit, RangeInexact, LimitTooLarge, LimitsCrossed, NegativeUpper, BoundsCrossed, BinaryBounds, SemiBounds, ◌+ℤ◌}
use Prelude.{first_so, is_decimal, is_negative, size_of, decimal_of, scaled, at_scale, negated, sum_of, difference_of, Row, is_at_most}
use Prelude.{is_lower_side, is_upper_side, are_sides, has_bounded_distance, is_given, by_type, by_limits, have_infinite_side, sides}
use Prelude.{is_large_limit, Limit, MinusInf, Finite, PlusInf, Free, AtMost, AtLeast, both_so, nor, rules, ◌<◌, sym, ap, subst, ◌∙◌, length}
use Prelude.{◌||◌, ℤ, is_some, unwrap_or, texts_ties, T, is_lt, is_sorted, below_all, zero_number, is_zero, same_bytes}
use Prelude.{is_mps_name, is_one_of, bytes_cmp, LinearModel, CoefficientKey, key_cmp, is_sound_row, is_sound_column, is_sound_coefficient}
use Prelude.{is_plus_infinite, is_minus_infinite, Declarations, draft_of, has_name, has_row, has_column, plain_limits, zero_limit}
use Prelude.{one_limit, column_of, rhs_or_zero, row_limits, row_entry, model_of, objective_name, DraftMeans, Means, are_given, is_legal}
use Prelude.{AreConsistent, not_so, imp_all, and_all, map_all, is_none, is_infinite_size, IsSound, suits, is_bounded_decimal, lower_bound}
use Prelude.{upper_bound, so_not, both_false, empty_draft, has_objective, refusals_in_turn}
use Rattle.mpslp_types.specs.declared.kinds.RowType.TheVariants.{Equal}
use Rattle.mpslp_builder.proofs.{SlotLemmas.itself_named, DraftEntries.{IsGood, lower_of, upper_of, straight_of}}
use Rattle.mpslp_builder.proofs.RefusalLemmas.{IsWellFormed, well_formed-from_consistent, are_known_in_turn, consistent-from_none}
use Rattle.mpslp_builder.proofs.RefusalLemmas.{none-from_consistent}
use Rattle.std.specs.FinMap as maps

-- ---- a file has no whole-file error if and only if no row and no column passes a test of one

-- ---- the tests of the kinds

-- no row passes the test, and no column
abbrev pub passes_rows : Draft → (RowDefinition → Number → Option Number → Bool) → Bool
passes_rows all test = list_all (λ row. not (row_passes all test row)) all.rows

abbrev pub passes_columns : Draft → (Draft → List ℕ → Bool) → Bool
passes_columns all test = list_all (λ name. not (test all name)) (names_in all.columns)

-- No row and no column passes a test of an error, and there is a column.
pub record HasNoFault (all : Draft) : Type 0 where
  pub column : is_nonempty all.columns ≡ true
  pub rhs_values : passes_rows all has_infinite_rhs ≡ true
  pub exact : passes_rows all (λ definition b r. is_inexact (limits_of definition b r)) ≡ true
  pub small : passes_rows all (λ definition b r. is_too_large (limits_of definition b r)) ≡ true
  pub straight : passes_rows all (λ definition b r. is_crossed (limits_of definition b r)) ≡ true
  pub no_negative_upper : passes_columns all has_negative_upper ≡ true
  pub bounds : passes_columns all has_crossed_bounds ≡ true
  pub binary : passes_columns all has_binary_bounds ≡ true
  pub semi : passes_columns all has_semi_bounds ≡ true

none_filtered : {X : Type 0} (p : X → Bool) (xs : List X) → filter p xs ≡ [] → list_all (λ x. not (p x)) xs ≡ true
none_filtered p [] h = refl
none_filtered {X} p (x ∷ xs) h = grind (arith, none_filtered p xs)

filtered_none : {X : Type 0} (p : X → Bool) (xs : List X) → list_all (λ x. not (p x)) xs ≡ true → filter p xs ≡ []
filtered_none p [] h = refl
filtered_none {X} p (x ∷ xs) h = grind (arith, filtered_none p xs)

none_mapped : {X Y : Type 0} (f : X → Y) (xs : List X) → map f xs ≡ [] → xs ≡ []
none_mapped f [] h = refl
none_mapped f (x ∷ xs) h = cc

abbrev reported : FaultKind → List ℕ → Fault
reported kind name = whole_fault kind (Some name)

first_left : {X : Type 0} (o : Option X) (rest : List X) → head_of (cons_option o rest) ≡ None → o ≡ None
first_left = grind arith

abbrev fault_of : Draft → FaultKind → Option Fault
fault_of all kind = option_map (reported kind) (head_of (names_with all kind))

abbrev faults_from : Draft → List FaultKind → List Fault
faults_from all kinds = filter_map (fault_of all) kinds

here : (all : Draft) (kind : FaultKind) (more : List FaultKind) → head_of (faults_from all (kind ∷ more)) ≡ None →
    names_with all kind ≡ []
here = grind arith

later : (all : Draft) (kind : FaultKind) (more : List FaultKind) → head_of (faults_from all (kind ∷ more)) ≡ None
    → head_of (faults_from all more) ≡ None
later = grind arith

add : (all : Draft) (kind : FaultKind) (more : List FaultKind) → names_with all kind ≡ [] → head_of (faults_from all more) ≡ None
    → head_of (faults_from all (kind ∷ more)) ≡ None
add = grind arith

rows_pass : (all : Draft) (test : RowDefinition → Number → Option Number → Bool) → rows_where all test ≡ [] →
    passes_rows all test ≡ true
rows_pass all test h = none_filtered _ all.rows (none_mapped _ _ h)

test_of : {X : Type 0} (b : Bool) (x : X) (o : Option X) → cond b o (Some x) ≡ None → b ≡ true
test_of = grind arith

branch_of : {X : Type 0} (b : Bool) (x : X) (o : Option X) → cond b o (Some x) ≡ None → o ≡ None
branch_of = grind arith

-- No error is reported, so there is none.
pub no_fault-from_none : (all : Draft) → file_fault all ≡ None → HasNoFault all
no_fault-from_none all h =
    let there = is_nonempty _ in
    let none = whole_fault _ _ in
    let k8 = SemiBounds ∷ [] in
    let k7 = BinaryBounds ∷ k8 in
    let k6 = BoundsCrossed ∷ k7 in
    let k5 = NegativeUpper ∷ k6 in
    let k4 = LimitsCrossed ∷ k5 in
    let k3 = LimitTooLarge ∷ k4 in
    let k2 = RangeInexact ∷ k3 in
    let h1 = branch_of _ none (head_of _) h in
    let h2 = later all InfiniteLimit k2 h1 in
    let h3 = later all RangeInexact k3 h2 in
    let h4 = later all LimitTooLarge k4 h3 in
    let h5 = later all LimitsCrossed k5 h4 in
    let h6 = later all NegativeUpper k6 h5 in
    let h7 = later all BoundsCrossed k7 h6 in
    let h8 = later all BinaryBounds k8 h7 in
    record {
      column = test_of there _ (head_of _) h;
      rhs_values = rows_pass all has_infinite_rhs (here all InfiniteLimit k2 h1);
      exact = rows_pass all (λ definition b r. is_inexact (limits_of definition b r)) (here all RangeInexact k3 h2);
      small = rows_pass all (λ definition b r. is_too_large (limits_of definition b r)) (here all LimitTooLarge k4 h3);
      straight = rows_pass all (λ definition b r. is_crossed (limits_of definition b r)) (here all LimitsCrossed k5 h4);
      no_negative_upper = none_filtered (has_negative_upper all) _ (here all NegativeUpper k6 h5);
      bounds = none_filtered (has_crossed_bounds all) _ (here all BoundsCrossed k7 h6);
      binary = none_filtered (has_binary_bounds all) _ (here all BinaryBounds k8 h7);
      semi = none_filtered (has_semi_bounds all) _ (here all SemiBounds [] h8);
    }

-- There is none, so none is reported.
pub none-from_no_fault : (all : Draft) → HasNoFault all → file_fault all ≡ None
none-from_no_fault = grind (arith, add, filtered_none)

-- a property of all values of entries is one of the value that is found
pub found_all : {X : Type 0} (p : X → Bool) (name : List ℕ) (es : List (List ℕ × X)) → list_all (λ e. p e.1) es ≡ true
    → option_map_or p (at_name es name) true ≡ true
found_all p name [] h = refl
found_all {X} p name (e ∷ es) h =
    grind (arith, found_all p name es (second_so (p e.1) (list_all (λ (e : List ℕ × X). p e.1) es) h))

-- ---- a row has no whole-file error if and only if its limits are well-formed

-- a definition with valid limits, neither of which excludes all values
abbrev pub is_legal_form : RowDefinition → Bool
is_legal_form (by_type type) = true
is_legal_form (by_limits l u) = (is_given l && is_given u) && not (have_infinite_side (by_limits l u))

-- a lower or upper limit, apart from its magnitude
abbrev may_be_lower : Limit → Bool
may_be_lower MinusInf = true
may_be_lower (Finite a) = is_decimal a
may_be_lower PlusInf = false

abbrev may_be_upper : Limit → Bool
may_be_upper MinusInf = false
may_be_upper (Finite a) = is_decimal a
may_be_upper PlusInf = true

at_most_so : (a b : Limit) → not (is_at_most a b) ≡ false → is_at_most a b ≡ true
at_most_so = grind arith

-- a row whose limits were computed
pub record HasSoundLimits (row : Row) : Type 0 where
  pub sides : are_sides row.lower row.upper ≡ true
  pub distance : has_bounded_distance row.lower row.upper ≡ true

lower_side : (l : Limit) → may_be_lower l ≡ true → is_large_limit l ≡ false → is_lower_side l ≡ true
lower_side = grind arith

upper_side : (l : Limit) → may_be_upper l ≡ true → is_large_limit l ≡ false → is_upper_side l ≡ true
upper_side = grind arith

distance_so : (l u : Limit) → is_inexact (Some (record { lower = l; upper = u })) ≡ false
    → is_too_large (Some (record { lower = l; upper = u })) ≡ false → has_bounded_distance l u ≡ true
distance_so = grind arith

limits-from_tests : (l u : Limit) → may_be_lower l ≡ true → may_be_upper u ≡ true
    → is_inexact (Some (record { lower = l; upper = u })) ≡ false → is_too_large (Some (record { lower = l; upper = u })) ≡ false
    → is_crossed (Some (record { lower = l; upper = u })) ≡ false → HasSoundLimits (record { lower = l; upper = u })
limits-from_tests = grind (arith, nor, both_so, lower_side, upper_side, at_most_so, distance_so)

-- the limits that a definition gives
abbrev may_have_sides : Option Row → Bool
may_have_sides None = true
may_have_sides (Some row) = may_be_lower row.lower && may_be_upper row.upper

sides_of : (a b : Option Number) → option_map_or is_decimal a true ≡ true → option_map_or is_decimal b true ≡ true →
    may_have_sides (sides a b) ≡ true
sides_of = grind arith

computed : (d : Number) → option_map_or is_decimal (decimal_of d) true ≡ true
computed = grind arith

-- limits of a value: infinite by its sign
upper_limit : (inf neg : Bool) (b : Number) → is_decimal b ≡ true → (inf && neg) ≡ false
    → may_be_upper (cond inf (cond neg MinusInf PlusInf) (Finite b)) ≡ true
upper_limit = grind arith

lower_limit : (inf neg : Bool) (b : Number) → is_decimal b ≡ true → (inf && not neg) ≡ false
    → may_be_lower (cond inf (cond neg MinusInf PlusInf) (Finite b)) ≡ true
lower_limit = grind arith

sides-of_form : (definition : RowDefinition) (b : Number) (r : Option Number) → is_legal_form definition ≡ true →
    is_decimal b ≡ true → has_infinite_rhs definition b r ≡ false → may_have_sides (limits_of definition b r) ≡ true
sides-of_form (by_type Free) b None f h k = refl
sides-of_form (by_type Free) b (Some r) f h k = refl
sides-of_form (by_type AtMost) b None f h k = grind arith
sides-of_form (by_type AtLeast) b None f h k = grind (arith, lower_limit)
sides-of_form (by_type Equal) b (Some r) f h k =
    elim (is_negative r) as (λ (n : Bool). may_have_sides
    (cond n (sides (difference_of b (size_of r)) (Some b)) (sides (Some b) (sum_of b (size_of r)))) ≡ true) [
      | true ↦ sides_of (difference_of b (size_of r)) (Some b) (computed (at_scale (scaled b +ℤ scaled (negated (size_of r))))) h
      | false ↦ sides_of (Some b) (sum_of b (size_of r)) h (computed (at_scale (scaled b +ℤ scaled (size_of r))))
    ]
sides-of_form _ b _ f h k = grind arith

-- without an error, the limits are well-formed
pub record IsSoundForm (limits : Option Row) : Type 0 where
  pub row : Row
  pub is : limits ≡ Some row
  pub sides : are_sides row.lower row.upper ≡ true
  pub distance : has_bounded_distance row.lower row.upper ≡ true

from_limits : (limits : Option Row) → may_have_sides limits ≡ true → is_inexact limits ≡ false → is_too_large limits ≡ false
    → is_crossed limits ≡ false → IsSoundForm limits
from_limits None m a b c = cc
from_limits (Some row) m a b c = grind (arith, limits-from_tests row.lower)

pub sound-from_no_fault : (definition : RowDefinition) (b : Number) (r : Option Number) → is_legal_form definition ≡ true
    → is_decimal b ≡ true → has_infinite_rhs definition b r ≡ false → is_inexact (limits_of definition b r) ≡ false → is_too_large
    (limits_of definition b r) ≡ false → is_crossed (limits_of definition b r) ≡ false → IsSoundForm (limits_of definition b r)
sound-from_no_fault definition b r f h k = from_limits _ (sides-of_form definition b r f h k)

-- ---- declarations without a whole-file error mean their model

-- ---- the objective

named_objective : (o : Option (List ℕ)) → is_some o ≡ true → option_map_or (same_bytes (unwrap_or o [])) o false ≡ true
named_objective = grind (arith, itself_named)

legal_objective : (o : Option (List ℕ)) → is_some o ≡ true → option_map_or is_mps_name o true ≡ true →
    is_mps_name (unwrap_or o []) ≡ true
legal_objective = grind arith

named_row : (o : Option (List ℕ)) (q : List ℕ) (r s : Bool) → r ≡ s → (option_map_or (same_bytes q) o false || s) ≡ true
    → (same_bytes q (unwrap_or o []) || r) ≡ true
named_row = grind arith

-- ---- entries

pub one_of-names : {X : Type 0} (q : List ℕ) (es : List (List ℕ × X)) → is_one_of (names_in es) q ≡ has_name es q
one_of-names q [] = refl
one_of-names {X} q (e ∷ es) = ap (λ b. b || is_one_of (names_in es) q) (texts_ties q e.0) ∙ (grind (arith, one_of-names q es))

below-mapped : {X Y : Type 0} (g : List ℕ × X → Y) (x : List ℕ) (es : List (List ℕ × X))
    → below_all bytes_cmp x (map (λ e. (e.0, g e)) es) ≡ below_all bytes_cmp x es
below-mapped g x [] = refl
below-mapped g x (e ∷ es) = grind (arith, below-mapped g x es)

-- entries with other values for the same names are in the same order, and have the same names
pub sorted-mapped : {X Y : Type 0} (g : List ℕ × X → Y) (es : List (List ℕ × X))
    → is_sorted bytes_cmp (map (λ e. (e.0, g e)) es) ≡ is_sorted bytes_cmp es
sorted-mapped g [] = refl
sorted-mapped g (e ∷ es) = λ i. below-mapped g e.0 es i && sorted-mapped g es i

pub names-mapped : {X Y : Type 0} (g : List ℕ × X → Y) (es : List (List ℕ × X)) →
    names_in (map (λ e. (e.0, g e)) es) ≡ names_in es
names-mapped g [] = refl
names-mapped g (e ∷ es) = grind (arith, names-mapped g es)

t_first : (a b : Bool) → T (a && b) → T a
t_first = grind arith

t_second : (a b : Bool) → T (a && b) → T b
t_second = grind arith

t_both : (a b : Bool) → T a → T b → T (a && b)
t_both = grind arith

below-filtered : {X : Type 0} (p : CoefficientKey × X → Bool) (x : CoefficientKey) (es : List (CoefficientKey × X))
    → T (below_all key_cmp x es) → T (below_all key_cmp x (filter p es))
below-filtered p x [] h = tt
below-filtered {X} p x (e ∷ es) h =
    grind (arith, t_second, t_both, t_first, below-filtered p x es (t_second (is_lt (key_cmp x e.0)) (below_all key_cmp x es) h))

pub sorted-filtered : {X : Type 0} (p : CoefficientKey × X → Bool) (es : List (CoefficientKey × X)) → T (is_sorted key_cmp es)
    → T (is_sorted key_cmp (filter p es))
sorted-filtered p [] h = tt
sorted-filtered {X} p (e ∷ es) h = grind (
  arith,
  t_second,
  t_both,
  below-filtered,
  t_first,
  sorted-filtered p es
      (t_second (below_all key_cmp e.0 es) (is_sorted key_cmp es) h),
)

filter_all : {X : Type 0} (p q : X → Bool) (xs : List X) → list_all q xs ≡ true → list_all (λ x. q x && p x) (filter p xs) ≡ true
filter_all p q [] h = refl
filter_all {X} p q (x ∷ xs) h = grind (arith, both_so, filter_all p q xs (second_so (q x) (list_all q xs) h))

-- ---- values

or_zero : (o : Option Number) → option_map_or is_decimal o true ≡ true → is_decimal (unwrap_or o zero_number) ≡ true
or_zero = grind arith

decimal-negated : (m e : ℤ) → is_decimal (record { mantissa = m; exponent = e }) ≡ true
    → is_decimal (negated (record { mantissa = m; exponent = e })) ≡ true
decimal-negated = grind arith

legal_constant : (o : Option Number) (d : Number) → option_map_or is_decimal o true ≡ true → is_decimal d ≡ true
    → is_decimal (unwrap_or o (negated d)) ≡ true
legal_constant = grind arith

definition-legal : (definition : RowDefinition) → (are_given definition && not (have_infinite_side definition)) ≡ true
    → is_legal_form definition ≡ true
definition-legal = grind arith

-- ---- rows

sound_entry : (name : List ℕ) (limits : Option Row) → is_mps_name name ≡ true → IsSoundForm limits
    → is_sound_row (name, unwrap_or limits (plain_limits Free zero_number)) ≡ true
sound_entry = grind arith

some_limits : (limits : Option Row) → IsSoundForm limits → is_some limits ≡ true
some_limits limits s = ap is_some s.is

abbrev row_tests : Draft → List ℕ × RowDefinition → Bool
row_tests all row =
    let b = rhs_or_zero all row.0 in
    let r = at_name all.ranges row.0 in
    (is_mps_name row.0 && (are_given row.1 && not (have_infinite_side row.1))) && (not (has_infinite_rhs row.1 b r)
    && (not (is_inexact (limits_of row.1 b r)) &&
    (not (is_too_large (limits_of row.1 b r)) && not (is_crossed (limits_of row.1 b r)))))

sound_row : (all : Draft) (row : List ℕ × RowDefinition) → list_all (λ e. is_decimal e.1) all.rhs_values ≡ true →
    row_tests all row ≡ true → IsSoundForm (row_limits all row)
sound_row all row sides h =
    let b = rhs_or_zero all _ in
    let r = at_name _ row.0 in
    let limits = limits_of row.1 b r in
    let legal = are_given row.1 && not (have_infinite_side row.1) in
    let a1 = is_mps_name row.0 && legal in
    let t4 = not (is_crossed limits) in
    let t3 = not (is_too_large limits) in
    let t2 = not (is_inexact limits) in
    let t1 = not (has_infinite_rhs _ b r) in
    let h1 = second_so a1 (t1 && (t2 && (t3 && t4))) h in
    let h2 = second_so t1 (t2 && (t3 && t4)) h1 in
    let h3 = second_so t2 (t3 && t4) h2 in sound-from_no_fault _ b r (definition-legal row.1
    (second_so _ legal (first_so a1 _ h))) (or_zero (at_name all.rhs_values row.0) (found_all _ row.0 all.rhs_values sides))
    (not_so _ (first_so t1 _ h1)) (not_so _ (first_so t2 _ h2)) (not_so _ (first_so t3 t4 h3)) (not_so _ (second_so t3 t4 h3))

rows_pass_meaning : (all : Draft) → IsGood all all → HasNoFault all → list_all (row_tests all) all.rows ≡ true
rows_pass_meaning all g f =
    and_all _ _ all.rows g.rows (and_all _ _ all.rows f.rhs_values
    (and_all _ _ all.rows f.exact (and_all _ _ all.rows f.small f.straight)))

-- ---- columns

lower_or : (o : Option Limit) → option_map_or (λ l. is_given l && not (is_plus_infinite l)) o true ≡ true
    → is_lower_side (unwrap_or o zero_limit) ≡ true
lower_or = grind arith

upper_or : (o : Option Limit) (b : Bool) → option_map_or (λ l. is_given l && not (is_minus_infinite l)) o true ≡ true
    → is_upper_side (unwrap_or o (cond b one_limit PlusInf)) ≡ true
upper_or = grind arith

straight : (b : Bool) → not (not b) ≡ true → b ≡ true
straight = grind arith

sound_column : (all : Draft) (name : List ℕ) → IsGood all all → is_mps_name name ≡ true → not (has_crossed_bounds all name) ≡ true
    → not (has_semi_bounds all name) ≡ true → is_sound_column (name, column_of all name) ≡ true
sound_column = grind (arith, both_so, lower_or, found_all, upper_or, straight)

abbrev column_tests : Draft → List ℕ → Bool
column_tests all name = is_mps_name name && (not (has_crossed_bounds all name) && not (has_semi_bounds all name))

tested_column : (all : Draft) (name : List ℕ) → IsGood all all → column_tests all name ≡ true →
    is_sound_column (name, column_of all name) ≡ true
tested_column all name g h =
    let crossed = not _ in
    let semi = not _ in
    let rest = second_so _ _ h in sound_column all _ g (first_so
    (is_mps_name name) (crossed && semi) h) (first_so crossed semi rest) (second_so _ _ rest)

some_columns : {X Y : Type 0} (f : X → Y) (xs : List X) → is_nonempty xs ≡ true → 0 < length (map f xs)
some_columns = grind arith

-- ---- the entries of the model of a draft

pub rows_are : (all : Draft) → IsGood all all → maps.entries (model_of all).rows ≡ map (row_entry all) all.rows
rows_are all g = maps.entries-from_sorted _ _
    (subst T (sym (sorted-mapped (λ row. unwrap_or (row_limits all row) (plain_limits Free zero_number)) all.rows)) g.rows_sorted)

pub columns_are : (all : Draft) → IsGood all all →
    maps.entries (model_of all).columns ≡ map (λ column. (column.0, column_of all column.0)) all.columns
columns_are all g =
    maps.entries-from_sorted _ _ (subst T (sym (sorted-mapped (λ column. column_of all column.0) all.columns)) g.columns_sorted)

pub column_names : (all : Draft) → IsGood all all → maps.keys (model_of all).columns ≡ names_in all.columns
column_names all g = ap names_in (columns_are all g) ∙ names-mapped (λ column. column_of all _) _

-- ---- without an error the model is meant

-- A well-formed draft without a whole-file error means its model.
pub meant-from_no_fault : (all : Draft) → IsWellFormed all → file_fault all ≡ None → DraftMeans all (model_of all)
meant-from_no_fault all w none =
    let m = model_of all in
    let g = w.good in
    let f = no_fault-from_none all none in
    let rows = rows_pass_meaning all g f in
    let is_kept : CoefficientKey × Number → Bool = λ entry. not _ in
    let kept_are = maps.entries-from_sorted
    key_cmp _ (sorted-filtered is_kept all.coefficients g.coefficients_sorted) in
    let row_names : maps.keys m.rows ≡ names_in _ = ap names_in (rows_are all g) ∙ names-mapped _ _ in
    record {
      finite_rhs_values = f.rhs_values;
      exact_limits =
          imp_all _ (λ row. is_some (row_limits all row)) all.rows
          (λ row h. some_limits _ (sound_row all row g.rhs_values h)) rows;
      model = refl;
      sound = record {
        objective = legal_objective _ w.named g.objective;
        objective_is_no_row = ap (λ (names : List (List ℕ)). is_one_of names (objective_name all)) row_names
            ∙ one_of-names (objective_name all) all.rows ∙ w.apart _ (named_objective all.objective w.named);
        constant = legal_constant all.constant _ g.constant
            (or_zero (at_name all.rhs_values (objective_name all)) (found_all _ (objective_name all) _ g.rhs_values));
        has_column = subst (λ names. 0 < length names) (sym (column_names all g)) (some_columns _ all.columns f.column);
        rows = ap (list_all is_sound_row) (rows_are all g) ∙ sym (map_all _ is_sound_row all.rows)
            ∙ imp_all _ (λ row. is_sound_row (row_entry all row)) all.rows
            (λ row h. sound_entry row.0 _ (name_of all row h) (sound_row all row g.rhs_values h)) rows;
        columns = ap (list_all is_sound_column) (columns_are all g) ∙ sym (map_all _ is_sound_column all.columns)
            ∙ imp_all _ (λ column. is_sound_column (column.0, column_of all _)) all.columns
            (λ column h. tested_column all column.0 g h)
            (and_all _ (λ column. not (has_crossed_bounds all column.0) && not (has_semi_bounds all column.0))
            all.columns g.columns (and_all _ (λ column. not (has_semi_bounds all column.0)) all.columns
            (map_all _ (λ name. not (has_crossed_bounds all name)) all.columns ∙ f.bounds)
            (map_all _ (λ name. not (has_semi_bounds all name)) all.columns ∙ f.semi)));
        coefficients = ap (list_all (is_sound_coefficient m)) kept_are
            ∙ imp_all _ (is_sound_coefficient m) (filter is_kept all.coefficients)
            (λ e h. sound_coefficient all m e row_names (column_names all g) refl h)
            (filter_all _ (λ e. is_decimal e.1 && (has_row all _ && has_column all e.0.column)) all.coefficients g.coefficients);
      };
      no_negative_upper = f.no_negative_upper;
      binary_within = f.binary;
    }
  where
    name_of : (all : Draft) (row : List ℕ × RowDefinition) → row_tests all row ≡ true → is_mps_name row.0 ≡ true
    name_of all row h = first_so _ _ (first_so _ _ h)

    sound_coefficient : (all : Draft) (m : LinearModel) (e : CoefficientKey × Number) → maps.keys m.rows ≡ names_in all.rows
        → maps.keys m.columns ≡ names_in all.columns → m.objective ≡ objective_name all
        → ((is_decimal e.1 && (has_row all e.0.row && has_column all e.0.column)) && not (is_zero e.1)) ≡ true →
        is_sound_coefficient m e ≡ true
    sound_coefficient all m e rows columns objective h = let key = e.0 in
        let known = has_row all _ && has_column all key.column in
        let a = first_so _ _ h in
        let k = second_so (is_decimal e.1) known a in
        let column : is_one_of (maps.keys m.columns) key.column ≡ true = ap (λ names. is_one_of names key.column) columns
        ∙ one_of-names key.column all.columns ∙ second_so (has_row all key.row) (has_column all key.column) k in
        let row : is_one_of (m.objective ∷ maps.keys m.rows) key.row ≡ true = (λ i. is_one_of (objective i ∷ rows i) key.row)
        ∙ named_row all.objective key.row (is_one_of (names_in all.rows) key.row) (has_name all.rows key.row)
        (one_of-names key.row all.rows) (first_so (has_row all key.row) (has_column all key.column) k) in both_so (is_decimal e.1)
        (not (is_zero e.1) && (is_one_of (maps.keys m.columns) key.column && is_one_of (m.objective ∷ maps.keys m.rows) key.row))
        (first_so (is_decimal e.1) known a) (both_so (not (is_zero e.1)) (is_one_of (maps.keys m.columns) key.column
        && is_one_of (m.objective ∷ maps.keys m.rows) key.row) (second_so (is_decimal e.1 && known) (not (is_zero e.1)) h)
        (both_so (is_one_of (maps.keys m.columns) key.column) (is_one_of (m.objective ∷ maps.keys m.rows) key.row) column row))

-- Consistent declarations with legal names and values, without a whole-file error, mean the model of their draft.
pub means-from_no_fault : (declarations : Declarations) → AreConsistent declarations → list_all is_legal declarations ≡ true
    → file_fault (draft_of declarations) ≡ None → Means declarations (model_of (draft_of declarations))
means-from_no_fault declarations c legal none = search (rules, meant-from_no_fault, well_formed-from_consistent)

-- ---- declarations that mean a model have no whole-file error

abbrev sides_hold : Option Row → Bool
sides_hold None = false
sides_hold (Some row) = are_sides row.lower row.upper

no_inf_upper : (inf neg : Bool) (b : Number) → is_upper_side (cond inf (cond neg MinusInf PlusInf) (Finite b)) ≡ true →
    (inf && neg) ≡ false
no_inf_upper = grind arith

no_inf_lower : (inf neg : Bool) (b : Number) → is_lower_side (cond inf (cond neg MinusInf PlusInf) (Finite b)) ≡ true →
    (inf && not neg) ≡ false
no_inf_lower = grind arith

no_inf : (inf neg : Bool) (b : Number) → is_lower_side (cond inf (cond neg MinusInf PlusInf) (Finite b)) ≡ true
    → is_upper_side (cond inf (cond neg MinusInf PlusInf) (Finite b)) ≡ true → inf ≡ false
no_inf = grind arith

finite_size : (b : Number) → is_bounded_decimal b ≡ true → is_infinite_size b ≡ false
finite_size = grind arith

and_false : (a b : Bool) → a ≡ false → (a && b) ≡ false
and_false = grind arith

finite_above : (o : Option Number) (b : Number) → sides_hold (sides o (Some b)) ≡ true → is_infinite_size b ≡ false
finite_above None b h = cc
finite_above (Some a) b h = finite_size b (upper_of (Finite a) (Finite b) h)

finite_below : (o : Option Number) (b : Number) → sides_hold (sides (Some b) o) ≡ true → is_infinite_size b ≡ false
finite_below = grind arith

no_infinite_side : (definition : RowDefinition) (b : Number) (r : Option Number) → sides_hold (limits_of definition b r) ≡ true
    → has_infinite_rhs definition b r ≡ false
no_infinite_side = grind (arith, no_inf_upper, upper_of, no_inf_lower, lower_of, no_inf, and_false, finite_above, finite_below)

exact_distance : (o : Option Number) → option_map_or is_bounded_decimal o false ≡ true
    → (is_none o ≡ false) × (option_map_or is_infinite_size o false ≡ false)
exact_distance = grind arith

near : (l u : Limit) → is_lower_side l ≡ true → is_upper_side u ≡ true → has_bounded_distance l u ≡ true
    → (is_inexact (Some (record { lower = l; upper = u })) ≡ false)
    × (is_too_large (Some (record { lower = l; upper = u })) ≡ false)
near (Finite a) (Finite b) h k d = search (rules, exact_distance, both_false, finite_size a h, finite_size b k)
near (Finite a) PlusInf h k d = grind arith
near MinusInf MinusInf h k d = (refl, refl)
near MinusInf (Finite b) h k d = grind arith
near MinusInf PlusInf h k d = (refl, refl)
near _ _ h k d = absurd cc

-- a row without an error
pub record PassesTests (definition : RowDefinition) (b : Number) (r : Option Number) : Type 0 where
  pub finite : not (has_infinite_rhs definition b r) ≡ true
  pub exact : not (is_inexact (limits_of definition b r)) ≡ true
  pub small : not (is_too_large (limits_of definition b r)) ≡ true
  pub straight : not (is_crossed (limits_of definition b r)) ≡ true

tests_of : (definition : RowDefinition) (b : Number) (r : Option Number) (name : List ℕ) (o : Option Row) →
    limits_of definition b r ≡ o → is_some o ≡ true →
    is_sound_row (name, unwrap_or o (plain_limits Free zero_number)) ≡ true → PassesTests definition b r
tests_of definition b r name None is there h = absurd cc
tests_of definition b r name (Some row) is there h =
    let rest = second_so _ _ h in
    let s = first_so _ _ rest in
    let n = near _ row.upper (lower_of row.lower row.upper s) (upper_of row.lower row.upper s) (second_so _ _ rest) in
    record {
      finite = so_not _ (no_infinite_side _ b r (ap sides_hold is ∙ s));
      exact = so_not _ (ap is_inexact is ∙ n.0);
      small = so_not _ (ap is_too_large is ∙ n.1);
      straight = so_not _ (ap is_crossed is ∙ ap not (straight_of _ row.upper s));
    }

row_tested : (all : Draft) (row : List ℕ × RowDefinition) →
    (is_sound_row (row_entry all row) && is_some (row_limits all row)) ≡ true →
    PassesTests row.1 (rhs_or_zero all row.0) (at_name all.ranges row.0)
row_tested all row h = tests_of _ _ _ row.0 _ refl (second_so _ (is_some _) h) (first_so _ (is_some _) h)

not_not : (b : Bool) → b ≡ true → not (not b) ≡ true
not_not = grind arith

column_straight : (all : Draft) (name : List ℕ) → is_sound_column (name, column_of all name) ≡ true →
    not (has_crossed_bounds all name) ≡ true
column_straight all name h =
    let l = lower_bound all _ in
    let u = upper_bound all _ in
    let suited = suits _ l u in not_not _ (straight_of l
    u (first_so _ suited (second_so _ _ h)))

column_suited : (all : Draft) (name : List ℕ) → is_sound_column (name, column_of all name) ≡ true →
    not (has_semi_bounds all name) ≡ true
column_suited all name h = let sides = are_sides (lower_bound all name) (upper_bound all _) in
    let suited = suits _ (lower_bound all name) _ in not_not suited (second_so sides _ (second_so (is_mps_name name) _ h))

has_columns : {X Y : Type 0} (f : X → Y) (xs : List X) → 0 < length (map f xs) → is_nonempty xs ≡ true
has_columns = grind arith

-- A well-formed draft that means a model has no whole-file error.
pub no_fault-from_meant : (all : Draft) (m : LinearModel) → IsWellFormed all → DraftMeans all m → file_fault all ≡ None
no_fault-from_meant all m w meant =
    let n = model_of all in
    let sound = subst IsSound meant.model meant.sound in
    let g = w.good in
    let rows =
    and_all (λ row. is_sound_row (row_entry all row)) (λ row. is_some _) all.rows
    (map_all (row_entry all) is_sound_row all.rows ∙ ap (list_all _) (sym (rows_are all g)) ∙ sound.rows) meant.exact_limits in
    let columns : list_all (λ column. is_sound_column (column.0, column_of all column.0)) all.columns ≡ true =
    map_all (λ column. (column.0, column_of all column.0)) is_sound_column all.columns ∙ ap (list_all _) (sym (columns_are all g))
    ∙ sound.columns in
    let tested : List ℕ × RowDefinition → Bool = λ row. is_sound_row (row_entry all row) && is_some (row_limits all row) in
    none-from_no_fault all (record {
      column = has_columns (λ e. e.0) _ (subst (λ names. 0 < length names) (column_names all g) sound.has_column);
      rhs_values = meant.finite_rhs_values;
      exact = imp_all tested (λ row. not (is_inexact (limits_of row.1 (rhs_or_zero all _) (at_name all.ranges _)))) all.rows
          (λ row h. let p = row_tested all row h in p.exact) rows;
      small = imp_all tested (λ row. not (is_too_large (limits_of row.1 (rhs_or_zero all _) (at_name all.ranges _)))) all.rows
          (λ row h. let p = row_tested all row h in p.small) rows;
      straight = imp_all tested (λ row. not (is_crossed (limits_of row.1 (rhs_or_zero all _) (at_name all.ranges _)))) all.rows
          (λ row h. let p = row_tested all row h in p.straight) rows;
      no_negative_upper = meant.no_negative_upper;
      bounds = sym (map_all (λ e. e.0) (λ name. not (has_crossed_bounds all _)) all.columns)
          ∙ imp_all (λ column. is_sound_column (column.0, column_of all column.0))
          (λ column. not (has_crossed_bounds all _)) all.columns (λ column h. column_straight all _ h) columns;
      binary = meant.binary_within;
      semi = sym (map_all (λ e. e.0) (λ name. not (has_semi_bounds all _)) all.columns)
          ∙ imp_all (λ column. is_sound_column (column.0, column_of all column.0))
          (λ column. not (has_semi_bounds all _)) all.columns (λ column h. column_suited all _ h) columns;
    })

-- Legal declarations that mean a model have no whole-file error.
pub no_fault-from_means : (declarations : Declarations) (m : LinearModel) → Means declarations m →
    list_all is_legal declarations ≡ true → file_fault (draft_of declarations) ≡ None
no_fault-from_means = grind (arith, no_fault-from_meant, well_formed-from_consistent)

-- ---- the three lemmas together, as both readers use them

-- Legal declarations, none of which is rejected, with an objective and without a whole-file error mean the model of their draft.
pub means-from_none : (declarations : Declarations) → has_objective declarations ≡ true → list_all is_legal declarations ≡ true
    → refusals_in_turn empty_draft declarations ≡ [] → file_fault (draft_of declarations) ≡ None
    → Means declarations (model_of (draft_of declarations))
means-from_none = grind (arith, means-from_no_fault, consistent-from_none)

-- Legal declarations that mean a model and use each name after its declaration are not rejected and have no whole-file error.
pub none-from_means : (declarations : Declarations) (m : LinearModel) → list_all is_legal declarations ≡ true
    → are_known_in_turn empty_draft declarations ≡ true → Means declarations m
    → (refusals_in_turn empty_draft declarations ≡ []) × (file_fault (draft_of declarations) ≡ None)
none-from_means = grind (arith, none-from_consistent, no_fault-from_means)
