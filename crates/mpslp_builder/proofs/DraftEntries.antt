-- The maps of a draft: what declarations put into them, their entries in the order of keys, and what holds of each entry.
pub use Rattle.mpslp_model_core.proofs.CellLemmas.{same_key, bytes_total, tied_names, key_total as key_total_sorted}
use Rattle.mpslp_builder.proofs.Prelude
use Prelude.{arith, ◌≡◌, refl, sym, ap, ◌∙◌, ℕ, List, [], ◌∷◌, Bool, true, not, ◌&&◌, list_all, option_map_or, first_so, second_so}
use Prelude.{nat_list_cmp_total, T, Ordering, put, is_sorted, is_sorted-put, is_decimal, is_mps_name, bytes_cmp, CoefficientKey, key_cmp}
use Prelude.{key_total, tied_names, Declaration, declare_row, declare_rhs, declare_column, declare_coefficient, declare_lower}
use Prelude.{declare_upper, Declarations, Draft, empty_draft, with_declaration, with_declarations, has_row, has_column, have_infinite_side}
use Prelude.{is_given, is_plus_infinite, is_minus_infinite, are_given, is_legal, is_known, is_allowed, both_so, flat_map, Number}
use Prelude.{RowDefinition, declare_range, declare_marked, declare_integer, declare_binary, declare_semi, Limit, puts, puts-append, subst}
use Prelude.{draft_of, IsMade, is_sorted-puts, false, is_lt, below_all, IsDecimal, same_bytes, marker, Row, Column, suits, is_sound_row}
use Prelude.{is_sound_column, limit_of, is_bounded_decimal, is_lower_side, is_upper_side, is_at_most, are_sides, has_bounded_distance}
use Prelude.{Finite, Each}
use Rattle.mpslp_builder.proofs.SlotLemmas.{same_name}
use Rattle.std.specs.declared.cmp.Ordering.TheVariants as orders

-- ---- a property of all declarations is one of all entries of the draft

-- ---- one more entry

pub put_all : {K X : Type 0} (R : K → K → Ordering) (p : K × X → Bool) (k : K) (v : X) (es : List (K × X))
    → ((j : K) → R k j ≡ orders.Equal → p (j, v) ≡ true) → p (k, v) ≡ true → list_all p es ≡ true →
    list_all p (put R k v es) ≡ true
put_all R p k v [] tied h all = both_so _ _ h refl
put_all {K} {X} R p k v (e ∷ es) tied h all =
    grind (arith, both_so, put_all R p k v es tied h (second_so (p e) (list_all p es) all))

put_names : {X : Type 0} (p : List ℕ × X → Bool) (k : List ℕ) (v : X) (es : List (List ℕ × X)) → p (k, v) ≡ true →
    list_all p es ≡ true → list_all p (put bytes_cmp k v es) ≡ true
put_names p k v es h all = put_all bytes_cmp p k v es (λ j tie. ap (λ n. p (n, v)) (sym (tied_names k j tie)) ∙ h) h all

put_keys : {X : Type 0} (p : CoefficientKey × X → Bool) (k : CoefficientKey) (v : X) (es : List (CoefficientKey × X)) →
    p (k, v) ≡ true → list_all p es ≡ true → list_all p (put key_cmp k v es) ≡ true
put_keys p k v es h all = put_all key_cmp p k v es (λ j tie. ap (λ n. p (n, v)) (sym (same_key k j tie)) ∙ h) h all

-- ---- a draft whose entries are valid in the draft of all declarations

-- the entries of a draft: names are legal, values are decimals, limits are valid, coefficients have declared names; all sorted
pub record IsGood (all draft : Draft) : Type 0 where
  pub objective : option_map_or is_mps_name draft.objective true ≡ true
  pub constant : option_map_or is_decimal draft.constant true ≡ true
  pub rows : list_all (λ e. is_mps_name e.0 && (are_given e.1 && not (have_infinite_side e.1))) draft.rows ≡ true
  pub rhs_values : list_all (λ e. is_decimal e.1) draft.rhs_values ≡ true
  pub columns : list_all (λ e. is_mps_name e.0) draft.columns ≡ true
  pub coefficients : list_all (λ e. is_decimal e.1 && (has_row all e.0.row && has_column all e.0.column))
      draft.coefficients ≡ true
  pub lowers : list_all (λ e. is_given e.1 && not (is_plus_infinite e.1)) draft.lowers ≡ true
  pub uppers : list_all (λ e. is_given e.1 && not (is_minus_infinite e.1)) draft.uppers ≡ true
  pub rows_sorted : T (is_sorted bytes_cmp draft.rows)
  pub columns_sorted : T (is_sorted bytes_cmp draft.columns)
  pub coefficients_sorted : T (is_sorted key_cmp draft.coefficients)

good-with_declaration : (all draft : Draft) (d : Declaration) → IsGood all draft → is_legal d ≡ true → is_known all d ≡ true
    → is_allowed all d ≡ true → IsGood all (with_declaration draft d)
good-with_declaration all b (declare_row name definition) g legal known allowed = record {
  objective = g.objective;
  constant = g.constant;
  rows = put_names _ _ _ b.rows
      (both_so _ _ (first_so _ _ legal)
      (both_so _ _ (second_so _ _ legal) allowed)) g.rows;
  rhs_values = g.rhs_values;
  columns = g.columns;
  coefficients = g.coefficients;
  lowers = g.lowers;
  uppers = g.uppers;
  rows_sorted = is_sorted-put _ nat_list_cmp_total _ _ b.rows g.rows_sorted;
  columns_sorted = g.columns_sorted;
  coefficients_sorted = g.coefficients_sorted;
}
good-with_declaration all b (declare_rhs row value) g legal known allowed = grind (arith, put_names)
good-with_declaration all b (declare_column name) g legal known allowed = record {
  objective = g.objective;
  constant = g.constant;
  rows = g.rows;
  rhs_values = g.rhs_values;
  columns = put_names _ name tt b.columns legal g.columns;
  coefficients = g.coefficients;
  lowers = g.lowers;
  uppers = g.uppers;
  rows_sorted = g.rows_sorted;
  columns_sorted = is_sorted-put bytes_cmp nat_list_cmp_total name tt b.columns g.columns_sorted;
  coefficients_sorted = g.coefficients_sorted;
}
good-with_declaration all b (declare_coefficient key value) g legal known allowed = record {
  objective = g.objective;
  constant = g.constant;
  rows = g.rows;
  rhs_values = g.rhs_values;
  columns = g.columns;
  coefficients = put_keys _ key value b.coefficients
      (both_so _ (has_row all key.row && has_column all key.column) legal known) g.coefficients;
  lowers = g.lowers;
  uppers = g.uppers;
  rows_sorted = g.rows_sorted;
  columns_sorted = g.columns_sorted;
  coefficients_sorted = is_sorted-put _ key_total key _ _ g.coefficients_sorted;
}
good-with_declaration all b (declare_lower column limit) g legal known allowed = grind (arith, put_names, both_so)
good-with_declaration all b (declare_upper column limit) g legal known allowed = grind (arith, put_names, both_so)
good-with_declaration all b _ g legal known allowed = grind (arith)

pub good-with_declarations : (all : Draft) (declarations : Declarations) (draft : Draft) → IsGood all draft
    → list_all is_legal declarations ≡ true → list_all (is_known all) declarations ≡ true →
    list_all (is_allowed all) declarations ≡ true → IsGood all (with_declarations draft declarations)
good-with_declarations all [] draft g legal known allowed = g
good-with_declarations all (d ∷ more) draft g legal known allowed =
    grind (
      arith,
      good-with_declaration,
      good-with_declarations all more (with_declaration draft d) (good-with_declaration all draft d g (first_so (is_legal d)
          (list_all is_legal more) legal) (first_so (is_known all d) (list_all (is_known all) more) known)
          (first_so (is_allowed all d) (list_all (is_allowed all) more) allowed))
          (second_so (is_legal d) (list_all is_legal more) legal) (second_so (is_known all d)
          (list_all (is_known all) more) known) (second_so (is_allowed all d) (list_all (is_allowed all) more) allowed),
    )

-- no entries
pub empty_good : (all : Draft) → IsGood all empty_draft
empty_good = grind arith

-- ---- each map of a draft is what the declarations put into it

-- ---- what a declaration puts into each map

abbrev pub row_part : Declaration → List (List ℕ × RowDefinition)
row_part (declare_row name definition) = (name, definition) ∷ []
row_part _ = []

abbrev pub rhs_part : Declaration → List (List ℕ × Number)
rhs_part (declare_rhs row value) = (row, value) ∷ []
rhs_part _ = []

abbrev pub range_part : Declaration → List (List ℕ × Number)
range_part (declare_range row value) = (row, value) ∷ []
range_part _ = []

abbrev pub column_part : Declaration → List (List ℕ × Unit {0})
column_part (declare_column name) = (name, tt) ∷ []
column_part _ = []

abbrev pub coefficient_part : Declaration → List (CoefficientKey × Number)
coefficient_part (declare_coefficient key value) = (key, value) ∷ []
coefficient_part _ = []

abbrev pub lower_part : Declaration → List (List ℕ × Limit)
lower_part (declare_lower column limit) = (column, limit) ∷ []
lower_part _ = []

abbrev pub upper_part : Declaration → List (List ℕ × Limit)
upper_part (declare_upper column limit) = (column, limit) ∷ []
upper_part _ = []

abbrev pub marked_part : Declaration → List (List ℕ × Unit {0})
marked_part (declare_marked column) = (column, tt) ∷ []
marked_part _ = []

abbrev pub integer_part : Declaration → List (List ℕ × Unit {0})
integer_part (declare_integer column) = (column, tt) ∷ []
integer_part _ = []

abbrev pub binary_part : Declaration → List (List ℕ × Unit {0})
binary_part (declare_binary column) = (column, tt) ∷ []
binary_part _ = []

abbrev pub semi_part : Declaration → List (List ℕ × Unit {0})
semi_part (declare_semi column) = (column, tt) ∷ []
semi_part _ = []

-- ---- each map, after one declaration and after several

-- a map of a draft, if one declaration puts its part into it
puts-all : {K X : Type 0} (R : K → K → Ordering) (part : Declaration → List (K × X)) (entries : Draft → List (K × X))
    → ((all : Draft) (d : Declaration) → entries (with_declaration all d) ≡ puts R (part d) (entries all))
    → (ds : Declarations) (all : Draft) → entries (with_declarations all ds) ≡ puts R (flat_map part ds) (entries all)
puts-all R part entries one [] all = refl
puts-all R part entries one (d ∷ ds) all =
    puts-all R _ _ one ds _ ∙ ap (puts R (flat_map part ds)) (one all d)
    ∙ sym (puts-append R (part d) (flat_map part ds) (entries all))

pub rows-all : (ds : Declarations) (all : Draft) →
    (with_declarations all ds).rows ≡ puts bytes_cmp (flat_map row_part ds) all.rows
rows-all = puts-all _ _ (λ all. all.rows) (λ all d. grind arith)

pub rhs_values-all : (ds : Declarations) (all : Draft)
    → (with_declarations all ds).rhs_values ≡ puts bytes_cmp (flat_map rhs_part ds) all.rhs_values
rhs_values-all = puts-all _ _ (λ all. all.rhs_values) (λ all d. grind arith)

pub ranges-all : (ds : Declarations) (all : Draft) →
    (with_declarations all ds).ranges ≡ puts bytes_cmp (flat_map range_part ds) all.ranges
ranges-all = puts-all _ _ (λ all. all.ranges) (λ all d. grind arith)

pub columns-all : (ds : Declarations) (all : Draft)
    → (with_declarations all ds).columns ≡ puts bytes_cmp (flat_map column_part ds) all.columns
columns-all = puts-all _ _ (λ all. all.columns) (λ all d. grind arith)

pub coefficients-all : (ds : Declarations) (all : Draft)
    → (with_declarations all ds).coefficients ≡ puts key_cmp (flat_map coefficient_part ds) all.coefficients
coefficients-all = puts-all _ _ (λ all. all.coefficients) (λ all d. grind arith)

pub lowers-all : (ds : Declarations) (all : Draft) →
    (with_declarations all ds).lowers ≡ puts bytes_cmp (flat_map lower_part ds) all.lowers
lowers-all = puts-all _ _ (λ all. all.lowers) (λ all d. grind arith)

pub uppers-all : (ds : Declarations) (all : Draft) →
    (with_declarations all ds).uppers ≡ puts bytes_cmp (flat_map upper_part ds) all.uppers
uppers-all = puts-all _ _ (λ all. all.uppers) (λ all d. grind arith)

pub marked-all : (ds : Declarations) (all : Draft) →
    (with_declarations all ds).marked ≡ puts bytes_cmp (flat_map marked_part ds) all.marked
marked-all = puts-all _ _ (λ all. all.marked) (λ all d. grind arith)

pub integers-all : (ds : Declarations) (all : Draft)
    → (with_declarations all ds).integers ≡ puts bytes_cmp (flat_map integer_part ds) all.integers
integers-all = puts-all _ _ (λ all. all.integers) (λ all d. grind arith)

pub binaries-all : (ds : Declarations) (all : Draft)
    → (with_declarations all ds).binaries ≡ puts bytes_cmp (flat_map binary_part ds) all.binaries
binaries-all = puts-all _ _ (λ all. all.binaries) (λ all d. grind arith)

pub semis-all : (ds : Declarations) (all : Draft) →
    (with_declarations all ds).semis ≡ puts bytes_cmp (flat_map semi_part ds) all.semis
semis-all = puts-all _ _ (λ all. all.semis) (λ all d. grind arith)

-- ---- each map of a draft holds its entries in the order of their keys

-- ---- sorted maps

pub record IsSortedDraft (all : Draft) : Type 0 where
  pub rows : T (is_sorted bytes_cmp all.rows)
  pub rhs_values : T (is_sorted bytes_cmp all.rhs_values)
  pub ranges : T (is_sorted bytes_cmp all.ranges)
  pub columns : T (is_sorted bytes_cmp all.columns)
  pub coefficients : T (is_sorted key_cmp all.coefficients)
  pub lowers : T (is_sorted bytes_cmp all.lowers)
  pub uppers : T (is_sorted bytes_cmp all.uppers)
  pub marked : T (is_sorted bytes_cmp all.marked)
  pub integers : T (is_sorted bytes_cmp all.integers)
  pub binaries : T (is_sorted bytes_cmp all.binaries)
  pub semis : T (is_sorted bytes_cmp all.semis)

pub sorted-with_declarations : (ds : Declarations) (all : Draft) → IsSortedDraft all → IsSortedDraft (with_declarations all ds)
sorted-with_declarations ds all s = record {
  rows = subst (λ es. T (is_sorted bytes_cmp es)) (sym (rows-all ds all))
      (is_sorted-puts bytes_cmp bytes_total tied_names (flat_map row_part ds) all.rows s.rows);
  rhs_values = subst (λ es. T (is_sorted bytes_cmp es)) (sym (rhs_values-all ds all))
      (is_sorted-puts bytes_cmp bytes_total tied_names (flat_map rhs_part ds) all.rhs_values s.rhs_values);
  ranges = subst (λ es. T (is_sorted bytes_cmp es)) (sym (ranges-all ds all))
      (is_sorted-puts bytes_cmp bytes_total tied_names (flat_map range_part ds) all.ranges s.ranges);
  columns = subst (λ es. T (is_sorted bytes_cmp es)) (sym (columns-all ds all))
      (is_sorted-puts bytes_cmp bytes_total tied_names (flat_map column_part ds) all.columns s.columns);
  coefficients = subst (λ es. T (is_sorted key_cmp es)) (sym (coefficients-all ds all))
      (is_sorted-puts key_cmp key_total_sorted same_key (flat_map coefficient_part ds) all.coefficients s.coefficients);
  lowers = subst (λ es. T (is_sorted bytes_cmp es)) (sym (lowers-all ds all))
      (is_sorted-puts bytes_cmp bytes_total tied_names (flat_map lower_part ds) all.lowers s.lowers);
  uppers = subst (λ es. T (is_sorted bytes_cmp es)) (sym (uppers-all ds all))
      (is_sorted-puts bytes_cmp bytes_total tied_names (flat_map upper_part ds) all.uppers s.uppers);
  marked = subst (λ es. T (is_sorted bytes_cmp es)) (sym (marked-all ds all))
      (is_sorted-puts bytes_cmp bytes_total tied_names (flat_map marked_part ds) all.marked s.marked);
  integers = subst (λ es. T (is_sorted bytes_cmp es)) (sym (integers-all ds all))
      (is_sorted-puts bytes_cmp bytes_total tied_names (flat_map integer_part ds) all.integers s.integers);
  binaries = subst (λ es. T (is_sorted bytes_cmp es)) (sym (binaries-all ds all))
      (is_sorted-puts bytes_cmp bytes_total tied_names (flat_map binary_part ds) all.binaries s.binaries);
  semis = subst (λ es. T (is_sorted bytes_cmp es)) (sym (semis-all ds all))
      (is_sorted-puts bytes_cmp bytes_total tied_names (flat_map semi_part ds) all.semis s.semis);
}

pub sorted-draft_of : (ds : Declarations) → IsSortedDraft (draft_of ds)
sorted-draft_of ds = sorted-with_declarations ds _ _

pub sorted-from_made : (all : Draft) → IsMade all → IsSortedDraft all
sorted-from_made all made = subst IsSortedDraft (sym made.draft) (sorted-draft_of made.declarations)

-- ---- what a well-formed row or column implies for its name and its limits, and names that differ

pub row_named : (row : List ℕ × Row) → is_sound_row row ≡ true → is_mps_name row.0 ≡ true
row_named = grind arith

pub row_sides : (row : List ℕ × Row) → is_sound_row row ≡ true → are_sides row.1.lower row.1.upper ≡ true
row_sides row h =
    first_so _ _ (second_so (is_mps_name row.0) (are_sides row.1.lower row.1.upper && has_bounded_distance row.1.lower
    row.1.upper) h)

pub row_distance : (row : List ℕ × Row) → is_sound_row row ≡ true → has_bounded_distance row.1.lower row.1.upper ≡ true
row_distance row h = grind arith

pub column_named : (column : List ℕ × Column) → is_sound_column column ≡ true → is_mps_name column.0 ≡ true
column_named = grind arith

pub column_sides : (column : List ℕ × Column) → is_sound_column column ≡ true → are_sides column.1.lower column.1.upper ≡ true
column_sides column h = first_so _ _
    (second_so (is_mps_name column.0) (are_sides column.1.lower column.1.upper && suits column.1.kind
    column.1.lower column.1.upper) h)

pub column_suited : (column : List ℕ × Column) → is_sound_column column ≡ true →
    suits column.1.kind column.1.lower column.1.upper ≡ true
column_suited column h = second_so _ _
    (second_so (is_mps_name column.0) (are_sides column.1.lower column.1.upper && suits column.1.kind
    column.1.lower column.1.upper) h)

pub lower_of : (l u : Limit) → are_sides l u ≡ true → is_lower_side l ≡ true
lower_of = grind arith

pub upper_of : (l u : Limit) → are_sides l u ≡ true → is_upper_side u ≡ true
upper_of = grind arith

pub straight_of : (l u : Limit) → are_sides l u ≡ true → is_at_most l u ≡ true
straight_of = grind arith

pub no_marker : (name : List ℕ) → is_mps_name name ≡ true → same_bytes name marker ≡ false
no_marker = grind arith

pub bounded_so : (d : Number) → is_bounded_decimal d ≡ true → IsDecimal d
bounded_so = grind arith

pub bounded_finite : (d : Number) → is_bounded_decimal d ≡ true → limit_of d ≡ Finite d
bounded_finite = grind arith

-- ---- names that differ

no_truth : false ≡ true → ⊥
no_truth e = cc

pub differs : (x y : List ℕ) → is_lt (bytes_cmp x y) ≡ true → same_bytes y x ≡ false
differs = grind (arith, no_truth, same_name, bytes_total)

pub later_differ : {X : Type 0} (x : List ℕ) (es : List (List ℕ × X)) → below_all bytes_cmp x es ≡ true
    → Each (λ e. same_bytes e.0 x ≡ false) es
later_differ x [] h = tt
later_differ x (e ∷ es) h = (
  differs x e.0 (first_so (is_lt (bytes_cmp x e.0)) (below_all bytes_cmp x es) h),
  later_differ x es (second_so (is_lt (bytes_cmp x e.0)) (below_all bytes_cmp x es) h),
)
