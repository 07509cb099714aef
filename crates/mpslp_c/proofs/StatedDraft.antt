-- What the arrays of a model declare, item by item: a list that depends only on the model. The maps of its draft are those of the model.
use Rattle.std.proofs.Common.{rules, ◌≡◌, refl, sym, ap, ◌∙◌, subst, ℕ, ◌+◌, List, [], ◌∷◌, length, map, Bool, true, false, cond, filter}
use Rattle.std.proofs.Common.{arith, zero-add, not, Result, Ok, Err, ◌*◌, ◌^◌, ◌++◌}
use Rattle.std.proofs.lemmas.{List.{take_all, append-nil, Sums.sum_by-cons, Concat.flat_map_single}, Grind.flat_map-append}
use Rattle.std.specs.Prelude.{sum_by, ◌&&◌, ◌||◌, ℤ, pos, negsuc, ◌-ℤ◌, unsigned_abs, int_le, if◌then◌else◌, Option, Some, None, is_some}
use Rattle.std.specs.{Prelude.unwrap_or, List.{list_all, flat_map}, Ordering.is_lt, Cmp.{first_so, second_so, Lexicographic.bytes_decides}}
use Rattle.std.specs.FinMap.{is_sorted, find, Entries.below_all}
use Rattle.mpslp_decimal.specs.Decimal.{Number, IsDecimal, is_zero, normal, has_few_digits, has_small_exponent, zero_number}
use Rattle.mpslp_decimal.{specs.Literal.to_signed, proofs.{NormalLemmas.normal-tens, NumberTextLemmas.{signed-size, nonzero-ends, zero-is}}}
use Rattle.mpslp_types.specs.{Name.{same_bytes, bytes_cmp, is_one_of, is_mps_name}, Limit.{is_given, is_lower_side, is_upper_side}}
use Rattle.mpslp_types.specs.declared.{faults.FaultKind.{FaultKind, TheVariants.{TooManyDigits, ExponentRange}}, kinds.Limit.Limit}
use Rattle.mpslp_types.specs.declared.kinds.{Kind.{Kind, TheVariants.{Continuous, Integer, Semi}}, Sense.{Sense, TheVariants.Minimize}}
use Rattle.mpslp_types.proofs.{BoolLemmas.{true_from, T_from, both_so}, EachLemmas.{Each, Each-both, Each-map, Each-all, Each-weaker}}
use Rattle.mpslp_types.proofs.EachLemmas.{Each-append, Each-filter, Each-flat_map, Each-from_list_all, list_all-from_Each}
use Rattle.mpslp_model_core.specs.Model.{LinearModel, CoefficientKey, IsSound, is_sound_coefficient, Row, Column, key_cmp, is_sound_column}
use Rattle.mpslp_model_core.specs.Views.{column_names, num_columns, num_elements, is_element, column_elements, coefficient_at}
use Rattle.mpslp_model_core.{specs.Limits.has_infinite_rhs, proofs.CellLemmas.{bytes_total, key_total, same_key, tied_names, puts}}
use Rattle.mpslp_model_core.proofs.CellLemmas.{finds_own, find-front, some_cons, some_append_left, some_append_right}
use Rattle.mpslp_builder.proofs.DraftEntries.{bounded_so, bounded_finite, row_part, rhs_part, column_part, coefficient_part, lower_part}
use Rattle.mpslp_builder.proofs.DraftEntries.{upper_part, marked_part, integer_part, binary_part, semi_part, rows-all, rhs_values-all}
use Rattle.mpslp_builder.proofs.DraftEntries.{columns-all, coefficients-all, lowers-all, uppers-all, marked-all, integers-all, binaries-all}
use Rattle.mpslp_builder.proofs.{DraftEntries.semis-all, BoundsLemmas.{is_integer_kind, is_semi_kind, column_of-is}}
use Rattle.mpslp_builder.proofs.SlotLemmas.{flat_map-flat_map, flat_map-none, flat-same, Stays, stays-all, value_in, itself_named}
use Rattle.mpslp_builder.proofs.{SlotLemmas.same_name, EntryLemmas.{then_stated, stated, all_stated, puts-own, puts-kept, find-stated}}
use Rattle.mpslp_builder.proofs.EntryLemmas.{found-each, sorted-stated, model-back, columns-back, no-negative_upper, binary-within, named}
use Rattle.mpslp_builder.proofs.{EntryLemmas.own-found, MeaningFromNoFault.sorted-mapped}
use Rattle.mpslp_builder.specs.Declaration.{RowDefinition, by_limits, Declaration, declare_row, declare_column, declare_coefficient}
use Rattle.mpslp_builder.specs.Declaration.{declare_lower, declare_upper, declare_integer, declare_semi, Draft, empty_draft, draft_of}
use Rattle.mpslp_builder.specs.Declaration.{at_name, names_in, is_integer, is_semi, declare_sense, declare_objective, declare_constant}
use Rattle.mpslp_builder.specs.{Declaration.Declarations, Meaning.{column_of, constant_of, row_limits, row_entry, row_passes, DraftMeans}}
use Rattle.mpslp_c.specs.Arrays.{column_len, elements_before, RepresentsNumber, RepresentsLimit, RepresentsName}
use Rattle.mpslp_c.specs.Stored.{given_number, decimal_given, number_given, limit_given, name_given}
use Rattle.mpslp_c.specs.declared.{numbers.MpslpNumber.MpslpNumber, arrays.MpslpName.MpslpName}
use Rattle.std.specs.FinMap as maps

-- ---- each nonzero is in one column: the columns of a well-formed model together have all of them

-- ---- sums

sum-nothing : {X : Type 0} (xs : List X) → sum_by (λ (x : X). 0) xs ≡ 0
sum-nothing [] = refl
sum-nothing {X} (x ∷ xs) = omega (arith, sum_by-cons (λ (y : X). 0) x xs, sum-nothing xs)

sum-both : {X : Type 0} (f g : X → ℕ) (xs : List X) → sum_by (λ x. f x + g x) xs ≡ sum_by f xs + sum_by g xs
sum-both f g [] = refl
sum-both {X} f g (x ∷ xs) = omega
    (arith, sum_by-cons (λ (y : X). f y + g y) x xs, sum_by-cons f x xs, sum_by-cons g x xs, sum-both f g xs)

-- ---- a name occurs once among the keys of a map

not_same : (n c : List ℕ) → is_lt (bytes_cmp c n) ≡ true → same_bytes n c ≡ false
not_same n c below = search (rules, bytes_total)

is_name : List ℕ → List ℕ → ℕ
is_name c n = cond (same_bytes n c) 1 0

none_above : {X : Type 0} (c : List ℕ) (es : List (List ℕ × X)) → below_all bytes_cmp c es ≡ true →
    sum_by (is_name c) (map (λ e. e.0) es) ≡ 0
unfolding is_name
none_above c [] h = refl
none_above {X} c (e ∷ es) h = grind
    (arith, not_same, sum_by-cons, none_above c es (second_so (is_lt (bytes_cmp c e.0)) (below_all bytes_cmp c es) h))

one_of_rest : (c n : List ℕ) (names : List (List ℕ)) → same_bytes n c ≡ false → is_one_of (n ∷ names) c ≡ true →
    is_one_of names c ≡ true
one_of_rest c n names other among =
    elim (same_bytes c n) as (λ b. same_bytes c n ≡ b → (b || is_one_of names c) ≡ true → is_one_of names c ≡ true) [
      | false ↦ λ _ rest. rest
      | true ↦ λ is _.
          let turned : same_bytes n c ≡ true = (bytes_decides n c).1 (sym ((bytes_decides c n).0 is)) in
          absurd cc
    ] refl among

once : {X : Type 0} (c : List ℕ) (es : List (List ℕ × X)) → is_sorted bytes_cmp es ≡ true → is_one_of (map (λ e. e.0) es) c ≡ true
    → sum_by (is_name c) (map (λ e. e.0) es) ≡ 1
unfolding is_name
once c [] sorted among = absurd cc
once {X} c (e ∷ es) sorted among =
    let names = map (λ (d : List ℕ × X). d.0) es in
    let above = first_so (below_all bytes_cmp e.0 es) (is_sorted bytes_cmp es) sorted in
    let rest = second_so (below_all bytes_cmp e.0 es) (is_sorted bytes_cmp es) sorted in
    sum_by-cons (is_name c) e.0 names
    ∙ elim (same_bytes e.0 c) as (λ b. same_bytes e.0 c ≡ b → cond b 1 0 + sum_by (is_name c) names ≡ 1) [
      | true ↦ λ is. ap (λ (n : ℕ). 1 + n)
          (none_above c es (subst (λ (k : List ℕ). below_all bytes_cmp k es ≡ true) ((bytes_decides e.0 c).0 is) above))
      | false ↦ λ other. zero-add (sum_by (is_name c) names) ∙ once c es rest (one_of_rest c e.0 names other among)
    ] refl

-- ---- the coefficients of all columns

one_more : {X : Type 0} (p : X → Bool) (x : X) (xs : List X) → length (filter p (x ∷ xs)) ≡ cond (p x) 1 0 + length (filter p xs)
one_more = grind arith

module _ {X : Type 0} (columns : List (List ℕ × X)) (sorted : is_sorted bytes_cmp columns ≡ true)
    (is_row ok : CoefficientKey × Number → Bool) (known : (e : CoefficientKey × Number) → ok e ≡ true →
    is_one_of (map (λ c. c.0) columns) e.0.column ≡ true) where
  abbrev names : List (List ℕ)
  names = map (λ c. c.0) columns

  abbrev within : List ℕ → CoefficientKey × Number → Bool
  within n e = is_row e && same_bytes n e.0.column

  in_one : (e : CoefficientKey × Number) → ok e ≡ true → sum_by (λ n. cond (within n e) 1 0) names ≡ cond (is_row e) 1 0
  unfolding is_name
  in_one e is_ok =
      elim (is_row e) as (λ b. sum_by (λ n. cond (b && same_bytes n e.0.column) 1 0) names ≡ cond b 1 0) [
        | true ↦ once e.0.column columns sorted (known e is_ok)
        | false ↦ sum-nothing names
      ]

  in_all : (es : List (CoefficientKey × Number)) → list_all ok es ≡ true
      → sum_by (λ n. length (filter (within n) es)) names ≡ length (filter is_row es)
  in_all [] h = sum-nothing names
  in_all (e ∷ es) h = (λ i. sum_by (λ n. one_more (within n) e es i) names)
      ∙ sum-both (λ n. cond (within n e) 1 0) (λ n. length (filter (within n) es)) names ∙ (λ i. in_one e
      (first_so (ok e) (list_all ok es) h) i + in_all es (second_so (ok e) (list_all ok es) h) i) ∙ sym (one_more is_row e es)

known_column : (m : LinearModel) (e : CoefficientKey × Number) → is_sound_coefficient m e ≡ true →
    is_one_of (column_names m) e.0.column ≡ true
known_column = grind arith

pub all_counted : (m : LinearModel) → IsSound m → elements_before m (num_columns m) ≡ num_elements m
all_counted m sound = ap (sum_by (column_len m)) (take_all (num_columns m) (column_names m) (omega arith))
    ∙ in_all (maps.entries m.columns) (true_from (is_sorted bytes_cmp (maps.entries m.columns)) (maps.entries_sorted m.columns))
    (is_element m) (is_sound_coefficient m) (known_column m) (maps.entries m.coefficients) sound.coefficients

-- ---- the numbers, limits and names in the arrays of a well-formed model are given back unchanged

-- ---- numbers

no_more : (m : ℕ) → m ≡ m * 10 ^ 0
no_more = grind arith

same_exponent : (e : ℤ) → e ≡ e -ℤ pos 0
same_exponent = grind arith

-- a decimal is its own normal form
normal-own : (d : Number) → IsDecimal d → normal d ≡ d
normal-own d ok = by (is_zero d) refl
  where
    minus : Bool
    minus = int_le d.mantissa (negsuc 0)

    size : ℕ
    size = unsigned_abs d.mantissa

    by : (b : Bool) → is_zero d ≡ b → normal d ≡ d
    by true z = grind (arith, zero-is)
    by false z = (λ i. normal (record {
      mantissa = (sym (signed-size d.mantissa) ∙ ap (to_signed minus) (no_more size)) i;
      exponent =
          same_exponent d.exponent i;
    })) ∙ normal-tens minus size 0 d.exponent (nonzero-ends d ok z) (omega arith)
        ∙ (λ i. record { mantissa = signed-size d.mantissa i; exponent = d.exponent })

abbrev tested : Number → Result Number FaultKind
tested value = if not (has_few_digits value) then Err TooManyDigits
    else (if not (has_small_exponent value) then Err ExponentRange else Ok value)

decimal-own : (d : Number) → IsDecimal d → decimal_given d ≡ Ok d
decimal-own = grind (arith, normal-own)

decimal-stated : (d : Number) (in_c : MpslpNumber) → IsDecimal d → RepresentsNumber d in_c →
    decimal_given (given_number in_c) ≡ Ok d
decimal-stated = grind (arith, decimal-own)

pub number-stated : (d : Number) (in_c : MpslpNumber) → IsDecimal d → RepresentsNumber d in_c → number_given in_c ≡ Ok d
number-stated = grind (arith, decimal-stated)

-- ---- limits and bounds

pub limit-stated : (limit : Limit) (in_c : MpslpNumber) → is_given limit ≡ true → RepresentsLimit limit in_c →
    limit_given in_c ≡ Ok limit
limit-stated = grind (arith, decimal-stated, bounded_so, bounded_finite)

pub lower-given : (limit : Limit) → is_lower_side limit ≡ true → is_given limit ≡ true
lower-given = grind arith

pub upper-given : (limit : Limit) → is_upper_side limit ≡ true → is_given limit ≡ true
upper-given = grind arith

-- ---- names

pub name-stated : (all name : List ℕ) (in_c : MpslpName) → is_mps_name name ≡ true → RepresentsName all name in_c →
    name_given all in_c ≡ Ok name
name-stated = grind arith

-- ---- what the arrays of a model declare, item by item: a list that depends only on the model. The maps of its draft
-- are those of the model

abbrev pub objective_stated : LinearModel → Declarations
objective_stated m = declare_objective m.objective ∷ declare_constant m.constant ∷ declare_sense m.sense ∷ []

abbrev pub row_stated : List ℕ × Row → Declaration
row_stated row = declare_row row.0 (by_limits row.1.lower row.1.upper)

abbrev pub kind_stated : List ℕ → Kind → Declarations
kind_stated name Continuous = []
kind_stated name Integer = declare_integer name ∷ []
kind_stated name Semi = declare_semi name ∷ []

abbrev pub cost_key : LinearModel → List ℕ → CoefficientKey
cost_key m column = record { row = m.objective; column = column }

abbrev pub cost_at : LinearModel → List ℕ → Number
cost_at m column = coefficient_at m m.objective column

abbrev pub head_stated : LinearModel → List ℕ × Column → Declarations
head_stated m column = declare_column column.0 ∷ declare_lower column.0 column.1.lower ∷ declare_upper column.0 column.1.upper
    ∷ declare_coefficient (cost_key m column.0) (cost_at m column.0) ∷ kind_stated column.0 column.1.kind

abbrev pub cell_stated : CoefficientKey × Number → Declaration
cell_stated cell = declare_coefficient cell.0 cell.1

abbrev pub column_stated : LinearModel → List ℕ × Column → Declarations
column_stated m column = head_stated m column ++ map cell_stated (column_elements m column.0)

abbrev pub stated_declarations : LinearModel → Declarations
stated_declarations m = objective_stated m ++ (map row_stated (maps.entries m.rows) ++ flat_map (column_stated m)
    (maps.entries m.columns))

-- ---- what a kind of declaration puts into a map

module _ {Y : Type 0} (part : Declaration → List Y) where
  mapped : {X : Type 0} (f : X → Declaration) (own : X → List Y) → ((x : X) → part (f x) ≡ own x) → (xs : List X)
      → flat_map part (map f xs) ≡ flat_map own xs
  mapped f own h [] = refl
  mapped f own h (x ∷ xs) = grind (arith, mapped f own h xs)

  kinds-none : ((x : List ℕ) → part (declare_integer x) ≡ []) → ((x : List ℕ) → part (declare_semi x) ≡ []) →
      (name : List ℕ) (kind : Kind) → flat_map part (kind_stated name kind) ≡ []
  kinds-none = grind arith

  -- cells put nothing into it
  head-only : ((key : CoefficientKey) (value : Number) → part (declare_coefficient key value) ≡ [])
      → (m : LinearModel) (column : List ℕ × Column) →
      flat_map part (column_stated m column) ≡ flat_map part (head_stated m column)
  head-only none m column = let cells = column_elements m column.0 in
      flat_map-append part (head_stated m column) (map cell_stated cells)
      ∙ ap (λ (ys : List Y). flat_map part (head_stated m column) ++ ys)
      (mapped cell_stated (λ _. []) (λ cell. none cell.0 cell.1) cells ∙ flat_map-none cells)
      ∙ append-nil (flat_map part (head_stated m column))

  -- by rows and columns
  parts : (m : LinearModel) (row : List ℕ × Row → List Y) (column : List ℕ × Column → List Y) →
      flat_map part (objective_stated m) ≡ [] → ((r : List ℕ × Row) → part (row_stated r) ≡ row r) →
      ((c : List ℕ × Column) → flat_map part (column_stated m c) ≡ column c) →
      flat_map part (stated_declarations m) ≡ flat_map row (maps.entries m.rows) ++ flat_map column
      (maps.entries m.columns)
  parts m row column front of_row of_column = let rows = maps.entries m.rows in
      let columns = maps.entries m.columns in
      flat_map-append part (objective_stated m) (map row_stated rows ++ flat_map (column_stated m) columns)
      ∙ (λ i. front i ++ flat_map part (map row_stated rows ++ flat_map (column_stated m) columns))
      ∙ flat_map-append part (map row_stated rows) (flat_map (column_stated m) columns)
      ∙ (λ i. mapped row_stated row of_row rows i ++ (flat_map-flat_map part (column_stated m) columns
      ∙ flat-same (λ c. flat_map part (column_stated m c)) column of_column columns) i)

  column-parts : (m : LinearModel) (column : List ℕ × Column → List Y) → flat_map part (objective_stated m) ≡ []
      → ((r : List ℕ × Row) → part (row_stated r) ≡ []) → ((c : List ℕ × Column) → flat_map part (column_stated m c) ≡ column c)
      → flat_map part (stated_declarations m) ≡ flat_map column (maps.entries m.columns)
  column-parts m column front of_row of_column = parts m (λ _. []) column front of_row of_column
      ∙ ap (λ (ys : List Y). ys ++ flat_map column (maps.entries m.columns)) (flat_map-none (maps.entries m.rows))

  no-parts : (m : LinearModel) → flat_map part (objective_stated m) ≡ [] → ((r : List ℕ × Row) → part (row_stated r) ≡ [])
      → ((c : List ℕ × Column) → flat_map part (column_stated m c) ≡ []) → flat_map part (stated_declarations m) ≡ []
  no-parts m front of_row of_column = column-parts m (λ _. []) front of_row of_column ∙ flat_map-none (maps.entries m.columns)

-- ---- the maps of the draft

abbrev own_form : List ℕ × Row → List ℕ × RowDefinition
own_form row = (row.0, by_limits row.1.lower row.1.upper)

abbrev pub drafted : LinearModel → Draft
drafted m = draft_of (stated_declarations m)

abbrev integer_by : Column → Option (Unit {0})
integer_by column = by column.kind
  where
    by : Kind → Option (Unit {0})
    by Continuous = None
    by Integer = Some tt
    by Semi = None

abbrev semi_by : Column → Option (Unit {0})
semi_by column = by column.kind
  where
    by : Kind → Option (Unit {0})
    by Continuous = None
    by Integer = None
    by Semi = Some tt

module _ (m : LinearModel) where
  abbrev rows : List (List ℕ × Row)
  rows = maps.entries m.rows

  abbrev columns : List (List ℕ × Column)
  columns = maps.entries m.columns

  abbrev cells : List (CoefficientKey × Number)
  cells = maps.entries m.coefficients

  rows_sorted : is_sorted bytes_cmp rows ≡ true
  rows_sorted = true_from (is_sorted bytes_cmp rows) (maps.entries_sorted m.rows)

  columns_sorted : is_sorted bytes_cmp columns ≡ true
  columns_sorted = true_from (is_sorted bytes_cmp columns) (maps.entries_sorted m.columns)

  cells_sorted : is_sorted key_cmp cells ≡ true
  cells_sorted = true_from (is_sorted key_cmp cells) (maps.entries_sorted m.coefficients)

  -- entries that columns make
  by-columns : {V : Type 0} (f : Column → Option V) (es : List (List ℕ × V)) → es ≡ all_stated f columns →
      puts bytes_cmp es [] ≡ all_stated f columns
  by-columns = grind (arith, puts, puts-own, bytes_total, tied_names, all_stated, sorted-stated, columns_sorted)

  pub rows-drafted : (drafted m).rows ≡ map own_form rows
  rows-drafted = rows-all (stated_declarations m) empty_draft
      ∙ ap (λ (es : List (List ℕ × RowDefinition)). puts bytes_cmp es [])
      (parts row_part m (λ row. own_form row ∷ []) (λ _. []) refl (λ _. refl)
      (λ c. head-only row_part (λ _ _. refl) m c ∙ kinds-none row_part (λ _. refl) (λ _. refl) c.0 c.1.kind)
      ∙ (λ i. flat_map_single own_form rows i ++ flat_map-none columns i) ∙ append-nil (map own_form rows))
      ∙ puts-own bytes_cmp bytes_total tied_names (map own_form rows)
      (sorted-mapped (λ row. by_limits row.1.lower row.1.upper) rows ∙ rows_sorted)

  lowers-drafted : (drafted m).lowers ≡ all_stated (λ column. Some column.lower) columns
  lowers-drafted = lowers-all (stated_declarations m) empty_draft
      ∙ by-columns (λ column. Some column.lower) (flat_map lower_part (stated_declarations m))
      (column-parts lower_part m (λ column. stated column.0 (Some column.1.lower)) refl (λ _. refl)
      (λ c. head-only lower_part (λ _ _. refl) m c ∙ ap (λ (es : List (List ℕ × Limit)). (c.0, c.1.lower) ∷ es)
      (kinds-none lower_part (λ _. refl) (λ _. refl) c.0 c.1.kind)))

  uppers-drafted : (drafted m).uppers ≡ all_stated (λ column. Some column.upper) columns
  uppers-drafted = uppers-all (stated_declarations m) empty_draft
      ∙ by-columns (λ column. Some column.upper) (flat_map upper_part (stated_declarations m))
      (column-parts upper_part m (λ column. stated column.0 (Some column.1.upper)) refl (λ _. refl)
      (λ c. head-only upper_part (λ _ _. refl) m c ∙ ap (λ (es : List (List ℕ × Limit)). (c.0, c.1.upper) ∷ es)
      (kinds-none upper_part (λ _. refl) (λ _. refl) c.0 c.1.kind)))

  integers-drafted : (drafted m).integers ≡ all_stated integer_by columns
  integers-drafted = integers-all (stated_declarations m) empty_draft ∙ by-columns integer_by
      (flat_map integer_part (stated_declarations m))
      (column-parts integer_part m (λ column. stated column.0 (integer_by column.1)) refl (λ _. refl)
      (λ c. head-only integer_part (λ _ _. refl) m c ∙ of_kind c.0 c.1.lower c.1.upper c.1.kind))
    where
      of_kind : (name : List ℕ) (l u : Limit) (kind : Kind)
          → flat_map integer_part (kind_stated name kind) ≡ stated name
          (integer_by (record { kind = kind; lower = l; upper = u }))
      of_kind = grind arith

  semis-drafted : (drafted m).semis ≡ all_stated semi_by columns
  semis-drafted = semis-all (stated_declarations m) empty_draft ∙ by-columns semi_by (flat_map semi_part (stated_declarations m))
      (column-parts semi_part m (λ column. stated column.0 (semi_by column.1)) refl (λ _. refl)
      (λ c. head-only semi_part (λ _ _. refl) m c ∙ of_kind c.0 c.1.lower c.1.upper c.1.kind))
    where
      of_kind : (name : List ℕ) (l u : Limit) (kind : Kind)
          → flat_map semi_part (kind_stated name kind) ≡ stated name (semi_by (record { kind = kind; lower = l; upper = u }))
      of_kind = grind arith

  pub columns-drafted : (drafted m).columns ≡ map named columns
  columns-drafted = columns-all (stated_declarations m) empty_draft
      ∙ by-columns (λ _. Some tt) (flat_map column_part (stated_declarations m))
      (column-parts column_part m (λ column. stated column.0 (Some tt)) refl (λ _. refl)
      (λ c. head-only column_part (λ _ _. refl) m c ∙ ap (λ (es : List (List ℕ × Unit {0})). (c.0, tt) ∷ es)
      (kinds-none column_part (λ _. refl) (λ _. refl) c.0 c.1.kind))) ∙ flat_map_single named columns

  pub rhs_values-none : (drafted m).rhs_values ≡ []
  rhs_values-none = rhs_values-all (stated_declarations m) empty_draft
      ∙ ap (λ (es : List (List ℕ × Number)). puts bytes_cmp es [])
      (no-parts rhs_part m refl (λ _. refl) (λ c. head-only rhs_part (λ _ _. refl) m c
      ∙ kinds-none rhs_part (λ _. refl) (λ _. refl) c.0 c.1.kind))

  marked-none : (drafted m).marked ≡ []
  marked-none = marked-all (stated_declarations m) empty_draft ∙ ap (λ (es : List (List ℕ × Unit {0})). puts bytes_cmp es [])
      (no-parts marked_part m refl (λ _. refl) (λ c. head-only marked_part (λ _ _. refl) m c
      ∙ kinds-none marked_part (λ _. refl) (λ _. refl) c.0 c.1.kind))

  pub binaries-none : (drafted m).binaries ≡ []
  binaries-none = binaries-all (stated_declarations m) empty_draft ∙ ap (λ (es : List (List ℕ × Unit {0})). puts bytes_cmp es [])
      (no-parts binary_part m refl (λ _. refl) (λ c. head-only binary_part (λ _ _. refl) m c
      ∙ kinds-none binary_part (λ _. refl) (λ _. refl) c.0 c.1.kind))

  -- ---- what is found of a column

  abbrev pub IsOwn : List ℕ × Column → Type 0
  IsOwn column = at_name columns column.0 ≡ Some column.1

  pub own-columns : Each IsOwn columns
  own-columns = own-found columns columns_sorted

  found : {V : Type 0} (f : Column → Option V) (es : List (List ℕ × V)) → es ≡ all_stated f columns → (column : List ℕ × Column)
      → IsOwn column → at_name es column.0 ≡ f column.1
  found = grind (arith, find-stated, bytes_total, tied_names, columns_sorted, then_stated)

  integer-by : (kind : Kind) (l u : Limit) →
      is_some (integer_by (record { kind = kind; lower = l; upper = u })) ≡ is_integer_kind kind
  integer-by = grind arith

  semi-by : (kind : Kind) (l u : Limit) → is_some (semi_by (record { kind = kind; lower = l; upper = u })) ≡ is_semi_kind kind
  semi-by = grind arith

  or_none : (b : Bool) → (false || (b || false)) ≡ b
  or_none = grind arith

  pub integer-at : (column : List ℕ × Column) → IsOwn column → is_integer (drafted m) column.0 ≡ is_integer_kind column.1.kind
  integer-at = grind (arith, marked-none, found, integers-drafted, binaries-none, or_none, integer-by)

  pub semi-at : (column : List ℕ × Column) → IsOwn column → is_semi (drafted m) column.0 ≡ is_semi_kind column.1.kind
  semi-at = grind (arith, found, semis-drafted, semi-by)

  -- each column has its type and its bounds
  column-back : (column : List ℕ × Column) → IsOwn column → column_of (drafted m) column.0 ≡ column.1
  column-back = grind (arith, column_of-is, integer-at, semi-at, found, lowers-drafted, uppers-drafted)

  pub each-back : Each (λ column. column_of (drafted m) column.0 ≡ column.1) columns
  each-back = Each-weaker IsOwn (λ column. column_of (drafted m) column.0 ≡ column.1) column-back columns own-columns

  -- ---- rows

  pub rows-back : map (row_entry (drafted m)) (drafted m).rows ≡ rows
  rows-back = ap (map (row_entry (drafted m))) rows-drafted ∙ back rows
    where
      back : (rs : List (List ℕ × Row)) → map (row_entry (drafted m)) (map own_form rs) ≡ rs
      back [] = refl
      back (row ∷ rs) = grind (arith, back rs)

  each-form : (p : List ℕ × RowDefinition → Bool) → ((row : List ℕ × Row) → p (own_form row) ≡ true) →
      list_all p (drafted m).rows ≡ true
  each-form p h = ap (list_all p) rows-drafted ∙ list_all-from_Each p (map own_form rows)
      (Each-map (λ row. p row ≡ true) own_form rows (Each-all (λ row. p (own_form row) ≡ true) h rows))

  -- ---- the coefficients

  abbrev own_cells : List ℕ × Column → List (CoefficientKey × Number)
  own_cells column = (cost_key m column.0, cost_at m column.0) ∷ column_elements m column.0

  cells-part : flat_map coefficient_part (stated_declarations m) ≡ flat_map own_cells columns
  cells-part = column-parts coefficient_part m own_cells refl (λ _. refl) (λ c. flat_map-append coefficient_part (head_stated m c)
      (map cell_stated (column_elements m c.0)) ∙ (λ i. (cost_key m c.0, cost_at m c.0)
      ∷ (kinds-none coefficient_part (λ _. refl) (λ _. refl) c.0 c.1.kind i ++ own (column_elements m c.0) i)))
    where
      own : (es : List (CoefficientKey × Number)) → flat_map coefficient_part (map cell_stated es) ≡ es
      own [] = refl
      own (e ∷ es) = grind (arith, own es)

  abbrev is_kept : Number → Bool
  is_kept value = not (is_zero value)

  abbrev IsTrueCell : CoefficientKey × Number → Type 0
  IsTrueCell cell = find key_cmp cell.0 cells ≡ cond (is_kept cell.1) (Some cell.1) None

  module _ (sound : IsSound m) where
    sound-cells : Each (λ cell. is_sound_coefficient m cell ≡ true) cells
    sound-cells = Each-from_list_all (is_sound_coefficient m) cells sound.coefficients

    sound-at : (key : CoefficientKey) (value : Number) → find key_cmp key cells ≡ Some value →
        is_sound_coefficient m (key, value) ≡ true
    sound-at key value is = found-each key_cmp key_total same_key (λ k v. is_sound_coefficient m (k, v) ≡ true) cells
        sound-cells key value is

    kept-of : (cell : CoefficientKey × Number) → is_sound_coefficient m cell ≡ true → is_kept cell.1 ≡ true
    kept-of = grind arith

    cost-true : (column : List ℕ) → IsTrueCell (cost_key m column, cost_at m column)
    cost-true column = by (find key_cmp (cost_key m column) cells) refl
      where
        by : (o : Option Number) → find key_cmp (cost_key m column) cells ≡ o
            → o ≡ cond (is_kept (unwrap_or o zero_number)) (Some (unwrap_or o zero_number)) None
        by None is = refl
        by (Some value) is =
            sym (ap (λ (b : Bool). cond b (Some value) None)
            (kept-of (cost_key m column, value) (sound-at (cost_key m column) value is)))

    cells-true : Each IsTrueCell cells
    cells-true = Each-both (λ cell. find key_cmp cell.0 cells ≡ Some cell.1)
        (λ cell. is_sound_coefficient m cell ≡ true) IsTrueCell
        (λ cell is fine. is ∙ sym (ap (λ (b : Bool). cond b (Some cell.1) None) (kept-of cell fine))) cells
        (finds_own key_cmp key_total same_key cells (T_from (is_sorted key_cmp cells) cells_sorted)) sound-cells

    all-true : Each IsTrueCell (flat_map own_cells columns)
    all-true = Each-flat_map IsTrueCell own_cells columns (Each-all (λ column. Each IsTrueCell (own_cells column))
        (λ column. (
          cost-true column.0,
          Each-filter IsTrueCell (λ e. is_element m e && same_bytes column.0 e.0.column)
              cells (Each-weaker IsTrueCell (λ e. (is_element m e && same_bytes column.0 e.0.column) ≡ true →
              IsTrueCell e) (λ e is _. is) cells cells-true),
        )) columns)

    -- each coefficient is declared

    abbrev IsAmong : CoefficientKey → List (CoefficientKey × Number) → Type 0
    IsAmong key es = is_some (find key_cmp key es) ≡ true

    -- an entry that passes is among those that do
    among-passing : (p : CoefficientKey × Number → Bool) (es : List (CoefficientKey × Number)) →
        Each (λ e. p e ≡ true → IsAmong e.0 (filter p es)) es
    among-passing p [] = tt
    among-passing p (e ∷ es) =
        elim (p e) as (λ b. p e ≡ b → Each (λ d. p d ≡ true → IsAmong d.0 (cond b (e ∷ filter p es) (filter p es))) (e ∷ es)) [
          | true ↦ λ _. (
            λ _. find-front key_cmp key_total same_key e.0 e.1 (filter p es),
            Each-weaker (λ d. p d ≡ true → IsAmong d.0 (filter p es)) (λ d. p d ≡ true → IsAmong d.0 (e ∷ filter p es))
                (λ d h passes. some_cons key_cmp key_total same_key d.0 e.0 e.1 (filter p es) (h passes)) es (among-passing p es),
          )
          | false ↦ λ is. (λ passes. absurd (never (sym is ∙ passes)), among-passing p es)
        ] refl
      where
        never : false ≡ true → ⊥
        never h = cc

    among-columns : (key : CoefficientKey) (cs : List (List ℕ × Column)) → is_one_of (names_in cs) key.column ≡ true
        → ((c : List ℕ × Column) → key.column ≡ c.0 → IsAmong key (own_cells c)) → IsAmong key (flat_map own_cells cs)
    among-columns key [] h own = grind arith
    among-columns key (c ∷ cs) h own =
        elim (same_bytes key.column c.0) as (λ b. same_bytes key.column c.0 ≡ b → (b || is_one_of (names_in cs) key.column) ≡ true
        → IsAmong key (own_cells c ++ flat_map own_cells cs)) [
          | true ↦ λ is _. some_append_left key_cmp key_total same_key key (own_cells c) (flat_map own_cells cs)
              (own c (same_name key.column c.0 is))
          | false ↦ λ _ later. some_append_right key_cmp key_total same_key key (own_cells c) (flat_map own_cells cs)
              (among-columns key cs later own)
        ] refl h

    cell-among : (cell : CoefficientKey × Number) → ((c : List ℕ × Column) → cell.0.column ≡ c.0 → is_element m cell ≡ true
        → IsAmong cell.0 (column_elements m c.0)) → is_sound_coefficient m cell ≡ true →
        IsAmong cell.0 (flat_map own_cells columns)
    cell-among = search (rules, among-columns, named, same_name, find-front, key_total, same_key, some_cons)

    each-for : {X C : Type 0} (P : C → X → Type 0) (xs : List X) → ((c : C) → Each (P c) xs) → Each (λ x. (c : C) → P c x) xs
    each-for P [] h = tt
    each-for P (x ∷ xs) h = grind (arith, each-for P xs (λ c. (h c).1))

    each-among : Each (λ cell. IsAmong cell.0 (flat_map own_cells columns)) cells
    each-among = Each-both (λ cell. (c : List ℕ × Column) → (is_element m cell && same_bytes c.0 cell.0.column) ≡ true
        → IsAmong cell.0 (column_elements m c.0)) (λ cell. is_sound_coefficient m cell ≡ true)
        (λ cell. IsAmong cell.0 (flat_map own_cells columns)) (λ cell passing fine. cell-among cell (λ c named element. passing c
        (both_so (is_element m cell) (same_bytes c.0 cell.0.column) element
        (ap (same_bytes c.0) named ∙ itself_named c.0))) fine) cells
        (each-for (λ (c : List ℕ × Column) (cell : CoefficientKey × Number).
        (is_element m cell && same_bytes c.0 cell.0.column) ≡ true →
        IsAmong cell.0 (column_elements m c.0)) cells
        (λ c. among-passing (λ e. is_element m e && same_bytes c.0 e.0.column) cells)) sound-cells

    -- The coefficients that are declared, without zeros, are those of the model.
    coefficients-kept : filter (λ entry. not (is_zero entry.1)) (drafted m).coefficients ≡ cells
    coefficients-kept = ap (filter (λ (entry : CoefficientKey × Number). not (is_zero entry.1)))
        (coefficients-all (stated_declarations m) empty_draft
        ∙ ap (λ (es : List (CoefficientKey × Number)). puts key_cmp es []) cells-part) ∙ puts-kept key_cmp key_total same_key
        is_kept cells (flat_map own_cells columns) cells_sorted all-true (λ key some. let there =
        value_in (find key_cmp key cells) some in
        found-each key_cmp key_total same_key (λ k v. IsAmong k (flat_map own_cells columns)) cells each-among key
        there.0 there.1)

  -- ---- the objective

  -- a property of what is declared of rows and columns
  each-later : (P : Declaration → Type 0) → ((x : List ℕ) (form : RowDefinition) → P (declare_row x form)) → ((x : List ℕ)
      → P (declare_column x)) → ((x : List ℕ) (l : Limit) → P (declare_lower x l)) →
      ((x : List ℕ) (l : Limit) → P (declare_upper x l)) →
      ((key : CoefficientKey) (v : Number) → P (declare_coefficient key v)) → ((x : List ℕ) → P (declare_integer x))
      → ((x : List ℕ) → P (declare_semi x)) → Each P (map row_stated rows ++ flat_map (column_stated m) columns)
  each-later P row column lower upper cell whole semi =
      Each-append P (map row_stated rows) (flat_map (column_stated m) columns)
      (Each-map P row_stated rows (Each-all (λ r. P (row_stated r)) (λ r. row r.0 (by_limits r.1.lower r.1.upper)) rows))
      (Each-flat_map P (column_stated m) columns (Each-all (λ c. Each P (column_stated m c)) (λ c. (
        column c.0,
        (
          lower c.0 c.1.lower,
          (
            upper c.0 c.1.upper,
            (
              cell (cost_key m c.0) (cost_at m c.0),
              Each-append P (kind_stated c.0 c.1.kind) (map cell_stated (column_elements m c.0)) (kinds c.0 c.1.kind)
                  (Each-map P cell_stated (column_elements m c.0)
                  (Each-all (λ e. P (cell_stated e)) (λ e. cell e.0 e.1) (column_elements m c.0))),
            ),
          ),
        ),
      )) columns))
    where
      kinds : (name : List ℕ) (kind : Kind) → Each P (kind_stated name kind)
      kinds = grind arith

  stays : {X : Type 0} (part : Draft → X) (value : X) →
      ((x : List ℕ) (form : RowDefinition) → Stays part value (declare_row x form)) →
      ((x : List ℕ) → Stays part value (declare_column x)) → ((x : List ℕ) (l : Limit) → Stays part value (declare_lower x l))
      → ((x : List ℕ) (l : Limit) → Stays part value (declare_upper x l)) → ((key : CoefficientKey) (v : Number)
      → Stays part value (declare_coefficient key v)) → ((x : List ℕ) → Stays part value (declare_integer x))
      → ((x : List ℕ) → Stays part value (declare_semi x)) → part (draft_of (objective_stated m)) ≡ value →
      part (drafted m) ≡ value
  stays part value row column lower upper cell whole semi is =
      stays-all part value (map row_stated rows ++ flat_map (column_stated m) columns)
      (each-later (Stays part value) row column lower upper cell whole semi) (draft_of (objective_stated m)) is

  pub sense-drafted : (drafted m).sense ≡ Some m.sense
  sense-drafted = stays (λ all. all.sense) (Some m.sense) (λ _ _ _ h. h) (λ _ _ h. h) (λ _ _ _ h. h) (λ _ _ _ h. h)
      (λ _ _ _ h. h) (λ _ _ h. h) (λ _ _ h. h) refl

  pub objective-drafted : (drafted m).objective ≡ Some m.objective
  objective-drafted = stays (λ all. all.objective) (Some m.objective) (λ _ _ _ h. h) (λ _ _ h. h) (λ _ _ _ h. h) (λ _ _ _ h. h)
      (λ _ _ _ h. h) (λ _ _ h. h) (λ _ _ h. h) refl

  constant-drafted : (drafted m).constant ≡ Some m.constant
  constant-drafted = stays (λ all. all.constant) (Some m.constant) (λ _ _ _ h. h) (λ _ _ h. h) (λ _ _ _ h. h)
      (λ _ _ _ h. h) (λ _ _ _ h. h) (λ _ _ h. h) (λ _ _ h. h) refl

  -- The draft means the model.
  pub draft-means : IsSound m → DraftMeans (drafted m) m
  draft-means sound =
      let fine = Each-from_list_all is_sound_column columns sound.columns in
      record {
        finite_rhs_values = each-form (λ row. not (row_passes (drafted m) has_infinite_rhs row)) (λ _. refl);
        exact_limits = each-form (λ row. is_some (row_limits (drafted m) row)) (λ _. refl);
        model = model-back (drafted m) m (record {
          sense = ap (λ (o : Option Sense). unwrap_or o Minimize) sense-drafted;
          objective = ap (λ (o : Option (List ℕ)). unwrap_or o []) objective-drafted;
          constant = constant-back;
          rows = rows-back;
          columns = columns-back (drafted m) columns columns-drafted each-back;
          coefficients = coefficients-kept sound;
        });
        sound = sound;
        no_negative_upper = no-negative_upper (drafted m) columns columns-drafted each-back fine;
        binary_within = binary-within (drafted m) columns columns-drafted each-back binaries-none;
      }
    where
      constant-back : constant_of (drafted m) ≡ m.constant
      constant-back = grind (arith, constant-drafted)
