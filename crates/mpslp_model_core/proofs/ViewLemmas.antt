-- The results of a model's accessors, from its parts: columns, rows, nonzeros and names.
use Rattle.std.proofs.Common.{◌≡◌, refl, ℕ, zero, suc, ◌+◌, ◌≤◌, ◌<◌, ◌-◌, List, [], ◌∷◌, length, take, drop, true, arith, sym, ap, ◌∙◌}
use Rattle.std.proofs.Common.{Bool, false, cond, not, filter, ◌++◌, rules, map, add-one}
use Rattle.std.proofs.lemmas.List.{take_all, length-map, length-append, drop_all, drop_more, append-nil, append_assoc, length_push}
use Rattle.std.proofs.lemmas.List.{take-append-drop, take_at, drop_at, drop-drop, get_or_append_left, get_or_push}
use Rattle.std.proofs.lemmas.{Bool.{lt-ltb, cases_lt}, Option.{slice_get-map, slice_get_within, get_or_from_slice_get, slice_get-get_or}}
use Rattle.std.specs.Prelude.{Some, None, slice_get, get_or, Option, ◌&&◌, is_some, position, unwrap_or}
use Rattle.std.specs.Ordering.{is_lt, nat_cmp, is_eq, eq_by_cmp, ordering_then, MatchOrdering}
use Rattle.std.specs.Cmp.{first_so, second_so, IsTotalOrder, ranks, Lexicographic.{bytes_decides, nat_list_eq_equiv}}
use Rattle.std.specs.FinMap.{find, is_sorted, Entries.{below_all, same_entries, is_sorted-where_key, find-where_key}}
use Rattle.std.specs.{declared.cmp.Ordering.{Ordering, TheVariants.{Less, Equal, Greater}}, List.{list_all, position_or_len, All}}
use Rattle.std.specs.Option.{option_map, option_map_or}
use Rattle.mpslp_decimal.specs.Decimal.{Number, zero_number}
use Rattle.mpslp_types.{specs.Name.{same_bytes, bytes_cmp, is_one_of}, proofs.BoolLemmas.{both_so, T_from}}
use Rattle.mpslp_model_core.specs.{Columned.{row_cells, count_row_cells}, Model.{CoefficientKey, key_cmp, Column, Row, LinearModel}}
use Rattle.mpslp_model_core.specs.Numbered.{sorted_of, column_cells, all_cells, IsInjective, IsOnce, each_part, name_of, IsOnceBy}
use Rattle.mpslp_model_core.specs.Views.{num_rows, row_name, row_index, column_names, column_name, coefficient_at, num_elements}
use Rattle.mpslp_model_core.specs.Views.{column_elements, numbered_elements, row_columns, row_elements, row_names}
use Rattle.mpslp_model_core.specs.Iterators.{entry_of_cell, IsOfRow, AreCounted}
use Rattle.mpslp_model_core.specs.ModelParts.{linear_model, AreModelParts, bounds_in, cells_in, columns_in, cells_by_name, name_of_row_key}
use Rattle.mpslp_model_core.specs.{ModelColumns.ModelColumn, declared.{model.ModelParts.ModelParts, row_names.RowNames.RowNames}}
use Rattle.mpslp_model_core.specs.RowNames.{joined_names, name_in, AreNames}
use Rattle.mpslp_model_core.proofs.CellLemmas.{equal_from, same_key, bytes_total, key_total, tied_names, find-sorted_of}
use Rattle.mpslp_model_core.proofs.CellLemmas.{is_sorted-sorted_of, at, or_else, find-two, find-other_column, name_same, find-all_cells}
use Rattle.std.specs.FinMap as maps

-- ---- the coefficients of a column by row number: the first is the objective's, or the objective has none

pub is_below : (n m : ℕ) → is_lt (nat_cmp n m) ≡ true → n < m
is_below = grind arith

-- coefficients above a number are those of rows
pub all_above : (n : ℕ) (es : List (ℕ × Number)) → below_all nat_cmp n es ≡ true → row_cells es ≡ es
all_above n [] h = refl
all_above n ((zero, x) ∷ es) h = grind arith
all_above n ((suc m, x) ∷ es) h = grind (arith, all_above n es)

row_first : (m : ℕ) (x : Number) (es : List (ℕ × Number)) → find nat_cmp 0 ((suc m, x) ∷ es) ≡ find nat_cmp 0 es
row_first = grind arith

none_above : (n : ℕ) (es : List (ℕ × Number)) → below_all nat_cmp n es ≡ true → find nat_cmp 0 es ≡ None
none_above n [] h = refl
none_above n ((zero, x) ∷ es) h = grind arith
none_above n ((suc m, x) ∷ es) h = grind (arith, none_above n es)

-- without the first, if that is the objective's
pub rest_after_first : (cells : List (ℕ × Number)) (first : ℕ × Number) → is_sorted nat_cmp cells ≡ true → 1 ≤ length cells
    → first ≡ get_or cells 0 first → first.0 ≡ 0 → take (length cells - 1) (drop 1 cells) ≡ row_cells cells
rest_after_first = grind (arith, take_all, all_above, first_so)

-- all, if the first is that of a row
pub all_rows : (cells : List (ℕ × Number)) (first : ℕ × Number) → is_sorted nat_cmp cells ≡ true → 1 ≤ length cells
    → first ≡ get_or cells 0 first → (first.0 ≡ 0 → ⊥) → cells ≡ row_cells cells
all_rows [] first h some is other = refl
all_rows ((zero, x) ∷ es) first h some is other = grind arith
all_rows ((suc m, x) ∷ es) first h some is other = grind (arith, all_above, first_so)

-- the objective has no coefficient if the first is that of a row
pub none_first : (cells : List (ℕ × Number)) (first : ℕ × Number) → is_sorted nat_cmp cells ≡ true → 1 ≤ length cells
    → first ≡ get_or cells 0 first → (first.0 ≡ 0 → ⊥) → find nat_cmp 0 cells ≡ None
none_first [] first h some is other = refl
none_first ((zero, x) ∷ es) first h some is other = grind arith
none_first ((suc m, x) ∷ es) first h some is other = grind (arith, row_first, none_above, first_so)

-- the coefficient of a row has a number above 0
pub above_zero : (cells : List (ℕ × Number)) (k : ℕ) (e : ℕ × Number) → slice_get (row_cells cells) k ≡ Some e → 0 < e.0
above_zero [] k e at = absurd cc
above_zero ((zero, x) ∷ es) k e at = above_zero es k e at
above_zero ((suc n, x) ∷ es) zero e at = grind arith
above_zero ((suc n, x) ∷ es) (suc k) e at = above_zero es k e at

-- numbers above another one ascend, so each exceeds that by its index
above_by_index : (n : ℕ) (cells : List (ℕ × Number)) (m : ℕ) (d : ℕ × Number) → below_all nat_cmp n cells ≡ true
    → is_sorted nat_cmp cells ≡ true → m < length cells → n + m < (get_or cells m d).0
above_by_index n [] m d above h below = grind arith
above_by_index n (c ∷ cells) zero d above h below = grind arith
above_by_index n (c ∷ cells) (suc m) d above h below = grind (arith, above_by_index c.0 cells m d)

-- a coefficient's number is at least its index
pub index_within : (cells : List (ℕ × Number)) (m : ℕ) (d : ℕ × Number) → is_sorted nat_cmp cells ≡ true →
    m < length cells → m ≤ (get_or cells m d).0
index_within [] m d h below = absurd (omega arith)
index_within (c ∷ cells) zero d h below = omega arith
index_within (c ∷ cells) (suc m) d h below = let later = above_by_index c.0 cells m d (first_so (below_all nat_cmp c.0 cells)
    (is_sorted nat_cmp cells) h) (second_so (below_all nat_cmp c.0 cells) (is_sorted nat_cmp cells) h) (omega arith) in
    omega arith

-- ---- the nonzeros of a column of a model are its cells in the order of row numbers, without that of the objective

-- whether a place is that of a nonzero of a column
abbrev pub is_element_of : List ℕ → List ℕ → CoefficientKey → Bool
is_element_of objective column place = not (same_bytes objective place.row) && same_bytes column place.column

-- rows are numbered in the order of their names
abbrev pub RiseByName : (ℕ → Option (List ℕ)) → Type 0
RiseByName name = (n m : ℕ) (r s : List ℕ) → name (suc n) ≡ Some r → name (suc m) ≡ Some s →
    is_lt (nat_cmp (suc n) (suc m)) ≡ true → bytes_cmp r s ≡ Less

then_less : (a b : Ordering) → is_eq a ≡ true → b ≡ Less → is_lt (ordering_then a b) ≡ true
then_less = grind arith

module _ (name : ℕ → Option (List ℕ)) (apart : IsInjective name) (rise : RiseByName name) (c : List ℕ) where
  below_cells : (n : ℕ) (r : List ℕ) (es : List (ℕ × Number)) → name (suc n) ≡ Some r → below_all nat_cmp (suc n) es ≡ true
      → below_all key_cmp (at r c) (column_cells name c (row_cells es)) ≡ true
  below_cells n r [] p h = refl
  below_cells n r ((zero, x) ∷ es) p h = grind (arith, below_cells n r es p)
  below_cells n r ((suc m, x) ∷ es) p h =
      grind (arith, below_cells n r es p, second_so, at, both_so, then_less, bytes_total, first_so)

  pub sorted_cells : (es : List (ℕ × Number)) → is_sorted nat_cmp es ≡ true →
      is_sorted key_cmp (column_cells name c (row_cells es)) ≡ true
  sorted_cells [] h = refl
  sorted_cells ((zero, x) ∷ es) h = grind (arith, sorted_cells es)
  sorted_cells ((suc m, x) ∷ es) h = grind (arith, sorted_cells es, second_so, at, both_so, below_cells, first_so)

  module _ (objective : List ℕ) (named : name zero ≡ Some objective) where
    -- the place of the objective is not that of a nonzero
    no_element : (q : CoefficientKey) → eq_by_cmp key_cmp q (at objective c) ≡ true → is_element_of objective c q ≡ false
    no_element q tie =
        grind (
          arith,
          same_key q (at objective c) (equal_from (key_cmp q (at objective c)) tie),
          at objective c,
          equal_from (key_cmp q (at objective c)) tie,
          nat_list_eq_equiv.refl objective,
        )

    -- the place of a row is
    an_element : (q : CoefficientKey) (m : ℕ) (s : List ℕ) → name (suc m) ≡ Some s → eq_by_cmp key_cmp q (at s c) ≡ true
        → is_element_of objective c q ≡ true
    an_element q m s p tie =
        let same : q ≡ at s c = same_key q (at s c) (equal_from (key_cmp q (at s c)) tie) in
        let own : same_bytes c c ≡ true = nat_list_eq_equiv.refl c in
        let other : same_bytes objective s ≡ false =
        elim (same_bytes objective s) as (λ b. same_bytes objective s ≡ b → b ≡ false) [
          | true ↦ λ t.
              let e : objective ≡ s = (bytes_decides objective s).0 t in
              let no : zero ≡ suc m = apart zero (suc m) s (named ∙ ap Some e) p in
              cc
          | false ↦ λ _. refl
        ] refl in
        ap (is_element_of objective c) same ∙ (λ i. not (other i) && own i)

    pub find-row_cells : (q : CoefficientKey) (es : List (ℕ × Number)) → find key_cmp q (column_cells name c (row_cells es))
        ≡ cond (is_element_of objective c q) (find key_cmp q (column_cells name c es)) None
    find-row_cells q [] = grind arith
    find-row_cells q ((zero, x) ∷ es) = grind (arith, find-row_cells q es, no_element q)
    find-row_cells q ((suc m, x) ∷ es) = grind (arith, find-row_cells q es, at, an_element)

    or_nothing : (o : Option Number) → or_else o None ≡ o
    or_nothing = grind arith

    -- a column that is not found has no cells
    none_later : (q : CoefficientKey) (cols : List (List ℕ × List (ℕ × Number))) → find bytes_cmp q.column cols ≡ None
        → find key_cmp q (all_cells name cols) ≡ None
    none_later q [] h = refl
    none_later q (col ∷ cols) h = grind (arith, none_later q cols, find-two, or_else, find-other_column)

    -- among all cells, those of the column are found
    find-in_column : (q : CoefficientKey) (es : List (ℕ × Number)) (cols : List (List ℕ × List (ℕ × Number))) →
        same_bytes c q.column ≡ true → IsOnce cols → find bytes_cmp c cols ≡ Some es →
        find key_cmp q (all_cells name cols) ≡ find key_cmp q (column_cells name c es)
    find-in_column q es [] own once is = cc
    find-in_column q es (col ∷ cols) own once is =
        let same : q.column ≡ c = sym ((bytes_decides c q.column).0 own) in
        find-two key_cmp q (column_cells name col.0 col.1) (all_cells name cols)
        ∙ elim (eq_by_cmp bytes_cmp c col.0) as (λ b. eq_by_cmp bytes_cmp c col.0 ≡ b
        → cond b (Some col.1) (find bytes_cmp c cols) ≡ Some es
        → or_else (find key_cmp q (column_cells name col.0 col.1)) (find key_cmp q (all_cells name cols))
        ≡ find key_cmp q (column_cells name c es)) [
          | true ↦ λ tie here.
              let names : c ≡ col.0 = tied_names c col.0 (equal_from (bytes_cmp c col.0) tie) in
              let cells : ◌≡◌ {A = List (ℕ × Number)} col.1 es = cc in
              let none = none_later q cols (ap (λ (n : List ℕ). find bytes_cmp n cols) (same ∙ names) ∙ once.0) in
              ap (or_else (find key_cmp q (column_cells name col.0 col.1))) none
              ∙ or_nothing (find key_cmp q (column_cells name col.0 col.1))
              ∙ (λ i. find key_cmp q (column_cells name (sym names i) (cells i)))
          | false ↦ λ differ later.
              ap (λ (o : Option Number). or_else o (find key_cmp q (all_cells name cols)))
              (find-other_column name apart q col.0 col.1 (ap (λ (n : List ℕ). eq_by_cmp bytes_cmp n col.0) same ∙ differ))
              ∙ find-in_column q es cols own once.1 later
        ] refl is

    -- the nonzeros of the column are its cells of rows, in the order of their numbers
    pub elements_are_cells : (es : List (ℕ × Number)) (cols : List (List ℕ × List (ℕ × Number))) → IsOnce cols
        → find bytes_cmp c cols ≡ Some es → is_sorted nat_cmp es ≡ true
        → filter (λ e. is_element_of objective c e.0) (sorted_of key_cmp (all_cells name cols)) ≡ column_cells name c
        (row_cells es)
    elements_are_cells es cols once is sorted =
        let all = sorted_of key_cmp (all_cells name cols) in
        same_entries key_cmp key_total same_key (filter (λ e. is_element_of objective c e.0) all)
        (column_cells name c (row_cells es))
        (is_sorted-where_key key_cmp (is_element_of objective c) all
        (is_sorted-sorted_of key_cmp key_total (all_cells name cols)))
        (T_from (is_sorted key_cmp (column_cells name c (row_cells es))) (sorted_cells es sorted))
        (λ q.
        find-where_key key_cmp (is_element_of objective c) q
        (λ x tie. ap (is_element_of objective c) (sym (same_key q x tie))) all
        ∙ ap (λ (o : Option Number). cond (is_element_of objective c q) o None)
        (find-sorted_of key_cmp key_total q (all_cells name cols)) ∙ elim (is_element_of objective c q) as
        (λ b. is_element_of objective c q ≡ b →
        cond b (find key_cmp q (all_cells name cols)) None ≡ cond b
        (find key_cmp q (column_cells name c es)) None) [
          | true ↦ λ in'. find-in_column q es cols (second_so (not (same_bytes objective q.row)) (same_bytes c q.column)
              in') once is
          | false ↦ λ _. refl
        ] refl
        ∙ sym (find-row_cells q es))

-- ---- the coefficients of rows in all columns are the cells of all columns without number 0

-- each column with its coefficients of rows
abbrev pub rows_only : List (List ℕ × List (ℕ × Number)) → List (List ℕ × List (ℕ × Number))
rows_only [] = []
rows_only (col ∷ cols) = (col.0, row_cells col.1) ∷ rows_only cols

-- ---- concatenated sorted lists

module _ {K X : Type 0} (R : K → K → Ordering) where
  below_all-append : (k : K) (xs ys : List (K × X)) → below_all R k xs ≡ true → below_all R k ys ≡ true →
      below_all R k (xs ++ ys) ≡ true
  below_all-append k [] ys g h = h
  below_all-append k (x ∷ xs) ys g h = grind (arith, below_all-append k xs ys)

  is_sorted-append : (xs ys : List (K × X)) → is_sorted R xs ≡ true → is_sorted R ys ≡ true →
      list_all (λ x. below_all R x.0 ys) xs ≡ true → is_sorted R (xs ++ ys) ≡ true
  is_sorted-append [] ys g h all = h
  is_sorted-append (x ∷ xs) ys g h all = grind (arith, is_sorted-append xs ys, second_so, both_so, below_all-append, first_so)

and_true : (t : Bool) → (t && true) ≡ t
and_true = grind arith

both_none : {X : Type 0} (t : Bool) → ◌≡◌ {A = Option X} (cond t None None) None
both_none = grind arith

joined : {X : Type 0} (t : Bool) (a b : Option X) → or_else (cond t a None) (cond t b None) ≡ cond t (or_else a b) None
joined = grind arith

module _ (name : ℕ → Option (List ℕ)) where
  -- cells of a later column are above
  below_column : (r c d : List ℕ) (es : List (ℕ × Number)) → is_lt (bytes_cmp c d) ≡ true →
      below_all key_cmp (at r c) (column_cells name d es) ≡ true
  below_column r c d [] h = refl
  below_column r c d (e ∷ es) h = grind (arith, below_column r c d es h)

  below_columns : (r c : List ℕ) (cols : List (List ℕ × List (ℕ × Number))) → below_all bytes_cmp c cols ≡ true
      → below_all key_cmp (at r c) (all_cells name (rows_only cols)) ≡ true
  below_columns r c [] h = refl
  below_columns r c (col ∷ cols) h =
      grind (arith, below_columns r c cols, second_so, below_all-append, at, below_column, first_so)

  each_below : (c : List ℕ) (es : List (ℕ × Number)) (cols : List (List ℕ × List (ℕ × Number))) →
      below_all bytes_cmp c cols ≡ true →
      list_all (λ x. below_all key_cmp x.0 (all_cells name (rows_only cols))) (column_cells name c es) ≡ true
  each_below c [] cols h = refl
  each_below c (e ∷ es) cols h = grind (arith, each_below c es cols h, at, both_so, below_columns)

  module _ (apart : IsInjective name) (rise : RiseByName name) where
    sorted_all : (cols : List (List ℕ × List (ℕ × Number))) → is_sorted bytes_cmp cols ≡ true
        → list_all (λ c. is_sorted nat_cmp c.1) cols ≡ true → is_sorted key_cmp (all_cells name (rows_only cols)) ≡ true
    sorted_all [] g h = refl
    sorted_all (col ∷ cols) g h = is_sorted-append key_cmp (column_cells name col.0 (row_cells col.1))
        (all_cells name (rows_only cols))
        (sorted_cells name apart rise col.0 col.1
        (first_so (is_sorted nat_cmp col.1) (list_all (λ c. is_sorted nat_cmp c.1) cols) h))
        (sorted_all cols (second_so (below_all bytes_cmp col.0 cols) (is_sorted bytes_cmp cols) g)
        (second_so (is_sorted nat_cmp col.1) (list_all (λ c. is_sorted nat_cmp c.1) cols) h))
        (each_below col.0 (row_cells col.1) cols (first_so (below_all bytes_cmp col.0 cols) (is_sorted bytes_cmp cols) g))

    module _ (objective : List ℕ) (named : name zero ≡ Some objective) where
      -- in one column
      find-of_rows : (q : CoefficientKey) (c : List ℕ) (es : List (ℕ × Number)) →
          find key_cmp q (column_cells name c (row_cells es)) ≡ cond (not (same_bytes objective q.row))
          (find key_cmp q (column_cells name c es)) None
      find-of_rows q c es =
          let row = not (same_bytes objective q.row) in
          find-row_cells name apart rise c objective named q es
          ∙ elim (same_bytes c q.column) as (λ b. same_bytes c q.column ≡ b
          → cond (row && b) (find key_cmp q (column_cells name c es)) None ≡ cond row
          (find key_cmp q (column_cells name c es)) None) [
            | true ↦ λ _. ap (λ (t : Bool). cond t (find key_cmp q (column_cells name c es)) None) (and_true row)
            | false ↦ λ other.
                let none : find key_cmp q (column_cells name c es) ≡ None =
                find-other_column name apart q c es (untied q c other) in
                ap (λ (o : Option Number). cond (row && false) o None) none ∙ both_none (row && false) ∙ sym (both_none row)
                ∙ ap (λ (o : Option Number). cond row o None) (sym none)
          ] refl
        where
          untied : (q : CoefficientKey) (c : List ℕ) → same_bytes c q.column ≡ false → eq_by_cmp bytes_cmp q.column c ≡ false
          untied q c other =
              elim (eq_by_cmp bytes_cmp q.column c) as (λ b. eq_by_cmp bytes_cmp q.column c ≡ b → b ≡ false) [
                | true ↦ λ tie. let no : false ≡ true =
                    sym other ∙ (bytes_decides c q.column).1 (sym (name_same q.column c tie)) in
                    absurd cc
                | false ↦ λ _. refl
              ] refl

      find-all_rows : (q : CoefficientKey) (cols : List (List ℕ × List (ℕ × Number))) →
          find key_cmp q (all_cells name (rows_only cols)) ≡ cond (not (same_bytes objective q.row))
          (find key_cmp q (all_cells name cols)) None
      find-all_rows q [] = grind arith
      find-all_rows q (col ∷ cols) = grind (arith, find-all_rows q cols, find-two, or_else, find-of_rows, joined)

      -- the nonzeros are the cells of rows, column after column
      pub elements_are_rows : (cols : List (List ℕ × List (ℕ × Number))) → is_sorted bytes_cmp cols ≡ true
          → list_all (λ c. is_sorted nat_cmp c.1) cols ≡ true
          → filter (λ e. not (same_bytes objective e.0.row)) (sorted_of key_cmp (all_cells name cols)) ≡ all_cells name
          (rows_only cols)
      elements_are_rows cols g h = let all = sorted_of key_cmp (all_cells name cols) in
          let is_row : CoefficientKey → Bool = λ place. not (same_bytes objective place.row) in
          same_entries key_cmp key_total same_key (filter (λ e. is_row e.0) all) (all_cells name (rows_only cols))
          (is_sorted-where_key key_cmp is_row all (is_sorted-sorted_of key_cmp key_total (all_cells name cols)))
          (T_from (is_sorted key_cmp (all_cells name (rows_only cols))) (sorted_all cols g h))
          (λ q. find-where_key key_cmp is_row q (λ x tie. ap is_row (sym (same_key q x tie))) all
          ∙ ap (λ (o : Option Number). cond (is_row q) o None)
          (find-sorted_of key_cmp key_total q (all_cells name cols)) ∙ sym (find-all_rows q cols))

  -- ---- how many

  -- a coefficient is found for each number that has a name
  pub length-named : (c : List ℕ) (es : List (ℕ × Number)) → list_all (λ e. is_some (name e.0)) es ≡ true →
      length (column_cells name c es) ≡ length es
  length-named c [] h = refl
  length-named c (e ∷ es) h = grind (arith, length-named c es)

  pub rows_named : (es : List (ℕ × Number)) → list_all (λ e. is_some (name e.0)) es ≡ true →
      list_all (λ e. is_some (name e.0)) (row_cells es) ≡ true
  rows_named [] h = refl
  rows_named ((zero, x) ∷ es) h = grind (arith, rows_named es)
  rows_named ((suc n, x) ∷ es) h = grind (arith, rows_named es)

-- ---- rows in the order of their names: their numbers identify them, and are in the same order as the names

less_from : (r : Ordering) → is_lt r ≡ true → r ≡ Less
less_from = grind arith

-- a later entry is above
pub above_at : {X : Type 0} (k : List ℕ) (es : List (List ℕ × X)) (i : ℕ) (e : List ℕ × X) → below_all bytes_cmp k es ≡ true
    → slice_get es i ≡ Some e → bytes_cmp k e.0 ≡ Less
above_at k [] i e h at = cc
above_at {X} k (d ∷ es) zero e h at = grind arith
above_at k (d ∷ es) (suc i) e h at = grind (arith, above_at k es i e)

pub rise : {X : Type 0} (es : List (List ℕ × X)) (i j : ℕ) (e f : List ℕ × X) → is_sorted bytes_cmp es ≡ true →
    slice_get es i ≡ Some e → slice_get es j ≡ Some f → i < j → bytes_cmp e.0 f.0 ≡ Less
rise [] i j e f h at there below = cc
rise (d ∷ es) i zero e f h at there below = absurd (omega arith)
rise {X} (d ∷ es) zero (suc j) e f h at there below = grind (arith, above_at, first_so)
rise (d ∷ es) (suc i) (suc j) e f h at there below = grind (arith, rise es i j e f)

never_below_itself : (a b : List ℕ) → a ≡ b → bytes_cmp a b ≡ Less → ⊥
never_below_itself = grind (arith, bytes_total)

pub apart_names : (a b : List ℕ) → bytes_cmp a b ≡ Less → same_bytes b a ≡ false
apart_names a b less = search (rules, never_below_itself)

-- the entry of a name that is found
pub named_entry : {X : Type 0} (es : List (List ℕ × X)) (i : ℕ) (r : List ℕ)
    → option_map (λ (e : List ℕ × X). e.0) (slice_get es i) ≡ Some r → (e : List ℕ × X) × (slice_get es i ≡ Some e) × (e.0 ≡ r)
named_entry {X} es i r named =
    elim (slice_get es i) as (λ o. option_map (λ (e : List ℕ × X). e.0) o ≡ Some r →
    (e : List ℕ × X) × (o ≡ Some e) × (e.0 ≡ r)) [
      | None ↦ λ no. absurd cc
      | Some e ↦ λ is. (e, refl, cc)
    ] named

-- the name at a number is one of the names
pub is_there : {X : Type 0} (es : List (List ℕ × X)) (i : ℕ) (e : List ℕ × X) → slice_get es i ≡ Some e
    → is_one_of (map (λ (d : List ℕ × X). d.0) es) e.0 ≡ true
is_there [] i e at = absurd cc
is_there {X} (d ∷ es) zero e at = grind (arith, nat_list_eq_equiv)
is_there {X} (d ∷ es) (suc i) e at = grind (arith, is_there es i e at)

module _ {X : Type 0} (objective : List ℕ) (es : List (List ℕ × X)) (sorted : is_sorted bytes_cmp es ≡ true) where
  -- names ascend with their numbers
  pub rise_by_name : RiseByName (name_of (Some objective) es)
  rise_by_name = grind (arith, named_entry, rise, is_below)

  one_number : (n m : ℕ) (r : List ℕ) → name_of (Some objective) es (suc n) ≡ Some r →
      name_of (Some objective) es (suc m) ≡ Some r → n ≡ m
  one_number n m r p q =
      let e = named_entry es n r p in
      let f = named_entry es m r q in
      elim (nat_cmp n m) as (λ o. MatchOrdering o (n < m) (n ≡ m) (m < n) → n ≡ m) [
        | Less ↦ λ below. absurd (never_below_itself e.0.0 f.0.0 (e.2 ∙ sym f.2) (rise es n m e.0 f.0 sorted e.1 f.1 below))
        | Equal ↦ λ same. same
        | Greater ↦ λ above. absurd (never_below_itself f.0.0 e.0.0 (f.2 ∙ sym e.2) (rise es m n f.0 e.0 sorted f.1 e.1 above))
      ] (ranks n m)

  module _ (no_row : is_one_of (map (λ (e : List ℕ × X). e.0) es) objective ≡ false) where
    not_objective : (m : ℕ) (r : List ℕ) → objective ≡ r → name_of (Some objective) es (suc m) ≡ Some r → ⊥
    not_objective = grind (arith, named_entry, is_there)

    -- different numbers are those of different rows
    pub is_injective : IsInjective (name_of (Some objective) es)
    is_injective = grind (arith, not_objective, one_number)

-- ---- parts of sorted entries

module _ {V X : Type 0} (f : V → X) where
  below_all-part : (k : List ℕ) (es : List (List ℕ × V)) → below_all bytes_cmp k (each_part f es) ≡ below_all bytes_cmp k es
  below_all-part k [] = refl
  below_all-part k (e ∷ es) = grind (arith, below_all-part k es)

  pub is_sorted-part : (es : List (List ℕ × V)) → is_sorted bytes_cmp (each_part f es) ≡ is_sorted bytes_cmp es
  is_sorted-part [] = refl
  is_sorted-part (e ∷ es) = grind (arith, is_sorted-part es, below_all-part)

  pub slice_get-part : (es : List (List ℕ × V)) (i : ℕ) →
      slice_get (each_part f es) i ≡ option_map (λ (e : List ℕ × V). (e.0, f e.1)) (slice_get es i)
  slice_get-part [] i = refl
  slice_get-part (e ∷ es) zero = refl
  slice_get-part (e ∷ es) (suc i) = slice_get-part es i

  pub names-part : (es : List (List ℕ × V)) → map (λ (e : List ℕ × X). e.0) (each_part f es) ≡ map (λ (e : List ℕ × V). e.0) es
  names-part [] = refl
  names-part (e ∷ es) = grind (arith, names-part es)

-- a name below all names is not found
none_below : {X : Type 0} (k : List ℕ) (es : List (List ℕ × X)) → below_all bytes_cmp k es ≡ true → find bytes_cmp k es ≡ None
none_below k [] h = refl
none_below k (e ∷ es) h = grind (arith, none_below k es)

-- ascending names are distinct
pub once_sorted : {X : Type 0} (es : List (List ℕ × X)) → is_sorted bytes_cmp es ≡ true → IsOnce es
once_sorted [] h = tt
once_sorted (e ∷ es) h = grind (arith, once_sorted es, second_so, none_below, first_so)

-- the entry at an index is found by its key
pub found_by : {K X : Type 0} (R : K → K → Ordering) → IsTotalOrder R → ((p q : K) → eq_by_cmp R p q ≡ true → p ≡ q)
    → (es : List (K × X)) (i : ℕ) (e : K × X) → IsOnceBy R es → slice_get es i ≡ Some e → find R e.0 es ≡ Some e.1
found_by R total same [] i e once at = absurd cc
found_by {K} {X} R total same (d ∷ es) zero e once at = grind arith
found_by {K} {X} R total same (d ∷ es) (suc i) e once at = grind (arith, found_by R total same es i e once.1 at)

pub found_at : {X : Type 0} (es : List (List ℕ × X)) (i : ℕ) (e : List ℕ × X) → IsOnce es → slice_get es i ≡ Some e →
    find bytes_cmp e.0 es ≡ Some e.1
found_at = grind (arith, found_by, bytes_total, name_same)

-- a property of all entries is one of the entry at a number
pub all_at : {X : Type 0} (p : X → Bool) (es : List X) (i : ℕ) (e : X) → list_all p es ≡ true →
    slice_get es i ≡ Some e → p e ≡ true
all_at p [] i e h at = absurd cc
all_at {X} p (d ∷ es) zero e h at = grind arith
all_at p (d ∷ es) (suc i) e h at = grind (arith, all_at p es i e)

-- ---- the results of a model's accessors, from its parts

pub rows_seen : {m : ModelParts} {v : LinearModel} → linear_model m ≡ v → AreModelParts m → maps.entries v.rows ≡ m.rows.items
rows_seen {m} {v} seen parts = grind (arith, maps.entries-from_sorted bytes_cmp m.rows.items)

pub columns_seen : {m : ModelParts} {v : LinearModel} → linear_model m ≡ v → AreModelParts m →
    maps.entries v.columns ≡ columns_in m
columns_seen {m} {v} seen parts = grind (arith, maps.entries-from_sorted bytes_cmp (columns_in m))

pub coefficients_seen : (m : ModelParts) {v : LinearModel} → linear_model m ≡ v
    → maps.entries v.coefficients ≡ sorted_of key_cmp (all_cells (name_of_row_key m) (cells_by_name m))
coefficients_seen m {v} seen = ap (λ (w : LinearModel). maps.entries w.coefficients) (sym seen)
    ∙ maps.entries-from_sorted key_cmp (sorted_of key_cmp (all_cells (name_of_row_key m) (cells_by_name m)))
    (is_sorted-sorted_of key_cmp key_total (all_cells (name_of_row_key m) (cells_by_name m)))

-- as many names as entries
pub count_seen : {X : Type 0} {es items : List (List ℕ × X)} → es ≡ items → length items ≡ length (map (λ e. e.0) es)
count_seen = grind (arith, length-map)

-- names of columns are those of their entries
pub column_names_seen : {m : ModelParts} {v : LinearModel} → linear_model m ≡ v → AreModelParts m
    → column_names v ≡ map (λ (e : List ℕ × ModelColumn). e.0) m.columns
column_names_seen = grind (arith, columns_seen, names-part)

pub count_columns : {m : ModelParts} {v : LinearModel} → linear_model m ≡ v → AreModelParts m →
    length m.columns ≡ length (column_names v)
count_columns {m} seen parts = grind (arith, column_names_seen seen parts, length-map)

-- the entry of a number, through a function
pub entry_seen : {X Y : Type 0} {es items : List (List ℕ × X)} (f : List ℕ × X → Y) (i : ℕ) {e : List ℕ × X} → es ≡ items
    → slice_get items i ≡ Some e → slice_get (map f es) i ≡ Some (f e)
entry_seen = grind (arith, at, slice_get-map)

-- what is read of a column by its number
pub column_read : {Y : Type 0} {m : ModelParts} {v : LinearModel} (f : List ℕ × Column → Y) (j : ℕ) →
    linear_model m ≡ v → AreModelParts m →
    slice_get (map f (maps.entries v.columns)) j ≡ option_map (λ (e : List ℕ × ModelColumn). f (e.0, e.1.bounds))
    (slice_get m.columns j)
column_read {Y} {m} f j seen parts = grind (arith, columns_seen seen parts, slice_get-map, slice_get-part bounds_in m.columns j)

pub column_seen : {Y : Type 0} {m : ModelParts} {v : LinearModel} (f : List ℕ × Column →
    Y) (j : ℕ) {e : List ℕ × ModelColumn} → linear_model m ≡ v → AreModelParts m → slice_get m.columns j ≡ Some e →
    slice_get (map f (maps.entries v.columns)) j ≡ Some (f (e.0, e.1.bounds))
column_seen f j seen parts at =
    column_read f j seen parts ∙ ap (option_map (λ (e : List ℕ × ModelColumn). f (e.0, e.1.bounds))) at

position_or_len-map : {X Y : Type 0} (p : Y → Bool) (f : X → Y) (xs : List X) →
    position_or_len p (map f xs) ≡ position_or_len (λ x. p (f x)) xs
position_or_len-map p f [] = refl
position_or_len-map p f (x ∷ xs) = grind (arith, position_or_len-map p f xs)

-- the number of a name
pub position-map : {X Y : Type 0} (p : Y → Bool) (f : X → Y) (xs : List X) → position p (map f xs) ≡ position (λ x. p (f x)) xs
position-map = grind (arith, at, position_or_len-map, length-map)

-- the first entry of a name is the only one
number_of_name : {X : Type 0} (es : List (List ℕ × X)) (i : ℕ) (e : List ℕ × X) → is_sorted bytes_cmp es ≡ true →
    slice_get es i ≡ Some e → position_or_len (λ (d : List ℕ × X). same_bytes e.0 d.0) es ≡ i
number_of_name [] i e h at = absurd cc
number_of_name {X} (d ∷ es) zero e h at = grind (arith, nat_list_eq_equiv)
number_of_name {X} (d ∷ es) (suc i) e h at = grind (arith, number_of_name es i e, second_so, at, apart_names, above_at, first_so)

pub number_seen : {m : ModelParts} {v : LinearModel} → linear_model m ≡ v → AreModelParts m → (n : ℕ) (r : List ℕ)
    → name_of_row_key m (suc n) ≡ Some r → row_index v r ≡ Some n
number_seen {m} {v} seen parts n r named = let e = named_entry m.rows.items n r named in
    let first = number_of_name m.rows.items n e.0 parts.rows e.1 in
    grind (arith, rows_seen, position-map, lt-ltb, slice_get_within)

-- the name of the row of a number
pub row_numbered : {m : ModelParts} {v : LinearModel} → linear_model m ≡ v → AreModelParts m → (i : ℕ) → i < num_rows v
    → name_of_row_key m (suc i) ≡ Some (row_name v i)
row_numbered = grind (arith, slice_get-map, rows_seen, slice_get-get_or)

-- a nonzero with the number of its row
abbrev pub numbered_in : LinearModel → CoefficientKey × Number → Option ℕ × Number
numbered_in v coefficient = (row_index v coefficient.0.row, coefficient.1)

-- ---- properties of the parts

module _ (m : ModelParts) (parts : AreModelParts m) where
  pub apart_in : IsInjective (name_of_row_key m)
  apart_in = is_injective m.objective m.rows.items parts.rows (ap (λ (es : List (List ℕ × Row)). is_one_of
      (map (λ (e : List ℕ × Row). e.0) es) m.objective) (sym (rows_seen refl parts)) ∙ parts.sound.objective_is_no_row)

  pub rise_in : RiseByName (name_of_row_key m)
  rise_in = grind (arith, rise_by_name)

  pub columns_rise : is_sorted bytes_cmp m.columns ≡ true
  columns_rise = grind (arith, is_sorted-part)

  pub cells_rise : is_sorted bytes_cmp (cells_by_name m) ≡ true
  cells_rise = grind (arith, is_sorted-part, columns_rise)

  pub once_in : IsOnce (cells_by_name m)
  once_in = once_sorted (cells_by_name m) cells_rise

  -- the coefficients of the column of a number
  pub record AreCellsAt (v : LinearModel) (j : ℕ) (cells : List (ℕ × Number)) : Type 0 where
    pub found : find bytes_cmp (column_name v j) (cells_by_name m) ≡ Some cells
    pub sorted : is_sorted nat_cmp cells ≡ true
    pub named : list_all (λ e. is_some (name_of_row_key m e.0)) cells ≡ true

  pub cells_seen : (v : LinearModel) → linear_model m ≡ v → (j : ℕ) (cells : List (ℕ × Number)) → option_map
      (λ (column : List ℕ × ModelColumn). column.1.cells) (slice_get m.columns j) ≡ Some cells → AreCellsAt v j cells
  cells_seen v seen j cells at =
      elim (slice_get m.columns j) as (λ o. slice_get m.columns j ≡ o
      → option_map (λ (column : List ℕ × ModelColumn). column.1.cells) o ≡ Some cells → AreCellsAt v j cells) [
        | None ↦ λ _ no. absurd cc
        | Some e ↦ λ here is.
            let own_cells : e.1.cells ≡ cells = cc in
            let entry : slice_get (cells_by_name m) j ≡ Some (e.0, cells) = slice_get-part cells_in m.columns j ∙ ap (option_map
            (λ (d : List ℕ × ModelColumn). (d.0, cells_in d.1))) here ∙ ap (λ (es : List (ℕ × Number)). Some (e.0, es))
            own_cells in
            let name : column_name v j
            ≡ e.0 = get_or_from_slice_get (column_names v) j e.0 []
            (column_seen (λ (d : List ℕ × Column). d.0) j seen parts here) in
            record {
              found = ap (λ (n : List ℕ). find bytes_cmp n (cells_by_name m)) name
                  ∙ found_at (cells_by_name m) j (e.0, cells) once_in entry;
              sorted = all_at (λ c. is_sorted nat_cmp c.1) (cells_by_name m) j (e.0, cells) parts.cells entry;
              named = all_at (λ c. list_all (λ d. is_some (name_of_row_key m d.0)) c.1) (cells_by_name m) j (e.0, cells)
                  parts.named entry;
            }
      ] refl at

  -- what is found by the number of a row
  pub found_seen : (v : LinearModel) → linear_model m ≡ v → (j : ℕ) (cells : List (ℕ × Number)) → AreCellsAt v j cells →
      (n : ℕ) (r : List ℕ) → name_of_row_key m n ≡ Some r →
      maps.find key_cmp (at r (column_name v j)) (maps.entries v.coefficients) ≡ find nat_cmp n cells
  found_seen v seen j cells are n r named =
      grind (
        arith,
        coefficients_seen m seen,
        find-sorted_of key_cmp key_total (at r (column_name v j)) (all_cells (name_of_row_key m) (cells_by_name m)),
        at r (column_name v j),
        find-all_cells (name_of_row_key m) apart_in n r (column_name v j) (cells_by_name m) named once_in,
      )

  -- a coefficient by the number of its row
  pub value_seen : (v : LinearModel) → linear_model m ≡ v → (j : ℕ) (cells : List (ℕ × Number)) → AreCellsAt v j cells → (n : ℕ)
      (r : List ℕ) → name_of_row_key m n ≡ Some r →
      unwrap_or (find nat_cmp n cells) zero_number ≡ coefficient_at v r (column_name v j)
  value_seen = grind (arith, found_seen)

  -- the nonzeros of a column
  pub elements_seen : (v : LinearModel) → linear_model m ≡ v → (j : ℕ) (cells : List (ℕ × Number)) → AreCellsAt v j cells
      → column_elements v (column_name v j) ≡ column_cells (name_of_row_key m) (column_name v j) (row_cells cells)
  elements_seen v seen j cells are = let column = column_name v j in
      (λ i. filter (λ (e : CoefficientKey × Number). not
      (same_bytes (sym (ap (λ (w : LinearModel). w.objective) seen) i) e.0.row) && same_bytes column e.0.column)
      (coefficients_seen m seen i)) ∙ elements_are_cells (name_of_row_key m) apart_in rise_in column m.objective
      refl cells (cells_by_name m) once_in are.found are.sorted

  -- each by its number
  numbered : (v : LinearModel) → linear_model m ≡ v → (c : List ℕ) (es : List (ℕ × Number)) (k : ℕ) (e : ℕ × Number)
      → list_all (λ d. is_some (name_of_row_key m d.0)) es ≡ true → slice_get (row_cells es) k ≡ Some e → (n : ℕ) → n + 1 ≡ e.0
      → slice_get (map (numbered_in v) (column_cells (name_of_row_key m) c (row_cells es))) k ≡ Some (Some n, e.1)
  numbered v seen c [] k e named here n is = absurd cc
  numbered v seen c ((zero, x) ∷ es) k e named here n is = numbered v seen c es k e
      (second_so (is_some (name_of_row_key m zero)) (list_all (λ d. is_some (name_of_row_key m d.0)) es) named) here n is
  numbered v seen c ((suc i, x) ∷ es) k e named here n is =
      let cells = column_cells (name_of_row_key m) c (row_cells es) in
      elim (name_of_row_key m (suc i)) as (λ o. name_of_row_key m (suc i) ≡ o → is_some o ≡ true
      → slice_get (map (numbered_in v) (option_map_or (λ row. (at row c, x) ∷ cells) o cells)) k ≡ Some (Some n, e.1)) [
        | None ↦ λ _ no. absurd cc
        | Some r ↦ λ row _.
            elim k as (λ k. slice_get {X = ℕ × Number} ((suc i, x) ∷ row_cells es) k ≡ Some e
            → slice_get (map (numbered_in v) ((at r c, x) ∷ cells)) k ≡ Some (Some n, e.1)) [
              | zero ↦ λ first.
                  let same : ◌≡◌ {A = ℕ × Number} (suc i, x) e = cc in
                  let own_number : i ≡ n = (let one : suc i ≡ e.0 = ap (λ (d : ℕ × Number). d.0) same in omega arith) in
                  (λ t. Some (number_seen seen parts i r row t, (ap (λ (d : ℕ × Number). d.1) same) t))
                  ∙ ap (λ (a : ℕ). Some (Some a, e.1)) own_number
              | suc h ↦ λ later. numbered v seen c es h e
                  (second_so (is_some (name_of_row_key m (suc i))) (list_all (λ d. is_some (name_of_row_key m d.0)) es)
                  named) later n is
            ] here
      ] refl (first_so (is_some (name_of_row_key m (suc i))) (list_all (λ d. is_some (name_of_row_key m d.0)) es) named)

  pub entry_numbered : (v : LinearModel) → linear_model m ≡ v → (j : ℕ) (cells : List (ℕ × Number)) → AreCellsAt v j cells
      → (k : ℕ) (e : ℕ × Number) → slice_get (row_cells cells) k ≡ Some e → (n : ℕ) → n + 1 ≡ e.0
      → slice_get (numbered_elements v (column_name v j)) k ≡ Some (Some n, e.1)
  entry_numbered v seen j cells are k e here n is =
      grind (arith, elements_seen v seen j cells are, numbered v seen (column_name v j) cells k e are.named here n is)

  -- all of them, each with the number of its row
  all_numbered : (v : LinearModel) → linear_model m ≡ v → (c : List ℕ) (es : List (ℕ × Number))
      → list_all (λ d. is_some (name_of_row_key m d.0)) es ≡ true → map (λ (e : ℕ × Number). (Some e.0, e.1))
      (map entry_of_cell (row_cells es)) ≡ map (numbered_in v) (column_cells (name_of_row_key m) c (row_cells es))
  all_numbered v seen c [] named = refl
  all_numbered v seen c ((zero, x) ∷ es) named = grind (arith, all_numbered v seen c es)
  all_numbered v seen c ((suc i, x) ∷ es) named = grind (arith, all_numbered v seen c es, second_so, number_seen)

  pub entries_seen : (v : LinearModel) → linear_model m ≡ v → (j : ℕ) (cells : List (ℕ × Number)) → AreCellsAt v j cells
      → map (λ (e : ℕ × Number). (Some e.0, e.1)) (map entry_of_cell (row_cells cells)) ≡ numbered_elements v (column_name v j)
  entries_seen v seen j cells are = grind (arith, all_numbered, elements_seen v seen j cells are)

  pub length_seen : (v : LinearModel) → linear_model m ≡ v → (j : ℕ) (cells : List (ℕ × Number)) → AreCellsAt v j cells
      → length (row_cells cells) ≡ length (column_elements v (column_name v j))
  length_seen v seen j cells are =
      grind (arith, elements_seen v seen j cells are, length-named, rows_named (name_of_row_key m) cells are.named)

  -- the number of nonzeros in all columns
  count_named : (columns : List (List ℕ × ModelColumn))
      → list_all (λ c. list_all (λ e. is_some (name_of_row_key m e.0)) c.1) (each_part cells_in columns) ≡ true
      → length (all_cells (name_of_row_key m) (rows_only (each_part cells_in columns))) ≡ count_row_cells columns
  count_named [] h = refl
  count_named (c ∷ cs) h = grind (arith, count_named cs, length-append, rows_only, length-named, rows_named, first_so, second_so)

  pub elements_counted : (v : LinearModel) → linear_model m ≡ v → count_row_cells m.columns ≡ num_elements v
  elements_counted v seen =
      sym (
      (λ i. length (filter (λ (e : CoefficientKey × Number). not
      (same_bytes (sym (ap (λ (w : LinearModel). w.objective) seen) i) e.0.row)) (coefficients_seen m seen i)))
      ∙ ap length (elements_are_rows (name_of_row_key m) apart_in rise_in m.objective refl (cells_by_name m) cells_rise
      parts.cells) ∙ count_named m.columns parts.named
      )

-- the coefficients of each column are in the order of their numbers
pub all_sorted : (columns : List (List ℕ × ModelColumn)) →
    list_all (λ c. is_sorted nat_cmp c.1) (each_part cells_in columns) ≡ true →
    list_all (λ (column : List ℕ × ModelColumn). is_sorted nat_cmp column.1.cells) columns ≡ true
all_sorted [] h = refl
all_sorted (c ∷ cs) h = grind (arith, all_sorted cs)

-- ---- what the iterators of a model have left

pub length-part : {X Y : Type 0} (f : X → Y) (es : List (List ℕ × X)) → length (each_part f es) ≡ length es
length-part f [] = refl
length-part f (e ∷ es) = grind (arith, length-part f es)

-- coefficients without the objective's are those of rows
pub all_of_rows : (cells : List (ℕ × Number)) → All IsOfRow (row_cells cells)
all_of_rows = grind (arith, above_zero, slice_get-get_or)

-- ---- the coefficients of a row from a place on

module _ (m : LinearModel) (i : ℕ) where
  -- the one at this place comes before the others
  pub one_first : (k : ℕ) (entry : ℕ × Number) → slice_get (row_columns m (row_name m i)) k ≡ Some entry.0 →
      entry.1 ≡ coefficient_at m (row_name m i) (column_name m entry.0) →
      drop k (row_elements m (row_name m i)) ≡ entry ∷ drop (k + 1) (row_elements m (row_name m i))
  one_first k entry column value =
      grind (
        arith,
        slice_get-map,
        drop_more (row_elements m (row_name m i)) k entry,
        slice_get_within (row_elements m (row_name m i)) k entry,
        get_or_from_slice_get (row_elements m (row_name m i)) k entry entry,
      )

  count_all : {k count : ℕ} → AreCounted m i k count → length (row_elements m (row_name m i)) ≡ count
  count_all = grind (arith, length-map)

  pub none_left : (k count : ℕ) → AreCounted m i k count → k ≡ count → drop k (row_elements m (row_name m i)) ≡ []
  none_left k count counted all = search (rules, drop_all, count_all)

  -- there is another one
  pub one_more : (k count : ℕ) → AreCounted m i k count → (k ≡ count → ⊥) → k < length (row_columns m (row_name m i))
  one_more = grind arith

-- ---- the names of all rows in one text: each is the part from its start to the next one

-- one name more
pub joined_more : (rows : List (List ℕ × Row)) (k : ℕ) (d : List ℕ × Row) → k < length rows
    → joined_names (take (suc k) rows) ≡ joined_names (take k rows) ++ (get_or rows k d).0
joined_more [] k d below = absurd (omega arith)
joined_more (row ∷ rows) zero d below = append-nil row.0
joined_more (row ∷ rows) (suc k) d below = grind (arith, joined_more rows k d, append_assoc)

-- the names so far, with where each starts
pub record AreNamed (rows : List (List ℕ × Row)) (count : ℕ) (text starts : List ℕ) : Type 0 where
  pub joined : text ≡ joined_names (take count rows)
  pub len : length starts ≡ suc count
  pub each : (i : ℕ) → i ≤ count → get_or starts i 0 ≡ length (joined_names (take i rows))

pub named_more : {rows : List (List ℕ × Row)} {count : ℕ} {text starts text_new starts_new : List ℕ} (row : List ℕ × Row)
    → AreNamed rows count text starts → count < length rows → row ≡ get_or rows count row → text_new ≡ text ++ row.0
    → starts_new ≡ starts ++ length text_new ∷ [] → AreNamed rows (count + 1) text_new starts_new
named_more = grind (arith, add-one, length_push, cases_lt, joined_more, get_or_append_left, get_or_push)

joined-append : (rows others : List (List ℕ × Row)) → joined_names (rows ++ others) ≡ joined_names rows ++ joined_names others
joined-append [] others = refl
joined-append (row ∷ rows) others = grind (arith, joined-append rows others, append_assoc)

-- the first names take no more than all
pub joined_within : (rows : List (List ℕ × Row)) (k : ℕ) → length (joined_names (take k rows)) ≤ length (joined_names rows)
joined_within rows k = grind (arith, take-append-drop k rows, joined-append (take k rows) (drop k rows), length-append)

-- the part between the ends of the names before an index and through it
part_of : (rows : List (List ℕ × Row)) (i : ℕ) (d : List ℕ × Row) → i < length rows →
    take (length (joined_names (take (suc i) rows)) - length (joined_names (take i rows)))
    (drop (length (joined_names (take i rows))) (joined_names rows)) ≡ (get_or rows i d).0
part_of [] i d below = absurd (omega arith)
part_of (row ∷ rows) zero d below = grind (arith, append-nil, take_at)
part_of (row ∷ rows) (suc i) d below =
    grind (
      arith,
      part_of rows i d,
      length-append row.0 (joined_names (take i rows)),
      length-append row.0 (joined_names (take (suc i) rows)),
      drop-drop (length (joined_names (take i rows))) (length row.0) (row.0 ++ joined_names rows),
      drop_at,
    )

name_read : (rows : List (List ℕ × Row)) (names : RowNames) → AreNames rows names → (i : ℕ) → i < length rows
    → option_map (λ (row : List ℕ × Row). row.0) (slice_get rows i) ≡ Some (name_in names i)
name_read [] names are i below = absurd (omega arith)
name_read (row ∷ rows) names are i below =
    grind (arith, slice_get-get_or (row ∷ rows) i row below, part_of (row ∷ rows) i row below)

-- what the accessor finds
pub name_seen : {m : ModelParts} {v : LinearModel} (names : RowNames) → linear_model m ≡ v → AreModelParts m →
    AreNames m.rows.items names → (i : ℕ) → i < length m.rows.items → slice_get (row_names v) i ≡ Some (name_in names i)
name_seen {m} {v} names seen parts are i below =
    ap (λ (rows : List (List ℕ × Row)). slice_get (map (λ (row : List ℕ × Row). row.0) rows) i) (rows_seen seen parts)
    ∙ slice_get-map (λ (row : List ℕ × Row). row.0) m.rows.items i ∙ name_read m.rows.items names are i below

pub name_ordered : (rows : List (List ℕ × Row)) {names : RowNames} → AreNames rows names → (i : ℕ) → i < length rows
    → get_or names.starts.items i 0 ≤ get_or names.starts.items (suc i) 0
name_ordered [] are i below = absurd (omega arith)
name_ordered (row ∷ rows) are i below =
    grind (
      arith,
      joined_more (row ∷ rows) i row below,
      length-append (joined_names (take i (row ∷ rows)))
          (get_or (row ∷ rows) i row).0,
    )

pub name_inside : {rows : List (List ℕ × Row)} {names : RowNames} → AreNames rows names → (i : ℕ) → i < length rows
    → get_or names.starts.items (suc i) 0 ≤ length names.text.items
name_inside {rows} are i below = grind (arith, joined_within rows (suc i))
