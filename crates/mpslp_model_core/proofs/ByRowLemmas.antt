-- The lists of columns by rows: how they are filled, and the model.
use Rattle.std.proofs.Common.{◌≡◌, refl, sym, ap, subst, ◌∙◌, ℕ, zero, suc, ◌+◌, ◌-◌, ◌<◌, ◌≤◌, List, [], ◌∷◌, ◌++◌, length, map, Bool}
use Rattle.std.proofs.{Common.{true, false, cond, arith, rules, take, drop, get_or, sum, add-one, add-zero}, lemmas.List.append-nil}
use Rattle.std.proofs.lemmas.List.{length-map, append_assoc, length-append, length-drop, length-take-le, take-append-drop, take_all}
use Rattle.std.proofs.lemmas.List.{take_more, get_or-map, get_or_append_left, get_or_push, get_or-take, get_or-drop}
use Rattle.std.proofs.lemmas.List.{FromFn.{length-range_with_len, get_or-range_with_len}, Elements.filter-append}
use Rattle.std.proofs.lemmas.{List.Sums.fold_push, Option.{same_Some, slice_get-map, slice_get_within, get_or_from_slice_get}}
use Rattle.std.proofs.lemmas.{Option.slice_get-get_or, Bool.{cases_order, cases_lt, cases_Bool}, Grind.same_number_lists}
use Rattle.std.specs.{Prelude.{Option, Some, is_some, filter, slice_get, unwrap_or, None}, List.{All, list_all, range_with_len}}
use Rattle.std.specs.{Option.{option_map, option_map_or}, Ordering.{nat_cmp, eq_by_cmp}, FinMap.{find, is_sorted}}
use Rattle.std.specs.Cmp.{first_so, second_so, nat_cmp_total}
use Rattle.mpslp_decimal.specs.Decimal.{Number, zero_number}
use Rattle.mpslp_types.proofs.RangeLemmas.{range_more}
use Rattle.mpslp_model_core.specs.{Model.LinearModel, Views.{num_rows, num_columns, row_name, column_name, has_coefficient, row_columns}}
use Rattle.mpslp_model_core.specs.{Views.coefficient_at, Numbered.{name_of, IsOnceBy}, ModelParts.{linear_model, AreModelParts, cells_in}}
use Rattle.mpslp_model_core.specs.ByRow.{list_at, column_if, has_number, cells_of, columns_with, AreIndexed, AreListed, HasList, AreWithin}
use Rattle.mpslp_model_core.specs.ByRow.{HasCounted, AreCounts, start_of, IsPlaced, AreByRow}
use Rattle.mpslp_model_core.specs.declared.by_row.{RowElement.RowElement, RowLists.RowLists}
use Rattle.mpslp_model_core.specs.{ModelColumns.ModelColumn, declared.{model.ModelParts.ModelParts, row_names.RowNames.RowNames}}
use Rattle.mpslp_model_core.proofs.CellLemmas.{number_same, once-sorted, number_tied, or_else, find-two}
use Rattle.mpslp_model_core.proofs.ViewLemmas.{slice_get-part, all_at, found_by, rows_seen, count_seen, count_columns, row_numbered}
use Rattle.mpslp_model_core.proofs.ViewLemmas.{cells_seen, found_seen, value_seen, index_within}

-- ---- the lists of columns by rows, and the model

-- ---- column by column

one_filtered : (p : ℕ → Bool) (j : ℕ) → filter p (j ∷ []) ≡ column_if (p j) j
one_filtered = grind arith

pub columns_more : (columns : List (List ℕ × ModelColumn)) (n count : ℕ)
    → columns_with columns n (count + 1) ≡ columns_with columns n count ++ column_if (has_number n (cells_of columns count)) count
columns_more = grind (arith, range_more, filter-append, one_filtered)

-- ---- the lists and the model

cells_there : (columns : List (List ℕ × ModelColumn)) (j : ℕ) → j < length columns
    → option_map (λ (column : List ℕ × ModelColumn). column.1.cells) (slice_get columns j) ≡ Some (cells_of columns j)
cells_there [] j below = absurd (omega arith)
cells_there (c ∷ columns) zero below = refl
cells_there (c ∷ columns) (suc j) below = cells_there columns j (omega arith)

filter_alike : (p q : ℕ → Bool) (js : List ℕ) → All (λ (j : ℕ). p j ≡ q j) js → filter p js ≡ filter q js
filter_alike p q [] alike = refl
filter_alike p q (j ∷ js) alike = let first = alike 0 j (omega arith) in
    let rest = filter_alike p q js (λ k d below. alike (suc k) d (omega arith)) in λ i. cond (first i) (j ∷ rest i) (rest i)

-- a property of each number below is one of each number of the range
all_below : (P : ℕ → Type 0) (n : ℕ) → ((j : ℕ) → j < n → P j) → All P (range_with_len 0 n)
all_below = grind (arith, length-range_with_len, get_or-range_with_len)

listed_below : (p : ℕ → Bool) (n k j : ℕ) → slice_get (filter p (range_with_len 0 n)) k ≡ Some j → j < n
listed_below p n k j at = by (range_with_len 0 n) k (all_below (λ (j : ℕ). j < n) n (λ j below. below)) at
  where
    by : (js : List ℕ) (k : ℕ) → All (λ (j : ℕ). j < n) js → slice_get (filter p js) k ≡ Some j → j < n
    by [] k all at = absurd cc
    by (i ∷ js) k all at =
        elim (p i) as (λ b. slice_get (cond b (i ∷ filter p js) (filter p js)) k ≡ Some j → j < n) [
          | true ↦ λ here.
              elim k as (λ k. slice_get (i ∷ filter p js) k ≡ Some j → j < n) [
                | zero ↦ λ first. let same : i ≡ j = cc in subst (λ (j : ℕ). j < n) same (all 0 i (omega arith))
                | suc h ↦ λ later. by js h (λ k d below. all (suc k) d (omega arith)) later
              ] here
          | false ↦ λ later. by js k (λ k d below. all (suc k) d (omega arith)) later
        ] at

-- a row of the model is one of the parts
pub row_below : {m : ModelParts} {v : LinearModel} → linear_model m ≡ v → AreModelParts m → (i : ℕ) → i < num_rows v →
    i < length m.rows.items
row_below = grind (arith, count_seen, rows_seen)

-- lists that were made are those of the parts
pub listed_in : {m : ModelParts} {made : Option RowLists} {names : RowNames} (lists : RowLists) → AreIndexed m made names
    → made ≡ Some lists → AreListed m lists
listed_in = grind arith

-- the columns with a coefficient in a row, and those of the row in the model
pub columns_seen : {m : ModelParts} {v : LinearModel} → linear_model m ≡ v → AreModelParts m → (i : ℕ) → i < num_rows v
    → columns_with m.columns (suc i) (length m.columns) ≡ row_columns v (row_name v i)
columns_seen {m} {v} seen parts i below =
    let own = m.columns in
    let row = row_name v i in
    let n = num_columns v in
    let as_many : length own ≡ n = count_columns seen parts in
    let alike : (j : ℕ) → j < n
    → has_number (suc i) (cells_of own j) ≡ has_coefficient v row (column_name v j) = (λ j under. let cells = cells_of own j in
    let there = cells_seen m parts v seen j cells (cells_there own j (subst (λ (len : ℕ). j < len) (sym as_many) under)) in
    ap is_some (sym (found_seen m parts v seen j cells there (suc i) row (row_numbered seen parts i below)))) in
    ap (columns_with own (suc i)) as_many ∙ filter_alike
    (λ j. has_number (suc i) (cells_of own j)) (λ j. has_coefficient v row (column_name v j)) (range_with_len 0 n)
    (all_below _ n alike)

-- the list of a row, and its columns in the model
pub row_seen : {m : ModelParts} {v : LinearModel} (lists : RowLists) → linear_model m ≡ v → AreListed m lists →
    (i : ℕ) → i < num_rows v → map (λ (element : RowElement). element.column) (list_at lists i) ≡ row_columns v (row_name v i)
row_seen {m} {v} lists seen are i below = are.by_row.own i (row_below seen are.parts i below)
    ∙ columns_seen seen are.parts i below

pub row_seen_length : {m : ModelParts} {v : LinearModel} (lists : RowLists) → linear_model m ≡ v → AreListed m lists → (i : ℕ)
    → i < num_rows v → length (list_at lists i) ≡ length (row_columns v (row_name v i))
row_seen_length lists seen are i below = sym (length-map (list_at lists i) (λ (element : RowElement). element.column))
    ∙ ap length (row_seen lists seen are i below)

-- ---- a coefficient of a row

cells_found : (o : Option (List ℕ × ModelColumn)) (cells : List (ℕ × Number)) → option_map (λ (column : List ℕ × ModelColumn).
    column.1.cells) o ≡ Some cells → option_map_or (λ (column : List ℕ × ModelColumn). column.1.cells) o [] ≡ cells
cells_found = grind arith

placed_within : (cells : List (ℕ × Number)) (p n : ℕ) →
    option_map (λ (cell : ℕ × Number). cell.0) (slice_get cells p) ≡ Some n → p < length cells
placed_within [] p n at = absurd cc
placed_within (cell ∷ cells) zero n at = omega arith
placed_within (cell ∷ cells) (suc p) n at = grind (arith, placed_within cells p n at)

-- ---- columns searched

-- one more column, whose coefficients these are
pub columns_next : (columns : List (List ℕ × ModelColumn)) (n count : ℕ) (cells : List (ℕ × Number))
    → option_map (λ (column : List ℕ × ModelColumn). column.1.cells) (slice_get columns count) ≡ Some cells
    → columns_with columns n (count + 1) ≡ columns_with columns n count ++ column_if (has_number n cells) count
columns_next = grind (arith, columns_more, cells_found)

-- a column without a coefficient adds nothing
pub columns_without : (columns : List (List ℕ × ModelColumn)) (n count : ℕ) (cells : List (ℕ × Number))
    → option_map (λ (column : List ℕ × ModelColumn). column.1.cells) (slice_get columns count) ≡ Some cells
    → has_number n cells ≡ false → columns_with columns n (count + 1) ≡ columns_with columns n count
columns_without columns n count cells at none =
    grind (arith, columns_next columns n count cells at, append-nil (columns_with columns n count))

-- and one with a coefficient adds itself
pub columns_and : (columns : List (List ℕ × ModelColumn)) (n count : ℕ) (cells : List (ℕ × Number))
    → option_map (λ (column : List ℕ × ModelColumn). column.1.cells) (slice_get columns count) ≡ Some cells
    → has_number n cells ≡ true → columns_with columns n (count + 1) ≡ columns_with columns n count ++ count ∷ []
columns_and columns n count cells at one = grind (arith, columns_next columns n count cells at)

pub cells_rise : (columns : List (List ℕ × ModelColumn)) (j : ℕ) (cells : List (ℕ × Number))
    → list_all (λ column. is_sorted nat_cmp column.1.cells) columns ≡ true → option_map
    (λ (column : List ℕ × ModelColumn). column.1.cells) (slice_get columns j) ≡ Some cells → is_sorted nat_cmp cells ≡ true
cells_rise [] j cells rise at = absurd cc
cells_rise (column ∷ columns) zero cells rise at = grind arith
cells_rise (column ∷ columns) (suc j) cells rise at = grind (arith, cells_rise columns j cells)

seam : (js : List ℕ) (j : ℕ) (more : List ℕ) → slice_get (js ++ j ∷ more) (length js) ≡ Some j
seam [] j more = refl
seam (i ∷ js) j more = seam js j more

kept : (js more : List ℕ) (k j : ℕ) → slice_get js k ≡ Some j → slice_get (js ++ more) k ≡ Some j
kept [] more k j at = absurd cc
kept (i ∷ js) more zero j at = at
kept (i ∷ js) more (suc k) j at = kept js more k j at

kept_after : (columns : List (List ℕ × ModelColumn)) (n count k j more : ℕ) → slice_get (columns_with columns n count) k ≡ Some j
    → slice_get (columns_with columns n (count + more)) k ≡ Some j
kept_after columns n count k j zero at = grind arith
kept_after columns n count k j (suc more) at =
    grind (
      arith,
      kept_after columns n count k j more at,
      columns_more columns n (count + more),
      kept (columns_with columns n (count + more)) (column_if (has_number n (cells_of columns (count + more))) (count + more)) k j
          (kept_after columns n count k j more at),
    )

-- a column with a coefficient is listed where as many come before it
pub column_listed : (columns : List (List ℕ × ModelColumn)) (n j k : ℕ) (cells : List (ℕ × Number))
    → option_map (λ (column : List ℕ × ModelColumn). column.1.cells) (slice_get columns j) ≡ Some cells →
    has_number n cells ≡ true → k ≡ length (columns_with columns n j) → j < length columns →
    slice_get (columns_with columns n (length columns)) k ≡ Some j
column_listed columns n j k cells at one place below =
    grind (
      arith,
      columns_and columns n j cells at one,
      seam (columns_with columns n j) j [],
      kept_after columns n (j + 1) k j (length columns - (j + 1)),
    )

-- a column of a row is one of the model
pub column_below : (v : LinearModel) (i k j : ℕ) → slice_get (row_columns v (row_name v i)) k ≡ Some j → j < num_columns v
column_below = grind (arith, listed_below)

-- ---- an element

-- the element of number k in the list of the row at index i
module _ {m : ModelParts} {v : LinearModel} (lists : RowLists) (seen : linear_model m ≡ v) (are : AreListed m lists)
    (i k : ℕ) (below : i < num_rows v) (element : RowElement) (is : slice_get (list_at lists i) k ≡ Some element) where
  pub element_column : slice_get (row_columns v (row_name v i)) k ≡ Some element.column
  element_column = grind (arith, row_seen lists seen are i below, slice_get-map)

  pub element_below : element.column < num_columns v
  element_below = column_below v i k element.column element_column

  -- its coefficient is at its place in its column
  module _ (cells : List (ℕ × Number)) (at : option_map (λ (column : List ℕ × ModelColumn). column.1.cells)
      (slice_get m.columns element.column) ≡ Some cells) where
    number_placed : option_map (λ (cell : ℕ × Number). cell.0) (slice_get cells element.place) ≡ Some (suc i)
    number_placed =
        grind (
          arith,
          row_below seen are.parts i below,
          get_or_from_slice_get (list_at lists i) k element element is,
          slice_get_within (list_at lists i) k element is,
          cells_found (slice_get m.columns element.column) cells at,
        )

    pub element_placed : element.place < length cells
    element_placed = grind (arith, placed_within, number_placed)

    pub element_value : (cell : ℕ × Number) → slice_get cells element.place ≡ Some cell
        → cell.1 ≡ coefficient_at v (row_name v i) (column_name v element.column)
    element_value cell there =
        let number : cell.0 ≡ suc i = same_Some cell.0 (suc i) (ap (option_map (λ (c : ℕ × Number). c.0)) (sym there)
        ∙ number_placed) in
        let own_cells = cells_seen m are.parts v seen element.column cells at in
        ap (λ (o : Option Number). unwrap_or o zero_number)
        (sym (found_by nat_cmp nat_cmp_total number_same cells element.place cell
        (once-sorted nat_cmp nat_cmp_total cells own_cells.sorted) there) ∙ ap (λ (n : ℕ). find nat_cmp n cells) number)
        ∙ value_seen m are.parts v seen element.column cells own_cells (suc i) (row_name v i)
        (row_numbered seen are.parts i below)

-- ---- what accessors find in the parts

named_within : {X : Type 0} (objective : List ℕ) (rows : List (List ℕ × X)) (n : ℕ) →
    is_some (name_of (Some objective) rows n) ≡ true → n ≤ length rows
named_within objective rows zero named = omega arith
named_within objective [] (suc i) named = absurd cc
named_within objective (row ∷ rows) (suc zero) named = omega arith
named_within objective (row ∷ rows) (suc (suc i)) named = grind (arith, named_within objective rows (suc i) named)

pub numbers_within : (m : ModelParts) → AreModelParts m → (k : ℕ) (column : List ℕ × ModelColumn) → slice_get m.columns k
    ≡ Some column → (l : ℕ) (cell : ℕ × Number) → slice_get column.1.cells l ≡ Some cell → cell.0 ≤ length m.rows.items
numbers_within m parts k column at l cell there =
    grind (arith, slice_get-part cells_in m.columns k, named_within m.objective m.rows.items cell.0, all_at, first_so, second_so)

-- ---- how the lists by rows are filled, coefficient by coefficient

-- ---- the coefficients of one column

missed_at : (n : ℕ) (cells : List (ℕ × Number)) (m : ℕ) (d : ℕ × Number) → m < length cells → find nat_cmp n cells ≡ None
    → eq_by_cmp nat_cmp n (get_or cells m d).0 ≡ false
missed_at n [] m d below none = absurd (omega arith)
missed_at n (c ∷ cells) zero d below none = grind arith
missed_at n (c ∷ cells) (suc m) d below none = grind (arith, missed_at n cells m d)

-- one coefficient more: no number occurs twice
taken_more : (n column : ℕ) (cells : List (ℕ × Number)) (m : ℕ) (d : ℕ × Number) → m < length cells → IsOnceBy nat_cmp cells
    → column_if (has_number n (take (suc m) cells)) column ≡ column_if (has_number n (take m cells)) column
    ++ column_if (eq_by_cmp nat_cmp n (get_or cells m d).0) column
taken_more n column [] m d below once = grind arith
taken_more n column (c ∷ cells) zero d below once = grind arith
taken_more n column (c ∷ cells) (suc m) d below once = grind (arith, taken_more n column cells m d, number_same, missed_at)

-- what the first columns and the first coefficients of the next one add to the list of a row
abbrev pub noted : List (List ℕ × ModelColumn) → ℕ → ℕ → ℕ → List ℕ
noted columns k m i = columns_with columns (suc i) k ++ column_if (has_number (suc i) (take m (cells_of columns k))) k

pub noted_none : (columns : List (List ℕ × ModelColumn)) (k i : ℕ) → noted columns k 0 i ≡ columns_with columns (suc i) k
noted_none = grind (arith, append-nil)

pub noted_more : (columns : List (List ℕ × ModelColumn)) (k m : ℕ) (d : ℕ × Number) → m < length (cells_of columns k)
    → IsOnceBy nat_cmp (cells_of columns k) → (i : ℕ)
    → noted columns k (m + 1) i ≡ noted columns k m i ++ column_if
    (eq_by_cmp nat_cmp (suc i) (get_or (cells_of columns k) m d).0) k
noted_more columns k m d below once i = grind (arith, add-one m, taken_more, append_assoc)

pub noted_all : (columns : List (List ℕ × ModelColumn)) (k i : ℕ)
    → noted columns k (length (cells_of columns k)) i ≡ columns_with columns (suc i) (k + 1)
noted_all = grind (arith, take_all, columns_more)

-- ---- a coefficient of a column, as a loop reads it

within_here : (rows : ℕ) (columns : List (List ℕ × ModelColumn)) (k : ℕ) (cells : List (ℕ × Number))
    → All (λ (c : List ℕ × ModelColumn). AreWithin rows c.1.cells) columns
    → option_map (λ (column : List ℕ × ModelColumn). column.1.cells) (slice_get columns k) ≡ Some cells → AreWithin rows cells
within_here rows [] k cells all at = absurd cc
within_here rows (column ∷ columns) zero cells all at =
    subst (λ (es : List (ℕ × Number)). AreWithin rows es) (same_Some column.1.cells cells at) (all 0 column (omega arith))
within_here rows (column ∷ columns) (suc k) cells all at =
    within_here rows columns k cells (λ j d below. all (suc j) d (omega arith)) at

module _ (columns : List (List ℕ × ModelColumn)) (k : ℕ) (cells : List (ℕ × Number)) (m : ℕ) (cell : ℕ × Number)
    (read : option_map (λ (column : List ℕ × ModelColumn). column.1.cells) (slice_get columns k) ≡ Some cells)
    (under : m < length cells) (is : cell ≡ get_or cells m cell) where
  there : cells ≡ cells_of columns k
  there = sym (cells_found (slice_get columns k) cells read)

  pub cell_placed : option_map (λ (c : ℕ × Number). c.0) (slice_get (cells_of columns k) m) ≡ Some cell.0
  cell_placed = grind (arith, there, slice_get-get_or)

  own_order : list_all (λ (c : List ℕ × ModelColumn). is_sorted nat_cmp c.1.cells) columns ≡ true → is_sorted nat_cmp cells ≡ true
  own_order rise = cells_rise columns k cells rise read

  -- so the index has 32 bits if the number has
  pub cell_index : list_all (λ (c : List ℕ × ModelColumn). is_sorted nat_cmp c.1.cells) columns ≡ true → m ≤ cell.0
  cell_index = grind (arith, index_within, own_order)

  pub cell_noted : list_all (λ (c : List ℕ × ModelColumn). is_sorted nat_cmp c.1.cells) columns ≡ true → (i : ℕ)
      → noted columns k (m + 1) i ≡ noted columns k m i ++ column_if (eq_by_cmp nat_cmp (suc i) cell.0) k
  cell_noted = grind (arith, there, own_order, noted_more, once-sorted, nat_cmp_total)

  pub cell_within : (rows : ℕ) → All (λ (c : List ℕ × ModelColumn). AreWithin rows c.1.cells) columns → cell.0 ≤ rows
  cell_within rows within = grind (arith, within_here rows columns k cells within read)

-- a column whose coefficients are all noted
pub column_noted : (columns : List (List ℕ × ModelColumn)) (k : ℕ) (cells : List (ℕ × Number)) (m : ℕ)
    → option_map (λ (column : List ℕ × ModelColumn). column.1.cells) (slice_get columns k) ≡ Some cells →
    length cells ≡ m → (i : ℕ) → noted columns k m i ≡ columns_with columns (suc i) (k + 1)
column_noted columns k cells m read = grind (arith, cells_found (slice_get columns k) cells read, noted_all)

-- ---- how long the lists are

rising : (f : ℕ → ℕ) → ((j : ℕ) → f j ≤ f (suc j)) → (j r : ℕ) → f j ≤ f (j + r)
rising f step j zero = grind arith
rising f step j (suc r) = grind (arith, rising f step j r)

column_one : (has : Bool) (column : ℕ) → length (column_if has column) ≤ 1
column_one = grind arith

with_more : (columns : List (List ℕ × ModelColumn)) (n k : ℕ)
    → length (columns_with columns n (suc k)) ≡ length (columns_with columns n k) + length
    (column_if (has_number n (cells_of columns k)) k)
with_more columns n k = grind (arith, add-one k, columns_more columns n k, length-append)

with_few : (columns : List (List ℕ × ModelColumn)) (n k : ℕ) → length (columns_with columns n k) ≤ k
with_few columns n zero = omega arith
with_few columns n (suc k) = grind (arith, with_few columns n k, with_more, column_one)

with_rise : (columns : List (List ℕ × ModelColumn)) (n j k : ℕ) → j ≤ k →
    length (columns_with columns n j) ≤ length (columns_with columns n k)
with_rise columns n j k below = let whole : j + (k - j) ≡ k = omega arith in
    subst (λ (top : ℕ). length (columns_with columns n j) ≤ length (columns_with columns n top)) whole
    (rising (λ (l : ℕ). length (columns_with columns n l)) (λ l. let more = with_more columns n l in omega arith) j (k - j))

one_of_both : (a b : Option Number) (column : ℕ) →
    length (column_if (is_some a) column) ≤ length (column_if (is_some (or_else a b)) column)
one_of_both = grind arith

noted_within : (columns : List (List ℕ × ModelColumn)) (k m i : ℕ) →
    length (noted columns k m i) ≤ length (columns_with columns (suc i) (suc k))
noted_within columns k m i = grind
    (arith, find-two, take-append-drop m (cells_of columns k), one_of_both, length-append, with_more columns (suc i) k)

pub noted_few : (columns : List (List ℕ × ModelColumn)) (k m i : ℕ) → k < length columns →
    length (noted columns k m i) ≤ length columns
noted_few columns k m i below = search (rules, noted_within, with_few)

pub noted_fits : (columns : List (List ℕ × ModelColumn)) (k m i : ℕ) → k < length columns
    → length (noted columns k m i) ≤ length (columns_with columns (suc i) (length columns))
noted_fits columns k m i below =
    grind (arith, noted_within columns k m i, with_rise columns (suc i) (suc k) (length columns) below)

-- ---- where the lists start

pub starts_rise : (columns : List (List ℕ × ModelColumn)) (i j : ℕ) → i ≤ j → start_of columns i ≤ start_of columns j
starts_rise columns i j below = let whole : i + (j - i) ≡ j = omega arith in
    subst (λ (top : ℕ). start_of columns i ≤ start_of columns top) whole (rising (start_of columns) (λ l. omega arith) i (j - i))

-- places in the lists of two rows differ
places_apart : (columns : List (List ℕ × ModelColumn)) (i r p q : ℕ) → p < length (columns_with columns (suc i) (length columns))
    → q < length (columns_with columns (suc r) (length columns)) → start_of columns i + p ≡ start_of columns r + q → i ≡ r
places_apart columns i r p q under over same =
    grind (arith, cases_order i r, starts_rise columns (suc i) r, starts_rise columns (suc r) i)

pub sums_are_starts : (columns : List (List ℕ × ModelColumn)) (rows : ℕ) (counts : List ℕ) →
    AreCounts columns rows counts → (i : ℕ) → i ≤ rows → sum (take (suc i) counts) ≡ start_of columns i
sums_are_starts columns rows counts are zero below = grind arith
sums_are_starts columns rows counts are (suc i) below =
    grind (arith, sums_are_starts columns rows counts are i, add-one (suc i), take_more counts (suc i) 0, fold_push)

-- ---- column by column

-- the numbers of coefficients so far
pub record AreCounted (rows : ℕ) (lists : ℕ → List ℕ) (counts : List ℕ) : Type 0 where
  pub len : length counts ≡ suc rows
  pub objective : get_or counts 0 0 ≡ 0
  pub own : (i : ℕ) → i < rows → get_or counts (suc i) 0 ≡ length (lists i)

pub counted_same : {rows : ℕ} {own next : ℕ → List ℕ} {counts : List ℕ} → ((i : ℕ) → own i ≡ next i) → AreCounted rows own counts
    → AreCounted rows next counts
counted_same = grind arith

pub counted_few : {rows : ℕ} {own : ℕ → List ℕ} {counts : List ℕ} (most : ℕ) → AreCounted rows own counts
    → ((i : ℕ) → length (own i) ≤ most) → (n : ℕ) → n ≤ rows → get_or counts n 0 ≤ most
counted_few {rows} {own} {counts} most are few zero within = grind arith
counted_few {rows} {own} {counts} most are few (suc i) within = grind arith

column_length : (has : Bool) (column : ℕ) → length (column_if has column) ≡ cond has 1 0
column_length = grind arith

one_longer : (own next : ℕ → List ℕ) (number column : ℕ) →
    ((i : ℕ) → next i ≡ own i ++ column_if (eq_by_cmp nat_cmp (suc i) number) column) → (i : ℕ) →
    length (next i) ≡ length (own i) + cond (eq_by_cmp nat_cmp (suc i) number) 1 0
one_longer = grind (arith, length-append, column_length)

pub counted_more : {rows : ℕ} {own next : ℕ → List ℕ} {old new : List ℕ} (number column : ℕ) → AreCounted rows own old
    → ((i : ℕ) → next i ≡ own i ++ column_if (eq_by_cmp nat_cmp (suc i) number) column) → length new ≡ length old
    → get_or new 0 0 ≡ get_or old 0 0 → HasCounted number old new → AreCounted rows next new
counted_more {rows} {own} {next} {old} {new} number column are more len objective counted = record {
  len = len ∙ are.len;
  objective = objective ∙ are.objective;
  own = λ i below. counted i ∙ ap (λ (n : ℕ). n + cond (eq_by_cmp nat_cmp (suc i) number) 1 0) (are.own i below)
      ∙ sym (one_longer own next number column more i);
}

-- the element of a column in the list of the row of this number
abbrev pub IsListed : List (List ℕ × ModelColumn) → ℕ → ℕ → RowElement → Type 0
IsListed columns n column element = (element.column ≡ column) × IsPlaced columns n element

pub listed_same : (columns : List (List ℕ × ModelColumn)) (n : ℕ) {j k : ℕ} {e f : RowElement} → j ≡ k → e ≡ f →
    IsListed columns n j e → IsListed columns n k f
listed_same = grind arith

-- the lists so far, each from its start to its end
pub record ArePut (columns : List (List ℕ × ModelColumn)) (rows : ℕ) (own : ℕ →
    List ℕ) (row_ends : List ℕ) (list : List RowElement) : Type 0 where
  pub len : length row_ends ≡ suc rows
  pub room : length list ≡ start_of columns rows
  pub objective : get_or row_ends 0 0 ≡ 0
  pub ends : (i : ℕ) → i < rows → get_or row_ends (suc i) 0 ≡ start_of columns i + length (own i)
  pub put : (i p : ℕ) (d : RowElement) → i < rows → p < length (own i)
      → IsListed columns (suc i) (get_or (own i) p 0) (get_or list (start_of columns i + p) d)

pub put_same : {columns : List (List ℕ × ModelColumn)} {rows : ℕ} {own next : ℕ → List ℕ} {ends : List ℕ} {list : List RowElement}
    → ((i : ℕ) → own i ≡ next i) → ArePut columns rows own ends list → ArePut columns rows next ends list
put_same = grind arith

-- there is room for a coefficient that is not noted yet
pub put_fits : {columns : List (List ℕ × ModelColumn)} {rows : ℕ} {own next : ℕ → List ℕ} {row_ends : List ℕ}
    {list : List RowElement} (number column : ℕ) → ArePut columns rows own row_ends list → number ≤ rows
    → ((i : ℕ) → next i ≡ own i ++ column_if (eq_by_cmp nat_cmp (suc i) number) column) → ((i : ℕ)
    → length (next i) ≤ length (columns_with columns (suc i) (length columns))) → 0 < number →
    get_or row_ends number 0 < length list
put_fits zero column are below more fits some = grind arith
put_fits {columns} {rows} {own} {next} {row_ends} {list} (suc i) column are below more fits some =
    let longer : length (next i) ≡ length (own i) + 1 = one_longer own next (suc i) column more i ∙ ap
    (λ (b : Bool). length (own i) + cond b 1 0) (number_tied (suc i) (suc i) refl) in
    let end = are.ends i below in
    let room = are.room in
    let fit = fits i in
    let far : start_of columns (suc i) ≤ start_of columns rows = starts_rise columns (suc i) rows below in omega arith

-- before the first column
pub put_none : (columns : List (List ℕ × ModelColumn)) (rows : ℕ) (counts starts : List ℕ) (list : List RowElement) →
    AreCounts columns rows counts → length starts ≡ length counts →
    ((i : ℕ) → i < length counts → get_or starts i 0 ≡ sum (take i counts)) → length list ≡ sum counts →
    ArePut columns rows (λ i. columns_with columns (suc i) 0) starts list
put_none columns rows counts starts list are len sums room =
    grind (
      arith,
      take_all (suc rows) counts,
      sums_are_starts columns rows counts are rows,
      sums_are_starts columns rows counts are,
      add-zero,
    )

module _ (columns : List (List ℕ × ModelColumn)) (rows : ℕ) (own next : ℕ →
    List ℕ) (old_ends : List ℕ) (old_list : List RowElement) (ends : List ℕ) (list : List RowElement) (number column : ℕ)
    (are : ArePut columns rows own old_ends old_list)
    (row : number ≤ rows)
    (more : (i : ℕ) → next i ≡ own i ++ column_if (eq_by_cmp nat_cmp (suc i) number) column)
    (fits : (i : ℕ) → length (next i) ≤ length (columns_with columns (suc i) (length columns)))
    (placed : 0 < number → (d : RowElement) → IsListed columns number column (get_or list (get_or old_ends number 0) d))
    (kept : (p : ℕ) (d : RowElement) → (0 < number → p ≡ get_or old_ends number 0 → ⊥) →
    get_or list p d ≡ get_or old_list p d) where
  next_length : (i : ℕ) → length (next i) ≡ length (own i) + cond (eq_by_cmp nat_cmp (suc i) number) 1 0
  next_length = one_longer own next number column more

  -- the place that is written is in the list of another row
  elsewhere : (i p : ℕ) → p < length (own i) → eq_by_cmp nat_cmp (suc i) number ≡ false → 0 < number
      → start_of columns i + p ≡ get_or old_ends number 0 → ⊥
  elsewhere i p under other some same =
      grind (
        arith,
        number_tied (suc (number - 1)) number,
        next_length (number - 1),
        next_length i,
        places_apart columns i (number - 1) p (length (own (number - 1))),
        number_tied (suc i) number,
      )

  put_own : (i p : ℕ) (d : RowElement) → i < rows → p < length (next i) → eq_by_cmp nat_cmp (suc i) number ≡ true
      → IsListed columns (suc i) (get_or (next i) p 0) (get_or list (start_of columns i + p) d)
  put_own = grind (arith, cases_lt, number_same, next_length, listed_same, get_or_append_left, get_or_push)

  put_other : (i p : ℕ) (d : RowElement) → i < rows → p < length (next i) → eq_by_cmp nat_cmp (suc i) number ≡ false
      → IsListed columns (suc i) (get_or (next i) p 0) (get_or list (start_of columns i + p) d)
  put_other i p d below under other = grind (arith, append-nil (own i), listed_same columns (suc i), elsewhere i p)

  put_at : (i p : ℕ) (d : RowElement) → i < rows → p < length (next i)
      → IsListed columns (suc i) (get_or (next i) p 0) (get_or list (start_of columns i + p) d)
  put_at = grind (arith, cases_Bool, put_own, put_other)

  pub put_more : length ends ≡ length old_ends → length list ≡ length old_list → get_or ends 0 0 ≡ get_or old_ends 0 0
      → HasCounted number old_ends ends → ArePut columns rows next ends list
  put_more = grind (arith, next_length, put_at)

-- with all columns the lists are done
module _ (columns : List (List ℕ × ModelColumn)) (rows : ℕ) (lists : RowLists)
    (are : ArePut columns rows (λ i. columns_with columns (suc i) (length columns)) lists.starts.items lists.elements.items) where
  all_starts : (i : ℕ) → i ≤ rows → get_or lists.starts.items i 0 ≡ start_of columns i
  all_starts = grind arith

  module _ (i : ℕ) (below : i < rows) where
    abbrev own_columns : List ℕ
    own_columns = columns_with columns (suc i) (length columns)

    -- the list, as it was filled
    abbrev filled : List RowElement
    filled = take (length own_columns) (drop (start_of columns i) lists.elements.items)

    list_filled : list_at lists i ≡ filled
    list_filled = grind (arith, all_starts)

    filled_length : length filled ≡ length own_columns
    filled_length = grind (arith, starts_rise columns (suc i) rows below, length-drop, length-take-le)

    filled_at : (p : ℕ) (d : RowElement) → p < length filled →
        IsListed columns (suc i) (get_or own_columns p 0) (get_or filled p d)
    filled_at = grind (arith, filled_length, listed_same, get_or-take, get_or-drop)

    own_filled : map (λ (e : RowElement). e.column) filled ≡ own_columns
    own_filled = let column : RowElement → ℕ = λ e. e.column in
        let none : RowElement = record { column = 0; place = 0 } in
        let len = length-map filled column in same_number_lists (map column filled) own_columns (len ∙ filled_length) (λ p under.
        let inside : p < length filled = subst (λ (n : ℕ). p < n) len under in
        get_or-map column filled p none 0 inside ∙ (filled_at p none inside).0)

  pub lists_from_put : AreByRow columns rows lists
  lists_from_put = grind (arith, all_starts, list_filled, own_filled, filled_at)

-- ---- the list of a row

pub has_list : {columns : List (List ℕ × ModelColumn)} {rows : ℕ} {lists : RowLists} → AreByRow columns rows lists →
    (i : ℕ) → i < rows → HasList lists i
has_list {columns} {rows} {lists} are i below = grind (arith, starts_rise columns (suc i) rows below)
