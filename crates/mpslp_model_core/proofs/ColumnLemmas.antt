-- The columns of a model, with the coefficients of all of them in one vector: what is read of them.
use Rattle.std.proofs.Common.{◌≡◌, refl, sym, ap, ◌∙◌, ℕ, zero, suc, ◌+◌, List, [], ◌∷◌, length, drop, arith, subst}
use Rattle.std.proofs.Common.{Bool, true, false, add-one}
use Rattle.std.specs.{Prelude.{Some, None, slice_get, position, ◌&&◌}, Cmp.Lexicographic.pointwise, List.All}
use Rattle.std.specs.{Option.option_map, FinMap.is_sorted}
use Rattle.std.proofs.lemmas.Option.{same_Some, slice_get_within, get_or_from_slice_get}
use Rattle.mpslp_decimal.specs.Decimal.{Number}
use Rattle.mpslp_types.specs.Name.{same_bytes, bytes_cmp}
use Rattle.mpslp_model_core.specs.{Model.Column, Columned.{row_cells, count_row_cells, column_entries}}
use Rattle.mpslp_model_core.specs.Same.{same_cell, same_column, same_named_column, same_at}
use Rattle.mpslp_model_core.specs.{ModelParts.{bounds_in, cells_in}, Numbered.each_part, declared.model_columns.ColumnSpan.ColumnSpan}
use Rattle.mpslp_model_core.specs.ModelColumns.{ModelColumn, IsWithin, span_cells, column_in, columns_of}
use Rattle.mpslp_model_core.proofs.ViewLemmas.{slice_get-part, length-part, names-part, is_sorted-part, position-map}

-- a part of a part of each
part-part : {V X Y : Type 0} (f : X → Y) (g : V → X) (es : List (List ℕ × V)) →
    each_part f (each_part g es) ≡ each_part (λ v. f (g v)) es
part-part f g [] = refl
part-part f g (e ∷ es) = grind (arith, part-part f g es)

-- the types and bounds, and the coefficients, of all columns
pub bounds-columns_of : (es : List (List ℕ × ColumnSpan)) (cells : List (ℕ × Number))
    → each_part bounds_in (columns_of es cells) ≡ each_part (λ (span : ColumnSpan). span.bounds) es
bounds-columns_of es cells = part-part bounds_in (column_in cells) es

pub cells-columns_of : (es : List (List ℕ × ColumnSpan)) (cells : List (ℕ × Number))
    → each_part cells_in (columns_of es cells) ≡ each_part (span_cells cells) es
cells-columns_of es cells = part-part cells_in (column_in cells) es

pub length-columns_of : (es : List (List ℕ × ColumnSpan)) (cells : List (ℕ × Number)) → length (columns_of es cells) ≡ length es
length-columns_of es cells = length-part (column_in cells) es

pub is_sorted-columns_of : (es : List (List ℕ × ColumnSpan)) (cells : List (ℕ × Number))
    → is_sorted bytes_cmp (columns_of es cells) ≡ is_sorted bytes_cmp es
is_sorted-columns_of es cells = is_sorted-part (column_in cells) es

-- the number of the column of a name is that of its place
pub position-columns_of : (name : List ℕ) (es : List (List ℕ × ColumnSpan)) (cells : List (ℕ × Number))
    → position (λ (column : List ℕ × ModelColumn). same_bytes name column.0) (columns_of es cells)
    ≡ position (λ (e : List ℕ × ColumnSpan). same_bytes name e.0) es
position-columns_of name es cells = sym (position-map (same_bytes name) (λ (e : List ℕ × ModelColumn). e.0) (columns_of es cells))
    ∙ ap (position (same_bytes name)) (names-part (column_in cells) es)
    ∙ position-map (same_bytes name) (λ (e : List ℕ × ColumnSpan). e.0) es

-- the column of a number
module _ {es spans : List (List ℕ × ColumnSpan)} (cells : List (ℕ × Number)) {columns : List (List ℕ × ModelColumn)}
    (seen : columns_of es cells ≡ columns) (same : spans ≡ es) where
  pub spans_counted : length columns ≡ length spans
  spans_counted = ap length (sym seen) ∙ length-columns_of es cells ∙ ap length (sym same)

  pub column_read : (j : ℕ) {e : List ℕ × ColumnSpan} → slice_get spans j ≡ Some e →
      slice_get columns j ≡ Some (e.0, column_in cells e.1)
  column_read j {e} at = ap (λ (cs : List (List ℕ × ModelColumn)). slice_get cs j) (sym seen)
      ∙ slice_get-part (column_in cells) es j ∙ ap (option_map (λ (e : List ℕ × ColumnSpan). (e.0, column_in cells e.1)))
      (ap (λ (es : List (List ℕ × ColumnSpan)). slice_get es j) (sym same) ∙ at)

-- the coefficients of each column are within the vector
pub span_within : {count : ℕ} {es spans : List (List ℕ × ColumnSpan)} (vector : List (ℕ × Number)) → spans ≡ es →
    count ≡ length vector → All (λ (e : List ℕ × ColumnSpan). IsWithin (length vector) e.1) es →
    (j : ℕ) {e : List ℕ × ColumnSpan} → slice_get spans j ≡ Some e → IsWithin count e.1
span_within {count} {es} {spans} vector same len within j {e} at =
    let here = ap (λ (es : List (List ℕ × ColumnSpan)). slice_get es j) (sym same) ∙ at in
    subst (λ (n : ℕ). IsWithin n e.1) (sym len) (subst (λ (e : List ℕ × ColumnSpan). IsWithin (length vector) e.1)
    (get_or_from_slice_get es j e e here) (within j e (slice_get_within es j e here)))

-- ---- what loops over the columns count and compare

count_after : (columns : List (List ℕ × ModelColumn)) (j : ℕ) (cells : List (ℕ × Number))
    → option_map (λ (column : List ℕ × ModelColumn). column.1.cells) (slice_get columns j) ≡ Some cells
    → count_row_cells (drop j columns) ≡ length (row_cells cells) + count_row_cells (drop (suc j) columns)
count_after [] j cells at = absurd cc
count_after (column ∷ columns) zero cells at =
    ap (λ (es : List (ℕ × Number)). length (row_cells es) + count_row_cells columns) (same_Some column.1.cells cells at)
count_after (column ∷ columns) (suc j) cells at = count_after columns j cells at

-- the nonzeros from a column on are its own and those of the later columns
pub count_more : (columns : List (List ℕ × ModelColumn)) (j : ℕ) (cells : List (ℕ × Number))
    → option_map (λ (column : List ℕ × ModelColumn). column.1.cells) (slice_get columns j) ≡ Some cells
    → count_row_cells (drop j columns) ≡ length (row_cells cells) + count_row_cells (drop (j + 1) columns)
count_more columns j cells at = count_after columns j cells at
    ∙ ap (λ (n : ℕ). length (row_cells cells) + count_row_cells (drop n columns)) (sym (add-one j))

-- the column of a number has this name, type, bounds and coefficients
pub record IsColumnAt (columns : List (List ℕ × ModelColumn)) (j : ℕ) (text : List ℕ) (sides : Column)
    (es : List (ℕ × Number)) : Type 0 where
  pub name : option_map (λ (column : List ℕ × ModelColumn). column.0) (slice_get columns j) ≡ Some text
  pub bounds : option_map (λ (column : List ℕ × ModelColumn). column.1.bounds) (slice_get columns j) ≡ Some sides
  pub cells : option_map (λ (column : List ℕ × ModelColumn). column.1.cells) (slice_get columns j) ≡ Some es

pub same_here : (own other : List (List ℕ × ModelColumn)) (j : ℕ) {name name_too : List ℕ} {bounds bounds_too : Column}
    {cells cells_too : List (ℕ × Number)} → IsColumnAt own j name bounds cells → IsColumnAt other j name_too bounds_too cells_too
    → same_at j (column_entries own) (column_entries other)
    ≡ Some (same_bytes name name_too && (same_column bounds bounds_too && pointwise same_cell cells cells_too))
same_here [] other j is is_too = let no = is.name in absurd cc
same_here (column ∷ own) [] j is is_too = let no = is_too.name in absurd cc
same_here (column ∷ own) (counterpart ∷ other) zero is is_too = grind arith
same_here (column ∷ own) (counterpart ∷ other) (suc j) is is_too = same_here own other j
    (record { name = is.name; bounds = is.bounds; cells = is.cells })
    (record { name = is_too.name; bounds = is_too.bounds; cells = is_too.cells })

-- or the names differ
pub other_name : (own other : List (List ℕ × ModelColumn)) (j : ℕ) {name name_too : List ℕ}
    → option_map (λ (column : List ℕ × ModelColumn). column.0) (slice_get own j) ≡ Some name
    → option_map (λ (column : List ℕ × ModelColumn). column.0) (slice_get other j) ≡ Some name_too →
    same_bytes name name_too ≡ false → same_at j (column_entries own) (column_entries other) ≡ Some false
other_name [] other j is is_too differ = absurd cc
other_name (column ∷ own) [] j is is_too differ = absurd cc
other_name (column ∷ own) (counterpart ∷ other) zero is is_too differ = grind arith
other_name (column ∷ own) (counterpart ∷ other) (suc j) is is_too differ = other_name own other j is is_too differ

-- or the types or bounds do
pub other_bounds : (own other : List (List ℕ × ModelColumn)) (j : ℕ) {bounds bounds_too : Column}
    → option_map (λ (column : List ℕ × ModelColumn). column.1.bounds) (slice_get own j) ≡ Some bounds
    → option_map (λ (column : List ℕ × ModelColumn). column.1.bounds) (slice_get other j) ≡ Some bounds_too
    → same_column bounds bounds_too ≡ false → same_at j (column_entries own) (column_entries other) ≡ Some false
other_bounds [] other j is is_too differ = absurd cc
other_bounds (column ∷ own) [] j is is_too differ = absurd cc
other_bounds (column ∷ own) (counterpart ∷ other) zero is is_too differ = grind arith
other_bounds (column ∷ own) (counterpart ∷ other) (suc j) is is_too differ = other_bounds own other j is is_too differ

none_here : (own : List (List ℕ × (Column × List (ℕ × Number)))) (j : ℕ) → same_at j own [] ≡ None
none_here [] j = refl
none_here (column ∷ own) zero = refl
none_here (column ∷ own) (suc j) = none_here own j

same_more : (own other : List (List ℕ × ModelColumn)) (j : ℕ) (r : Bool) →
    Some r ≡ same_at j (column_entries own) (column_entries other) →
    pointwise same_named_column (column_entries (drop j own))
    (column_entries (drop j other)) ≡ (r && pointwise same_named_column (column_entries (drop (j + 1) own))
    (column_entries (drop (j + 1) other)))
same_more [] other j r is = absurd cc
same_more (column ∷ own) [] j r is = let no = is ∙ none_here (column_entries (column ∷ own)) j in absurd cc
same_more (column ∷ own) (counterpart ∷ other) zero r is = grind arith
same_more (column ∷ own) (counterpart ∷ other) (suc j) r is = grind (arith, same_more own other j r is)

-- the columns from a number on are the same if these two and the later ones are
pub same_on : (own other : List (List ℕ × ModelColumn)) (j : ℕ) (r : Bool) →
    Some r ≡ same_at j (column_entries own) (column_entries other) → r ≡ true →
    pointwise same_named_column (column_entries (drop j own)) (column_entries (drop j other)) ≡ pointwise
    same_named_column (column_entries (drop (j + 1) own)) (column_entries (drop (j + 1) other))
same_on own other j r is same = same_more own other j r is
    ∙ ap (λ (b : Bool). b && pointwise same_named_column (column_entries (drop (j + 1) own))
    (column_entries (drop (j + 1) other))) same

pub other_on : (own other : List (List ℕ × ModelColumn)) (j : ℕ) (r : Bool) →
    Some r ≡ same_at j (column_entries own) (column_entries other) → r ≡ false →
    pointwise same_named_column (column_entries (drop j own)) (column_entries (drop j other)) ≡ false
other_on own other j r is differ = same_more own other j r is
    ∙ ap (λ (b : Bool). b && pointwise same_named_column (column_entries (drop (j + 1) own))
    (column_entries (drop (j + 1) other))) differ
