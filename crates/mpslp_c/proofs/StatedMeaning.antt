-- The arrays of a well-formed model define it: their items have no error, and what they declare is consistent and means the model.
use Rattle.std.proofs.Common.{rules, ◌≡◌, refl, sym, ap, subst, ◌∙◌, ℕ, zero, suc, ◌+◌, ◌-◌, ◌<◌, ◌≤◌, List, [], ◌∷◌, ◌++◌, map, length}
use Rattle.std.proofs.Common.{take, drop, get_or, Bool, true, false, Option, None, Some, Result, Ok, arith, le-leb, not, cond}
use Rattle.std.proofs.lemmas.{Grind.flat_map-append, List.{length-map, length-take-le, length-drop, take_all, append-nil, Sums.sum_by-cons}}
use Rattle.std.proofs.lemmas.{List.Quantifiers.position-Some, Option.{slice_get-map, slice_get_within}}
use Rattle.std.specs.Prelude.{◌&&◌, slice_get, slice_range, slice_index_or, sum_by, nat_le, unwrap_or, if◌then◌else◌, ◌||◌, is_some}
use Rattle.std.specs.List.{list_all, flat_map, list_any}
use Rattle.std.specs.{Option.{option_map, option_map_or}, Cmp.{first_so, second_so, Lexicographic.nat_list_eq_equiv}, FinMap.is_sorted}
use Rattle.mpslp_decimal.specs.Decimal.{Number, IsDecimal, is_decimal, zero_number, is_zero}
use Rattle.mpslp_types.specs.Name.{same_bytes, bytes_cmp, is_one_of}
use Rattle.mpslp_types.specs.declared.{faults.FaultKind.{FaultKind, TheVariants.ColumnSplit}, kinds.{Kind.Kind, Limit.Limit, Sense.Sense}}
use Rattle.mpslp_types.specs.{Limit.{is_plus_infinite, is_minus_infinite, is_lower_side, is_upper_side}, Lists.are_distinct}
use Rattle.mpslp_types.proofs.BoolLemmas.{both_so, both_false, so_not, not_so, nor, or_left, true_from}
use Rattle.mpslp_types.proofs.EachLemmas.{Each, Each-from_list_all, Each-filter, Each-weaker, Each-both, Each-map, Each-all, Each-append}
use Rattle.mpslp_types.proofs.EachLemmas.{Each-flat_map, list_all-from_Each}
use Rattle.mpslp_model_core.specs.Model.{LinearModel, Row, Column, CoefficientKey, key_cmp, IsSound, is_sound_row, is_sound_column}
use Rattle.mpslp_model_core.specs.{Model.is_sound_coefficient, Views.{num_columns, row_name, row_names, row_index, column_names}}
use Rattle.mpslp_model_core.{specs.Views.{is_element, column_elements, numbered_elements}, proofs.CellLemmas.{key_total, same_key}}
use Rattle.mpslp_builder.specs.Declaration.{declare_sense, declare_column, declare_coefficient, declare_lower, declare_upper, Declarations}
use Rattle.mpslp_builder.specs.{Declaration.{by_limits, Declaration, at_name, has_name, has_row, has_column, names_in}, Consistency.Slot}
use Rattle.mpslp_builder.specs.Consistency.{sense_slot, objective_slot, constant_slot, row_slot, rhs_slot, range_slot, coefficient_slot}
use Rattle.mpslp_builder.specs.Consistency.{lower_slot, upper_slot, same_slot, all_slots, is_known, is_allowed, has_one_constant}
use Rattle.mpslp_builder.{specs.Meaning.Means, proofs.EntryLemmas.{found-each, then_stated, sorted-kept, IsNew, Apart, distinct-flat_map}}
use Rattle.mpslp_builder.proofs.{EntryLemmas.{distinct-sorted, one_of-names, at-mapped}, SlotLemmas.{same_name, flat-same, itself_named}}
use Rattle.mpslp_builder.proofs.DraftEntries.{row_named, row_sides, column_named, column_sides, lower_of, upper_of}
use Rattle.mpslp_builder.proofs.BoundsLemmas.{is_integer_kind, is_semi_kind}
use Rattle.mpslp_builder.proofs.RankedSlots.{new-from_others, Section, joined-once, AreOther, other-from_sorted, slots-append, slots-flat}
use Rattle.mpslp_types.specs.declared.forms.Form.{Form, TheVariants.{Mps, Lp}}
use Rattle.mpslp_write.specs.ByForm.{declares_in, text_in}
use Rattle.mpslp_c.specs.Arrays.{RepresentsNumber, RepresentsLimit, RepresentsSide, RepresentsName, RepresentsRow, RepresentsRows}
use Rattle.mpslp_c.specs.Arrays.{RepresentsElement, RepresentsColumn, RepresentsModel, column_len, kind_number, sense_number}
use Rattle.mpslp_c.specs.Stored.{Step, fails, step_declared, steps_with, bytes_at, sense_steps, objective_steps, row_steps, kind_steps}
use Rattle.mpslp_c.specs.Stored.{column_steps, element_steps, Item, row_items, element_items, elements_end, own_items, column_items}
use Rattle.mpslp_c.specs.Stored.{first_column_steps, items, is_good, is_good_item, declared_by, Defines}
use Rattle.mpslp_c.specs.declared.{faults.TheConstants.AT_COLUMN, numbers.MpslpNumber.MpslpNumber}
use Rattle.mpslp_c.specs.declared.arrays.{MpslpRow.MpslpRow, MpslpColumn.MpslpColumn, MpslpElement.MpslpElement, MpslpModel.MpslpModel}
use Rattle.mpslp_c.{specs.Laws.AreStoredAsTheirTexts, proofs.StatedDraft.{all_counted, number-stated, limit-stated, lower-given}}
use Rattle.mpslp_c.proofs.StatedDraft.{upper-given, name-stated, objective_stated, row_stated, kind_stated, cost_key, cost_at, head_stated}
use Rattle.mpslp_c.proofs.StatedDraft.{cell_stated, column_stated, stated_declarations, drafted, rows-drafted, columns-drafted}
use Rattle.mpslp_c.proofs.StatedDraft.{rhs_values-none, IsOwn, own-columns, integer-at, semi-at, objective-drafted, draft-means}
use Rattle.mpslp_c.proofs.{KnownLemmas.all-append, DefinesLemmas.{same_some, one_model}}
use Rattle.std.specs.FinMap as maps

-- ---- the items of the arrays of a well-formed model have no error of their own, and declare what the model says

-- ---- steps and items that have no error, and what they declare

record Give (steps : List Step) (ds : Declarations) : Type 0 where
  good : list_all is_good steps ≡ true
  declared : flat_map step_declared steps ≡ ds

pub record GiveItems (all : List Item) (ds : Declarations) : Type 0 where
  pub good : list_all is_good_item all ≡ true
  pub declared : flat_map declared_by all ≡ ds

give_with : {X : Type 0} {given : Result X FaultKind} {value : X} {ds : Declarations} (steps : X → List Step) → given ≡ Ok value
    → Give (steps value) ds → Give (steps_with given steps) ds
give_with = grind arith

no_items : GiveItems [] []
no_items = grind arith

give_item : {place number : ℕ} {steps : List Step} {more : List Item} {ds es : Declarations} → Give steps ds → GiveItems more es
    → GiveItems (record { place = place; number = number; steps = steps } ∷ more) (ds ++ es)
give_item = grind arith

give_then : {xs ys : List Item} {ds es : Declarations} → GiveItems xs ds → GiveItems ys es → GiveItems (xs ++ ys) (ds ++ es)
give_then {xs} {ys} one rest = record {
  good = all-append is_good_item xs ys one.good rest.good;
  declared = flat_map-append declared_by xs ys ∙ (λ i. one.declared i ++ rest.declared i);
}

-- ---- two lists, item by item

abbrev Pairs : {X Y : Type 0} → (X → Y → Type 0) → List X → List Y → Type 0
Pairs P [] [] = Unit {0}
Pairs P (x ∷ xs) (y ∷ ys) = P x y × Pairs P xs ys
Pairs P _ _ = ⊥

pairs-from : {X Y : Type 0} (P : X → Y → Type 0) (xs : List X) (ys : List Y) → length ys ≡ length xs
    → ((i : ℕ) (x : X) (y : Y) → slice_get xs i ≡ Some x → slice_get ys i ≡ Some y → P x y) → Pairs P xs ys
pairs-from P [] [] same each = tt
pairs-from P (x ∷ xs) (y ∷ ys) same each =
    (each 0 x y refl refl, pairs-from P xs ys (omega (arith, same)) (λ i a b at there. each (suc i) a b at there))
pairs-from P [] (y ∷ ys) same each = grind arith
pairs-from P (x ∷ xs) [] same each = grind arith

name-at : {X : Type 0} (es : List (List ℕ × X)) (i : ℕ) (e : List ℕ × X) → slice_get es i ≡ Some e
    → slice_index_or (map (λ (d : List ℕ × X). d.0) es) i [] ≡ e.0
name-at [] i e at = grind arith
name-at {X} (d ∷ es) zero e at = grind arith
name-at (d ∷ es) (suc i) e at = name-at es i e at

value-at : {X : Type 0} (es : List (List ℕ × X)) (i : ℕ) (e : List ℕ × X) → slice_get es i ≡ Some e
    → slice_get (map (λ (d : List ℕ × X). d.1) es) i ≡ Some e.1
value-at = grind (arith, slice_get-map)

each-at : {X : Type 0} (P : X → Type 0) (xs : List X) (i : ℕ) (x : X) → Each P xs → slice_get xs i ≡ Some x → P x
each-at P [] i x h at = grind arith
each-at P (y ∷ xs) zero x h at = grind arith
each-at P (y ∷ xs) (suc i) x h at = each-at P xs i x h.1 at

none-beyond : {X : Type 0} (xs : List X) (k : ℕ) → slice_get xs k ≡ None → k < length xs → ⊥
none-beyond [] k at below = omega arith
none-beyond (x ∷ xs) zero at below = cc
none-beyond (x ∷ xs) (suc k) at below = none-beyond xs k at (omega arith)

-- ---- rows

record IsRowStated (names : List ℕ) (row : List ℕ × Row) (in_c : MpslpRow) : Type 0 where
  name : RepresentsName names row.0 in_c.name
  lower : RepresentsLimit row.1.lower in_c.lower
  upper : RepresentsLimit row.1.upper in_c.upper

-- the limit or bound of an index, by the value that is there
side-of : {X : Type 0} {at : Option X} {x : X} (side : X → Limit) (in_c : MpslpNumber) → at ≡ Some x
    → RepresentsSide (option_map side at) in_c → RepresentsLimit (side x) in_c
side-of = grind arith

row-stated : (m : LinearModel) (names : List ℕ) (i : ℕ) (row : List ℕ × Row) (in_c : MpslpRow)
    → slice_get (maps.entries m.rows) i ≡ Some row → RepresentsRow m names i in_c → IsRowStated names row in_c
row-stated = grind (arith, value-at, name-at, side-of)

row-steps : (names : List ℕ) (row : List ℕ × Row) (in_c : MpslpRow) → is_sound_row row ≡ true → IsRowStated names row in_c
    → Give (row_steps names in_c) (row_stated row ∷ [])
row-steps names row in_c sound represents = let sides = row_sides row sound in
    give_with _ (name-stated names row.0 in_c.name (row_named row sound) represents.name)
    (give_with _ (limit-stated row.1.lower in_c.lower
    (lower-given row.1.lower (lower_of row.1.lower row.1.upper sides)) represents.lower)
    (give_with _ (limit-stated row.1.upper in_c.upper
    (upper-given row.1.upper (upper_of row.1.lower row.1.upper sides)) represents.upper)
    (record { good = refl; declared = refl })))

rows-items : (names : List ℕ) (i : ℕ) (rows : List (List ℕ × Row)) (in_c : List MpslpRow) →
    Each (λ row. is_sound_row row ≡ true) rows → Pairs (IsRowStated names) rows in_c →
    GiveItems (row_items names i in_c) (map row_stated rows)
rows-items names i [] [] sound pairs = no_items
rows-items names i (row ∷ rows) (t ∷ in_c) sound pairs =
    give_item (row-steps names row t sound.0 pairs.0) (rows-items names (suc i) rows in_c sound.1 pairs.1)
rows-items names i [] (t ∷ in_c) sound pairs = grind arith
rows-items names i (row ∷ rows) [] sound pairs = grind arith

-- ---- the objective

sense-stated : (sense : Sense) → Give (sense_steps (sense_number sense)) (declare_sense sense ∷ [])
sense-stated = grind arith

objective-steps : (m : LinearModel) (in_c : MpslpModel) → IsSound m → RepresentsModel m in_c →
    Give (objective_steps in_c) (objective_stated m)
objective-steps = grind (arith, sense-stated, name-stated, number-stated)

-- ---- elements

slice_get-take : {X : Type 0} (n : ℕ) (xs : List X) (k : ℕ) → k < n → slice_get (take n xs) k ≡ slice_get xs k
slice_get-take zero xs k h = grind arith
slice_get-take (suc n) [] k h = refl
slice_get-take (suc n) (x ∷ xs) zero h = refl
slice_get-take (suc n) (x ∷ xs) (suc k) h = slice_get-take n xs k (omega arith)

slice_get-drop : {X : Type 0} (a : ℕ) (xs : List X) (k : ℕ) → slice_get (drop a xs) k ≡ slice_get xs (a + k)
slice_get-drop zero xs k = let same : k ≡ 0 + k = omega arith in ap (slice_get xs) same
slice_get-drop (suc a) [] k = refl
slice_get-drop (suc a) (x ∷ xs) k = let same : suc (a + k) ≡ suc a + k = omega arith in
    slice_get-drop a xs k ∙ ap (slice_get (x ∷ xs)) same

module _ (m : LinearModel) (sound : IsSound m) (names : List ℕ) (rows : List MpslpRow)
    (counted : length rows ≡ length (row_names m)) (states_rows : RepresentsRows m names rows) where
  record IsElementStated (column : List ℕ) (cell : CoefficientKey × Number) (element : MpslpElement) : Type 0 where
    of_column : same_bytes column cell.0.column ≡ true
    decimal : IsDecimal cell.1
    row : row_index m cell.0.row ≡ Some element.row
    value : RepresentsNumber cell.1 element.value

  -- the row of a number
  row-there : (name : List ℕ) (i : ℕ) → row_index m name ≡ Some i →
      (row : MpslpRow) × (slice_get rows i ≡ Some row) × (bytes_at names row.name ≡ name)
  row-there name i is = let found = position-Some (same_bytes name) (row_names m) i [] is in by (slice_get rows i) refl found
    where
      by : (o : Option MpslpRow) → slice_get rows i ≡ o →
          (i < length (row_names m)) × (same_bytes name (get_or (row_names m) i []) ≡ true) × ((k : ℕ) → k < i →
          same_bytes name (get_or (row_names m) k []) ≡ false) →
          (row : MpslpRow) × (slice_get rows i ≡ Some row) × (bytes_at names row.name ≡ name)
      by (Some row) at found = (row, at, (states_rows i row at).name.bytes ∙ sym (same_name name (row_name m i) found.1))
      by None at found = grind (arith, none-beyond)

  element-steps : (column : List ℕ) (own : List ℕ) (cell : CoefficientKey × Number) (element : MpslpElement) → own ≡ column
      → IsElementStated column cell element →
      Give (element_steps names own (slice_get rows element.row) element) (cell_stated cell ∷ [])
  element-steps column own cell element is represents = search (rules, row-there, cell_stated, number-stated, same_name)

  elements-items : (column own : List ℕ) (k : ℕ) (cells : List (CoefficientKey × Number)) (elements : List MpslpElement)
      → own ≡ column → Pairs (IsElementStated column) cells elements →
      GiveItems (element_items names rows own k elements) (map cell_stated cells)
  elements-items column own k [] [] is pairs = no_items
  elements-items column own k (cell ∷ cells) (element ∷ elements) is pairs =
      give_item (element-steps column own cell element is pairs.0) (elements-items column own (suc k) cells elements is pairs.1)
  elements-items column own k [] (element ∷ elements) is pairs = grind arith
  elements-items column own k (cell ∷ cells) [] is pairs = grind arith

-- ---- columns

record IsColumnStated (m : LinearModel) (names : List ℕ) (all : List MpslpElement) (column : List ℕ × Column)
    (in_c : MpslpColumn) : Type 0 where
  name : RepresentsName names column.0 in_c.name
  lower : RepresentsLimit column.1.lower in_c.lower
  upper : RepresentsLimit column.1.upper in_c.upper
  cost : RepresentsNumber (cost_at m column.0) in_c.cost
  kind : in_c.kind ≡ kind_number column.1.kind
  elements : (k : ℕ) → k < column_len m column.0 →
      RepresentsElement (slice_get (numbered_elements m column.0) k) (slice_get all (in_c.first + k))

column-stated : (m : LinearModel) (names : List ℕ) (all : List MpslpElement) (j : ℕ) (column : List ℕ × Column)
    (in_c : MpslpColumn) → slice_get (maps.entries m.columns) j ≡ Some column → RepresentsColumn m names all j in_c →
    IsColumnStated m names all column in_c
column-stated = grind (arith, value-at, name-at, side-of, cost_at, same_some)

-- Where the elements of each column begin, from the first of these columns on, and where all end.
abbrev Starts : LinearModel → ℕ → List (List ℕ × Column) → List MpslpColumn → ℕ → Type 0
Starts m start [] [] end = start ≡ end
Starts m start (column ∷ columns) (t ∷ in_c) end = (t.first ≡ start) × Starts m (start + column_len m column.0) columns in_c end
Starts m start _ _ end = ⊥

starts-from : (m : LinearModel) (start end : ℕ) (columns : List (List ℕ × Column)) (in_c : List MpslpColumn) →
    length in_c ≡ length columns →
    ((j : ℕ) (t : MpslpColumn) → slice_get in_c j ≡ Some t →
    t.first ≡ start + sum_by (column_len m) (take j (map (λ (c : List ℕ × Column). c.0) columns)))
    → start + sum_by (column_len m) (map (λ (c : List ℕ × Column). c.0) columns) ≡ end → Starts m start columns in_c end
starts-from m start end [] [] same each last = grind arith
starts-from m start end (column ∷ columns) (t ∷ in_c) same each last =
    let f = column_len m in
    let names = map (λ (c : List ℕ × Column). c.0) columns in
    let first : t.first ≡ start + 0 = each 0 t refl in
    let sum = sum_by-cons f column.0 names in (
      omega (arith, first),
      starts-from m (start + column_len m column.0) end columns in_c (omega (arith, same))
          (λ j c at. let own : c.first ≡ start + sum_by f (column.0 ∷ take j names) = each (suc j) c at in
          let more = sum_by-cons f column.0 (take j names) in omega (arith, own, more)) (omega (arith, sum, last)),
    )
starts-from m start end [] (t ∷ in_c) same each last = grind arith
starts-from m start end (column ∷ columns) [] same each last = grind arith

starts-within : (m : LinearModel) (start end : ℕ) (columns : List (List ℕ × Column)) (in_c : List MpslpColumn)
    → Starts m start columns in_c end → start ≤ end
starts-within m start end [] [] starts = omega (arith, starts)
starts-within m start end (column ∷ columns) (t ∷ in_c) starts =
    grind (arith, starts-within m (start + column_len m column.0) end columns in_c starts.1)
starts-within m start end [] (t ∷ in_c) starts = grind arith
starts-within m start end (column ∷ columns) [] starts = grind arith

ends-at : (m : LinearModel) (start end : ℕ) (columns : List (List ℕ × Column)) (in_c : List MpslpColumn) →
    Starts m start columns in_c end → elements_end in_c end ≡ start
ends-at m start end [] [] starts = sym starts
ends-at m start end (column ∷ columns) (t ∷ in_c) starts = starts.0
ends-at m start end [] (t ∷ in_c) starts = grind arith
ends-at m start end (column ∷ columns) [] starts = grind arith

kind-stated : (name : List ℕ) (kind : Kind) → Give (kind_steps name (kind_number kind)) (kind_stated name kind)
kind-stated = grind arith

zero_is : is_decimal zero_number ≡ true
zero_is = refl

cost-decimal : (m : LinearModel) → IsSound m → (column : List ℕ) → IsDecimal (cost_at m column)
cost-decimal m sound column = by (maps.find key_cmp (cost_key m column) (maps.entries m.coefficients)) refl
  where
    by : (o : Option Number) → maps.find key_cmp (cost_key m column) (maps.entries m.coefficients) ≡ o →
        is_decimal (unwrap_or o zero_number) ≡ true
    by None is = zero_is
    by (Some value) is = first_so (is_decimal value) _
        (found-each key_cmp key_total same_key (λ k v. is_sound_coefficient m (k, v) ≡ true)
        (maps.entries m.coefficients) (Each-from_list_all (is_sound_coefficient m) (maps.entries m.coefficients)
        sound.coefficients) (cost_key m column) value is)

column-steps : (m : LinearModel) (sound : IsSound m) (names : List ℕ) (all : List MpslpElement) (column : List ℕ × Column)
    (in_c : MpslpColumn) → is_sound_column column ≡ true → IsColumnStated m names all column in_c
    → Give (column_steps names m.objective in_c) (head_stated m column)
column-steps m sound names all column in_c fine represents =
    let sides = column_sides column fine in
    let kind = subst (λ (n : ℕ). Give (kind_steps column.0 n) (kind_stated column.0 column.1.kind)) (sym represents.kind)
    (kind-stated column.0 column.1.kind) in
    give_with _ (name-stated names column.0 in_c.name (column_named column fine) represents.name)
    (give_with _ (limit-stated column.1.lower in_c.lower
    (lower-given column.1.lower (lower_of column.1.lower column.1.upper sides)) represents.lower)
    (give_with _ (limit-stated column.1.upper in_c.upper
    (upper-given column.1.upper (upper_of column.1.lower column.1.upper sides)) represents.upper)
    (give_with _ (number-stated (cost_at m column.0) in_c.cost (cost-decimal m sound column.0) represents.cost) (record {
      good = kind.good;
      declared = λ i. declare_column column.0 ∷ declare_lower column.0 column.1.lower ∷ declare_upper column.0 column.1.upper
          ∷ declare_coefficient (cost_key m column.0) (cost_at m column.0) ∷ kind.declared i;
    }))))

module _ (m : LinearModel) (sound : IsSound m) (names : List ℕ) (rows : List MpslpRow)
    (counted : length rows ≡ length (row_names m)) (states_rows : RepresentsRows m names rows) (all : List MpslpElement) where
  -- the nonzeros of a column
  cells-stated : (column : List ℕ × Column) (in_c : MpslpColumn) (end : ℕ) → IsColumnStated m names all column in_c
      → in_c.first + column_len m column.0 ≡ end → end ≤ length all → Pairs
      (IsElementStated m sound names rows counted states_rows column.0) (column_elements m column.0)
      (slice_range all in_c.first end)
  cells-stated column in_c end represents is within =
      let cells = column_elements m column.0 in
      let sum : in_c.first + length cells ≡ end = is in
      let own : Each (λ (e : CoefficientKey × Number). (is_sound_coefficient m e ≡ true)
      × (same_bytes column.0 e.0.column ≡ true)) cells =
      Each-filter (λ (e : CoefficientKey × Number). (is_sound_coefficient m e ≡ true) × (same_bytes column.0 e.0.column ≡ true))
      (λ e. is_element m e && same_bytes column.0 e.0.column) (maps.entries m.coefficients)
      (Each-weaker (λ (e : CoefficientKey × Number). is_sound_coefficient m e ≡ true) (λ e. (is_element m e
      && same_bytes column.0 e.0.column) ≡ true → (is_sound_coefficient m e ≡ true) × (same_bytes column.0 e.0.column ≡ true))
      (λ e fine passes. (fine, second_so (is_element m e) (same_bytes column.0 e.0.column) passes)) (maps.entries m.coefficients)
      (Each-from_list_all (is_sound_coefficient m) (maps.entries m.coefficients) sound.coefficients)) in
      let short : end - in_c.first ≤ length (drop in_c.first all) = omega (arith, within, length-drop in_c.first all) in
      pairs-from (IsElementStated m sound names rows counted states_rows column.0) cells (slice_range all in_c.first end)
      (length-take-le (end - in_c.first) (drop in_c.first all) short ∙ omega (arith, sum))
      (λ k cell element at there.
      let fine = each-at _ cells k cell own at in
      let below : k < length cells = slice_get_within cells k cell at in
      let numbered : slice_get (numbered_elements m column.0) k ≡ Some (row_index m cell.0.row, cell.1) =
      slice_get-map (λ (e : CoefficientKey × Number). (row_index m e.0.row, e.1)) cells k
      ∙ ap (option_map (λ (e : CoefficientKey × Number). (row_index m e.0.row, e.1))) at in
      let placed : slice_get all (in_c.first + k) ≡ Some element = sym (slice_get-take (end - in_c.first) (drop in_c.first all) k
      (omega (arith, sum, below)) ∙ slice_get-drop in_c.first all k) ∙ there in
      let both : (row_index m cell.0.row ≡ Some element.row)
      × RepresentsNumber cell.1 element.value = both-stated numbered placed (represents.elements k below) in
      record {
        of_column = fine.1;
        decimal = first_so (is_decimal cell.1) _ fine.0;
        row = both.0;
        value = both.1;
      })
    where
      both-stated : {o : Option (Option ℕ × Number)} {p : Option MpslpElement} {entry : Option ℕ × Number}
          {element : MpslpElement} → o ≡ Some entry → p ≡ Some element → RepresentsElement o p →
          (entry.0 ≡ Some element.row) × RepresentsNumber entry.1 element.value
      both-stated = grind arith

  own-items : (j : ℕ) (column : List ℕ × Column) (in_c : MpslpColumn) (end : ℕ) → IsColumnStated m names all column in_c
      → in_c.first + column_len m column.0 ≡ end → end ≤ length all
      → GiveItems (own_items names rows all j in_c end) (map cell_stated (column_elements m column.0))
  own-items j column in_c end represents is within = let low : nat_le in_c.first end ≡ true =
      le-leb in_c.first end (omega (arith, is)) in
      let high : nat_le end (length all) ≡ true = le-leb end (length all) within in subst
      (λ (b : Bool). GiveItems (if b then element_items names rows (bytes_at names in_c.name) in_c.first
      (slice_range all in_c.first end)
      else record { place = AT_COLUMN; number = j; steps = fails ColumnSplit ∷ [] } ∷ [])
      (map cell_stated (column_elements m column.0)))
      (sym (both_so (nat_le in_c.first end) (nat_le end (length all)) low high))
      (elements-items m sound names rows counted states_rows column.0 (bytes_at names in_c.name) in_c.first
      (column_elements m column.0) (slice_range all in_c.first end) represents.name.bytes
      (cells-stated column in_c end represents is within))

  columns-items : (j start : ℕ) (columns : List (List ℕ × Column)) (in_c : List MpslpColumn)
      → Each (λ column. is_sound_column column ≡ true) columns → Pairs (IsColumnStated m names all) columns in_c →
      Starts m start columns
      in_c (length all) → GiveItems (column_items names m.objective rows all j in_c) (flat_map (column_stated m) columns)
  columns-items j start [] [] fine pairs starts = no_items
  columns-items j start (column ∷ columns) (t ∷ in_c) fine pairs starts = let next = start + column_len m column.0 in
      let ends : elements_end in_c (length all) ≡ next = ends-at m next (length all) columns in_c starts.1 in
      let within : next ≤ length all = starts-within m next (length all) columns in_c starts.1 in give_then {xs =
      record { place = AT_COLUMN; number = j; steps = column_steps names m.objective t } ∷ own_items names rows all j t
      (elements_end in_c (length all))} (give_item (column-steps m sound names all column t fine.0 pairs.0)
      (own-items j column t (elements_end in_c (length all)) pairs.0 (omega (arith, ends, starts.0))
      (omega (arith, ends, within)))) (columns-items (suc j) next columns in_c fine.1 pairs.1 starts.1)
  columns-items j start [] (t ∷ in_c) fine pairs starts = grind arith
  columns-items j start (column ∷ columns) [] fine pairs starts = grind arith

-- ---- all items

first-steps : (m : LinearModel) (end : ℕ) (columns : List (List ℕ × Column)) (in_c : List MpslpColumn) →
    Starts m 0 columns in_c end → Give (first_column_steps in_c) []
first-steps m end [] [] starts = record { good = refl; declared = refl }
first-steps m end (column ∷ columns) (t ∷ in_c) starts =
    subst (λ (n : ℕ). Give (if nat_le n 0 then [] else fails ColumnSplit ∷ []) []) (sym starts.0)
    (record { good = refl; declared = refl })
first-steps m end [] (t ∷ in_c) starts = grind arith
first-steps m end (column ∷ columns) [] starts = grind arith

pub items-stated : (m : LinearModel) (in_c : MpslpModel) → IsSound m → RepresentsModel m in_c →
    GiveItems (items in_c) (stated_declarations m)
items-stated m in_c sound represents =
    let names = in_c.names.now in
    let rows = maps.entries m.rows in
    let columns = maps.entries m.columns in
    let all = in_c.elements.now in
    let f = column_len m in
    let row_pairs = pairs-from (IsRowStated names) rows in_c.rows.now
    (represents.num_rows ∙ length-map rows (λ (e : List ℕ × Row). e.0))
    (λ i row t at there. row-stated m names i row t at (represents.rows i t there)) in
    let column_pairs = pairs-from (IsColumnStated m names all) columns in_c.columns.now
    (represents.num_columns ∙ length-map columns (λ (e : List ℕ × Column). e.0))
    (λ j column t at there. column-stated m names all j column t at (represents.columns j t there)) in
    let total : sum_by f (column_names m) ≡ length all =
    sym (ap (sum_by f) (take_all (num_columns m) (column_names m) (omega arith)))
    ∙ all_counted m sound ∙ sym represents.num_elements in
    let starts : Starts m 0 columns in_c.columns.now (length all) = starts-from m 0
    (length all) columns in_c.columns.now (represents.num_columns ∙ length-map columns (λ (e : List ℕ × Column). e.0))
    (λ j t there. let first = (represents.columns j t there).head.first in omega (arith, first)) (omega (arith, total)) in
    give_item (objective-steps m in_c sound represents) (give_then (rows-items names 0 rows in_c.rows.now
    (Each-from_list_all is_sound_row rows sound.rows) row_pairs)
    (give_item (first-steps m (length all) columns in_c.columns.now starts)
    (subst (λ (objective : List ℕ). GiveItems (column_items names objective in_c.rows.now all 0 in_c.columns.now)
    (flat_map (column_stated m) columns)) (sym represents.objective.bytes)
    (columns-items m sound names in_c.rows.now represents.num_rows represents.rows all 0 0 columns in_c.columns.now
    (Each-from_list_all is_sound_column columns sound.columns) column_pairs starts))))

-- ---- the arrays of a well-formed model define it: what they declare is consistent and means the model

-- ---- each slot is filled once

-- the slots of elements of different names, if each has the name of its element
abbrev IsOwnedBy : (Slot → Option (List ℕ)) → List ℕ → Slot → Type 0
IsOwnedBy owner name slot = owner slot ≡ Some name

no_truth : false ≡ true → ⊥
no_truth h = cc

some_name : (a b : List ℕ) → ◌≡◌ {A = Option (List ℕ)} (Some a) (Some b) → same_bytes b a ≡ false → ⊥
some_name = grind (arith, no_truth, same_some, itself_named)

owned-apart : {X : Type 0} (owner : Slot → Option (List ℕ)) (f : List ℕ × X → List Slot)
    → ((e : List ℕ × X) → Each (IsOwnedBy owner e.0) (f e)) → (es : List (List ℕ × X)) → AreOther es → Apart same_slot f es
owned-apart owner f own [] h = tt
owned-apart {X} owner f own (e ∷ es) h = (
  Each-weaker (IsOwnedBy owner e.0) (λ slot. Each (λ later. IsNew same_slot slot (f later)) es)
      (λ slot is. Each-weaker (λ later. same_bytes later.0 e.0 ≡ false) (λ later. IsNew same_slot slot (f later)) (λ later other.
      new-from_others slot (f later) (Each-weaker (IsOwnedBy owner later.0) (λ x. x ≡ slot → ⊥)
      (λ x its same. some_name e.0 later.0 (sym is ∙ ap owner (sym same) ∙ its) other) (f later) (own later))) es h.0)
      (f e) (own e),
  owned-apart owner f own es h.1,
)

abbrev row_owner : Slot → Option (List ℕ)
row_owner (row_slot name) = Some name
row_owner (rhs_slot name) = Some name
row_owner (range_slot name) = Some name
row_owner _ = None

abbrev column_owner : Slot → Option (List ℕ)
column_owner (lower_slot name) = Some name
column_owner (upper_slot name) = Some name
column_owner (coefficient_slot key) = Some key.column
column_owner _ = None

-- the objective comes first, then the rows, then the columns
abbrev rank : List ℕ → Slot → ℕ
rank objective (row_slot name) = cond (same_bytes name objective) 0 1
rank objective (rhs_slot name) = 1
rank objective (range_slot name) = 1
rank objective (coefficient_slot key) = 2
rank objective (lower_slot name) = 2
rank objective (upper_slot name) = 2
rank objective _ = 0

abbrev row_slots : List ℕ × Row → List Slot
row_slots row = row_slot row.0 ∷ rhs_slot row.0 ∷ range_slot row.0 ∷ []

abbrev cell_slot : CoefficientKey × Number → Slot
cell_slot cell = coefficient_slot cell.0

abbrev column_slots : LinearModel → List ℕ × Column → List Slot
column_slots m column = lower_slot column.0 ∷ upper_slot column.0 ∷ coefficient_slot (cost_key m column.0) ∷ map
    cell_slot (column_elements m column.0)

rows-fill : (rows : List (List ℕ × Row)) → all_slots (map row_stated rows) ≡ flat_map row_slots rows
rows-fill [] = refl
rows-fill (row ∷ rows) = grind (arith, rows-fill rows)

cells-fill : (cells : List (CoefficientKey × Number)) → all_slots (map cell_stated cells) ≡ map cell_slot cells
cells-fill [] = refl
cells-fill (cell ∷ cells) = grind (arith, cells-fill cells)

column-fills : (m : LinearModel) (column : List ℕ × Column) → all_slots (column_stated m column) ≡ column_slots m column
column-fills = grind (arith, cost_key, cell_stated, cells-fill, kind_stated)

-- no slot of a coefficient is this one
no-cell : (slot : Slot) (cells : List (CoefficientKey × Number)) → Each (λ cell. same_slot (cell_slot cell) slot ≡ false) cells
    → list_any (λ later. same_slot later slot) (map cell_slot cells) ≡ false
no-cell slot [] h = refl
no-cell slot (cell ∷ cells) h = grind (arith, both_false, no-cell slot cells h.1)

abbrev same_place : CoefficientKey → CoefficientKey → Bool
same_place a b = same_bytes a.row b.row && same_bytes a.column b.column

one_place : (a b : CoefficientKey) → same_place a b ≡ true → a ≡ b
one_place = search (rules, same_name)

abbrev keys_of : List (CoefficientKey × Number) → List CoefficientKey
keys_of cells = map (λ cell. cell.0) cells

cells-once : (cells : List (CoefficientKey × Number)) → is_sorted key_cmp cells ≡ true →
    are_distinct same_slot (map cell_slot cells) ≡ true
cells-once cells sorted = as-keys cells ∙ distinct-sorted key_cmp key_total same_place one_place cells sorted
  where
    any-key : (key : CoefficientKey) (es : List (CoefficientKey × Number)) →
        list_any (λ later. same_slot later (coefficient_slot key)) (map cell_slot es) ≡ list_any
        (λ later. same_place later key) (keys_of es)
    any-key key [] = refl
    any-key key (e ∷ es) = grind (arith, any-key key es)

    as-keys : (es : List (CoefficientKey × Number)) →
        are_distinct same_slot (map cell_slot es) ≡ are_distinct same_place (keys_of es)
    as-keys [] = refl
    as-keys (e ∷ es) = λ i. not (any-key e.0 es i) && as-keys es i

not-same : (a b : List ℕ) → not (same_bytes a b) ≡ true → same_bytes b a ≡ false
not-same = search (rules, not_so)

module _ (m : LinearModel) (sound : IsSound m) where
  abbrev rows : List (List ℕ × Row)
  rows = maps.entries m.rows

  abbrev columns : List (List ℕ × Column)
  columns = maps.entries m.columns

  abbrev cells : List (CoefficientKey × Number)
  cells = maps.entries m.coefficients

  -- the nonzeros of a column are sound, of rows, and its own
  abbrev IsOwnCell : List ℕ → CoefficientKey × Number → Type 0
  IsOwnCell name cell = (is_sound_coefficient m cell ≡ true) × (not (same_bytes m.objective cell.0.row) ≡ true)
      × (same_bytes name cell.0.column ≡ true)

  own-cells : (name : List ℕ) → Each (IsOwnCell name) (column_elements m name)
  own-cells name = Each-filter (IsOwnCell name) (λ e. is_element m e && same_bytes name e.0.column) cells
      (Each-weaker (λ e. is_sound_coefficient m e ≡ true) (λ e. (is_element m e && same_bytes name e.0.column) ≡ true →
      IsOwnCell name e) (λ e fine passes. (
        fine,
        first_so (is_element m e) (same_bytes name e.0.column) passes,
        second_so (is_element m e)
            (same_bytes name e.0.column) passes,
      )) cells
      (Each-from_list_all (is_sound_coefficient m) cells sound.coefficients))

  column-once : (column : List ℕ × Column) → are_distinct same_slot (column_slots m column) ≡ true
  column-once column = let own = column_elements m column.0 in
      let slots = map cell_slot own in
      let key = cost_key m column.0 in
      let sorted = sorted-kept key_cmp (λ e. is_element m e && same_bytes column.0 e.0.column) cells
      (true_from (is_sorted key_cmp cells) (maps.entries_sorted m.coefficients)) in
      let no_lower = no-cell (lower_slot column.0) own
      (Each-all (λ cell. same_slot (cell_slot cell) (lower_slot column.0) ≡ false) (λ _. refl) own) in
      let no_upper = no-cell (upper_slot column.0) own
      (Each-all (λ cell. same_slot (cell_slot cell) (upper_slot column.0) ≡ false) (λ _. refl) own) in
      let no_cost = no-cell (coefficient_slot key) own
      (Each-weaker (IsOwnCell column.0) (λ cell. same_slot (cell_slot cell) (coefficient_slot key) ≡ false)
      (λ cell is. ap (λ (b : Bool). b && same_bytes cell.0.column column.0) (not-same m.objective cell.0.row is.1)) own
      (own-cells column.0)) in
      both_so (not (list_any (λ later. same_slot later (lower_slot column.0)) slots)) (are_distinct same_slot (upper_slot column.0
      ∷ coefficient_slot key ∷ slots)) (so_not _ no_lower)
      (both_so (not (list_any (λ later. same_slot later (upper_slot column.0)) slots))
      (are_distinct same_slot (coefficient_slot key ∷ slots)) (so_not _ no_upper)
      (both_so (not (list_any (λ later. same_slot later (coefficient_slot key)) slots))
      (are_distinct same_slot slots) (so_not _ no_cost) (cells-once own sorted)))

  columns-section : Section (rank m.objective) 2 (flat_map (column_slots m) columns)
  columns-section = record {
    once = distinct-flat_map same_slot (column_slots m) columns
        (Each-all (λ c. are_distinct same_slot (column_slots m c) ≡ true) column-once columns)
        (owned-apart column_owner (column_slots m) owned columns
        (other-from_sorted columns (true_from (is_sorted bytes_cmp columns) (maps.entries_sorted m.columns))));
    ranked = Each-flat_map (λ slot. rank m.objective slot ≡ 2) (column_slots m) columns
        (Each-all (λ c. Each (λ slot. rank m.objective slot ≡ 2) (column_slots m c))
        (λ c. (
          refl,
          (
            refl,
            (
              refl,
              Each-map (λ slot. rank m.objective slot ≡ 2) cell_slot (column_elements m c.0)
                  (Each-all (λ e. rank m.objective (cell_slot e) ≡ 2) (λ _. refl) (column_elements m c.0)),
            ),
          ),
        )) columns);
  }
    where
      owned : (c : List ℕ × Column) → Each (IsOwnedBy column_owner c.0) (column_slots m c)
      owned c = (
        refl,
        (
          refl,
          (
            refl,
            Each-map (IsOwnedBy column_owner c.0) cell_slot (column_elements m c.0)
                (Each-weaker (IsOwnCell c.0) (λ e. IsOwnedBy column_owner c.0 (cell_slot e))
                (λ e is. ap (λ (n : List ℕ). Some n) (sym (same_name c.0 e.0.column is.2))) (column_elements m c.0)
                (own-cells c.0)),
          ),
        ),
      )

  other-rows : (es : List (List ℕ × Row)) → is_one_of (names_in es) m.objective ≡ false →
      Each (λ row. same_bytes row.0 m.objective ≡ false) es
  other-rows [] h = tt
  other-rows (e ∷ es) h = let apart = nor (same_bytes m.objective e.0) (is_one_of (names_in es) m.objective) h in
      (nat_list_eq_equiv.symm e.0 m.objective ∙ apart.0, other-rows es apart.1)

  rows-section : Section (rank m.objective) 1 (flat_map row_slots rows)
  rows-section = record {
    once = distinct-flat_map same_slot row_slots rows
        (Each-all (λ r. are_distinct same_slot (row_slots r) ≡ true) (λ _. refl) rows)
        (owned-apart row_owner row_slots (λ _. (refl, (refl, (refl, tt)))) rows
        (other-from_sorted rows (true_from (is_sorted bytes_cmp rows) (maps.entries_sorted m.rows))));
    ranked = Each-flat_map (λ slot. rank m.objective slot ≡ 1) row_slots rows
        (Each-weaker (λ row. same_bytes row.0 m.objective ≡ false)
        (λ row. Each (λ slot. rank m.objective slot ≡ 1) (row_slots row))
        (λ row other. (ap (λ (b : Bool). cond b 0 1) other, (refl, (refl, tt)))) rows
        (other-rows rows sound.objective_is_no_row));
  }

  objective-section : Section (rank m.objective) 0 (objective_slot ∷ row_slot m.objective ∷ constant_slot ∷ sense_slot ∷ [])
  objective-section = record {
    once = refl;
    ranked = (refl, (ap (λ (b : Bool). cond b 0 1) (itself_named m.objective), (refl, (refl, tt))));
  }

  stated-once : are_distinct same_slot (all_slots (stated_declarations m)) ≡ true
  stated-once = let front = objective_slot ∷ row_slot m.objective ∷ constant_slot ∷ sense_slot ∷ [] in ap (λ (slots : List Slot).
      are_distinct same_slot (front ++ slots)) (slots-append (map row_stated rows) (flat_map (column_stated m) columns)
      ∙ (λ i. rows-fill rows i ++ (slots-flat (column_stated m) columns ∙ flat-same (λ c. all_slots (column_stated m c))
      (column_slots m) (column-fills m) columns ∙ sym (append-nil (flat_map (column_slots m) columns))) i))
      ∙ joined-once (rank m.objective) 0
      (front ∷ flat_map row_slots rows ∷ flat_map (column_slots m) columns ∷ [])
      (objective-section, (rows-section, (columns-section, tt)))

  -- ---- each name that is used is declared, and nothing is declared that may not be

  has-row : (name : List ℕ) → has_row (drafted m) name ≡ is_one_of (m.objective ∷ maps.keys m.rows) name
  has-row name = (λ i. option_map_or (same_bytes name) (objective-drafted m i) false || has_name (rows-drafted m i) name)
      ∙ ap (λ (b : Bool). same_bytes name m.objective || b)
      (ap is_some (at-mapped (λ (r : Row). by_limits r.lower r.upper) name rows) ∙ there (at_name rows name)
      ∙ sym (one_of-names name rows))
    where
      there : (o : Option Row) → is_some (then_stated (λ (r : Row). Some (by_limits r.lower r.upper)) o) ≡ is_some o
      there = grind arith

  has-own : (column : List ℕ × Column) → IsOwn m column → has_column (drafted m) column.0 ≡ true
  has-own column own = ap (λ (es : List (List ℕ × Unit {0})). has_name es column.0) (columns-drafted m)
      ∙ ap is_some (at-mapped (λ (c : Column). tt) column.0 columns ∙ ap (then_stated (λ (c : Column). Some tt)) own)

  -- a property of all that is declared
  each-stated : (P : Declaration → Type 0) → Each P (objective_stated m) → Each (λ row. P (row_stated row)) rows
      → ((c : List ℕ × Column) → IsOwn m c → is_sound_column c ≡ true → Each P (column_stated m c)) →
      Each P (stated_declarations m)
  each-stated P front row column =
      Each-append P (objective_stated m) (map row_stated rows ++ flat_map (column_stated m) columns) front
      (Each-append P (map row_stated rows) (flat_map (column_stated m) columns) (Each-map P row_stated rows row)
      (Each-flat_map P (column_stated m) columns
      (Each-both (IsOwn m) (λ c. is_sound_column c ≡ true) (λ c. Each P (column_stated m c)) column columns
      (own-columns m) (Each-from_list_all is_sound_column columns sound.columns))))

  all-known : list_all (is_known (drafted m)) (stated_declarations m) ≡ true
  all-known = list_all-from_Each (is_known (drafted m)) (stated_declarations m) (each-stated (λ d. is_known (drafted m) d ≡ true)
      (refl, (refl, (refl, tt))) (Each-all (λ row. is_known (drafted m) (row_stated row) ≡ true) (λ _. refl) rows) of-column)
    where
      of-column : (c : List ℕ × Column) → IsOwn m c → is_sound_column c ≡ true →
          Each (λ d. is_known (drafted m) d ≡ true) (column_stated m c)
      of-column c own fine =
          let here = has-own c own in
          let objective : has_row (drafted m) m.objective ≡ true = has-row m.objective
          ∙ or_left (same_bytes m.objective m.objective) (is_one_of (maps.keys m.rows) m.objective)
          (itself_named m.objective) in (
            refl,
            (
              here,
              (
                here,
                (
                  both_so (has_row (drafted m) m.objective) (has_column (drafted m) c.0) objective here,
                  Each-append (λ d. is_known (drafted m) d ≡ true) (kind_stated c.0 c.1.kind)
                      (map cell_stated (column_elements m c.0)) (kinds c.1.kind)
                      (Each-map (λ d. is_known (drafted m) d ≡ true) cell_stated (column_elements m c.0)
                      (Each-weaker (IsOwnCell c.0) (λ e. is_known (drafted m) (cell_stated e) ≡ true) of-cell
                      (column_elements m c.0) (own-cells c.0))),
                ),
              ),
            ),
          )
        where
          kinds : (kind : Kind) → Each (λ d. is_known (drafted m) d ≡ true) (kind_stated c.0 kind)
          kinds = grind (arith, has-own)

          of-cell : (e : CoefficientKey × Number) → IsOwnCell c.0 e → is_known (drafted m) (cell_stated e) ≡ true
          of-cell e is = let names = is_one_of (maps.keys m.columns) e.0.column in
              let places = is_one_of (m.objective ∷ maps.keys m.rows) e.0.row in
              let row : places ≡ true = second_so names places
              (second_so (not (is_zero e.1)) (names && places)
              (second_so (is_decimal e.1) (not (is_zero e.1) && (names && places)) is.0)) in
              both_so (has_row (drafted m) e.0.row) (has_column (drafted m) e.0.column) (has-row e.0.row ∙ row)
              (ap (has_column (drafted m)) (sym (same_name c.0 e.0.column is.2)) ∙ has-own c own)

  lower-allowed : (l : Limit) → is_lower_side l ≡ true → is_plus_infinite l ≡ false
  lower-allowed = grind arith

  upper-allowed : (u : Limit) → is_upper_side u ≡ true → is_minus_infinite u ≡ false
  upper-allowed = grind arith

  all-allowed : list_all (is_allowed (drafted m)) (stated_declarations m) ≡ true
  all-allowed = list_all-from_Each (is_allowed (drafted m)) (stated_declarations m)
      (each-stated (λ d. is_allowed (drafted m) d ≡ true) (refl, (refl, (refl, tt))) (Each-weaker (λ row. is_sound_row row ≡ true)
      (λ row. is_allowed (drafted m) (row_stated row) ≡ true) of-row rows
      (Each-from_list_all is_sound_row rows sound.rows)) of-column)
    where
      of-row : (row : List ℕ × Row) → is_sound_row row ≡ true → is_allowed (drafted m) (row_stated row) ≡ true
      of-row = grind arith

      of-column : (c : List ℕ × Column) → IsOwn m c → is_sound_column c ≡ true →
          Each (λ d. is_allowed (drafted m) d ≡ true) (column_stated m c)
      of-column c own fine =
          let sides = column_sides c fine in (
            refl,
            (
              so_not (is_plus_infinite c.1.lower) (lower-allowed c.1.lower (lower_of c.1.lower c.1.upper sides)),
              (
                so_not (is_minus_infinite c.1.upper) (upper-allowed c.1.upper (upper_of c.1.lower c.1.upper sides)),
                (
                  refl,
                  Each-append (λ d. is_allowed (drafted m) d ≡ true) (kind_stated c.0 c.1.kind)
                      (map cell_stated (column_elements m c.0)) (kinds c.1.kind refl)
                      (Each-map (λ d. is_allowed (drafted m) d ≡ true) cell_stated (column_elements m c.0)
                      (Each-all (λ e. is_allowed (drafted m) (cell_stated e) ≡ true) (λ _. refl) (column_elements m c.0))),
                ),
              ),
            ),
          )
        where
          kinds : (kind : Kind) → c.1.kind ≡ kind → Each (λ d. is_allowed (drafted m) d ≡ true) (kind_stated c.0 kind)
          kinds = grind (arith, so_not, drafted, semi-at, is_semi_kind, integer-at, is_integer_kind)

  one-constant : has_one_constant (drafted m) ≡ true
  one-constant = grind (arith, drafted, rhs_values-none, objective-drafted, so_not)

  stated-means : Means (stated_declarations m) m
  stated-means = search (rules, stated-once, one-constant, all-known, all-allowed, draft-means)

-- The arrays of a well-formed model define it.
pub arrays-define : (m : LinearModel) (arrays : MpslpModel) → IsSound m → RepresentsModel m arrays → Defines arrays m
arrays-define m arrays sound represents = let given = items-stated m arrays sound represents in
    record { good = given.good; means = subst (λ (ds : Declarations). Means ds m) (sym given.declared) (stated-means m sound) }

-- ---- a loaded model that is stored again has the canonical text of what was loaded

declared-sound : (from : Form) (bytes : List ℕ) (m : LinearModel) → declares_in from bytes m → IsSound m
declared-sound Mps bytes m declares = declares.means.meant.sound
declared-sound Lp bytes m declares = declares.means.meant.sound

declared-once : (from : Form) (bytes : List ℕ) (m n : LinearModel) → declares_in from bytes m → declares_in from bytes n → m ≡ n
declared-once Mps bytes m n one other = one.means.meant.model ∙ sym other.means.meant.model
declared-once Lp bytes m n one other = one.means.meant.model ∙ sym other.means.meant.model

pub stored-as-texts : AreStoredAsTheirTexts
stored-as-texts from to bytes m arrays text declares loaded stored = let same : stored.0
    ≡ m = one_model arrays stored.0 loaded.0 stored.1
    (arrays-define loaded.0 arrays (declared-sound from bytes loaded.0 loaded.1) loaded.2)
    ∙ declared-once from bytes loaded.0 m loaded.1 declares in stored.3 ∙ ap (text_in to) same
