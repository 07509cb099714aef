-- The declarations of the canonical text of a listing, and the draft that they make, map by map.
use Rattle.mpslp_mps_laws.proofs.Prelude
use Prelude.{Bool, CoefficientKey, Column, Continuous, Declaration, Declarations, Draft, Each, Each-all, Each-append, Each-flat_map}
use Prelude.{Finite, Integer, Kind, Limit, List, Listing, MinusInf, None, Number}
use Prelude.{Option, PlusInf, PrintedBound, Row, RowDefinition, Semi, Sense, Some, T_from, [], all_stated, any-name, ap, append-nil}
use Prelude.{append_assoc, arith, at-mapped, at_name, binaries-all, binary_part, by_type, bytes_cmp, bytes_total, cell_at, coefficient_part}
use Prelude.{coefficients-all, column_coefficients, column_part, columns-all, cond, cons_option, declare_lower, declare_objective}
use Prelude.{declare_range, declare_rhs, declare_row, declare_semi, declare_sense, declare_upper, draft_of, empty_draft}
use Prelude.{false, filter, filter-not_not, filter_map, find, find-front, find-kept, find-puts, find-stated, first_so, first_there}
use Prelude.{flat-none, flat-same, flat_map, flat_map-append, flat_map-flat_map, found-each, found-either, has_integer_kind, has_name}
use Prelude.{have_same_value, integers-all, is_decimal, is_integer_column, is_one_of, is_plain_column, is_semi_kind, is_some}
use Prelude.{is_sorted, is_zero, key_cmp, key_total, lower_part, lower_stated, lowers-all, map}
use Prelude.{marked-all, marked_part, named, names_in, names_sorted, negated, not, option_map, parted-give, printed_bounds}
use Prelude.{printed_coefficients, printed_range, printed_rhs, printed_type, puts, puts-append, puts-kept, puts-own, range_part, ranges-all}
use Prelude.{refl, rhs_part, rhs_values-all, row_part, rows-all, same_bytes, same_key, same_name, second_so, semi_part, semis-all}
use Prelude.{some_append_left, some_append_right, some_cons, sorted-kept, sorted-stated, stated, suits, sym, then_stated, tied_names, true}
use Prelude.{upper_part, upper_stated, uppers-all, value_in, ℕ, ◌&&◌, ◌++◌, ◌||◌, ◌∙◌, ◌∷◌, ◌≡◌}
use Rattle.mpslp_builder.proofs.{DraftEntries.{integer_part}, ListingLemmas.{IsSoundListing, is_sound_entry, place_at}}
use Rattle.mpslp_mps_laws.proofs.SectionWalks.{Bound, Cell, RowItem, Side, bound_decl, cell_decl, cells_of, range_decl, row_decl}
use Rattle.mpslp_mps_laws.proofs.{SectionWalks.side_decl, WholeWalk.{Whole, bounds_in, cells_in, group_in, row_range, row_side}}
use Rattle.mpslp_mps_laws.proofs.WholeWalk.{sense_decl, side_unless_zero, sides_in, to_bound, to_cell, to_row, to_side, whole_decl}
use Rattle.mpslp_mps_laws.proofs.WholeWalk.{whole_of}

-- ---- the declarations of canonical text, section by section: their properties, and what they put into a map. What the
-- declarations of a listing's canonical text put into each map

-- ---- properties of each declaration

pub record EachSection (P : Declaration → Type 0) (w : Whole) : Type 0 where
  pub sense : Each P (sense_decl w.sense)
  pub objective : P (declare_objective w.objective)
  pub rows : Each (λ (row : RowItem). Each P (row_decl row)) w.rows
  pub plain : Each (λ (cell : Cell). Each P (cell_decl false cell)) (cells_of w.plain)
  pub integers : Each (λ (cell : Cell). Each P (cell_decl true cell)) (cells_of w.integers)
  pub sides : Each (λ (side : Side). Each P (side_decl side)) w.late.sides
  pub ranges : Each (λ (side : Side). Each P (range_decl side)) w.late.ranges
  pub bounds : Each (λ (b : Bound). Each P (bound_decl b)) w.late.bounds

pub each-whole : (P : Declaration → Type 0) (w : Whole) → EachSection P w → Each P (whole_decl w)
each-whole P w h =
    let rows = flat_map row_decl w.rows in
    let plain = flat_map (cell_decl false) (cells_of w.plain) in
    let integers = flat_map (cell_decl true) (cells_of w.integers) in
    let sides = flat_map side_decl w.late.sides in
    let ranges = flat_map range_decl w.late.ranges in
    let bounds = flat_map bound_decl w.late.bounds in Each-append P _ _ h.sense
    (Each-append P (declare_objective w.objective ∷ rows) ((plain ++ integers) ++ (sides ++ (ranges ++ (bounds ++ []))))
    (h.objective, Each-flat_map P row_decl w.rows h.rows)
    (Each-append P _ _ (Each-append P plain integers (Each-flat_map P (cell_decl false) _ h.plain)
    (Each-flat_map P (cell_decl true) _ h.integers))
    (Each-append P sides _ (Each-flat_map P side_decl w.late.sides h.sides)
    (Each-append P ranges _ (Each-flat_map P range_decl w.late.ranges h.ranges)
    (Each-append P bounds [] (Each-flat_map P bound_decl w.late.bounds h.bounds) tt)))))

-- ---- what declarations put into a map

-- what each line puts into a map by a kind of declaration
abbrev pub made_of : {X Y : Type 0} → (Declaration → List Y) → (X → Declarations) → X → List Y
made_of part decl x = flat_map part (decl x)

abbrev pub section_parts : {Y : Type 0} → (Declaration → List Y) → Whole → List Y
section_parts part w = flat_map part (sense_decl w.sense)
    ++ ((part (declare_objective w.objective) ++ flat_map (made_of part row_decl) w.rows)
    ++ ((flat_map (made_of part (cell_decl false)) (cells_of w.plain) ++ flat_map (made_of part (cell_decl true))
    (cells_of w.integers)) ++ (flat_map (made_of part side_decl) w.late.sides
    ++ (flat_map (made_of part range_decl) w.late.ranges ++ flat_map (made_of part bound_decl) w.late.bounds))))

follow : {Y : Type 0} (part : Declaration → List Y) (xs ys : Declarations) (us vs : List Y) → flat_map part xs ≡ us →
    flat_map part ys ≡ vs → flat_map part (xs ++ ys) ≡ us ++ vs
follow part xs ys us vs h k = flat_map-append part xs ys ∙ (λ i. h i ++ k i)

pub whole-parts : {Y : Type 0} (part : Declaration → List Y) (w : Whole) → flat_map part (whole_decl w) ≡ section_parts part w
whole-parts part w =
    let rows = flat_map row_decl w.rows in
    let plain = flat_map (cell_decl false) (cells_of w.plain) in
    let integers = flat_map (cell_decl true) (cells_of w.integers) in
    let sides = flat_map side_decl w.late.sides in
    let ranges = flat_map range_decl w.late.ranges in
    let bounds = flat_map bound_decl w.late.bounds in follow part (sense_decl w.sense)
    _ _ _ refl (follow part (declare_objective w.objective ∷ rows) ((plain ++ integers) ++ (sides ++ (ranges ++ (bounds ++ []))))
    _ _ (ap (λ (ys : List _). part (declare_objective w.objective) ++ ys) (flat_map-flat_map part row_decl w.rows))
    (follow part (plain ++ integers) (sides ++ (ranges ++ (bounds ++ []))) _ _
    (follow part plain integers _ _ (flat_map-flat_map part (cell_decl false) (cells_of w.plain))
    (flat_map-flat_map part (cell_decl true) (cells_of w.integers)))
    (follow part sides (ranges ++ (bounds ++ [])) _ _ (flat_map-flat_map part side_decl w.late.sides)
    (follow part ranges (bounds ++ []) _ _ (flat_map-flat_map part range_decl w.late.ranges)
    (ap (flat_map part) (append-nil bounds) ∙ flat_map-flat_map part bound_decl w.late.bounds)))))

-- ---- parts that are empty, and those that are not

pub sense-none : {Y : Type 0} (part : Declaration → List Y) → ((s : Sense) → part (declare_sense s) ≡ []) → (s : Sense)
    → flat_map part (sense_decl s) ≡ []
sense-none = grind arith

pub bound-none : {Y : Type 0} (part : Declaration → List Y) → ((x : List ℕ) (l : Limit) → part (declare_lower x l) ≡ [])
    → ((x : List ℕ) (l : Limit) → part (declare_upper x l) ≡ []) → ((x : List ℕ) → part (declare_semi x) ≡ []) → (b : Bound)
    → made_of part bound_decl b ≡ []
bound-none = grind arith

-- the parts of all sections, one by one
pub record SectionParts {Y : Type 0} (part : Declaration →
    List Y) (w : Whole) (rows plain integers sides ranges bounds : List Y) : Type 0
  where
    pub of_sense : flat_map part (sense_decl w.sense) ≡ []
    pub of_objective : part (declare_objective w.objective) ≡ []
    pub of_rows : flat_map (made_of part row_decl) w.rows ≡ rows
    pub of_plain : flat_map (made_of part (cell_decl false)) (cells_of w.plain) ≡ plain
    pub of_integers : flat_map (made_of part (cell_decl true)) (cells_of w.integers) ≡ integers
    pub of_sides : flat_map (made_of part side_decl) w.late.sides ≡ sides
    pub of_ranges : flat_map (made_of part range_decl) w.late.ranges ≡ ranges
    pub of_bounds : flat_map (made_of part bound_decl) w.late.bounds ≡ bounds

pub joined-parts : {Y : Type 0} (part : Declaration → List Y) (w : Whole) (rows plain integers sides ranges bounds : List Y)
    → SectionParts part w rows plain integers sides ranges bounds
    → flat_map part (whole_decl w) ≡ rows ++ ((plain ++ integers) ++ (sides ++ (ranges ++ bounds)))
joined-parts part w rows plain integers sides ranges bounds h = whole-parts part w ∙ (λ i. h.of_sense i
    ++ ((h.of_objective i ++ h.of_rows i) ++
    ((h.of_plain i ++ h.of_integers i) ++ (h.of_sides i ++ (h.of_ranges i ++ h.of_bounds i)))))

-- ---- what is declared of a row and of a column

abbrev pub form_stated : Row → RowDefinition
form_stated row = by_type (printed_type row.lower row.upper)

-- a value that is declared unless it is 0
abbrev pub value_stated : Number → Option Number
value_stated value = cond (is_zero value) None (Some value)

abbrev pub side_stated : Row → Option Number
side_stated row = value_stated (printed_rhs row.lower row.upper)

abbrev pub range_stated : Row → Option Number
range_stated row = printed_range row.lower row.upper

abbrev pub column_lower : Column → Option Limit
column_lower column = lower_stated column.kind column.lower column.upper have_same_value

abbrev pub column_upper : Column → Option Limit
column_upper column = upper_stated column.kind column.lower column.upper

-- a finite upper bound of a semi-continuous column declares its type
abbrev pub semi_stated : Kind → Limit → Option (Unit {0})
semi_stated kind MinusInf = None
semi_stated kind PlusInf = None
semi_stated Continuous (Finite upper) = None
semi_stated Integer (Finite upper) = None
semi_stated Semi (Finite upper) = Some tt

abbrev pub column_semi : Column → Option (Unit {0})
column_semi column = semi_stated column.kind column.upper

abbrev pub row_forms : List (List ℕ × Row) → List (List ℕ × RowDefinition)
row_forms rows = map (λ row. (row.0, form_stated row.1)) rows

-- ---- what each line puts into a map

abbrev pub own_column : Cell → List (List ℕ × Unit {0})
own_column cell = (cell.column, tt) ∷ []

abbrev pub own_coefficient : Cell → List (CoefficientKey × Number)
own_coefficient cell = (record { row = cell.row; column = cell.column }, cell.value) ∷ []

abbrev pub own_side : Side → List (List ℕ × Number)
own_side side = (side.row, side.value) ∷ []

-- ---- sections

pub rows-made : (rows : List (List ℕ × Row)) → flat_map (made_of row_part row_decl) (map to_row rows) ≡ row_forms rows
rows-made [] = refl
rows-made (row ∷ rows) = grind (arith, rows-made rows)

pub cells-made : {Y : Type 0} (f : Cell → List Y) (m : Listing) (columns : List (List ℕ × Column))
    → flat_map f (cells_of (map (group_in m) columns)) ≡ flat_map (λ column. flat_map f (cells_in m column)) columns
cells-made f m [] = refl
cells-made f m (column ∷ columns) =
    flat_map-append f _ _ ∙ ap (λ more. flat_map f (cells_in m column) ++ more) (cells-made f m columns)

pub sides-made : (m : Listing)
    → flat_map own_side (sides_in m) ≡ stated m.objective (value_stated (negated m.constant)) ++ all_stated side_stated m.rows
sides-made = grind (arith, flat_map-append, side_unless_zero, row_side, flat_map-flat_map, flat-same, stated)

pub ranges-made : (rows : List (List ℕ × Row)) → flat_map own_side (flat_map row_range rows) ≡ all_stated range_stated rows
ranges-made = grind (arith, flat_map-flat_map, row_range, flat-same, stated, to_side)

-- ---- bounds

abbrev lowers_made : List ℕ → List PrintedBound → List (List ℕ × Limit)
lowers_made name bounds = flat_map (made_of lower_part bound_decl) (map (to_bound name) bounds)

abbrev uppers_made : List ℕ → List PrintedBound → List (List ℕ × Limit)
uppers_made name bounds = flat_map (made_of upper_part bound_decl) (map (to_bound name) bounds)

pub lower-made : (name : List ℕ) (kind : Kind) (l u : Limit)
    → lowers_made name (printed_bounds kind l u) ≡ stated name (lower_stated kind l u have_same_value)
lower-made = grind arith

pub upper-made : (name : List ℕ) (kind : Kind) (l u : Limit)
    → uppers_made name (printed_bounds kind l u) ≡ stated name (upper_stated kind l u)
upper-made = grind arith

-- ---- each map

abbrev pub listed_decl : Listing → Declarations
listed_decl m = whole_decl (whole_of m)

-- what the cells of some columns put into a map
abbrev pub from_cells : {Y : Type 0} → (Cell → List Y) → Listing → List (List ℕ × Column) → List Y
from_cells f m columns = flat_map (λ column. flat_map f (cells_in m column)) columns

pub rows-part : (m : Listing) → flat_map row_part (listed_decl m) ≡ row_forms m.rows
rows-part m =
    joined-parts row_part (whole_of m) (row_forms m.rows) [] [] [] [] [] (record {
      of_sense = sense-none row_part (λ _. refl) m.sense;
      of_objective = refl;
      of_rows = rows-made m.rows;
      of_plain = flat-none (made_of row_part (cell_decl false)) (λ _. refl) (cells_of (whole_of m).plain);
      of_integers = flat-none (made_of row_part (cell_decl true)) (λ _. refl) (cells_of (whole_of m).integers);
      of_sides = flat-none (made_of row_part side_decl) (λ _. refl) (sides_in m);
      of_ranges = flat-none (made_of row_part range_decl) (λ _. refl) (whole_of m).late.ranges;
      of_bounds =
          flat-none (made_of row_part bound_decl) (bound-none row_part (λ _ _. refl) (λ _ _. refl) (λ _. refl))
          (whole_of m).late.bounds;
    }) ∙ append-nil (row_forms m.rows)

rows-silent : {Y : Type 0} (part : Declaration → List Y) → ((x : List ℕ) (form : RowDefinition) → part (declare_row x form) ≡ [])
    → (m : Listing) → flat_map (made_of part row_decl) (whole_of m).rows ≡ []
rows-silent part h m = flat-none _ (λ row. ap (λ ys. ys ++ []) (h row.0 (by_type row.1))) (whole_of m).rows

pub rhs_values-part : (m : Listing)
    → flat_map rhs_part (listed_decl m) ≡ stated m.objective (value_stated (negated m.constant)) ++ all_stated side_stated m.rows
rhs_values-part m =
    let sides = stated m.objective (value_stated (negated m.constant)) ++ all_stated side_stated m.rows in
    joined-parts rhs_part (whole_of m) [] [] [] sides [] [] (record {
      of_sense = sense-none rhs_part (λ _. refl) m.sense;
      of_objective = refl;
      of_rows = rows-silent rhs_part (λ _ _. refl) m;
      of_plain = flat-none (made_of rhs_part (cell_decl false)) (λ _. refl) (cells_of (whole_of m).plain);
      of_integers = flat-none (made_of rhs_part (cell_decl true)) (λ _. refl) (cells_of (whole_of m).integers);
      of_sides = sides-made m;
      of_ranges = flat-none (made_of rhs_part range_decl) (λ _. refl) (whole_of m).late.ranges;
      of_bounds =
          flat-none (made_of rhs_part bound_decl) (bound-none rhs_part (λ _ _. refl) (λ _ _. refl) (λ _. refl))
          (whole_of m).late.bounds;
    }) ∙ append-nil sides

pub ranges-part : (m : Listing) → flat_map range_part (listed_decl m) ≡ all_stated range_stated m.rows
ranges-part m =
    let ranges = all_stated range_stated m.rows in
    joined-parts range_part (whole_of m) [] [] [] [] ranges [] (record {
      of_sense = sense-none range_part (λ _. refl) m.sense;
      of_objective = refl;
      of_rows = rows-silent range_part (λ _ _. refl) m;
      of_plain = flat-none (made_of range_part (cell_decl false)) (λ _. refl) (cells_of (whole_of m).plain);
      of_integers = flat-none (made_of range_part (cell_decl true)) (λ _. refl) (cells_of (whole_of m).integers);
      of_sides = flat-none (made_of range_part side_decl) (λ _. refl) (sides_in m);
      of_ranges = ranges-made m.rows;
      of_bounds = flat-none (made_of range_part bound_decl) (bound-none range_part (λ _ _. refl) (λ _ _. refl) (λ _. refl))
          (whole_of m).late.bounds;
    }) ∙ append-nil ranges

-- a map into which only the lines of columns put something
cells-part : {Y : Type 0} (part : Declaration → List Y) (plain integers : Cell → List Y) →
    ((s : Sense) → part (declare_sense s) ≡ []) → ((x : List ℕ) → part (declare_objective x) ≡ []) →
    ((x : List ℕ) (form : RowDefinition) → part (declare_row x form) ≡ []) →
    ((cell : Cell) → made_of part (cell_decl false) cell ≡ plain cell) →
    ((cell : Cell) → made_of part (cell_decl true) cell ≡ integers cell) →
    ((x : List ℕ) (v : Number) → part (declare_rhs x v) ≡ []) →
    ((x : List ℕ) (v : Number) → part (declare_range x v) ≡ []) →
    ((x : List ℕ) (l : Limit) → part (declare_lower x l) ≡ []) →
    ((x : List ℕ) (l : Limit) → part (declare_upper x l) ≡ []) →
    ((x : List ℕ) → part (declare_semi x) ≡ []) → (m : Listing) → flat_map part (listed_decl m)
    ≡ from_cells plain m (filter is_plain_column m.columns) ++ from_cells integers m (filter is_integer_column m.columns)
cells-part part plain integers sense objective rows p q sides ranges lowers uppers semis m =
    let cells = from_cells plain m (filter is_plain_column m.columns) ++ from_cells integers m
    (filter is_integer_column m.columns) in
    joined-parts part (whole_of m) [] (from_cells plain m (filter is_plain_column m.columns))
    (from_cells integers m (filter is_integer_column m.columns)) [] [] [] (record {
      of_sense = sense-none part sense m.sense;
      of_objective = objective m.objective;
      of_rows = rows-silent part rows m;
      of_plain = flat-same _ plain p _ ∙ cells-made plain m _;
      of_integers = flat-same _ integers q _ ∙ cells-made integers m _;
      of_sides = flat-none _ (λ side. ap (λ ys. ys ++ []) (sides side.row side.value)) (sides_in m);
      of_ranges = flat-none _ (λ side. ap (λ ys. ys ++ []) (ranges side.row side.value)) (whole_of m).late.ranges;
      of_bounds = flat-none _ (bound-none part lowers uppers semis) (whole_of m).late.bounds;
    }) ∙ append-nil cells

pub columns-part : (m : Listing) →
    flat_map column_part (listed_decl m) ≡ from_cells own_column m (filter is_plain_column m.columns)
    ++ from_cells own_column m (filter is_integer_column m.columns)
columns-part m = cells-part column_part own_column own_column (λ _. refl) (λ _. refl) (λ _ _. refl) (λ _. refl)
    (λ _. refl) (λ _ _. refl) (λ _ _. refl) (λ _ _. refl) (λ _ _. refl) (λ _. refl) m

pub coefficients-part : (m : Listing) → flat_map coefficient_part (listed_decl m)
    ≡ from_cells own_coefficient m (filter is_plain_column m.columns) ++ from_cells own_coefficient m
    (filter is_integer_column m.columns)
coefficients-part m = cells-part coefficient_part own_coefficient own_coefficient (λ _. refl) (λ _. refl) (λ _ _. refl)
    (λ _. refl) (λ _. refl) (λ _ _. refl) (λ _ _. refl) (λ _ _. refl) (λ _ _. refl) (λ _. refl) m

from-none : {Y : Type 0} (m : Listing) (columns : List (List ℕ × Column)) → from_cells {Y = Y} (λ _. []) m columns ≡ []
from-none = grind (arith, flat-none)

pub marked-part : (m : Listing) →
    flat_map marked_part (listed_decl m) ≡ from_cells own_column m (filter is_integer_column m.columns)
marked-part m = cells-part marked_part (λ _. []) own_column (λ _. refl) (λ _. refl) (λ _ _. refl) (λ _. refl)
    (λ _. refl) (λ _ _. refl) (λ _ _. refl) (λ _ _. refl) (λ _ _. refl) (λ _. refl) m
    ∙ ap (λ ys. ys ++ from_cells own_column m (filter is_integer_column m.columns)) (from-none m _)

pub integers-part : (m : Listing) → flat_map integer_part (listed_decl m) ≡ []
integers-part m = cells-part integer_part (λ _. []) (λ _. []) (λ _. refl) (λ _. refl) (λ _ _. refl) (λ _. refl)
    (λ _. refl) (λ _ _. refl)
    (λ _ _. refl) (λ _ _. refl) (λ _ _. refl) (λ _. refl) m ∙ (λ i. from-none {Y =
    List ℕ × Unit {0}} m (filter is_plain_column m.columns) i ++ from-none {Y = List ℕ × Unit {0}} m
    (filter is_integer_column m.columns) i)

pub binaries-part : (m : Listing) → flat_map binary_part (listed_decl m) ≡ []
binaries-part m = cells-part binary_part (λ _. []) (λ _. []) (λ _. refl) (λ _. refl) (λ _ _. refl) (λ _. refl)
    (λ _. refl) (λ _ _. refl)
    (λ _ _. refl) (λ _ _. refl) (λ _ _. refl) (λ _. refl) m ∙ (λ i. from-none {Y =
    List ℕ × Unit {0}} m (filter is_plain_column m.columns) i ++ from-none {Y = List ℕ × Unit {0}} m
    (filter is_integer_column m.columns) i)

-- a map into which only the lines of bounds put something
bounds-part : {V : Type 0} (part : Declaration → List (List ℕ × V)) (stated_of : Column → Option V)
    → ((s : Sense) → part (declare_sense s) ≡ []) → ((x : List ℕ) → part (declare_objective x) ≡ [])
    → ((x : List ℕ) (form : RowDefinition) → part (declare_row x form) ≡ []) →
    ((cell : Cell) → made_of part (cell_decl false) cell ≡ []) →
    ((cell : Cell) → made_of part (cell_decl true) cell ≡ []) → ((side : Side) → made_of part side_decl side ≡ [])
    → ((side : Side) → made_of part range_decl side ≡ []) → (m : Listing) → flat_map (made_of part bound_decl)
    (flat_map bounds_in m.columns) ≡ all_stated stated_of m.columns →
    flat_map part (listed_decl m) ≡ all_stated stated_of m.columns
bounds-part part stated_of sense objective rows p q sides ranges m h =
    joined-parts part (whole_of m) [] [] [] [] [] (all_stated stated_of m.columns) (record {
      of_sense = sense-none part sense m.sense;
      of_objective = objective m.objective;
      of_rows = rows-silent part rows m;
      of_plain = flat-none _ p (cells_of (whole_of m).plain);
      of_integers = flat-none _ q (cells_of (whole_of m).integers);
      of_sides = flat-none _ sides (sides_in m);
      of_ranges = flat-none _ ranges (whole_of m).late.ranges;
      of_bounds = h;
    })

pub lowers-part : (m : Listing) → flat_map lower_part (listed_decl m) ≡ all_stated column_lower m.columns
lowers-part m = bounds-part lower_part column_lower (λ _. refl) (λ _. refl) (λ _ _. refl) (λ _. refl) (λ _. refl)
    (λ _. refl) (λ _. refl) m (grind
    (arith, flat_map-flat_map, made_of, lower_part, bound_decl, bounds_in, flat-same, stated, lower-made))

pub uppers-part : (m : Listing) → flat_map upper_part (listed_decl m) ≡ all_stated column_upper m.columns
uppers-part m = bounds-part upper_part column_upper (λ _. refl) (λ _. refl) (λ _ _. refl) (λ _. refl) (λ _. refl)
    (λ _. refl) (λ _. refl) m (grind
    (arith, flat_map-flat_map, made_of, upper_part, bound_decl, bounds_in, flat-same, stated, upper-made))

pub semis-part : (m : Listing) → flat_map semi_part (listed_decl m) ≡ all_stated column_semi m.columns
semis-part m = bounds-part semi_part column_semi (λ _. refl) (λ _. refl) (λ _ _. refl) (λ _. refl) (λ _. refl)
    (λ _. refl) (λ _. refl) m (grind (arith, flat_map-flat_map, made_of, semi_part, bound_decl, bounds_in, flat-same, stated))

-- ---- the draft of the canonical declarations of a well-formed listing, map by map. What the well-formedness of a
-- model implies for its listing

abbrev pub drafted : Listing → Draft
drafted m = draft_of (listed_decl m)

-- ---- rows

pub rows-drafted : (m : Listing) → IsSoundListing m → (drafted m).rows ≡ row_forms m.rows
rows-drafted m h = rows-all (listed_decl m) empty_draft ∙ ap (λ es. puts bytes_cmp es []) (rows-part m)
    ∙ puts-own bytes_cmp bytes_total tied_names _ (names_sorted form_stated m.rows h.rows_sorted)

pub row-at : (m : Listing) → IsSoundListing m → (q : List ℕ)
    → at_name (drafted m).rows q ≡ then_stated (λ row. Some (form_stated row)) (at_name m.rows q)
row-at m h q = ap (λ es. at_name es q) (rows-drafted m h) ∙ at-mapped form_stated q m.rows

pub right_side-at : (m : Listing) → IsSoundListing m → (q : List ℕ) → at_name (drafted m).rhs_values q
    ≡ first_there (then_stated side_stated (at_name m.rows q))
    (at_name (stated m.objective (value_stated (negated m.constant))) q)
right_side-at = grind (
  arith,
  stated,
  value_stated,
  all_stated,
  side_stated,
  rhs_values-all,
  listed_decl,
  puts,
  rhs_values-part,
  puts-append,
  find-puts,
  bytes_total,
  tied_names,
  sorted-stated,
  first_there,
  find-stated,
)

pub range-at : (m : Listing) → IsSoundListing m → (q : List ℕ) →
    at_name (drafted m).ranges q ≡ then_stated range_stated (at_name m.rows q)
range-at = grind (
  arith,
  ranges-all,
  listed_decl,
  puts,
  ranges-part,
  puts-own,
  bytes_total,
  tied_names,
  all_stated,
  range_stated,
  sorted-stated,
  find-stated,
)

-- ---- columns

pub lower-at : (m : Listing) → IsSoundListing m → (q : List ℕ)
    → at_name (drafted m).lowers q ≡ then_stated column_lower (at_name m.columns q)
lower-at = grind (
  arith,
  lowers-all,
  listed_decl,
  puts,
  lowers-part,
  puts-own,
  bytes_total,
  tied_names,
  all_stated,
  column_lower,
  sorted-stated,
  find-stated,
)

pub upper-at : (m : Listing) → IsSoundListing m → (q : List ℕ)
    → at_name (drafted m).uppers q ≡ then_stated column_upper (at_name m.columns q)
upper-at = grind (
  arith,
  uppers-all,
  listed_decl,
  puts,
  uppers-part,
  puts-own,
  bytes_total,
  tied_names,
  all_stated,
  column_upper,
  sorted-stated,
  find-stated,
)

semi-at : (m : Listing) → IsSoundListing m → (q : List ℕ) →
    at_name (drafted m).semis q ≡ then_stated column_semi (at_name m.columns q)
semi-at = grind (
  arith,
  semis-all,
  listed_decl,
  puts,
  semis-part,
  puts-own,
  bytes_total,
  tied_names,
  all_stated,
  column_semi,
  sorted-stated,
  find-stated,
)

pub semis-at : (m : Listing) → IsSoundListing m → (q : List ℕ) (column : Column) →
    suits column.kind column.lower column.upper ≡ true → at_name m.columns q ≡ Some column →
    has_name (drafted m).semis q ≡ is_semi_kind column.kind
semis-at = grind (arith, semi-at, then_stated, column_semi)

-- each cell of a column names it, and there is at least one
own-all : (name : List ℕ) (cells : List (List ℕ × Number)) →
    Each (λ e. e ≡ (name, tt)) (flat_map own_column (map (to_cell name) cells))
own-all name [] = tt
own-all name (cell ∷ cells) = (refl, own-all name cells)

abbrev names_of_cells : Listing → List ℕ × Column → List (List ℕ × Unit {0})
names_of_cells m column = flat_map own_column (cells_in m column)

pub columns-parted : (m : Listing) (p : List ℕ × Column → Bool) (columns : List (List ℕ × Column)) →
    is_sorted bytes_cmp columns ≡ true →
    puts bytes_cmp (from_cells own_column m (filter p columns) ++ from_cells own_column m
    (filter (λ column. not (p column)) columns)) [] ≡ map named columns
columns-parted m p columns h = parted-give bytes_cmp bytes_total tied_names named (names_of_cells m) p columns
    (T_from _ (names_sorted _ columns h))
    (Each-all _ (λ column. (grind (arith, find-front, bytes_total, tied_names, own_column, to_cell))) columns)
    (Each-all _ (λ column. own-all column.0 _) columns)

pub columns-drafted : (m : Listing) → IsSoundListing m → (drafted m).columns ≡ map named m.columns
columns-drafted m h = columns-all (listed_decl m) empty_draft ∙ ap (λ es. puts bytes_cmp es [])
    (columns-part m ∙ ap (λ cs. from_cells own_column m (filter is_plain_column m.columns) ++ from_cells own_column m cs)
    (sym (filter-not_not is_integer_column m.columns))) ∙ columns-parted m is_plain_column m.columns h.columns_sorted

filter-all : {X : Type 0} (xs : List X) → filter (λ _. true) xs ≡ xs
filter-all [] = refl
filter-all (x ∷ xs) = ap (λ ys. x ∷ ys) (filter-all xs)

filter-no : {X : Type 0} (xs : List X) → filter (λ _. not true) xs ≡ []
filter-no [] = refl
filter-no (x ∷ xs) = filter-no xs

pub marked-drafted : (m : Listing) → IsSoundListing m → (drafted m).marked ≡ map named (filter is_integer_column m.columns)
marked-drafted m h = let integers = filter is_integer_column m.columns in marked-all (listed_decl m) empty_draft
    ∙ ap (λ es. puts bytes_cmp es []) (marked-part m ∙ sym (append-nil (from_cells own_column m integers))
    ∙ sym (λ i. from_cells own_column m (filter-all integers i) ++ from_cells own_column m (filter-no integers i)))
    ∙ columns-parted m (λ _. true) integers (sorted-kept bytes_cmp is_integer_column m.columns h.columns_sorted)

one-part : {X Y : Type 0} (f : X → List Y) (xs : List X)
    → flat_map f xs ≡ flat_map f (filter (λ _. true) xs) ++ flat_map f (filter (λ _. not true) xs)
one-part f [] = refl
one-part f (x ∷ xs) = ap (λ ys. f x ++ ys) (one-part f xs)
    ∙ sym (append_assoc (f x) (flat_map f (filter (λ _. true) xs)) (flat_map f (filter (λ _. not true) xs)))

-- only columns of one part
pub plain-only : (m : Listing) (columns : List (List ℕ × Column)) → is_sorted bytes_cmp columns ≡ true
    → puts bytes_cmp (from_cells own_column m columns) [] ≡ map named columns
plain-only m columns h = ap (λ es. puts bytes_cmp es []) (one-part _ columns) ∙ columns-parted m (λ _. true) columns h

pub marked-at : (m : Listing) → IsSoundListing m → (q : List ℕ) (column : Column) → at_name m.columns q ≡ Some column
    → has_name (drafted m).marked q ≡ has_integer_kind column
marked-at m h q column is = ap (λ es. has_name es q) (marked-drafted m h) ∙ ap is_some (at-mapped _ q _)
    ∙ ap (λ o. is_some (then_stated (λ _. Some tt) o))
    (find-kept bytes_cmp bytes_total tied_names (λ c. has_integer_kind c) q m.columns h.columns_sorted
    ∙ ap (then_stated (λ c. cond (has_integer_kind c) (Some c) None)) is) ∙ by (has_integer_kind column)
  where
    by : (b : Bool) → is_some (then_stated {V = Unit {0}} (λ _. Some tt) (cond b (Some column) None)) ≡ b
    by true = refl
    by false = refl

pub integers-drafted : (m : Listing) → (drafted m).integers ≡ []
integers-drafted = grind (arith, integers-all, integers-part)

pub binaries-drafted : (m : Listing) → (drafted m).binaries ≡ []
binaries-drafted = grind (arith, binaries-all, binaries-part)

-- ---- the coefficients of the canonical declarations of a well-formed listing, without zeros, are those of the listing

abbrev pub is_kept : Number → Bool
is_kept value = not (is_zero value)

-- the value printed for a key is that of the listing, or 0 if it has none
abbrev pub IsTrueCell : List (CoefficientKey × Number) → List ℕ → List ℕ × Number → Type 0
IsTrueCell coefficients column cell =
    find key_cmp (place_at cell.0 column) coefficients ≡ cond (is_kept cell.1) (Some cell.1) None

abbrev AllKept : List (CoefficientKey × Number) → Type 0
AllKept coefficients = (key : CoefficientKey) (value : Number) → find key_cmp key coefficients ≡ Some value → is_kept value ≡ true

cells-true : (coefficients : List (CoefficientKey × Number)) (column : List ℕ) → AllKept coefficients → (rows : List (List ℕ))
    → Each (IsTrueCell coefficients column) (filter_map (cell_at coefficients column) rows)
cells-true coefficients column kept [] = tt
cells-true coefficients column kept (row ∷ rows) = grind (arith, cells-true coefficients column kept rows)

-- as entries
abbrev IsTrueEntry : List (CoefficientKey × Number) → CoefficientKey × Number → Type 0
IsTrueEntry coefficients entry = find key_cmp entry.0 coefficients ≡ cond (is_kept entry.1) (Some entry.1) None

entries-true : (coefficients : List (CoefficientKey × Number)) (column : List ℕ) (cells : List (List ℕ × Number))
    → Each (IsTrueCell coefficients column) cells →
    Each (IsTrueEntry coefficients) (flat_map own_coefficient (map (to_cell column) cells))
entries-true coefficients column [] h = tt
entries-true coefficients column (cell ∷ cells) h = (h.0, entries-true coefficients column cells h.1)

columns-true : (m : Listing) → AllKept m.coefficients → (columns : List (List ℕ × Column))
    → Each (IsTrueEntry m.coefficients) (from_cells own_coefficient m columns)
columns-true m kept columns = Each-flat_map _ _ columns (Each-all _ (λ column. entries-true m.coefficients column.0
    (printed_coefficients m.objective (column_coefficients m column.0)) (grind (arith, cells-true, kept))) columns)

-- ---- each coefficient is printed

abbrev SomeAt : CoefficientKey → List (CoefficientKey × Number) → Type 0
SomeAt key es = is_some (find key_cmp key es) ≡ true

row-hit : (coefficients : List (CoefficientKey × Number)) (row column : List ℕ) (value : Number)
    → find key_cmp (place_at row column) coefficients ≡ Some value → (rows : List (List ℕ)) → is_one_of rows row ≡ true
    → SomeAt (place_at row column)
    (flat_map own_coefficient (map (to_cell column) (filter_map (cell_at coefficients column) rows)))
row-hit coefficients row column value is [] h = cc
row-hit coefficients row column value is (x ∷ rows) h =
    by (same_bytes row x) refl h (find key_cmp (place_at x column) coefficients) refl
    (λ later. row-hit coefficients row column value is rows later)
  where
    nothing : ◌≡◌ {A = Option Number} None (Some value) → ⊥
    nothing e = cc

    by : (b : Bool) → same_bytes row x ≡ b → (b || is_one_of rows row) ≡ true → (o : Option Number) →
        find key_cmp (place_at x column) coefficients ≡ o →
        (is_one_of rows row ≡ true → SomeAt (place_at row column)
        (flat_map own_coefficient (map (to_cell column) (filter_map (cell_at coefficients column) rows)))) →
        SomeAt (place_at row column) (flat_map own_coefficient
        (map (to_cell column) (cons_option (option_map (λ (d : Number). (x, d)) o)
        (filter_map (cell_at coefficients column) rows))))
    by true e k None at more =
        absurd (nothing (sym at ∙ ap (λ n. find key_cmp (place_at n column) coefficients) (sym (same_name row x e)) ∙ is))
    by true e k (Some d) at more = let rest =
        flat_map own_coefficient (map (to_cell column) (filter_map (cell_at coefficients column) rows)) in
        ap (λ n. is_some (find key_cmp (place_at n column) ((place_at x column, d) ∷ rest))) (same_name row x e)
        ∙ find-front key_cmp key_total same_key (place_at x column) d rest
    by false e k None at more = more k
    by false e k (Some d) at more = some_cons key_cmp key_total same_key _ (place_at x column) d
        (flat_map own_coefficient (map (to_cell column) (filter_map (cell_at coefficients column) rows))) (more k)

join-some : (key : CoefficientKey) (left right : List (CoefficientKey × Number))
    → (is_some (find key_cmp key left) || is_some (find key_cmp key right)) ≡ true → SomeAt key (left ++ right)
join-some = grind (arith, some_append_left, key_total, same_key, some_append_right)

module _ (m : Listing) (h : IsSoundListing m) where
  abbrev IsSoundAt : CoefficientKey → Number → Type 0
  IsSoundAt key value = is_sound_entry m (key, value) ≡ true

  sound-at : (key : CoefficientKey) (value : Number) → find key_cmp key m.coefficients ≡ Some value → IsSoundAt key value
  sound-at key value is = found-each key_cmp key_total same_key IsSoundAt m.coefficients h.coefficients key value is

  all-kept : AllKept m.coefficients
  all-kept key value is = first_so _ _ (second_so _ _ (sound-at key value is))

  hit : (key : CoefficientKey) (value : Number) → find key_cmp key m.coefficients ≡ Some value → (column : List ℕ × Column)
      → same_bytes key.column column.0 ≡ true → SomeAt key (flat_map own_coefficient (cells_in m column))
  hit key value is column e = let named : key.column ≡ column.0 = same_name key.column column.0 e in
      let here : find key_cmp (place_at key.row column.0) m.coefficients ≡ Some value =
      ap (λ n. find key_cmp (place_at key.row n) m.coefficients) (sym named) ∙ is in
      let names = is_one_of (names_in m.columns) key.column in
      let rows = is_one_of (m.objective ∷ names_in m.rows) key.row in
      let there : rows ≡ true = second_so names _
      (second_so (is_kept value) _ (second_so (is_decimal value) _ (sound-at key value is))) in
      ap (λ n. is_some (find key_cmp (place_at key.row n) (flat_map own_coefficient (cells_in m column)))) named
      ∙ grind (arith, (row-hit m.coefficients key.row column.0 value here (m.objective ∷ map (λ row. row.0) m.rows) there))

  each-line_text : (key : CoefficientKey) → SomeAt key m.coefficients → SomeAt key (from_cells own_coefficient m
      (filter is_plain_column m.columns) ++ from_cells own_coefficient m
      (filter (λ column. not (is_plain_column column)) m.columns))
  each-line_text key some = let found = value_in _ some in
      let names = is_one_of (names_in m.columns) key.column in
      let rows = is_one_of (m.objective ∷ names_in m.rows) key.row in
      let sound = sound-at key found.0 found.1 in
      let there : names ≡ true = first_so _ _ (second_so _ _ (second_so _ _ sound)) in
      join-some key _ _ (found-either key_cmp key_total same_key _ is_plain_column
      (λ column. same_bytes key.column column.0) key m.columns (sym (any-name key.column m.columns) ∙ there)
      (hit key found.0 found.1))

  -- The coefficients that are declared, without zeros, are those of the listing.
  pub coefficients-kept : filter (λ entry. not (is_zero entry.1)) (drafted m).coefficients ≡ m.coefficients
  coefficients-kept = let plain = from_cells own_coefficient m (filter is_plain_column m.columns) in
      let others = from_cells own_coefficient m (filter (λ column. not (is_plain_column column)) m.columns) in
      ap (filter (λ entry. not (is_zero entry.1))) (coefficients-all (listed_decl m) empty_draft ∙ ap (λ es. puts key_cmp es [])
      (coefficients-part m ∙ ap (λ cs. plain ++ from_cells own_coefficient m cs)
      (sym (filter-not_not is_integer_column m.columns)))) ∙ puts-kept key_cmp key_total same_key is_kept
      m.coefficients (plain ++ others) h.coefficients_sorted
      (Each-append _ plain others (columns-true m all-kept _) (columns-true m all-kept _)) each-line_text
