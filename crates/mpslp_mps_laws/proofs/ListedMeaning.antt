-- The canonical declarations of a well-formed listing are consistent, and mean its model.
use Rattle.mpslp_mps_laws.proofs.Prelude
use Prelude.{AreConsistent, Bool, CoefficientKey, Column, Declaration, Declarations, Draft, DraftMeans, Each, Each-all, Each-append}
use Prelude.{Each-both, Each-filter, Each-flat_map, Each-map, Each-weaker, Finite, Free, IsDecimal, IsSound, Kind, Limit, LinearModel, List}
use Prelude.{Listing, Maximize, Minimize, MinusInf, None, Number, Option, PlusInf, PrintedBound, Row, RowDefinition, Sense, Some, Stays, []}
use Prelude.{all_slots, ap, are_distinct, are_sides, arith, at-mapped, at_name, back, binary-within, both_so, bounded_finite, bounded_so}
use Prelude.{by_type, bytes_cmp, bytes_total, cell_at, column_back, column_named, column_of, column_part, column_sides, column_suited}
use Prelude.{columns-all, columns-back, cond, cons_option, constant_of, declare_coefficient, declare_column, declare_lower, declare_marked}
use Prelude.{declare_objective, declare_range, declare_rhs, declare_row, declare_semi, declare_sense, declare_upper, empty_draft, eq_by_cmp}
use Prelude.{equal_from, false, filter, filter_map, find, find-kept, first_so, first_there, flat_map, flat_map-flat_map, found-each}
use Prelude.{has_bounded_distance, has_column, has_infinite_rhs, has_integer_kind, has_name, has_row, have_same_value, is_allowed}
use Prelude.{is_bounded_decimal, is_free_definition, is_free_row, is_infinite_size, is_integer, is_integer_column, is_known, is_lower_side}
use Prelude.{is_objective, is_plain_column, is_semi, is_semi_kind, is_some, is_sorted, is_sound_column, is_sound_row, is_upper_side}
use Prelude.{is_zero, itself_named, kept-all, key_cmp, key_total, later_differ, list_all, list_all-from_Each, listing_of, lower_of, map}
use Prelude.{marker, model-back, named, names_sorted, negated, no-negative_upper, no_marker, none_there, not, number-text, one_of-names}
use Prelude.{option_map, option_map_or, or_left, or_right, own-found, plain_limits, printed_bounds, printed_coefficients, printed_range}
use Prelude.{printed_rhs, printed_type, puts, puts-own, refl, rhs_or_zero, row_back, row_distance, row_entry, row_limits, row_named}
use Prelude.{row_part, row_passes, row_sides, rows-all, rules, same_bytes, same_decimal, same_key, same_slot, second_so, side-stated}
use Prelude.{so_not, sorted-kept, stated, stays-all, sym, texts_ties, then_stated, tied_names, true, unwrap_or, upper_of, with_declaration}
use Prelude.{with_declarations, zero-is, zero_number, ℕ, ◌&&◌, ◌++◌, ◌||◌, ◌∙◌, ◌∷◌, ◌≡◌}
use Rattle.mpslp_builder.proofs.ListingLemmas.{IsSoundListing, place_at, sound-listing}
use Rattle.mpslp_mps_laws.proofs.DraftMaps.{binaries-drafted, cells-made, coefficients-kept, column_lower}
use Rattle.mpslp_mps_laws.proofs.DraftMaps.{column_upper, columns-drafted, drafted, each-whole, form_stated, from_cells}
use Rattle.mpslp_mps_laws.proofs.DraftMaps.{integers-drafted, listed_decl, lower-at, marked-at, own_column, plain-only}
use Rattle.mpslp_mps_laws.proofs.DraftMaps.{range-at, range_stated, right_side-at, row-at, row_forms, rows-drafted, rows-made}
use Rattle.mpslp_mps_laws.proofs.{DraftMaps.{semis-at, side_stated, upper-at, value_stated}, PrintableLemmas.Holds}
use Rattle.mpslp_mps_laws.proofs.{PrintableLemmas.{negated-decimal, range-decimal, side-decimal}, SectionWalks.{AreAbsent, AreApart}}
use Rattle.mpslp_mps_laws.proofs.SectionWalks.{AreOf, Bound, BoundForm, Cell, GoodBound, GoodCell, IsGroup, ReadsAs, RowItem, Side}
use Rattle.mpslp_mps_laws.proofs.SectionWalks.{bound_decl, cell_decl, cells_of, decl_at, fixed, free, no_lower, no_upper, range_decl}
use Rattle.mpslp_mps_laws.proofs.{SectionWalks.{row_decl, semi_upper, side_decl}, WholeWalk.{AreColumns, IsGoodWhole, Whole}}
use Rattle.mpslp_mps_laws.proofs.WholeWalk.{bounds_in, cells_in, draft_at_columns, draft_at_sides, form_of, group_in, row_range}
use Rattle.mpslp_mps_laws.proofs.WholeWalk.{row_side, sense_decl, side_unless_zero, sides_in, to_bound, to_cell, to_row, to_side}
use Rattle.mpslp_mps_laws.proofs.WholeWalk.{whole_decl, whole_of}
use Rattle.mpslp_mps_laws.proofs.SectionWalks as forms

-- ---- COLUMNS of a well-formed listing: the columns are separate, and each has good lines. The sections of the
-- canonical text of a well-formed listing meet the conditions for following them

-- ---- columns

group-own : (name : List ℕ) (cells : List (List ℕ × Number)) → AreOf name (map (to_cell name) cells)
group-own name [] = tt
group-own name (cell ∷ cells) = (refl, group-own name cells)

pub groups-good : (m : Listing) (columns : List (List ℕ × Column)) → Each IsGroup (map (group_in m) columns)
groups-good m columns = Each-map IsGroup _ columns
    (Each-all _ (λ column. record { some = (grind arith); own = group-own column.0 _ }) columns)

pub groups-apart : (m : Listing) (columns : List (List ℕ × Column)) → is_sorted bytes_cmp columns ≡ true
    → AreApart (map (group_in m) columns)
groups-apart m [] h = tt
groups-apart m (column ∷ columns) h = (
  Each-map _ _ columns (later_differ column.0 columns (first_so _ _ h)),
  groups-apart m columns (second_so _ _ h),
)

-- a row that may be printed, and a decimal
abbrev IsGoodPair : List ℕ × Number → Type 0
IsGoodPair cell = (same_bytes cell.0 marker ≡ false) × IsDecimal cell.1

pairs-good : (coefficients : List (CoefficientKey × Number)) (column : List ℕ) →
    Each (λ e. IsDecimal e.1) coefficients → (rows : List (List ℕ)) → Each (λ row. same_bytes row marker ≡ false) rows →
    Each IsGoodPair (filter_map (cell_at coefficients column) rows)
pairs-good coefficients column h [] names = tt
pairs-good coefficients column h (row ∷ rows) names =
    by (find key_cmp (place_at row column) coefficients) refl (pairs-good coefficients column h rows names.1)
  where
    by : (o : Option Number) → find key_cmp (place_at row column) coefficients ≡ o
        → Each IsGoodPair (filter_map (cell_at coefficients column) rows)
        → Each IsGoodPair (cons_option (option_map (λ (value : Number). (row, value)) o)
        (filter_map (cell_at coefficients column) rows))
    by None is more = more
    by (Some d) is more = ((names.0, found-each key_cmp key_total same_key _ coefficients h (place_at row column) d is), more)

line_text-good : (objective : List ℕ) (cells : List (List ℕ × Number)) → same_bytes objective marker ≡ false →
    Each IsGoodPair cells → Each IsGoodPair (printed_coefficients objective cells)
line_text-good = grind arith

cells-good : (m : Listing) → IsSoundListing m → (column : List ℕ × Column) → is_sound_column column ≡ true
    → Each GoodCell (cells_in m column)
cells-good m h column sound =
    let names : Each (λ row. same_bytes row marker ≡ false) (m.objective ∷ map (λ row. row.0) m.rows) = (
      no_marker m.objective h.objective,
      Each-map _ _ m.rows (Each-weaker _ _ (λ row k. no_marker row.0 (row_named row k)) m.rows h.rows),
    ) in
    let values = Each-weaker _ _ (λ entry k. first_so _ _ k) m.coefficients h.coefficients in
    let pairs = line_text-good m.objective _ (no_marker m.objective h.objective)
    (pairs-good m.coefficients column.0 values (m.objective ∷ map (λ row. row.0) m.rows) names) in
    Each-map GoodCell _ _
    (Each-weaker IsGoodPair _ (λ cell k. record
    { name = column_named column sound; row = k.0; text = number-text cell.1 k.1 }) _ pairs)

pub kept_sound : (p : List ℕ × Column → Bool) (columns : List (List ℕ × Column)) →
    Each (λ column. is_sound_column column ≡ true) columns → Each (λ column. is_sound_column column ≡ true) (filter p columns)
kept_sound p columns h = Each-filter _ p columns (Each-weaker _ _ (λ column k _. k) columns h)

pub groups-cells : (m : Listing) → IsSoundListing m → (columns : List (List ℕ × Column))
    → Each (λ column. is_sound_column column ≡ true) columns → Each GoodCell (cells_of (map (group_in m) columns))
groups-cells m h columns sound =
    Each-flat_map GoodCell _ _ (Each-map _ _ columns (Each-weaker _ _ (cells-good m h) columns sound))

-- no column is declared before COLUMNS
abbrev KeepsColumns : Declaration → Type 0
KeepsColumns d = (all : Draft) → (with_declaration all d).columns ≡ all.columns

no-columns : (m : Listing) → (draft_at_columns (whole_of m)).columns ≡ []
no-columns m = kept-all (λ all. all.columns) _ (Each-flat_map KeepsColumns row_decl (map to_row m.rows)
    (Each-all (λ row. Each KeepsColumns (row_decl row)) (λ row. (λ all. refl, tt)) (map to_row m.rows)))
    (with_declaration (with_declarations empty_draft (sense_decl m.sense)) (declare_objective m.objective)) ∙ at_start m.sense
  where
    at_start : (sense : Sense) → (with_declarations empty_draft (sense_decl sense)).columns ≡ []
    at_start Minimize = refl
    at_start Maximize = refl

-- the lines of columns declare these columns
after-columns : (m : Listing) (columns : List (List ℕ × Column)) (all : Draft) → all.columns ≡ [] →
    is_sorted bytes_cmp columns ≡ true →
    (with_declarations all (flat_map (cell_decl false) (cells_of (map (group_in m) columns)))).columns ≡ map named columns
after-columns m columns all none h = let cells = cells_of (map (group_in m) columns) in
    let made : flat_map column_part (flat_map (cell_decl false) cells) ≡ from_cells own_column m columns =
    flat_map-flat_map column_part (cell_decl false) cells ∙ cells-made own_column m columns in
    columns-all (flat_map (cell_decl false) cells) all ∙ ap (λ es. puts bytes_cmp es all.columns) made
    ∙ ap (λ base. puts bytes_cmp (from_cells own_column m columns) base) none ∙ plain-only m columns h

integer-absent : (m : Listing) → IsSoundListing m → (column : List ℕ × Column) → at_name m.columns column.0 ≡ Some column.1
    → is_integer_column column ≡ true → has_name (map named (filter is_plain_column m.columns)) column.0 ≡ false
integer-absent m h column is integer =
    ap is_some (at-mapped _ column.0 _) ∙ ap (λ o. is_some (then_stated {V = Unit {0}} (λ _. Some tt) o))
    (find-kept bytes_cmp bytes_total tied_names (λ c. not (has_integer_kind c)) column.0 m.columns h.columns_sorted
    ∙ ap (then_stated (λ c. cond (not (has_integer_kind c)) (Some c) None)) is
    ∙ ap (λ b. cond (not b) (Some column.1) None) integer)

integers-absent : (m : Listing) → IsSoundListing m → (all : Draft) → all.columns ≡ map named (filter is_plain_column m.columns)
    → AreAbsent all (map (group_in m) (filter is_integer_column m.columns))
integers-absent m h all are = Each-map _ _ _ (Each-filter _ is_integer_column m.columns (Each-weaker _ _ (λ column is integer. ap
    (λ es. has_name es column.0) are ∙ integer-absent m h column is integer) m.columns (own-found m.columns h.columns_sorted)))

none-there : (m : Listing) (all : Draft) → all.columns ≡ [] → (columns : List (List ℕ × Column)) →
    AreAbsent all (map (group_in m) columns)
none-there m all none columns = Each-map _ _ columns (Each-all _ (λ column. ap (λ es. has_name es column.0) none) columns)

pub are-columns : (m : Listing) → IsSoundListing m →
    AreColumns (whole_of m).plain (whole_of m).integers (draft_at_columns (whole_of m))
are-columns m h =
    let plain = filter is_plain_column m.columns in
    let integers = filter is_integer_column m.columns in
    let sorted_plain = sorted-kept bytes_cmp is_plain_column m.columns h.columns_sorted in
    let before = draft_at_columns (whole_of m) in
    let between = with_declarations before (flat_map (cell_decl false) (cells_of (map (group_in m) plain))) in
    record {
      plain_groups = groups-good m plain;
      integer_groups = groups-good m integers;
      plain_apart = groups-apart m plain sorted_plain;
      integers_apart = groups-apart m integers (sorted-kept bytes_cmp is_integer_column m.columns h.columns_sorted);
      plain_absent = none-there m before (no-columns m) plain;
      integers_absent = integers-absent m h between (after-columns m plain before (no-columns m) sorted_plain);
      plain_cells = groups-cells m h plain (kept_sound is_plain_column m.columns h.columns);
      integer_cells = groups-cells m h integers (kept_sound is_integer_column m.columns h.columns);
    }

-- ---- right-hand sides and ranges are read as the numbers from which they were printed

reads-side : (row : List ℕ) (value : Number) → IsDecimal value → Each ReadsAs (side_unless_zero row value)
reads-side row value d =
    elim (is_zero value) as (λ b. Each ReadsAs (cond b [] (to_side row value ∷ [])))
    [ true ↦ tt | false ↦ (number-text value d, tt) ]

reads-sides : (m : Listing) → IsSoundListing m → Each ReadsAs (sides_in m)
reads-sides m h = Each-append ReadsAs (side_unless_zero m.objective (negated m.constant)) (flat_map row_side m.rows)
    (reads-side m.objective (negated m.constant) (negated-decimal m.constant h.constant))
    (Each-flat_map ReadsAs row_side m.rows
    (Each-weaker (λ row. is_sound_row row ≡ true) (λ row. Each ReadsAs (row_side row)) (λ row k.
    reads-side row.0 (printed_rhs row.1.lower row.1.upper) (side-decimal row.1.lower row.1.upper (row_sides row k)))
    m.rows h.rows))

reads-ranges : (m : Listing) → IsSoundListing m → Each ReadsAs (flat_map row_range m.rows)
reads-ranges m h = Each-flat_map ReadsAs row_range m.rows (Each-weaker _ _ one m.rows h.rows)
  where
    one : (row : List ℕ × Row) → is_sound_row row ≡ true → Each ReadsAs (row_range row)
    one row k = by (printed_range row.1.lower row.1.upper) (range-decimal row.1.lower row.1.upper (row_distance row k))
      where
        by : (o : Option Number) → Holds IsDecimal o → Each ReadsAs (option_map_or (λ value. to_side row.0 value ∷ []) o [])
        by None d = tt
        by (Some value) d = (number-text value d, tt)

-- ---- no right-hand side is that of an N row

abbrev KeepsRows : Declaration → Type 0
KeepsRows d = (all : Draft) → (with_declaration all d).rows ≡ all.rows

columns-keep : (plain integers : List Cell) (all : Draft)
    → (with_declarations all (flat_map (cell_decl false) plain ++ flat_map (cell_decl true) integers)).rows ≡ all.rows
columns-keep plain integers all =
    kept-all (λ d. d.rows) _ (Each-append KeepsRows _ _ (Each-flat_map KeepsRows (cell_decl false) plain
    (Each-all (λ cell. Each KeepsRows (cell_decl false cell)) (λ cell. (λ _. refl, (λ _. refl, tt))) plain))
    (Each-flat_map KeepsRows (cell_decl true)
    integers (Each-all (λ cell. Each KeepsRows (cell_decl true cell))
    (λ cell. (λ _. refl, (λ _. refl, (λ _. refl, tt)))) integers))) all

rows-at-sides : (m : Listing) → IsSoundListing m → (draft_at_sides (whole_of m)).rows ≡ row_forms m.rows
rows-at-sides m h = columns-keep (cells_of (whole_of m).plain) (cells_of (whole_of m).integers) (draft_at_columns (whole_of m))
    ∙ (grind (arith, sense_decl, row_decl, to_row, rows-all, puts, flat_map-flat_map, row_part, rows-made, row_forms))
    ∙ puts-own bytes_cmp bytes_total tied_names (row_forms m.rows) (names_sorted form_stated m.rows h.rows_sorted)

abbrev is_free_in : Option Row → Bool
is_free_in o = option_map_or is_free_definition (then_stated (λ row. Some (form_stated row)) o) false

free-at : (m : Listing) → IsSoundListing m → (q : List ℕ) →
    is_free_row (draft_at_sides (whole_of m)) q ≡ is_free_in (at_name m.rows q)
free-at m h q = ap (λ es. option_map_or is_free_definition (at_name es q) false) (rows-at-sides m h)
    ∙ ap (λ o. option_map_or is_free_definition o false) (at-mapped form_stated q m.rows)

-- an N row has no right-hand side
free-side : (l u : Limit) → is_free_definition (by_type (printed_type l u)) ≡ true → is_zero (printed_rhs l u) ≡ true
free-side = grind arith

pub objective-no-row : (m : Listing) → IsSoundListing m → at_name m.rows m.objective ≡ None
objective-no-row m h = none_there _ (sym (one_of-names m.objective m.rows) ∙ h.no_row)

abbrev IsBoundIn : Listing → Side → Type 0
IsBoundIn m side = is_free_row (draft_at_sides (whole_of m)) side.row ≡ false

sides-bound : (m : Listing) → IsSoundListing m
    → Each (λ (side : Side). is_free_row (draft_at_sides (whole_of m)) side.row ≡ false) (sides_in m)
sides-bound m h = Each-append _ _ _ mine
    (Each-flat_map _ row_side m.rows (Each-weaker _ _ one m.rows (own-found m.rows h.rows_sorted)))
  where
    mine : Each (IsBoundIn m) (side_unless_zero m.objective (negated m.constant))
    mine = elim (is_zero (negated m.constant)) as
        (λ b. Each (IsBoundIn m) (cond b [] (to_side m.objective (negated m.constant) ∷ []))) [
          | true ↦ tt
          | false ↦ (free-at m h m.objective ∙ ap is_free_in (objective-no-row m h), tt)
        ]

    one : (row : List ℕ × Row) → at_name m.rows row.0 ≡ Some row.1 → Each (IsBoundIn m) (row_side row)
    one row is = by (is_zero (printed_rhs row.1.lower row.1.upper)) refl
      where
        by : (b : Bool) → is_zero (printed_rhs row.1.lower row.1.upper) ≡ b
            → Each (IsBoundIn m) (cond b [] (to_side row.0 (printed_rhs row.1.lower row.1.upper) ∷ []))
        by true e = tt
        by false e = (
          free-at m h row.0 ∙ ap is_free_in is ∙ back (is_free_definition (form_stated row.1))
              (is_zero (printed_rhs row.1.lower row.1.upper)) (free-side row.1.lower row.1.upper) e,
          tt,
        )

-- ---- bounds

abbrev IsBounded : PrintedBound → Type 0
IsBounded bound = Holds (λ d. is_bounded_decimal d ≡ true) bound.value

good-bound : (name : List ℕ) (bound : PrintedBound) → IsBounded bound → GoodBound (to_bound name bound)
good-bound name bound h = by bound.value h
  where
    by : (o : Option Number) → Holds (λ d. is_bounded_decimal d ≡ true) o
        → GoodBound (to_bound name (record { type = bound.type; value = o }))
    by None k = record { text = number-text zero_number refl; finite = refl }
    by (Some d) k = record { text = number-text d (bounded_so d k); finite = bounded_finite d k }

bounds-good : (m : Listing) → IsSoundListing m → Each GoodBound (flat_map bounds_in m.columns)
bounds-good m h = Each-flat_map GoodBound bounds_in m.columns (Each-weaker _ _ one m.columns h.columns)
  where
    one : (column : List ℕ × Column) → is_sound_column column ≡ true → Each GoodBound (bounds_in column)
    one column k = let sides = column_sides column k in
        let line_text = printed_bounds column.1.kind column.1.lower column.1.upper in
        Each-map GoodBound _ line_text (Each-weaker IsBounded _ (good-bound column.0) line_text
        (grind (arith, lower_of column.1.lower column.1.upper sides, upper_of column.1.lower column.1.upper sides)))

-- ---- all sections

pub good-whole : (m : Listing) → IsSoundListing m → IsGoodWhole (whole_of m)
good-whole m h = record {
  objective = h.objective;
  rows = Each-map _ to_row m.rows (Each-weaker _ _ row_named m.rows h.rows);
  columns = are-columns m h;
  late = record { sides = reads-sides m h; bound = sides-bound m h; ranges = reads-ranges m h; bounds = bounds-good m h };
}

-- ---- what is declared once, or not at all

-- what each kind of declaration after the sense does
pub record EachKind (P : Declaration → Type 0) (objective : List ℕ) : Type 0 where
  pub of_objective : P (declare_objective objective)
  pub of_row : (x : List ℕ) (form : RowDefinition) → P (declare_row x form)
  pub of_right_side : (x : List ℕ) (v : Number) → P (declare_rhs x v)
  pub of_range : (x : List ℕ) (v : Number) → P (declare_range x v)
  pub of_column : (x : List ℕ) → P (declare_column x)
  pub of_marked : (x : List ℕ) → P (declare_marked x)
  pub of_coefficient : (cell : Cell) → P (declare_coefficient (record { row = cell.row; column = cell.column }) cell.value)
  pub of_lower : (x : List ℕ) (l : Limit) → P (declare_lower x l)
  pub of_upper : (x : List ℕ) (l : Limit) → P (declare_upper x l)
  pub of_semi : (x : List ℕ) → P (declare_semi x)

pub each-kind : (P : Declaration → Type 0) (w : Whole) → Each P (sense_decl w.sense) → EachKind P w.objective →
    Each P (whole_decl w)
each-kind P w sense h = each-whole P w (record {
  sense = sense;
  objective = h.of_objective;
  rows = Each-all _ (λ row. (h.of_row row.0 (by_type row.1), tt)) w.rows;
  plain = Each-all _ (λ cell. (h.of_column cell.column, (h.of_coefficient cell, tt))) _;
  integers = Each-all _ (λ cell. (h.of_column cell.column, (h.of_marked cell.column, (h.of_coefficient cell, tt)))) _;
  sides = Each-all _ (λ side. (h.of_right_side side.row side.value, tt)) w.late.sides;
  ranges = Each-all _ (λ side. (h.of_range side.row side.value, tt)) w.late.ranges;
  bounds = Each-all _ (λ b. of_form b.form b.column b.value) w.late.bounds;
})
  where
    of_form : (form : BoundForm) (x : List ℕ) (v : Number) → Each P (decl_at form x v)
    of_form fixed x v = (h.of_lower x (Finite v), (h.of_upper x (Finite v), tt))
    of_form forms.lower x v = (h.of_lower x (Finite v), tt)
    of_form forms.upper x v = (h.of_upper x (Finite v), tt)
    of_form free x v = (h.of_lower x MinusInf, (h.of_upper x PlusInf, tt))
    of_form no_lower x v = (h.of_lower x MinusInf, tt)
    of_form no_upper x v = (h.of_upper x PlusInf, tt)
    of_form semi_upper x v = (h.of_semi x, (h.of_upper x (Finite v), tt))

sense-keeps : {X : Type 0} (part : Draft → X) (value : X) (s : Sense) → ((t : Sense) → Stays part value (declare_sense t))
    → Each (Stays part value) (sense_decl s)
sense-keeps = grind arith

pub constant-drafted : (m : Listing) → (drafted m).constant ≡ None
constant-drafted m = stays-all _ None _ (each-kind (Stays (λ d. d.constant) None) (whole_of m)
    (sense-keeps (λ d. d.constant) None m.sense (λ _ all is. is)) (search rules)) empty_draft refl

pub objective-drafted : (m : Listing) → (drafted m).objective ≡ Some m.objective
objective-drafted m = grind (
  arith,
  stays-all,
  (each-kind (Stays (λ d. d.objective) (Some m.objective)) (whole_of m)
      (sense-keeps (λ d. d.objective) (Some m.objective) m.sense (λ _ all is. is)) (search rules)),
)

abbrev stated_sense : Sense → Option Sense
stated_sense Minimize = None
stated_sense Maximize = Some Maximize

first-sense : (s : Sense) (more : Declarations) → Each (Stays (λ d. d.sense) (stated_sense s)) (sense_decl s ++ more)
    → (with_declarations empty_draft (sense_decl s ++ more)).sense ≡ stated_sense s
first-sense = grind (arith, stays-all)

pub sense-drafted : (m : Listing) → unwrap_or (drafted m).sense Minimize ≡ m.sense
sense-drafted m = ap (λ (o : Option Sense). unwrap_or o Minimize) (first-sense m.sense
    _ (each-kind (Stays (λ d. d.sense) (stated_sense m.sense)) (whole_of m) (grind arith) (search rules))) ∙ grind arith

-- ---- the constant

stated-own : (q : List ℕ) (o : Option Number) → at_name (stated q o) q ≡ o
stated-own = grind (arith, bytes_total)

value-back : (d : Number) → IsDecimal d → unwrap_or (value_stated d) zero_number ≡ d
value-back d h = side-stated d (zero-is d h)

pub constant-back : (m : Listing) → IsSoundListing m → constant_of (drafted m) ≡ m.constant
constant-back = grind (
  arith,
  drafted,
  objective-drafted,
  value_stated,
  right_side-at,
  first_there,
  then_stated,
  side_stated,
  stated,
  objective-no-row,
  stated-own,
  constant-drafted,
  value-back,
  negated-decimal,
)

-- ---- rows

stated-other : (q name : List ℕ) (o : Option Number) → eq_by_cmp bytes_cmp q name ≡ false → at_name (stated name o) q ≡ None
stated-other = grind arith

no_some : {X : Type 0} (x : X) → ◌≡◌ {A = Option X} None (Some x) → ⊥
no_some x e = cc

pub other-name : (m : Listing) → IsSoundListing m → (row : List ℕ × Row) → at_name m.rows row.0 ≡ Some row.1
    → eq_by_cmp bytes_cmp row.0 m.objective ≡ false
other-name m h row is = by (eq_by_cmp bytes_cmp row.0 m.objective) refl
  where
    by : (b : Bool) → eq_by_cmp bytes_cmp row.0 m.objective ≡ b → b ≡ false
    by true e = absurd (no_some row.1 (sym (objective-no-row m h)
        ∙ ap (at_name m.rows) (sym (tied_names row.0 m.objective (equal_from _ e))) ∙ is))
    by false e = refl

pub side-back : (m : Listing) → IsSoundListing m → (row : List ℕ × Row) → is_sound_row row ≡ true →
    at_name m.rows row.0 ≡ Some row.1 → rhs_or_zero (drafted m) row.0 ≡ printed_rhs row.1.lower row.1.upper
side-back = grind (
  arith,
  stated,
  value_stated,
  drafted,
  right_side-at,
  first_there,
  then_stated,
  side_stated,
  stated-other,
  other-name,
  value-back,
  side-decimal,
  row_sides,
)

pub range-back : (m : Listing) → IsSoundListing m → (row : List ℕ × Row) → at_name m.rows row.0 ≡ Some row.1
    → at_name (drafted m).ranges row.0 ≡ printed_range row.1.lower row.1.upper
range-back m h row is = range-at m h row.0 ∙ ap (then_stated range_stated) is

abbrev pub stated_row : List ℕ × Row → List ℕ × RowDefinition
stated_row row = (row.0, form_stated row.1)

pub limits-back : (m : Listing) → IsSoundListing m → (row : List ℕ × Row) → is_sound_row row ≡ true →
    at_name m.rows row.0 ≡ Some row.1 → row_limits (drafted m) (stated_row row) ≡ Some row.1
limits-back = grind (arith, form_stated, side-back, range-back, row_back, row_sides, row_distance)

entry-back : (m : Listing) → IsSoundListing m → (row : List ℕ × Row) → is_sound_row row ≡ true → at_name m.rows row.0 ≡ Some row.1
    → row_entry (drafted m) (stated_row row) ≡ row
entry-back m h row sound is = ap (λ o. (row.0, unwrap_or o (plain_limits Free zero_number))) (limits-back m h row sound is)

each-back : {X Y : Type 0} (f : X → Y) (g : Y → X) (xs : List X) → Each (λ x. g (f x) ≡ x) xs → map g (map f xs) ≡ xs
each-back f g [] h = refl
each-back f g (x ∷ xs) h = λ i. h.0 i ∷ each-back f g xs h.1 i

abbrev pub IsOwnRow : Listing → List ℕ × Row → Type 0
IsOwnRow m row = (is_sound_row row ≡ true) × (at_name m.rows row.0 ≡ Some row.1)

pub own-rows : (m : Listing) → IsSoundListing m → Each (IsOwnRow m) m.rows
own-rows m h = Each-both _ _ _ (λ row k is. (k, is)) m.rows h.rows (own-found m.rows h.rows_sorted)

pub rows-back : (m : Listing) → IsSoundListing m → map (row_entry (drafted m)) (drafted m).rows ≡ m.rows
rows-back m h = ap (map (row_entry (drafted m))) (rows-drafted m h)
    ∙ each-back stated_row (row_entry (drafted m)) m.rows
    (Each-weaker _ _ (λ row k. entry-back m h row k.0 k.1) m.rows (own-rows m h))

-- ---- columns

abbrev pub IsOwnColumn : Listing → List ℕ × Column → Type 0
IsOwnColumn m column = (is_sound_column column ≡ true) × (at_name m.columns column.0 ≡ Some column.1)

pub own-columns : (m : Listing) → IsSoundListing m → Each (IsOwnColumn m) m.columns
own-columns m h = Each-both _ _ _ (λ column k is. (k, is)) m.columns h.columns (own-found m.columns h.columns_sorted)

finite-lower : (l : Limit) (a : Number) → is_lower_side l ≡ true → l ≡ Finite a → IsDecimal a
finite-lower l a h e = bounded_so a (sym (ap is_lower_side e) ∙ h)

finite-upper : (u : Limit) (b : Number) → is_upper_side u ≡ true → u ≡ Finite b → IsDecimal b
finite-upper u b h e = bounded_so b (sym (ap is_upper_side e) ∙ h)

pub bounds-back : (m : Listing) → IsSoundListing m → (column : List ℕ × Column) → IsOwnColumn m column
    → column_of (drafted m) column.0 ≡ column.1
bounds-back m h column k =
    let l = column.1.lower in
    let u = column.1.upper in
    let sides = column_sides column k.0 in
    let lower_side = lower_of l u sides in
    let upper_side = upper_of l u sides in column_back have_same_value (drafted m) column.0 column.1
    (lower-at m h column.0 ∙ ap (then_stated column_lower) k.1) (upper-at m h column.0 ∙ ap (then_stated column_upper) k.1)
    (marked-at m h column.0 column.1 k.1) (ap (λ (es : List (List ℕ × Unit {0})). has_name es column.0) (integers-drafted m))
    (ap (λ (es : List (List ℕ × Unit {0})). has_name es column.0) (binaries-drafted m))
    (semis-at m h column.0 column.1 (column_suited column k.0) k.1) lower_side upper_side (λ a b p q e. same_decimal a b
    (finite-lower l a lower_side p) (finite-upper u b upper_side q) e) (λ a p z. zero-is a (finite-lower l a lower_side p) z)

each-column_back : (m : Listing) → IsSoundListing m → Each (λ column. column_of (drafted m) column.0 ≡ column.1) m.columns
each-column_back m h = Each-weaker _ _ (bounds-back m h) m.columns (own-columns m h)

-- ---- right-hand sides

finite_size : (a : Number) → is_bounded_decimal a ≡ true → is_infinite_size a ≡ false
finite_size = grind arith

finite-side : (l u : Limit) → are_sides l u ≡ true
    → has_infinite_rhs (by_type (printed_type l u)) (printed_rhs l u) (printed_range l u) ≡ false
finite-side = grind (arith, finite_size)

finite-row : (m : Listing) → IsSoundListing m → (row : List ℕ × Row) → IsOwnRow m row
    → not (row_passes (drafted m) has_infinite_rhs (stated_row row)) ≡ true
finite-row = grind (arith, so_not, drafted, form_stated, side-back, range-back, finite-side, row_sides)

-- The draft of the canonical declarations of a well-formed model means it.
pub draft-means : (m : LinearModel) → IsSound m → DraftMeans (drafted (listing_of m)) m
draft-means m sound =
    let listing = listing_of m in
    let h = sound-listing m sound in
    let all = drafted listing in
    let declared = columns-drafted listing h in
    let back = each-column_back listing h in
    record {
      finite_rhs_values = ap (list_all (λ row. not (row_passes all has_infinite_rhs row))) (rows-drafted listing h)
          ∙ list_all-from_Each _ _
          (Each-map _ stated_row listing.rows
          (Each-weaker _ _ (finite-row listing h) listing.rows (own-rows listing h)));
      exact_limits = ap (list_all (λ row. is_some (row_limits all row))) (rows-drafted listing h)
          ∙ list_all-from_Each _ _
          (Each-map _ stated_row listing.rows
          (Each-weaker _ _ (λ row k. ap is_some (limits-back listing h row k.0 k.1)) listing.rows (own-rows listing h)));
      model = model-back all m (record {
        sense = sense-drafted listing;
        objective = ap (λ o. unwrap_or o []) (objective-drafted listing);
        constant = constant-back listing h;
        rows = rows-back listing h;
        columns = columns-back all listing.columns declared back;
        coefficients = coefficients-kept listing h;
      });
      sound = sound;
      no_negative_upper = no-negative_upper all listing.columns declared back h.columns;
      binary_within = binary-within all listing.columns declared back (binaries-drafted listing);
    }

-- ---- what exists

column-there : (m : Listing) → IsSoundListing m → (column : List ℕ × Column) → at_name m.columns column.0 ≡ Some column.1
    → has_column (drafted m) column.0 ≡ true
column-there m h column is = ap (λ es. has_name es column.0) (columns-drafted m h)
    ∙ ap is_some (at-mapped _ column.0 m.columns ∙ ap (then_stated (λ _. Some tt)) is)

-- ---- all that is named is declared

abbrev Known : Listing → Declaration → Type 0
Known m d = is_known (drafted m) d ≡ true

abbrev KnownCell : Listing → Cell → Type 0
KnownCell m cell = (has_row (drafted m) cell.row ≡ true) × (has_column (drafted m) cell.column ≡ true)

rows-of-cells : (P : List ℕ → Type 0) (coefficients : List (CoefficientKey × Number)) (column : List ℕ)
    (rows : List (List ℕ)) → Each P rows → Each (λ cell. P cell.0) (filter_map (cell_at coefficients column) rows)
rows-of-cells P coefficients column [] h = tt
rows-of-cells P coefficients column (row ∷ rows) h = grind (arith, place_at, rows-of-cells P coefficients column rows h.1)

line_text-rows : (P : List ℕ → Type 0) (objective : List ℕ) (cells : List (List ℕ × Number)) → P objective →
    Each (λ cell. P cell.0) cells → Each (λ cell. P cell.0) (printed_coefficients objective cells)
line_text-rows = grind arith

known-cells : (m : Listing) → IsSoundListing m → (column : List ℕ × Column) → at_name m.columns column.0 ≡ Some column.1
    → Each (KnownCell m) (cells_in m column)
known-cells m h column is =
    let rows = line_text-rows _ m.objective _ (grind (arith, or_left, drafted, objective-drafted, itself_named))
    (rows-of-cells (λ n. has_row (drafted m) n ≡ true) m.coefficients column.0 (m.objective ∷ map (λ row. row.0) m.rows) (
      (grind (arith, or_left, drafted, objective-drafted, itself_named)),
      Each-map _ _ m.rows (Each-weaker _ _
          (λ row k. (grind (arith, or_right, drafted, row-at, then_stated, form_stated, h, k.1))) m.rows
          (own-rows m h)),
    )) in
    Each-map _ _ _
    (Each-weaker _ _ (λ cell k. (k, column-there m h column is)) _ rows)

known-groups : (m : Listing) → IsSoundListing m → (p : List ℕ × Column → Bool)
    → Each (KnownCell m) (cells_of (map (group_in m) (filter p m.columns)))
known-groups m h p = Each-flat_map _ _ _
    (Each-map _ _ _ (Each-filter _ p m.columns (Each-weaker _ _ (λ column k _. known-cells m h column k.1) m.columns
    (own-columns m h))))

known-coefficient : (m : Listing) (cell : Cell) → KnownCell m cell
    → (has_row (drafted m) cell.row && has_column (drafted m) cell.column) ≡ true
known-coefficient m cell k = both_so _ _ k.0 k.1

known-side : (m : Listing) (row : List ℕ) (value : Number) → has_row (drafted m) row ≡ true
    → Each (λ (side : Side). Each (Known m) (side_decl side)) (side_unless_zero row value)
known-side = grind arith

known-range : (m : Listing) (row : List ℕ) (o : Option Number) → has_row (drafted m) row ≡ true
    → Each (λ (side : Side). Each (Known m) (range_decl side)) (option_map_or (λ value. to_side row value ∷ []) o [])
known-range = grind arith

known-bounds : (m : Listing) (name : List ℕ) → has_column (drafted m) name ≡ true → (line_text : List PrintedBound)
    → Each (λ (b : Bound). Each (Known m) (bound_decl b)) (map (to_bound name) line_text)
known-bounds m name k [] = tt
known-bounds m name k (bound ∷ line_text) = ((grind (arith, k)), known-bounds m name k line_text)

pub all-known : (m : Listing) → IsSoundListing m → list_all (is_known (drafted m)) (listed_decl m) ≡ true
all-known m h = list_all-from_Each (is_known (drafted m)) (listed_decl m) (each-whole (Known m) (whole_of m) (record {
  sense = (grind arith);
  objective = refl;
  rows = Each-all (λ (row : RowItem). Each (Known m) (row_decl row)) (λ row. (refl, tt)) (whole_of m).rows;
  plain = Each-weaker (KnownCell m) (λ (cell : Cell). Each (Known m) (cell_decl false cell))
      (λ cell k. (refl, (known-coefficient m cell k, tt))) (cells_of (whole_of m).plain) (known-groups m h is_plain_column);
  integers = Each-weaker (KnownCell m) (λ (cell : Cell). Each (Known m) (cell_decl true cell))
      (λ cell k. (refl, (k.1, (known-coefficient m cell k, tt)))) (cells_of (whole_of m).integers)
      (known-groups m h is_integer_column);
  sides = Each-append (λ (side : Side). Each (Known m) (side_decl side)) (side_unless_zero m.objective (negated m.constant))
      (flat_map row_side m.rows) (known-side m m.objective (negated m.constant) (grind (
        arith,
        or_left,
        drafted,
        objective-drafted,
        itself_named,
      ))) (Each-flat_map (λ (side : Side). Each (Known m) (side_decl side)) row_side m.rows
      (Each-weaker (IsOwnRow m) (λ row. Each (λ (side : Side). Each (Known m) (side_decl side)) (row_side row))
      (λ row k. known-side m row.0 (printed_rhs row.1.lower row.1.upper)
      (grind (arith, or_right, drafted, row-at, then_stated, form_stated, h, k.1))) m.rows (own-rows m h)));
  ranges = Each-flat_map (λ (side : Side). Each (Known m) (range_decl side)) row_range m.rows (Each-weaker (IsOwnRow m)
      (λ row. Each (λ (side : Side). Each (Known m) (range_decl side)) (row_range row))
      (λ row k. known-range m row.0 (printed_range row.1.lower row.1.upper)
      (grind (arith, or_right, drafted, row-at, then_stated, form_stated, h, k.1))) m.rows (own-rows m h));
  bounds = Each-flat_map (λ (b : Bound). Each (Known m) (bound_decl b)) bounds_in m.columns
      (Each-weaker (IsOwnColumn m) (λ column. Each (λ (b : Bound). Each (Known m) (bound_decl b)) (bounds_in column))
      (λ column k. known-bounds m column.0 (column-there m h column k.1)
      (printed_bounds column.1.kind column.1.lower column.1.upper)) m.columns (own-columns m h));
}))

-- ---- all is allowed

abbrev Allowed : Listing → Declaration → Type 0
Allowed m d = is_allowed (drafted m) d ≡ true

range-not_free : (l u : Limit) (d : Number) → printed_range l u ≡ Some d → is_free_definition (by_type (printed_type l u)) ≡ false
range-not_free = grind arith

range-bounded : (l u : Limit) → has_bounded_distance l u ≡ true → Holds (λ d. is_bounded_decimal d ≡ true) (printed_range l u)
range-bounded MinusInf u h = tt
range-bounded (Finite a) MinusInf h = tt
range-bounded (Finite a) PlusInf h = tt
range-bounded PlusInf u h = tt
range-bounded (Finite a) (Finite b) h = grind arith

no_false : (a b : Bool) → a ≡ false → b ≡ false → not (a || b) ≡ true
no_false = grind arith

allowed-range : (m : Listing) → IsSoundListing m → (row : List ℕ × Row) → IsOwnRow m row
    → Each (λ (side : Side). Each (Allowed m) (range_decl side)) (row_range row)
allowed-range m h row k = by (printed_range row.1.lower row.1.upper) refl
    (range-bounded row.1.lower row.1.upper (row_distance row k.0))
  where
    not_mine : is_objective (drafted m) row.0 ≡ false
    not_mine = ap (λ o. option_map_or (same_bytes row.0) o false) (objective-drafted m) ∙ texts_ties row.0 m.objective
        ∙ other-name m h row k.1

    not_free : (d : Number) → printed_range row.1.lower row.1.upper ≡ Some d → is_free_row (drafted m) row.0 ≡ false
    not_free d e = ap (λ o. option_map_or is_free_definition o false)
        (row-at m h row.0 ∙ ap (then_stated (λ r. Some (form_stated r))) k.1) ∙ range-not_free row.1.lower row.1.upper d e

    by : (o : Option Number) → printed_range row.1.lower row.1.upper ≡ o → Holds (λ d. is_bounded_decimal d ≡ true) o
        → Each (λ (side : Side). Each (Allowed m) (range_decl side)) (option_map_or (λ value. to_side row.0 value ∷ []) o [])
    by None e b = tt
    by (Some d) e b = ((both_so _ _ (no_false _ _ not_mine (not_free d e)) (second_so _ _ b), tt), tt)

-- ---- no column is both integer and semi-continuous

own-semi : (m : Listing) → IsSoundListing m → (column : List ℕ × Column) → IsOwnColumn m column
    → is_semi (drafted m) column.0 ≡ is_semi_kind column.1.kind
own-semi = grind (arith, semis-at, column_suited)

abbrev AllowedCell : Listing → Cell → Type 0
AllowedCell m cell = Each (Allowed m) (cell_decl true cell)

-- a column of the integer block is not semi-continuous
allowed-integers : (m : Listing) → IsSoundListing m
    → Each (AllowedCell m) (cells_of (map (group_in m) (filter is_integer_column m.columns)))
allowed-integers m h = Each-flat_map _ _ _
    (Each-map _ _ _ (Each-filter _ is_integer_column m.columns (Each-weaker _ _ one m.columns (own-columns m h))))
  where
    one : (column : List ℕ × Column) → IsOwnColumn m column → is_integer_column column ≡ true →
        Each (AllowedCell m) (cells_in m column)
    one column k integer = let other = so_not _ (own-semi m h column k ∙ grind (arith, integer)) in
        Each-map _ _ _ (Each-all _ (λ cell. (refl, (other, (refl, tt)))) _)

abbrev is_semi_form : BoundForm → Bool
is_semi_form semi_upper = true
is_semi_form _ = false

allowed-line_text : (m : Listing) (name : List ℕ) (line_text : List PrintedBound)
    → Each (λ (b : PrintedBound). is_semi_form (form_of b.type) ≡ true → is_integer (drafted m) name ≡ false) line_text
    → Each (λ (b : Bound). Each (Allowed m) (bound_decl b)) (map (to_bound name) line_text)
allowed-line_text m name [] h = tt
allowed-line_text m name (bound ∷ line_text) h = ((grind (arith, h.0)), allowed-line_text m name line_text h.1)

allowed-bounds : (m : Listing) → IsSoundListing m → (column : List ℕ × Column) → IsOwnColumn m column
    → Each (λ (b : Bound). Each (Allowed m) (bound_decl b)) (bounds_in column)
allowed-bounds m h column k = allowed-line_text m column.0 _
    (by column.1.kind column.1.lower column.1.upper (grind (arith, marked-at, integers-drafted, binaries-drafted, h, k)))
  where
    by : (kind : Kind) (l u : Limit) → is_integer (drafted m) column.0
        ≡ is_integer_column ([], record { kind = kind; lower = l; upper = u }) → Each
        (λ (b : PrintedBound). is_semi_form (form_of b.type) ≡ true →
        is_integer (drafted m) column.0 ≡ false) (printed_bounds kind l u)
    by = grind arith

pub all-allowed : (m : Listing) → IsSoundListing m → list_all (is_allowed (drafted m)) (listed_decl m) ≡ true
all-allowed m h = list_all-from_Each (is_allowed (drafted m)) (listed_decl m) (each-whole (Allowed m) (whole_of m) (record {
  sense = (grind arith);
  objective = refl;
  rows = Each-all (λ (row : RowItem). Each (Allowed m) (row_decl row)) (λ row. (refl, tt)) (whole_of m).rows;
  plain = Each-all (λ (cell : Cell). Each (Allowed m) (cell_decl false cell)) (λ cell. (refl, (refl, tt)))
      (cells_of (whole_of m).plain);
  integers = allowed-integers m h;
  sides = Each-all (λ (side : Side). Each (Allowed m) (side_decl side)) (λ side. (refl, tt)) (sides_in m);
  ranges = Each-flat_map _ row_range m.rows
      (Each-weaker _ _ (allowed-range m h) m.rows (own-rows m h));
  bounds = Each-flat_map _ bounds_in m.columns
      (Each-weaker _ _ (allowed-bounds m h) m.columns (own-columns m h));
}))

-- ---- the objective

-- The canonical declarations of a well-formed listing are consistent, if no slot is filled twice.
pub consistent-if_once : (m : Listing) → IsSoundListing m → are_distinct same_slot (all_slots (listed_decl m)) ≡ true
    → AreConsistent (listed_decl m)
consistent-if_once = grind (arith, drafted, constant-drafted, all-known, all-allowed)
