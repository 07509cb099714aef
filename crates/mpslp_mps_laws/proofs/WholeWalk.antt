-- What canonical text declares, section by section, and that its items are well-formed.
use Rattle.mpslp_mps_laws.proofs.Prelude
use Prelude.{Bool, BoundType, Bounds, Column, Columns, Context, Declarations, DeriveAllBounds, DeriveAllColumns, DeriveAllRows}
use Prelude.{DeriveHeaders, DeriveRanges, DeriveRhs, DeriveSense, Draft, Each, EndData, Free, IsDecimal, LineContent, Lines, List, Listing}
use Prelude.{Maximize, Minimize, Name, None, Number, ObjSense, Option, PrintedBound, Ranges, Rhs, Row, Rows, Section, Sense, Some, [], ap}
use Prelude.{append-nil, append_assoc, arith, begins, codes, coefficient_line, column_bound_lines, column_coefficients, column_lines}
use Prelude.{columns_section, cond, content_in, context_of, current_section, current_section-push, data_line, data_lines, data_lines-push}
use Prelude.{data_lines_after, declare_objective, declare_sense, empty_draft, false, fields_under, filter, flat_map, form_faults}
use Prelude.{has_section, has_section-append, has_section-cons, header, in_integer_part, integer_part, is_free_row, is_integer_column}
use Prelude.{is_mps_name, is_none, is_plain_column, is_read, is_section, is_some, is_zero, keyword_of, last_column, letter_of}
use Prelude.{line_declares, listed_lines, map, map-append, marker, may_begin, named-after, negated, nor, number-text, number_text, objname}
use Prelude.{objname-push, option_map_or, option_or, or_false, printed_bounds, printed_coefficients, printed_range, printed_rhs}
use Prelude.{printed_type, range_lines, refl, rhs_lines, row_line, row_rhs_lines, same_bytes, section_of_header, subst, sym, true}
use Prelude.{with_declaration, with_declarations, word_due, word_due-push, word_due_after, zero_number, ℕ, ◌++◌, ◌||◌, ◌∙◌, ◌∷◌, ◌≡◌}
use Rattle.mpslp_mps_laws.proofs.SectionWalks.{AreAbsent, AreApart, Bound, BoundForm, Cell, GoodBound, GoodCell, Group, InBounds}
use Rattle.mpslp_mps_laws.proofs.SectionWalks.{InCells, InRanges, InRows, InSides, IsGroup, ReadsAs, RowItem, Side, Unsplit, Walk}
use Rattle.mpslp_mps_laws.proofs.SectionWalks.{bound_decl, bound_good, bound_item, bound_says, bound_step, cell_decl, cell_good}
use Rattle.mpslp_mps_laws.proofs.SectionWalks.{cell_item, cell_says, cell_step, cells_of, decl_at, fields_at, fixed, free}
use Rattle.mpslp_mps_laws.proofs.SectionWalks.{groups_unsplit, lower, marker_fields, marker_good, marker_last, marker_part}
use Rattle.mpslp_mps_laws.proofs.SectionWalks.{marker_says, no_lower, no_upper, range_decl, range_good, range_says, range_step}
use Rattle.mpslp_mps_laws.proofs.SectionWalks.{row_decl, row_item, row_step, section-walk, semi_upper, side_decl, side_good, side_item}
use Rattle.mpslp_mps_laws.proofs.SectionWalks.{side_says, side_step, stays, upper, walk-append, walk-cons, walk-nil}
use Rattle.mpslp_mps_fields.specs.declared.bound_types.BoundType.TheVariants as bounds

-- ---- headers: what each declares, that it is well-formed, and the context after it. The items that are read in
-- canonical lines, in the form in which they are followed section by section. What the sections of canonical text
-- declare, each after the lines before it

-- a header whose word must follow on a line of its own, and whether a word is missing
abbrev pub is_bare : LineContent → Bool
is_bare item = is_some (word_due_after item)

abbrev pub wants_word : List LineContent → Bool
wants_word before = is_some (word_due before)

abbrev pub header_item : Section → LineContent
header_item section = header (keyword_of section) []

-- ---- a header where it is allowed

-- OBJSENSE has its word or has not begun; the section has not begun, and may begin
pub record MayBegin (section : Section) (before : List LineContent) : Type 0 where
  pub settled : wants_word before ≡ false
  pub fresh : has_section before section ≡ false
  pub begins : may_begin (context_of before) section ≡ true

pub header-good : (section : Section) (before : List LineContent) (earlier : Draft) → MayBegin section before →
    (is_section Columns (Some section) ≡ true → is_none earlier.objective ≡ false) →
    form_faults (context_of before) earlier (header_item section) ≡ []
header-good = grind arith

-- a header declares nothing, except for the objective at COLUMNS if there was none
pub header-says : (section : Section) (context : Context) (earlier : Draft) → (is_section Columns (Some section) ≡ true
    → is_none earlier.objective ≡ false) → line_declares context earlier (header_item section) ≡ []
header-says = grind arith

pub current-header : (section : Section) (before : List LineContent) →
    current_section (before ++ header_item section ∷ []) ≡ Some section
current-header = grind (arith, current_section-push)

-- ---- what has not begun

-- lines that are not headers begin no section
pub has_section-data : {X : Type 0} (section : Section) (item : X → LineContent) → ((x : X) → section_of_header (item x) ≡ None)
    → (xs : List X) (before : List LineContent) → has_section (before ++ map item xs) section ≡ has_section before section
has_section-data section item none xs before =
    has_section-append section before _ ∙ ap (λ b. has_section before section || b) (all xs) ∙ or_false _
  where
    all : (ys : List _) → has_section (map item ys) section ≡ false
    all [] = refl
    all (y ∷ ys) = rw (none y) (all ys)

other_section : (section : Section) (o current : Option Section) → is_section section current ≡ false →
    is_section section o ≡ false → is_section section (option_or o current) ≡ false
other_section = grind arith

under_other : (section : Section) (current : Option Section) (item : LineContent) → is_section section current ≡ false
    → fields_under section current item ≡ []
under_other = grind arith

lines_of_other : (section : Section) (before : List LineContent) (current : Option Section) → is_section section current ≡ false
    → has_section before section ≡ false → data_lines_after section current before ≡ []
lines_of_other section [] current h k = refl
lines_of_other section (item ∷ before) current h k = let parts = nor _ _ (sym (has_section-cons section item before) ∙ k) in
    ap (λ lines. lines ++ data_lines_after section (option_or (section_of_header item) current) before)
    (under_other section current item h) ∙ lines_of_other section before _ (other_section section _ current h parts.0) parts.1

-- a section that has not begun has no lines
pub no-lines : (section : Section) (before : List LineContent) → has_section before section ≡ false →
    data_lines section before ≡ []
no-lines = grind (arith, lines_of_other)

-- after a data line, and after a header that is not a bare OBJSENSE
pub settled-after : (before : List LineContent) (item : LineContent) → is_read item ≡ true → is_bare item ≡ false
    → wants_word (before ++ item ∷ []) ≡ false
settled-after = grind (arith, word_due-push)

abbrev pub items_in : Lines → List LineContent
items_in lines = map content_in lines

-- the items of what is printed of several things, one after another
pub flat-items : {X Y : Type 0} (item : Y → LineContent) (lines : X → Lines) (parts : X → List Y)
    → ((x : X) → items_in (lines x) ≡ map item (parts x)) → (xs : List X) →
    items_in (flat_map lines xs) ≡ map item (flat_map parts xs)
flat-items item lines parts h [] = refl
flat-items item lines parts h (x ∷ xs) = grind (arith, map-append, flat-items item lines parts h xs)

-- ---- rows

abbrev pub to_row : List ℕ × Row → RowItem
to_row row = (row.0, printed_type row.1.lower row.1.upper)

pub row-items : (rows : List (List ℕ × Row)) → items_in (map row_line rows) ≡ map row_item (map to_row rows)
row-items [] = refl
row-items (row ∷ rows) = grind (arith, row-items rows)

-- ---- columns

abbrev pub to_cell : List ℕ → List ℕ × Number → Cell
to_cell column cell = record { column = column; row = cell.0; text = number_text cell.1; value = cell.1 }

abbrev pub cells_in : Listing → List ℕ × Column → List Cell
cells_in m column = map (to_cell column.0) (printed_coefficients m.objective (column_coefficients m column.0))

abbrev pub group_in : Listing → List ℕ × Column → Group
group_in m column = (column.0, cells_in m column)

cell-items : (column : List ℕ) (cells : List (List ℕ × Number))
    → items_in (map (coefficient_line column) cells) ≡ map cell_item (map (to_cell column) cells)
cell-items column [] = refl
cell-items column (cell ∷ cells) = grind (arith, cell-items column cells)

cells-grouped : (m : Listing) (columns : List (List ℕ × Column)) →
    cells_of (map (group_in m) columns) ≡ flat_map (cells_in m) columns
cells-grouped m [] = refl
cells-grouped m (column ∷ columns) = grind (arith, cells-grouped m columns)

pub column-items : (m : Listing) (columns : List (List ℕ × Column))
    → items_in (flat_map (column_lines m) columns) ≡ map cell_item (cells_of (map (group_in m) columns))
column-items m columns = flat-items cell_item _ _ (λ column. cell-items column.0 _) columns
    ∙ ap (map cell_item) (sym (cells-grouped m columns))

-- ---- right-hand sides and ranges

abbrev pub to_side : List ℕ → Number → Side
to_side row value = record { row = row; text = number_text value; value = value }

-- no right-hand side if the value is 0
abbrev pub side_unless_zero : List ℕ → Number → List Side
side_unless_zero row value = cond (is_zero value) [] (to_side row value ∷ [])

abbrev pub row_side : List ℕ × Row → List Side
row_side row = side_unless_zero row.0 (printed_rhs row.1.lower row.1.upper)

abbrev pub sides_in : Listing → List Side
sides_in m = side_unless_zero m.objective (negated m.constant) ++ flat_map row_side m.rows

side-items : (row : List ℕ) (value : Number) → items_in (rhs_lines row value) ≡ map (side_item (codes "RHS")) (side_unless_zero row value)
side-items = grind arith

pub sides-items : (m : Listing)
    → items_in (rhs_lines m.objective (negated m.constant) ++ flat_map row_rhs_lines m.rows) ≡ map (side_item (codes "RHS")) (sides_in m)
sides-items m = map-append content_in (rhs_lines m.objective (negated m.constant)) (flat_map row_rhs_lines m.rows)
    ∙ (λ i. side-items m.objective (negated m.constant) i
    ++ flat-items (side_item (codes "RHS")) row_rhs_lines row_side (λ row. side-items row.0 (printed_rhs row.1.lower row.1.upper)) m.rows i)
    ∙ sym (map-append (side_item (codes "RHS")) (side_unless_zero m.objective (negated m.constant)) (flat_map row_side m.rows))

abbrev pub row_range : List ℕ × Row → List Side
row_range row = option_map_or (λ value. to_side row.0 value ∷ []) (printed_range row.1.lower row.1.upper) []

pub ranges-items : (rows : List (List ℕ × Row))
    → items_in (flat_map range_lines rows) ≡ map (side_item (codes "RNG")) (flat_map row_range rows)
ranges-items rows = flat-items _ range_lines row_range one rows
  where
    one : (row : List ℕ × Row) → items_in (range_lines row) ≡ map (side_item (codes "RNG")) (row_range row)
    one = grind arith

-- ---- bounds

-- a form and a value for each bound that is printed; if no value is printed, it is 0
abbrev pub form_of : BoundType → BoundForm
form_of bounds.Lower = lower
form_of bounds.Upper = upper
form_of bounds.Fixed = fixed
form_of bounds.NoLower = no_lower
form_of bounds.NoUpper = no_upper
form_of bounds.SemiUpper = semi_upper
form_of _ = free

abbrev pub value_in : Option Number → Number
value_in None = zero_number
value_in (Some d) = d

abbrev pub to_bound : List ℕ → PrintedBound → Bound
to_bound column bound = record {
  form = form_of bound.type;
  column = column;
  text = number_text (value_in bound.value);
  value = value_in bound.value;
}

abbrev pub bounds_in : List ℕ × Column → List Bound
bounds_in column = map (to_bound column.0) (printed_bounds column.1.kind column.1.lower column.1.upper)

-- ---- headers

-- a header is printed only if there are items
abbrev pub under : Section → List LineContent → List LineContent
under section [] = []
under section (item ∷ items) = header_item section ∷ item ∷ items

-- ---- after COLUMNS: the sections that are printed only if they have lines

-- no word is missing, and COLUMNS has begun
pub record IsLate (before : List LineContent) (earlier : Draft) : Type 0 where
  pub settled : wants_word before ≡ false
  pub columns : has_section before Columns ≡ true
  pub objective : is_none earlier.objective ≡ false

-- data lines leave no word missing
pub data-settled : {X : Type 0} (item : X → LineContent) → ((x : X) → is_read (item x) ≡ true) →
    ((x : X) → is_bare (item x) ≡ false) → (xs : List X) (before : List LineContent) → wants_word before ≡ false →
    wants_word (before ++ map item xs) ≡ false
data-settled item reads bare [] before h = ap wants_word (append-nil before) ∙ h
data-settled item reads bare (x ∷ xs) before h = grind (
  arith,
  wants_word,
  append_assoc,
  settled-after,
  data-settled item reads bare xs
      (before ++ item x ∷ []) (settled-after before (item x) (reads x) (bare x)),
)

-- RHS, RANGES or BOUNDS
pub record IsLateSection (section : Section) : Type 0 where
  pub may_begin : (before : List LineContent) (earlier : Draft) → IsLate before earlier → has_section before section ≡ false
      → MayBegin section before
  pub bare : is_bare (header_item section) ≡ false

-- A section that is printed only if it has lines: its lines follow its header.
under-walk : {X : Type 0} (section : Section) → IsLateSection section →
    (item : X → LineContent) (decl : X → Declarations) (xs : List X) (before : List LineContent) (earlier : Draft) →
    IsLate before earlier → has_section before section ≡ false →
    Walk (before ++ header_item section ∷ []) earlier (map item xs) (flat_map decl xs) →
    Walk before earlier (under section (map item xs)) (flat_map decl xs)
under-walk = grind arith

-- the lines of a section that has not begun
pub none-yet : (section : Section) (before : List LineContent) → begins section (header_item section) ≡ true
    → has_section before section ≡ false → data_lines section (before ++ header_item section ∷ []) ≡ []
none-yet section before b f = data_lines-push section before _ ∙ append-nil (data_lines section before)
    ∙ no-lines section before f

pub sides-walk : (set : List ℕ) (sides : List Side) (before : List LineContent) (earlier : Draft) → IsLate before earlier
    → has_section before Rhs ≡ false → Each ReadsAs sides → Each (λ (side : Side). is_free_row earlier side.row ≡ false) sides
    → Walk before earlier (under Rhs (map (side_item set) sides)) (flat_map side_decl sides)
sides-walk set sides before earlier h f texts bound =
    let there = before ++ header_item Rhs ∷ [] in
    let inside : InSides set sides there
    earlier = record {
      section = current-header Rhs before;
      one_set = rw (none-yet Rhs before refl f) tt;
      texts =
          texts;
      bound = bound;
    } in
    under-walk Rhs (grind arith) _ side_decl sides before earlier h f
    (section-walk (side_item set) side_decl (InSides set) (side_step set) sides there earlier inside).0

pub ranges-walk : (set : List ℕ) (sides : List Side) (before : List LineContent) (earlier : Draft) →
    IsLate before earlier → has_section before Ranges ≡ false → Each ReadsAs sides →
    Walk before earlier (under Ranges (map (side_item set) sides)) (flat_map range_decl sides)
ranges-walk set sides before earlier h f texts =
    let there = before ++ header_item Ranges ∷ [] in
    let inside : InRanges set sides there
    earlier = record { section = current-header Ranges before; one_set = rw (none-yet Ranges before refl f) tt; texts = texts } in
    under-walk Ranges (grind arith) _ range_decl sides before earlier h f
    (section-walk (side_item set) range_decl (InRanges set) (range_step set) sides there earlier inside).0

pub bounds-walk : (set : List ℕ) (bounds : List Bound) (before : List LineContent) (earlier : Draft) → IsLate before earlier
    → has_section before Bounds ≡ false → Each GoodBound bounds
    → Walk before earlier (under Bounds (map (bound_item set) bounds)) (flat_map bound_decl bounds)
bounds-walk set bounds before earlier h f good =
    let there = before ++ header_item Bounds ∷ [] in
    let inside : InBounds set bounds there
    earlier = record { section = current-header Bounds before; one_set = rw (none-yet Bounds before refl f) tt; good = good } in
    under-walk Bounds (grind arith) _ bound_decl bounds before earlier h f
    (section-walk (bound_item set) bound_decl (InBounds set) (bound_step set) bounds there earlier inside).0

-- the end
pub end-walk : (before : List LineContent) (earlier : Draft) → IsLate before earlier → has_section before EndData ≡ false
    → Walk before earlier (header_item EndData ∷ []) []
end-walk = grind arith

-- ---- what NAME, OBJSENSE, ROWS and COLUMNS of canonical text declare

-- ---- NAME and OBJSENSE

abbrev pub sense_items : Sense → List LineContent
sense_items Minimize = []
sense_items Maximize = header_item ObjSense ∷ data_line (codes "MAX" ∷ []) ∷ []

abbrev pub sense_decl : Sense → Declarations
sense_decl Minimize = []
sense_decl Maximize = declare_sense Maximize ∷ []

-- ---- ROWS

abbrev pub objective_item : List ℕ → LineContent
objective_item name = data_line (letter_of Free ∷ name ∷ [])

pub objective-says : (name : List ℕ) (context : Context) (earlier : Draft) → context.section ≡ Some Rows →
    is_none earlier.objective ≡ true → context.objname ≡ None →
    line_declares context earlier (objective_item name) ≡ declare_objective name ∷ []
objective-says = grind arith

pub rows-walk : (name : List ℕ) (rows : List RowItem) (before : List LineContent) (earlier : Draft) →
    MayBegin Rows before → objname before ≡ None → is_none earlier.objective ≡ true → is_mps_name name ≡ true →
    Each (λ (row : RowItem). is_mps_name row.0 ≡ true) rows →
    Walk before earlier (header_item Rows ∷ objective_item name ∷ map row_item rows)
    (declare_objective name ∷ flat_map row_decl rows)
rows-walk name rows before earlier may unnamed none legal names = let headed = before ++ header_item Rows ∷ [] in
    let section = current-header Rows before in
    let there = headed ++ objective_item name ∷ [] in
    let named = with_declaration earlier (declare_objective name) in
    let inside : InRows rows there named = record {
      section = stays Rows (letter_of Free ∷ name ∷ []) headed section;
      objective = refl;
      names = names;
    } in
    walk-cons before earlier (header_item Rows) (objective_item name ∷ map row_item rows) [] (declare_objective name
    ∷ flat_map row_decl rows) (header-says Rows (context_of before) earlier (λ e. cc))
    (header-good Rows before earlier may (λ e. cc))
    (walk-cons headed earlier (objective_item name) (map row_item rows) (declare_objective name ∷ [])
    (flat_map row_decl rows) (objective-says name (context_of headed) earlier section none
    (objname-push before (header_item Rows) ∙ ap (λ (o : Option (List ℕ)). option_or o None) unnamed))
    (grind (arith, section, legal)) (section-walk row_item row_decl InRows row_step rows there named inside).0)

-- ---- COLUMNS

abbrev pub marker_item : Bool → LineContent
marker_item opens = data_line (marker_fields opens)

-- integer columns between their markers
abbrev pub part_items : List Cell → List LineContent
part_items [] = []
part_items (cell ∷ cells) = marker_item true ∷ (map cell_item (cell ∷ cells) ++ marker_item false ∷ [])

no-column : (before : List LineContent) → data_lines Columns before ≡ [] → last_column before ≡ None
no-column = grind arith

part-walk : (cells : List Cell) (before : List LineContent) (earlier : Draft) → current_section before ≡ Some Columns
    → in_integer_part before ≡ false
    → Each GoodCell cells → Unsplit true None earlier cells →
    Walk before earlier (part_items cells) (flat_map (cell_decl true) cells)
part-walk [] before earlier s p good unsplit = walk-nil before earlier
part-walk (cell ∷ cells) before earlier s p good unsplit =
    let opened = before ++ marker_item true ∷ [] in
    let inside : InCells true (cell ∷ cells) opened earlier = record {
      section = stays Columns (marker_fields true) before s;
      part = marker_part true before s;
      good = good;
      unsplit = rw (marker_last true before s) unsplit;
    } in
    let walked = section-walk cell_item (cell_decl true) (InCells true) (cell_step true) (cell ∷ cells) opened earlier inside in
    let ds = flat_map (cell_decl true) (cell ∷ cells) in
    let after = opened ++ map cell_item (cell ∷ cells) in
    let closing = walk-cons after (with_declarations earlier ds) (marker_item false) [] [] []
    (marker_says false (context_of after) (with_declarations earlier ds) walked.1.section)
    (marker_good false (context_of after) (with_declarations earlier ds) walked.1.section walked.1.part)
    (walk-nil (after ++ marker_item false ∷ []) (with_declarations earlier ds)) in
    walk-cons before earlier (marker_item true) (map cell_item (cell ∷ cells) ++ marker_item false ∷ []) [] ds
    (marker_says true (context_of before) earlier s) (marker_good true (context_of before) earlier s p)
    (subst (λ (x : Declarations). Walk opened earlier (map cell_item (cell ∷ cells) ++ marker_item false ∷ []) x) (append-nil ds)
    (walk-append opened earlier (map cell_item (cell ∷ cells)) (marker_item false ∷ []) ds [] walked.0 closing))

-- the columns that are not integer, and the integer ones
pub record AreColumns (plain integers : List Group) (earlier : Draft) : Type 0 where
  pub plain_groups : Each IsGroup plain
  pub integer_groups : Each IsGroup integers
  pub plain_apart : AreApart plain
  pub integers_apart : AreApart integers
  pub plain_absent : AreAbsent earlier plain
  pub integers_absent : AreAbsent (with_declarations earlier (flat_map (cell_decl false) (cells_of plain))) integers
  pub plain_cells : Each GoodCell (cells_of plain)
  pub integer_cells : Each GoodCell (cells_of integers)

pub columns-walk : (plain integers : List Group) (before : List LineContent) (earlier : Draft) → MayBegin Columns before
    → is_none earlier.objective ≡ false → AreColumns plain integers earlier
    → Walk before earlier (header_item Columns ∷ (map cell_item (cells_of plain) ++ part_items (cells_of integers)))
    (flat_map (cell_decl false) (cells_of plain) ++ flat_map (cell_decl true) (cells_of integers))
columns-walk plain integers before earlier may named h =
    let headed = before ++ header_item Columns ∷ [] in
    let lines = none-yet Columns before refl may.fresh in
    let inside : InCells false (cells_of plain) headed earlier = record {
      section = current-header Columns before;
      part = (grind (arith, lines));
      good = h.plain_cells;
      unsplit = rw (no-column headed lines) (groups_unsplit false plain None earlier h.plain_groups h.plain_apart h.plain_absent);
    } in
    let walked = section-walk cell_item (cell_decl false) (InCells false) (cell_step false) (cells_of plain) headed
    earlier inside in
    let after = headed ++ map cell_item (cells_of plain) in
    let next = with_declarations earlier (flat_map (cell_decl false) (cells_of plain)) in
    walk-cons before earlier (header_item Columns) (map cell_item (cells_of plain) ++ part_items (cells_of integers)) []
    (flat_map (cell_decl false) (cells_of plain) ++ flat_map (cell_decl true) (cells_of integers))
    (header-says Columns (context_of before) earlier (λ _. named)) (header-good Columns before earlier may (λ _. named))
    (walk-append headed earlier (map cell_item (cells_of plain)) (part_items (cells_of integers))
    (flat_map (cell_decl false) (cells_of plain)) (flat_map (cell_decl true) (cells_of integers)) walked.0
    (part-walk (cells_of integers) after next walked.1.section walked.1.part h.integer_cells
    (groups_unsplit true integers None next h.integer_groups h.integers_apart h.integers_absent)))

-- ---- what has begun, section by section

no-headers : {X : Type 0} (section : Section) (item : X → LineContent) → ((x : X) → section_of_header (item x) ≡ None) →
    (xs : List X) → has_section (map item xs) section ≡ false
no-headers section item none xs = has_section-data section item none xs []

-- the lines of a section that is printed only if it has lines begin only that section
under-begins : {X : Type 0} (section other : Section) (item : X → LineContent) → ((x : X) → section_of_header (item x) ≡ None)
    → begins other (header_item section) ≡ false → (xs : List X) → has_section (under section (map item xs)) other ≡ false
under-begins section other item none b [] = refl
under-begins section other item none b (x ∷ xs) = has_section-cons other (header_item section) (map item (x ∷ xs))
    ∙ rw b (no-headers other item none (x ∷ xs))

under-settled : {X : Type 0} (section : Section) (item : X → LineContent) → is_bare (header_item section) ≡ false
    → ((x : X) → is_read (item x) ≡ true) → ((x : X) → is_bare (item x) ≡ false) → (xs : List X) (before : List LineContent)
    → wants_word before ≡ false → wants_word (before ++ under section (map item xs)) ≡ false
under-settled section item b reads bare [] before h = ap wants_word (append-nil before) ∙ h
under-settled section item b reads bare (x ∷ xs) before h = ap wants_word (sym (append_assoc before _ (map item (x ∷ xs))))
    ∙ data-settled item reads bare (x ∷ xs) (before ++ header_item section ∷ []) (settled-after before _ refl b)

still-named : (ds : Declarations) (all : Draft) → is_none all.objective ≡ false →
    is_none (with_declarations all ds).objective ≡ false
still-named ds all h = grind (arith, named-after ds all (grind (arith, h)))

-- a late section, and what holds after it
late-after : {X : Type 0} (section : Section) (item : X → LineContent) (ds : Declarations) → is_bare (header_item section) ≡ false
    → ((x : X) → is_read (item x) ≡ true) → ((x : X) → is_bare (item x) ≡ false) → (xs : List X) (before : List LineContent)
    (earlier : Draft) → IsLate before earlier → IsLate (before ++ under section (map item xs)) (with_declarations earlier ds)
late-after = grind (arith, under-settled, has_section-append, under, still-named)

fresh-after : {X : Type 0} (section other : Section) (item : X → LineContent) → ((x : X) → section_of_header (item x) ≡ None)
    → begins other (header_item section) ≡ false → (xs : List X) (before : List LineContent) → has_section before other ≡ false
    → has_section (before ++ under section (map item xs)) other ≡ false
fresh-after = grind (arith, has_section-append, under, under-begins)

-- ---- RHS, RANGES, BOUNDS and ENDATA

pub record Late : Type 0 where
  pub sides : List Side
  pub ranges : List Side
  pub bounds : List Bound

abbrev pub late_items : Late → List LineContent
late_items l = under Rhs (map (side_item (codes "RHS")) l.sides) ++ (under Ranges (map (side_item (codes "RNG")) l.ranges)
    ++ (under Bounds (map (bound_item (codes "BND")) l.bounds) ++ header_item EndData ∷ []))

abbrev pub late_decl : Late → Declarations
late_decl l = flat_map side_decl l.sides ++ (flat_map range_decl l.ranges ++ (flat_map bound_decl l.bounds ++ []))

pub record IsGoodLate (l : Late) (earlier : Draft) : Type 0 where
  pub sides : Each ReadsAs l.sides
  pub bound : Each (λ (side : Side). is_free_row earlier side.row ≡ false) l.sides
  pub ranges : Each ReadsAs l.ranges
  pub bounds : Each GoodBound l.bounds

pub late-walk : (l : Late) (before : List LineContent) (earlier : Draft) → IsLate before earlier → has_section before Rhs ≡ false
    → has_section before Ranges ≡ false → has_section before Bounds ≡ false → has_section before EndData ≡ false →
    IsGoodLate l earlier → Walk before earlier (late_items l) (late_decl l)
late-walk l before earlier h f g b e good = let sides = under Rhs (map (side_item (codes "RHS")) l.sides) in
    let ranges = under Ranges (map (side_item (codes "RNG")) l.ranges) in
    let bounds = under Bounds (map (bound_item (codes "BND")) l.bounds) in let first = before ++ sides in let second = first ++ ranges in
    let third = second ++ bounds in
    let d1 = with_declarations earlier (flat_map side_decl l.sides) in
    let d2 = with_declarations d1 (flat_map range_decl l.ranges) in
    let d3 = with_declarations d2 (flat_map bound_decl l.bounds) in
    let h1 = late-after Rhs _ (flat_map side_decl l.sides) refl (λ _. refl) (λ _. refl) l.sides before earlier h in
    let h2 = late-after Ranges _ (flat_map range_decl l.ranges) refl (λ _. refl) (λ _. refl) l.ranges first d1 h1 in
    let h3 = late-after Bounds _ (flat_map bound_decl l.bounds) refl (λ _. refl) (λ _. refl) l.bounds second d2 h2 in
    let g1 = fresh-after Rhs Ranges _ (λ _. refl) refl l.sides before g in
    let b1 =
    fresh-after Rhs Bounds _ (λ _. refl) refl l.sides before b in
    let b2 = fresh-after Ranges Bounds _ (λ _. refl) refl l.ranges first b1 in
    let e1 =
    fresh-after Rhs EndData _ (λ _. refl) refl l.sides before e in
    let e2 = fresh-after Ranges EndData _ (λ _. refl) refl l.ranges first e1 in
    let e3 = fresh-after Bounds EndData _ (λ _. refl) refl l.bounds second e2 in
    walk-append before earlier sides _ _ _ (sides-walk _ l.sides before earlier h f good.sides good.bound)
    (walk-append first d1 ranges _ _ _ (ranges-walk _ l.ranges first d1 h1 g1 good.ranges)
    (walk-append second d2 bounds _ _ [] (bounds-walk _ l.bounds second d2 h2 b2 good.bounds) (end-walk third d3 h3 e3)))

-- ---- all sections

pub record Whole : Type 0 where
  pub sense : Sense
  pub objective : List ℕ
  pub rows : List RowItem
  pub plain : List Group
  pub integers : List Group
  pub late : Late

abbrev start_items : Sense → List LineContent
start_items sense = header_item Name ∷ sense_items sense

abbrev rows_items : List ℕ → List RowItem → List LineContent
rows_items objective rows = header_item Rows ∷ objective_item objective ∷ map row_item rows

abbrev columns_items : List Group → List Group → List LineContent
columns_items plain integers = header_item Columns ∷ (map cell_item (cells_of plain) ++ part_items (cells_of integers))

abbrev pub whole_items : Whole → List LineContent
whole_items w = start_items w.sense ++ (rows_items w.objective w.rows ++ (columns_items w.plain w.integers ++ late_items w.late))

abbrev rows_decl : List ℕ → List RowItem → Declarations
rows_decl objective rows = declare_objective objective ∷ flat_map row_decl rows

abbrev columns_decl : List Group → List Group → Declarations
columns_decl plain integers = flat_map (cell_decl false) (cells_of plain) ++ flat_map (cell_decl true) (cells_of integers)

abbrev pub whole_decl : Whole → Declarations
whole_decl w = sense_decl w.sense ++ (rows_decl w.objective w.rows ++ (columns_decl w.plain w.integers ++ late_decl w.late))

abbrev pub draft_at_columns : Whole → Draft
draft_at_columns w = with_declarations (with_declarations empty_draft (sense_decl w.sense)) (rows_decl w.objective w.rows)

abbrev pub draft_at_sides : Whole → Draft
draft_at_sides w = with_declarations (draft_at_columns w) (columns_decl w.plain w.integers)

pub record IsGoodWhole (w : Whole) : Type 0 where
  pub objective : is_mps_name w.objective ≡ true
  pub rows : Each (λ (row : RowItem). is_mps_name row.0 ≡ true) w.rows
  pub columns : AreColumns w.plain w.integers (draft_at_columns w)
  pub late : IsGoodLate w.late (draft_at_sides w)

start-none : (section : Section) (sense : Sense) → begins section (header_item Name) ≡ false →
    begins section (header_item ObjSense) ≡ false → has_section (start_items sense) section ≡ false
start-none = grind arith

rows-settled : (objective : List ℕ) (rows : List RowItem) (before : List LineContent)
    → wants_word (before ++ rows_items objective rows) ≡ false
rows-settled objective rows before = ap wants_word (sym (append_assoc before _ (map row_item rows)))
    ∙ data-settled row_item (λ _. refl) (λ _. refl) rows (before ++ header_item Rows ∷ objective_item objective ∷ [])
    (ap wants_word (sym (append_assoc before (header_item Rows ∷ []) (objective_item objective ∷ [])))
    ∙ settled-after (before ++ header_item Rows ∷ []) (objective_item objective) refl refl)

columns-none : (section : Section) (plain integers : List Group) → begins section (header_item Columns) ≡ false
    → has_section (columns_items plain integers) section ≡ false
columns-none = grind (arith, has_section-append, cell_item, cells_of, part_items, no-headers)

part-settled : (cells : List Cell) (before : List LineContent) → wants_word before ≡ false →
    wants_word (before ++ part_items cells) ≡ false
part-settled [] before h = ap wants_word (append-nil before) ∙ h
part-settled (cell ∷ cells) before h = let inner = marker_item true ∷ map cell_item (cell ∷ cells) in
    ap wants_word (sym (append_assoc before inner (marker_item false ∷ []))) ∙ settled-after (before ++ inner)
    (marker_item false) refl refl

columns-settled : (plain integers : List Group) (before : List LineContent) →
    wants_word (before ++ columns_items plain integers) ≡ false
columns-settled plain integers before = let headed = before ++ header_item Columns ∷ [] in
    ap wants_word (sym (append_assoc before _ (map cell_item (cells_of plain) ++ part_items (cells_of integers)))
    ∙ sym (append_assoc headed (map cell_item (cells_of plain)) (part_items (cells_of integers))))
    ∙ part-settled (cells_of integers) (headed ++ map cell_item (cells_of plain))
    (data-settled cell_item (λ _. refl) (λ _. refl) (cells_of plain) headed (settled-after before _ refl refl))

-- The items of canonical text declare what its sections declare, and are well-formed.
pub whole-walk : (w : Whole) → IsGoodWhole w → Walk [] empty_draft (whole_items w) (whole_decl w)
whole-walk w h =
    let start = start_items w.sense in
    let rows = rows_items w.objective w.rows in
    let columns = columns_items w.plain w.integers in
    let first = start ++ rows in
    let second = first ++ columns in
    let d0 = with_declarations empty_draft (sense_decl w.sense) in
    let d1 = draft_at_columns w in
    let begun_rows : has_section first Rows ≡ true = has_section-append Rows start rows
    ∙ ap (λ (b : Bool). b || true) (start-none Rows w.sense refl refl) in
    let none : (s : Section) → begins s (header_item Name) ≡ false → begins s (header_item ObjSense) ≡ false
    → begins s (header_item Rows) ≡ false → has_section first s ≡ false =
    λ s n o r. has_section-append s start rows ∙ (λ i. start-none s w.sense n o i || rows_none s r i) in
    let may : MayBegin Columns
    first = record {
      settled = rows-settled w.objective w.rows start;
      fresh = none Columns refl refl refl;
      begins =
          begun_rows;
    } in
    let named : is_none d1.objective ≡ false = still-named (flat_map row_decl w.rows) _ refl in
    let late : IsLate second (draft_at_sides w) = record {
      settled = columns-settled w.plain w.integers first;
      columns = has_section-append Columns first columns ∙ ap (λ (b : Bool). b || true) (none Columns refl refl refl);
      objective = still-named (columns_decl w.plain w.integers) d1 named;
    } in
    let none_after : (s : Section) → begins s (header_item Name) ≡ false → begins s (header_item ObjSense) ≡ false
    → begins s (header_item Rows) ≡ false → begins s (header_item Columns) ≡ false → has_section second s ≡ false =
    λ s n o r c. has_section-append s first columns ∙ (λ i. none s n o r i || columns-none s w.plain w.integers c i) in
    walk-append [] empty_draft start (rows ++ (columns ++ late_items w.late)) (sense_decl w.sense)
    (rows_decl w.objective w.rows ++ (columns_decl w.plain w.integers ++ late_decl w.late)) (grind arith)
    (walk-append start d0 rows (columns ++ late_items w.late) (rows_decl w.objective w.rows)
    (columns_decl w.plain w.integers ++ late_decl w.late)
    (rows-walk w.objective w.rows start d0 (grind arith) (grind arith) (grind arith) h.objective h.rows)
    (walk-append first d1 columns (late_items w.late) (columns_decl w.plain w.integers) (late_decl w.late)
    (columns-walk w.plain w.integers first d1 may named h.columns)
    (late-walk w.late second (draft_at_sides w) late (none_after Rhs refl refl refl refl) (none_after Ranges refl refl refl refl)
    (none_after Bounds refl refl refl refl) (none_after EndData refl refl refl refl) h.late)))
  where
    rows_none : (s : Section) → begins s (header_item Rows) ≡ false → has_section (rows_items w.objective w.rows) s ≡ false
    rows_none s r = rw r (no-headers s row_item (λ _. refl) w.rows)

-- ---- bounds

bounds-items : (columns : List (List ℕ × Column))
    → items_in (flat_map column_bound_lines columns) ≡ map (bound_item (codes "BND")) (flat_map bounds_in columns)
bounds-items = grind (arith, flat-items, bound_item, bounds_in)

-- ---- all sections

abbrev pub whole_of : Listing → Whole
whole_of m = record {
  sense = m.sense;
  objective = m.objective;
  rows = map to_row m.rows;
  plain = map (group_in m) (filter is_plain_column m.columns);
  integers = map (group_in m) (filter is_integer_column m.columns);
  late = record { sides = sides_in m; ranges = flat_map row_range m.rows; bounds = flat_map bounds_in m.columns };
}

part-items : (lines : Lines) (cells : List Cell) → items_in lines ≡ map cell_item cells →
    items_in (integer_part lines) ≡ part_items cells
part-items = grind (arith, marker_item, map-append)

-- the items of lines after others
follow : (xs ys : Lines) (is js : List LineContent) → items_in xs ≡ is → items_in ys ≡ js → items_in (xs ++ ys) ≡ is ++ js
follow = grind (arith, map-append)

columns-items : (m : Listing) → items_in (columns_section m) ≡ header_item Columns
    ∷ (map cell_item (cells_of (whole_of m).plain) ++ part_items (cells_of (whole_of m).integers))
columns-items = grind (arith, header_item, follow, column-items, part-items, cells_of)

pub listed-items : (m : Listing) → items_in (listed_lines m) ≡ whole_items (whole_of m)
listed-items = grind (
  arith,
  header_item,
  follow,
  objective_item,
  row-items,
  columns-items,
  under,
  sides-items,
  ranges-items,
  bounds-items,
)

-- ---- each printed line declares what it was printed from, whatever the lines before it are

pub headers-derived : DeriveHeaders
headers-derived = grind arith

pub sense-derived : DeriveSense
sense-derived = grind arith

pub rows-derived : DeriveAllRows
rows-derived = grind arith

-- ---- columns

good-cell : (column row : List ℕ) (value : Number) → is_mps_name column ≡ true → same_bytes row marker ≡ false → IsDecimal value
    → GoodCell (to_cell column (row, value))
good-cell = grind (arith, number-text)

pub columns-derived : DeriveAllColumns
columns-derived = grind (arith, good-cell, cell_says, to_cell, cell_good, marker_says, marker_good)

-- ---- right-hand sides, ranges and bounds

pub rhs-derived : DeriveRhs
rhs-derived = grind (arith, side_says, to_side, number-text, side_good)

pub ranges-derived : DeriveRanges
ranges-derived = grind (arith, range_says, to_side, number-text, range_good)

pub bounds-derived : DeriveAllBounds
bounds-derived = grind (
  arith,
  lower,
  upper,
  fixed,
  semi_upper,
  free,
  no_lower,
  no_upper,
  fields_at,
  decl_at,
  bound_says,
  number-text,
  form_faults,
  bound_good,
)
