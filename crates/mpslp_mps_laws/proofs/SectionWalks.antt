-- Printed lines of ROWS, COLUMNS, RHS and RANGES, and items one after another: what each declares, and that it is well-formed.
use Rattle.mpslp_mps_laws.proofs.Prelude
use Prelude.{Bool, Bounds, Columns, Context, Declarations, Draft, Each, Each-append, FaultTests, Fields, Finite, LineContent, List}
use Prelude.{MinusInf, None, Number, Ok, Option, PlusInf, Ranges, Rhs, RowType, Rows, Section, Some, [], ap, append-nil, append_assoc}
use Prelude.{are_well_formed, arith, both_false, both_so, bound_set, by_type, closing_word, codes, cond, context_of, current_section}
use Prelude.{current_section-push, data_line, data_lines, data_lines-push, declare_coefficient, declare_column, declare_lower}
use Prelude.{declare_marked, declare_range, declare_rhs, declare_row, declare_semi, declare_upper, declared_items, false, fields_under}
use Prelude.{filter_map, filter_map-append, first_set, first_so, flat_map, form_faults, has-put, has_column, in_integer_part, is_free_row}
use Prelude.{is_mps_name, is_none, is_nonempty, itself_named, last_column, last_or, last_or-append, letter_of, letters_of, limit_of}
use Prelude.{line_declares, map, marker, marker_word, number_of, opening_word, option_map_or, refl, rules, same_bytes, second_so, set_tests}
use Prelude.{subst, subst₂, sym, those_of, true, vector_set, when, with_declarations, with_declarations-append, ℕ, ◌&&◌, ◌++◌, ◌∙◌, ◌∷◌}
use Prelude.{◌≡◌}
use Rattle.std.specs.Prelude.{not}
use Rattle.mpslp_mps_fields.specs.declared.bound_types.BoundType.TheVariants as bounds

-- ---- items one after another: what they declare, and that they are well-formed. Printed lines of ROWS, RHS and
-- RANGES: what each declares, and that it is well-formed. Printed lines of BOUNDS: what each declares, and that it is
-- well-formed

-- after these items and this draft, the items are well-formed and declare these
pub record Walk (before : List LineContent) (earlier : Draft) (items : List LineContent) (ds : Declarations) : Type 0 where
  pub declares : declared_items before earlier items ≡ ds
  pub good : are_well_formed before earlier items ≡ true

pub walk-nil : (before : List LineContent) (earlier : Draft) → Walk before earlier [] []
walk-nil = grind arith

pub walk-cons : (before : List LineContent) (earlier : Draft) (item : LineContent) (items : List LineContent)
    (here ds : Declarations) → line_declares (context_of before) earlier item ≡ here →
    form_faults (context_of before) earlier item ≡ [] →
    Walk (before ++ item ∷ []) (with_declarations earlier here) items ds → Walk before earlier (item ∷ items) (here ++ ds)
walk-cons = grind arith

declared_items-append : (before : List LineContent) (earlier : Draft) (xs ys : List LineContent) →
    declared_items before earlier (xs ++ ys) ≡ declared_items before earlier xs ++ declared_items (before ++ xs)
    (with_declarations earlier (declared_items before earlier xs)) ys
declared_items-append before earlier [] ys = ap (λ b. declared_items b earlier ys) (sym (append-nil before))
declared_items-append before earlier (x ∷ xs) ys = let here = line_declares (context_of before) earlier x in
    let next = with_declarations earlier here in
    let more = declared_items (before ++ x ∷ []) next xs in
    let places = append_assoc before _ xs in ap (λ ds. here ++ ds) (declared_items-append (before ++ x ∷ []) next xs ys)
    ∙ (λ i. here ++ (more ++ declared_items (places i) (sym (with_declarations-append here more earlier) i) ys))
    ∙ sym (append_assoc here more _)

good-append : (before : List LineContent) (earlier : Draft) (xs ys : List LineContent) → are_well_formed before earlier xs ≡ true
    → are_well_formed (before ++ xs) (with_declarations earlier (declared_items before earlier xs)) ys ≡ true
    → are_well_formed before earlier (xs ++ ys) ≡ true
good-append before earlier [] ys g h = ap (λ b. are_well_formed b earlier ys) (sym (append-nil before)) ∙ h
good-append before earlier (x ∷ xs) ys g h = let here = line_declares (context_of before) earlier x in
    let fine = not (is_nonempty (form_faults (context_of before) earlier x)) in
    let next = with_declarations earlier here in
    let rest = are_well_formed (before ++ x ∷ []) next xs in
    let more = declared_items (before ++ x ∷ []) next xs in
    both_so _ _ (first_so _ _ g) (good-append (before ++ x ∷ []) next xs ys (second_so _ _ g)
    ((λ i. are_well_formed (append_assoc before (x ∷ []) xs i) (sym (with_declarations-append here more earlier) i) ys) ∙ h))

pub walk-append : (before : List LineContent) (earlier : Draft) (xs ys : List LineContent) (ds es : Declarations)
    → Walk before earlier xs ds → Walk (before ++ xs) (with_declarations earlier ds) ys es →
    Walk before earlier (xs ++ ys) (ds ++ es)
walk-append = grind (arith, declared_items-append, declared_items, good-append, are_well_formed)

-- one more item of a section, and what holds after it
pub record Step {X : Type 0} (item : X → LineContent) (decl : X → Declarations) (Inv : List X → List LineContent →
    Draft → Type 0) (x : X)
    (rest : List X) (before : List LineContent) (earlier : Draft) : Type 0 where
  pub says : line_declares (context_of before) earlier (item x) ≡ decl x
  pub good : form_faults (context_of before) earlier (item x) ≡ []
  pub next : Inv rest (before ++ item x ∷ []) (with_declarations earlier (decl x))

-- A section each of whose items keeps what the section needs.
pub section-walk : {X : Type 0} (item : X → LineContent) (decl : X → Declarations) (Inv : List X → List LineContent →
    Draft → Type 0) → ((x : X) (rest : List X) (before : List LineContent) (earlier : Draft) → Inv (x ∷ rest) before earlier
    → Step item decl Inv x rest before earlier) → (xs : List X) (before : List LineContent) (earlier : Draft) →
    Inv xs before earlier → Walk before earlier (map item xs) (flat_map decl xs) × Inv [] (before ++ map item xs)
    (with_declarations earlier (flat_map decl xs))
section-walk item decl Inv step [] before earlier h =
    (walk-nil before earlier, subst (λ b. Inv [] b earlier) (sym (append-nil before)) h)
section-walk item decl Inv step (x ∷ xs) before earlier h =
    let s = step x xs before earlier h in
    let more = section-walk item decl Inv step xs (before ++ item x ∷ []) (with_declarations earlier (decl x)) s.next in (
      walk-cons before earlier _ _ _ _ s.says s.good more.0,
      subst₂ (λ (b : List LineContent) (e : Draft). Inv [] b e) (append_assoc before _ (map item xs))
          (sym (with_declarations-append (decl x) (flat_map decl xs) earlier)) more.1,
    )

-- ---- fields without an error

-- each line so far has this set name
abbrev pub HaveSet : (Fields → Option (List ℕ)) → List ℕ → List Fields → Type 0
HaveSet set_of set lines = Each (λ fields. set_of fields ≡ Some set) lines

pub set-good : (set_of : Fields → Option (List ℕ)) (set : List ℕ) (lines : List Fields) → HaveSet set_of set lines
    → those_of (set_tests (first_set set_of lines) set) ≡ []
set-good set_of set [] h = refl
set-good set_of set (l ∷ ls) h = rw (h.0, itself_named set) refl

-- a data line stays in its section
pub stays : (section : Section) (fields : Fields) (before : List LineContent) → current_section before ≡ Some section
    → current_section (before ++ data_line fields ∷ []) ≡ Some section
stays = grind (arith, current_section-push)

-- ---- rows

abbrev pub RowItem : Type 0
RowItem = List ℕ × RowType

abbrev pub row_item : RowItem → LineContent
row_item row = data_line (letter_of row.1 ∷ row.0 ∷ [])

abbrev pub row_decl : RowItem → Declarations
row_decl row = declare_row row.0 (by_type row.1) ∷ []

-- the objective is named already
pub record InRows (rest : List RowItem) (before : List LineContent) (earlier : Draft) : Type 0 where
  pub section : current_section before ≡ Some Rows
  pub objective : is_none earlier.objective ≡ false
  pub names : Each (λ (row : RowItem). is_mps_name row.0 ≡ true) rest

pub row_step : (row : RowItem) (rest : List RowItem) (before : List LineContent) (earlier : Draft) →
    InRows (row ∷ rest) before earlier → Step row_item row_decl InRows row rest before earlier
row_step = grind (arith, stays)

-- ---- right-hand sides and ranges

-- the name of a row, the text of a number and the number
pub record Side : Type 0 where
  pub row : List ℕ
  pub text : List ℕ
  pub value : Number

abbrev pub ReadsAs : Side → Type 0
ReadsAs side = number_of side.text ≡ Ok side.value

abbrev pub side_item : List ℕ → Side → LineContent
side_item set side = data_line (set ∷ side.row ∷ side.text ∷ [])

abbrev pub side_decl : Side → Declarations
side_decl side = declare_rhs side.row side.value ∷ []

abbrev pub range_decl : Side → Declarations
range_decl side = declare_range side.row side.value ∷ []

-- the lines of the section so far have the set name
abbrev pub OneSet : Section → List ℕ → List LineContent → Type 0
OneSet section set before = HaveSet vector_set set (data_lines section before)

-- none of the remaining rows is of type N
pub record InSides (set : List ℕ) (rest : List Side) (before : List LineContent) (earlier : Draft) : Type 0 where
  pub section : current_section before ≡ Some Rhs
  pub one_set : OneSet Rhs set before
  pub texts : Each ReadsAs rest
  pub bound : Each (λ (side : Side). is_free_row earlier side.row ≡ false) rest

pub side_says : (set : List ℕ) (side : Side) (context : Context) (earlier : Draft) → context.section ≡ Some Rhs → ReadsAs side
    → is_free_row earlier side.row ≡ false → line_declares context earlier (side_item set side) ≡ side_decl side
side_says = grind arith

pub side_good : (set : List ℕ) (side : Side) (context : Context) (earlier : Draft) → context.section ≡ Some Rhs → ReadsAs side
    → those_of (set_tests context.rhs_set set) ≡ [] → form_faults context earlier (side_item set side) ≡ []
side_good = grind arith

-- one more line of a section
pub lines-push : (section : Section) (fields : Fields) (before : List LineContent) (o : Option Section) →
    current_section before ≡ o → data_lines section (before ++ data_line fields ∷ []) ≡ data_lines section
    before ++ fields_under section o (data_line fields)
lines-push section fields before o s =
    data_lines-push section before _ ∙ ap (λ c. data_lines section before ++ fields_under section c (data_line fields)) s

pub side_step : (set : List ℕ) (side : Side) (rest : List Side) (before : List LineContent) (earlier : Draft)
    → InSides set (side ∷ rest) before earlier → Step (side_item set) side_decl (InSides set) side rest before earlier
side_step set side rest before earlier h =
    let fields : Fields = set ∷ side.row ∷ side.text ∷ [] in
    record {
      says = side_says set side (context_of before) earlier h.section h.texts.0 h.bound.0;
      good = side_good set side (context_of before) earlier h.section h.texts.0
          (set-good vector_set set (data_lines Rhs before) h.one_set);
      next = record {
        section = stays Rhs fields before h.section;
        one_set = rw (lines-push Rhs fields before (Some Rhs) h.section)
            (Each-append _ (data_lines Rhs before) (fields ∷ []) h.one_set (refl, tt));
        texts = h.texts.1;
        bound = h.bound.1;
      };
    }

pub record InRanges (set : List ℕ) (rest : List Side) (before : List LineContent) (earlier : Draft) : Type 0 where
  pub section : current_section before ≡ Some Ranges
  pub one_set : OneSet Ranges set before
  pub texts : Each ReadsAs rest

pub range_says : (set : List ℕ) (side : Side) (context : Context) (earlier : Draft) → context.section ≡ Some Ranges → ReadsAs side
    → line_declares context earlier (side_item set side) ≡ range_decl side
range_says = grind arith

pub range_good : (set : List ℕ) (side : Side) (context : Context) (earlier : Draft) → context.section ≡ Some Ranges → ReadsAs side
    → those_of (set_tests context.ranges_set set) ≡ [] → form_faults context earlier (side_item set side) ≡ []
range_good = grind arith

pub range_step : (set : List ℕ) (side : Side) (rest : List Side) (before : List LineContent) (earlier : Draft)
    → InRanges set (side ∷ rest) before earlier → Step (side_item set) range_decl (InRanges set) side rest before earlier
range_step set side rest before earlier h =
    let fields : Fields = set ∷ side.row ∷ side.text ∷ [] in
    record {
      says = range_says set side (context_of before) earlier h.section h.texts.0;
      good = range_good set side (context_of before) earlier h.section h.texts.0
          (set-good vector_set set (data_lines Ranges before) h.one_set);
      next = record {
        section = stays Ranges fields before h.section;
        one_set = rw (lines-push Ranges fields before (Some Ranges) h.section)
            (Each-append _ (data_lines Ranges before) (fields ∷ []) h.one_set (refl, tt));
        texts = h.texts.1;
      };
    }

-- the bounds that are printed: with the text of a value and the number as which it is read, or without
pub data BoundForm : Type 0 where
  fixed : BoundForm
  lower : BoundForm
  upper : BoundForm
  free : BoundForm
  no_lower : BoundForm
  no_upper : BoundForm
  semi_upper : BoundForm

pub record Bound : Type 0 where
  pub form : BoundForm
  pub column : List ℕ
  pub text : List ℕ
  pub value : Number

abbrev pub fields_at : List ℕ → BoundForm → List ℕ → List ℕ → Fields
fields_at set fixed x text = letters_of bounds.Fixed ∷ set ∷ x ∷ text ∷ []
fields_at set lower x text = letters_of bounds.Lower ∷ set ∷ x ∷ text ∷ []
fields_at set upper x text = letters_of bounds.Upper ∷ set ∷ x ∷ text ∷ []
fields_at set free x text = letters_of bounds.Free ∷ set ∷ x ∷ []
fields_at set no_lower x text = letters_of bounds.NoLower ∷ set ∷ x ∷ []
fields_at set no_upper x text = letters_of bounds.NoUpper ∷ set ∷ x ∷ []
fields_at set semi_upper x text = letters_of bounds.SemiUpper ∷ set ∷ x ∷ text ∷ []

abbrev pub decl_at : BoundForm → List ℕ → Number → Declarations
decl_at fixed x v = declare_lower x (Finite v) ∷ declare_upper x (Finite v) ∷ []
decl_at lower x v = declare_lower x (Finite v) ∷ []
decl_at upper x v = declare_upper x (Finite v) ∷ []
decl_at free x v = declare_lower x MinusInf ∷ declare_upper x PlusInf ∷ []
decl_at no_lower x v = declare_lower x MinusInf ∷ []
decl_at no_upper x v = declare_upper x PlusInf ∷ []
decl_at semi_upper x v = declare_semi x ∷ declare_upper x (Finite v) ∷ []

abbrev pub bound_fields : List ℕ → Bound → Fields
bound_fields set b = fields_at set b.form b.column b.text

abbrev pub bound_item : List ℕ → Bound → LineContent
bound_item set b = data_line (bound_fields set b)

abbrev pub bound_decl : Bound → Declarations
bound_decl b = decl_at b.form b.column b.value

-- if no value is printed, any text with the number that it represents will do
pub record GoodBound (b : Bound) : Type 0 where
  pub text : number_of b.text ≡ Ok b.value
  pub finite : limit_of b.value ≡ Finite b.value

pub record InBounds (set : List ℕ) (rest : List Bound) (before : List LineContent) (earlier : Draft) : Type 0 where
  pub section : current_section before ≡ Some Bounds
  pub one_set : HaveSet bound_set set (data_lines Bounds before)
  pub good : Each GoodBound rest

pub bound_says : (set : List ℕ) (t : BoundForm) (x text : List ℕ) (v : Number) (context : Context) (earlier : Draft)
    → context.section ≡ Some Bounds
    → number_of text ≡ Ok v → limit_of v ≡ Finite v →
    line_declares context earlier (data_line (fields_at set t x text)) ≡ decl_at t x v
bound_says = grind arith

pub bound_good : (set : List ℕ) (t : BoundForm) (x text : List ℕ) (v : Number) (context : Context) (earlier : Draft)
    → context.section ≡ Some Bounds → number_of text ≡ Ok v → those_of (set_tests context.bounds_set set) ≡ []
    → form_faults context earlier (data_line (fields_at set t x text)) ≡ []
bound_good = grind arith

pub bound_step : (set : List ℕ) (b : Bound) (rest : List Bound) (before : List LineContent) (earlier : Draft)
    → InBounds set (b ∷ rest) before earlier → Step (bound_item set) bound_decl (InBounds set) b rest before earlier
bound_step set b rest before earlier h =
    record {
      says = bound_says set b.form b.column b.text b.value (context_of before) earlier h.section h.good.0.text h.good.0.finite;
      good = bound_good set b.form b.column b.text b.value (context_of before) earlier h.section h.good.0.text
          (set-good bound_set set (data_lines Bounds before) h.one_set);
      next = record {
        section = stays Bounds (bound_fields set b) before h.section;
        one_set = rw (lines-push Bounds (bound_fields set b) before (Some Bounds) h.section)
            (Each-append _ (data_lines Bounds before) (bound_fields set b ∷ []) h.one_set ((grind arith), tt));
        good = h.good.1;
      };
    }

-- ---- printed lines of COLUMNS: those of columns, and marker lines

-- a column, a row, the text of a number and the number
pub record Cell : Type 0 where
  pub column : List ℕ
  pub row : List ℕ
  pub text : List ℕ
  pub value : Number

abbrev pub cell_fields : Cell → Fields
cell_fields cell = cell.column ∷ cell.row ∷ cell.text ∷ []

abbrev pub cell_item : Cell → LineContent
cell_item cell = data_line (cell_fields cell)

-- inside an integer block or outside
abbrev pub cell_decl : Bool → Cell → Declarations
cell_decl marked cell = declare_column cell.column
    ∷ (when marked (declare_marked cell.column) ++ declare_coefficient (record { row = cell.row; column = cell.column })
    cell.value ∷ [])

-- a line of a declared column after a line of another one
abbrev pub is_split_in : Option (List ℕ) → Draft → List ℕ → Bool
is_split_in last earlier column = has_column earlier column && not (option_map_or (same_bytes column) last false)

-- the lines of each column are contiguous, after a last line of this column
abbrev pub Unsplit : Bool → Option (List ℕ) → Draft → List Cell → Type 0
Unsplit marked last earlier [] = Unit {0}
Unsplit marked last earlier (cell ∷ rest) = (is_split_in last earlier cell.column ≡ false)
    × Unsplit marked (Some cell.column) (with_declarations earlier (cell_decl marked cell)) rest

pub record GoodCell (cell : Cell) : Type 0 where
  pub name : is_mps_name cell.column ≡ true
  pub row : same_bytes cell.row marker ≡ false
  pub text : number_of cell.text ≡ Ok cell.value

pub record InCells (marked : Bool) (rest : List Cell) (before : List LineContent) (earlier : Draft) : Type 0 where
  pub section : current_section before ≡ Some Columns
  pub part : in_integer_part before ≡ marked
  pub good : Each GoodCell rest
  pub unsplit : Unsplit marked (last_column before) earlier rest

pub cell_says : (marked : Bool) (cell : Cell) (context : Context) (earlier : Draft) → context.section ≡ Some Columns
    → context.in_integer_part ≡ marked → GoodCell cell → line_declares context earlier (cell_item cell) ≡ cell_decl marked cell
cell_says = grind arith

-- tests none of which fails, before others
pub none-first : (xs ys : FaultTests) → those_of xs ≡ [] → those_of (xs ++ ys) ≡ those_of ys
none-first [] ys h = refl
none-first (x ∷ xs) ys h =
    elim x.0 as (λ b. cond b (x.1 ∷ those_of xs) (those_of xs) ≡ []
    → cond b (x.1 ∷ those_of (xs ++ ys)) (those_of (xs ++ ys)) ≡ those_of ys) [
      | true ↦ λ k. cc
      | false ↦ λ k. none-first xs ys k
    ] h

pub cell_good : (cell : Cell) (context : Context) (earlier : Draft) → context.section ≡ Some Columns → GoodCell cell
    → is_split_in context.last_column earlier cell.column ≡ false → form_faults context earlier (cell_item cell) ≡ []
cell_good = grind arith

cell_lines : (cell : Cell) (before : List LineContent) → current_section before ≡ Some Columns
    → data_lines Columns (before ++ cell_item cell ∷ []) ≡ data_lines Columns before ++ cell_fields cell ∷ []
cell_lines cell before s = lines-push Columns _ before (Some Columns) s

last_push : {X : Type 0} (xs : List X) (x : X) → last_or None (xs ++ x ∷ []) ≡ Some x
last_push xs x = last_or-append None xs _

-- a line of a column opens and closes no block, and is the last line of its column
words_kept : (cell : Cell) (lines : List Fields) → same_bytes cell.row marker ≡ false
    → filter_map marker_word (lines ++ cell_fields cell ∷ []) ≡ filter_map marker_word lines
words_kept cell lines h = filter_map-append marker_word lines _ ∙ rw h (append-nil (filter_map marker_word lines))

abbrev opens_last : List (List ℕ) → Bool
opens_last words = option_map_or (same_bytes opening_word) (last_or None words) false

part_kept : (cell : Cell) (before : List LineContent) → current_section before ≡ Some Columns → same_bytes cell.row marker ≡ false
    → in_integer_part (before ++ cell_item cell ∷ []) ≡ in_integer_part before
part_kept cell before s h = ap opens_last (ap (filter_map marker_word) (cell_lines cell before s)
    ∙ words_kept cell (data_lines Columns before) h)

column_last : (cell : Cell) (before : List LineContent) → current_section before ≡ Some Columns →
    same_bytes cell.row marker ≡ false → last_column (before ++ cell_item cell ∷ []) ≡ Some cell.column
column_last = grind (arith, cell_lines, last_push)

pub cell_step : (marked : Bool) (cell : Cell) (rest : List Cell) (before : List LineContent) (earlier : Draft)
    → InCells marked (cell ∷ rest) before earlier → Step cell_item (cell_decl marked) (InCells marked) cell rest before earlier
cell_step marked cell rest before earlier h = search (rules, cell_says, cell_good, stays, part_kept, column_last)

-- ---- marker lines

abbrev pub marker_fields : Bool → Fields
marker_fields opens = codes "MARKER" ∷ codes "'MARKER'" ∷ if_word opens ∷ []
  where
    if_word : Bool → List ℕ
    if_word true = opening_word
    if_word false = closing_word

marker_lines : (opens : Bool) (before : List LineContent) → current_section before ≡ Some Columns
    → data_lines Columns (before ++ data_line (marker_fields opens) ∷ []) ≡ data_lines Columns before ++ marker_fields opens ∷ []
marker_lines opens before s = lines-push Columns _ before (Some Columns) s

pub marker_part : (opens : Bool) (before : List LineContent) → current_section before ≡ Some Columns
    → in_integer_part (before ++ data_line (marker_fields opens) ∷ []) ≡ opens
marker_part opens before s = ap (λ lines. opens_last (filter_map marker_word lines)) (marker_lines opens before s)
    ∙ grind (arith, filter_map-append, last_push)

-- after a marker line no column continues
pub marker_last : (opens : Bool) (before : List LineContent) → current_section before ≡ Some Columns
    → last_column (before ++ data_line (marker_fields opens) ∷ []) ≡ None
marker_last = grind (arith, marker_lines, last_push)

pub marker_says : (opens : Bool) (context : Context) (earlier : Draft) → context.section ≡ Some Columns
    → line_declares context earlier (data_line (marker_fields opens)) ≡ []
marker_says = grind arith

pub marker_good : (opens : Bool) (context : Context) (earlier : Draft) → context.section ≡ Some Columns
    → context.in_integer_part ≡ not opens → form_faults context earlier (data_line (marker_fields opens)) ≡ []
marker_good = grind arith

-- ---- columns one after another

-- cells of one column
abbrev pub AreOf : List ℕ → List Cell → Type 0
AreOf column cells = Each (λ cell. cell.column ≡ column) cells

goes_on : (earlier : Draft) (column : List ℕ) → is_split_in (Some column) earlier column ≡ false
goes_on = grind (arith, itself_named)

-- after a line of a column more lines of it, and then lines that do not split a column after them
pub unsplit_more : (marked : Bool) (column : List ℕ) (cells rest : List Cell) (earlier : Draft) → AreOf column cells →
    Unsplit marked (Some column) (with_declarations earlier (flat_map (cell_decl marked) cells)) rest
    → Unsplit marked (Some column) earlier (cells ++ rest)
unsplit_more marked column [] rest earlier h more = more
unsplit_more marked column (cell ∷ cells) rest earlier h more =
    grind (
      arith,
      goes_on,
      with_declarations-append,
      unsplit_more marked column cells rest
          (with_declarations earlier (cell_decl marked cell)) h.1 (subst (λ (all : Draft). Unsplit marked (Some column) all rest)
          (with_declarations-append (cell_decl marked cell) (flat_map (cell_decl marked) cells) earlier) more),
    )

-- a column and its cells
abbrev pub Group : Type 0
Group = List ℕ × List Cell

abbrev pub cells_of : List Group → List Cell
cells_of groups = flat_map (λ group. group.1) groups

-- at least one cell, each of the column
pub record IsGroup (group : Group) : Type 0 where
  pub some : is_nonempty group.1 ≡ true
  pub own : AreOf group.0 group.1

-- no two of the same name
abbrev pub AreApart : List Group → Type 0
AreApart [] = Unit {0}
AreApart (group ∷ groups) = Each (λ later. same_bytes later.0 group.0 ≡ false) groups × AreApart groups

abbrev pub AreAbsent : Draft → List Group → Type 0
AreAbsent earlier groups = Each (λ group. has_column earlier group.0 ≡ false) groups

cells-column : (marked : Bool) (column : List ℕ) (cells : List Cell) (earlier : Draft) (n : List ℕ) →
    AreOf column cells → same_bytes n column ≡ false → has_column earlier n ≡ false →
    has_column (with_declarations earlier (flat_map (cell_decl marked) cells)) n ≡ false
cells-column marked column [] earlier n own apart absent = absent
cells-column marked column (cell ∷ cells) earlier n own apart absent =
    grind (
      arith,
      with_declarations-append,
      cells-column marked column cells (with_declarations earlier (cell_decl marked cell)) n own.1
          apart (grind (arith, has-put, both_false, (ap (same_bytes n) own.0 ∙ apart), absent)),
    )

still-absent : (marked : Bool) (column : List ℕ) (cells : List Cell) (earlier : Draft) (groups : List Group) → AreOf column cells
    → Each (λ (later : Group). same_bytes later.0 column ≡ false) groups → AreAbsent earlier groups
    → AreAbsent (with_declarations earlier (flat_map (cell_decl marked) cells)) groups
still-absent marked column cells earlier [] own apart absent = tt
still-absent marked column cells earlier (group ∷ groups) own apart absent =
    grind (arith, cells-column, still-absent marked column cells earlier groups own apart.1 absent.1)

-- Columns that are printed one after another, none of which is declared before, are not split.
pub groups_unsplit : (marked : Bool) (groups : List Group) (last : Option (List ℕ)) (earlier : Draft) → Each IsGroup groups
    → AreApart groups → AreAbsent earlier groups → Unsplit marked last earlier (cells_of groups)
groups_unsplit marked [] last earlier h apart absent = tt
groups_unsplit marked (group ∷ groups) last earlier h apart absent =
    grind (
      arith,
      unsplit_more,
      with_declarations-append,
      groups_unsplit marked groups (Some group.0) (with_declarations earlier
          (flat_map (cell_decl marked) group.1)) h.1 apart.1
          (still-absent marked group.0 group.1 earlier groups h.0.own apart.0 absent.1),
    )
