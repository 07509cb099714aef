-- A text declares a model, or has a first error.
use Rattle.mpslp_mps.proofs.Prelude
use Prelude.{arith, ◌≡◌, refl, sym, subst, ◌∙◌, List, [], ◌∷◌, ◌++◌, ℕ, Bool, true, false, cond, list_all-append, Option, Some, None}
use Prelude.{list_all, flat_map, first_so, second_so, Declaration, declare_rhs, declare_range, declare_column, declare_coefficient}
use Prelude.{declare_marked, Declarations, Draft, with_declaration, with_declarations, has_row, has_column, is_free_row, rhs_declared}
use Prelude.{is_known, are_known_in_turn, itself_named, has-put, with_declarations-append, those_of, when, Limit, both_so, or_left, Fields}
use Prelude.{LineContent, skipped, header, data_line, has, section_named, is_section, Pair, ValuesLine, word_shape, row_shape, column_shape}
use Prelude.{is_marker_line, vector_shape, BoundLine, bound_type, bound_shape, Section, Name, ObjSense, ObjName, Rows, Columns, Rhs, Ranges}
use Prelude.{Bounds, EndData, BoundType, Context, context_of, current_section, has_section, declared_if_some, sense_declared, row_declared}
use Prelude.{coefficient_declared, column_declared, columns_line_declared, rhs_line_declared, ranges_declared, bound_declared, bound_value}
use Prelude.{bound_line_declared, data_declared, header_declared, line_declares, header_tests, value_of, is_given, is_legal, name-legal}
use Prelude.{value-decimal, limit-given, judged_by, RowLine, row_line_tests, column_tests, columns_line_tests, data_tests, ap, map}
use Prelude.{false≢true, is_some, ◌||◌, list_any, named-after, content_of, begins, is_end, suc, ◌+◌, take, not, position_or_len, option_map}
use Prelude.{option_or, lines, empty_draft, draft_of, refusals_in_turn, model_of, file_fault, join_none, refusals_in_turn-append}
use Prelude.{means-from_none, is_nonempty, or_right, fault_on_line, faultless, objective-declared, no_fault-unless, LineInContext}
use Prelude.{read_lines, has_end, declared_at, tests_at, is_well_formed, lines_in_context_after, declarations_of, DeclaresMps}
use Prelude.{first_line_fault, whole_mps_fault, first_mps_fault, DeclareUnlessFaulty, LinearModel, Means, left_none, right_none}
use Prelude.{none-from_means, no_fault, one_of_both, lines_in_context, DeclareOrFail, Result, Finishes, ReadFault, finished-answers}
use Prelude.{ReadsMps}
use Rattle.mpslp_mps.proofs.OrderLemmas.{declared_items, are_well_formed, no_faults, Past, past-rows, past-columns, IsGood, is_late}
use Rattle.mpslp_mps.proofs.OrderLemmas.{Ordered, ordered-push, no_rows, no_columns, rows-kept, columns-kept, has_section-push}
use Rattle.mpslp_mps.proofs.OrderLemmas.{each-declared, each-flat, each-mapped, lines-declare, items-good, ordered-nil}
use Rattle.mpslp_mps_fields.specs.declared.bound_types.BoundType.TheVariants as bounds

-- ---- in well-formed lines each row and column is declared before it is used

-- ---- no rows are declared after ROWS, and no columns after COLUMNS

no-rows-header : (context : Context) (earlier : Draft) (keyword : List ℕ) (more : Fields) (o : Option Section)
    → those_of (header_tests context earlier keyword more o) ≡ [] → has context.sections_seen Columns ≡ true
    → no_rows (header_declared context earlier more o) ≡ true
no-rows-header = grind arith

pub no-rows-data : (context : Context) (earlier : Draft) (fields : Fields) (o : Option Section) → is_section Rows o ≡ false
    → no_rows (data_declared context earlier fields o) ≡ true
no-rows-data = grind arith

no-rows-line : (before : List LineContent) (earlier : Draft) (item : LineContent) → IsGood before earlier item → Past Rows before
    → has_section before Columns ≡ true → no_rows (line_declares (context_of before) earlier item) ≡ true
no-rows-line = grind (arith, no-rows-header, no-rows-data)

no-columns-line : (before : List LineContent) (earlier : Draft) (item : LineContent) → Past Columns before
    → no_columns (line_declares (context_of before) earlier item) ≡ true
no-columns-line before earlier item past = grind arith

-- the first of some well-formed lines, and the rest
pub good-first : (before : List LineContent) (earlier : Draft) (item : LineContent) (items : List LineContent)
    → are_well_formed before earlier (item ∷ items) ≡ true → IsGood before earlier item
good-first before earlier item items h = no_faults _ (first_so _ _ h)

pub good-rest : (before : List LineContent) (earlier : Draft) (item : LineContent) (items : List LineContent)
    → are_well_formed before earlier (item ∷ items) ≡ true
    → are_well_formed (before ++ item ∷ []) (with_declarations earlier (line_declares (context_of before) earlier item)) items ≡ true
good-rest before earlier item items h = second_so _ _ h

no-rows-later : (items before : List LineContent) (earlier : Draft) → are_well_formed before earlier items ≡ true → Past Rows before
    → has_section before Columns ≡ true → no_rows (declared_items before earlier items) ≡ true
no-rows-later [] before earlier h past columns = refl
no-rows-later (item ∷ items) before earlier h past columns =
    let here = line_declares (context_of before) earlier item in
    let good = good-first before earlier item items h in list_all-append _ here (declared_items (before ++ item ∷ [])
    (with_declarations earlier here) items) ∙ both_so _ _ (no-rows-line before earlier item good past columns)
    (no-rows-later items (before ++ item ∷ []) (with_declarations earlier here) (good-rest before earlier item items h)
    (past-rows before earlier item good past) (has_section-push Columns before item ∙ or_left _ _ columns))

no-columns-later : (items before : List LineContent) (earlier : Draft) → are_well_formed before earlier items ≡ true → Past Columns before
    → no_columns (declared_items before earlier items) ≡ true
no-columns-later [] before earlier h past = refl
no-columns-later (item ∷ items) before earlier h past =
    let here = line_declares (context_of before) earlier item in
    let good = good-first before earlier item items h in list_all-append _ here (declared_items (before ++ item ∷ [])
    (with_declarations earlier here) items) ∙ both_so _ _ (no-columns-line before earlier item past)
    (no-columns-later items (before ++ item
    ∷ []) (with_declarations earlier here) (good-rest before earlier item items h) (past-columns before earlier item good past))

-- ---- what a line names, among the rows and columns of a later draft, is declared before

-- the rows and the columns of the later draft are declared before
abbrev HasRowsOf : Draft → Draft → Type 0
HasRowsOf final before = (r : List ℕ) → has_row final r ≡ true → has_row before r ≡ true

abbrev HasColumnsOf : Draft → Draft → Type 0
HasColumnsOf final before = (c : List ℕ) → has_column final c ≡ true → has_column before c ≡ true

abbrev AreKnown : Draft → Declarations → Type 0
AreKnown final ds = list_all (is_known final) ds ≡ true

cells-known : (final before : Draft) (column : List ℕ) (pairs : List Pair) → HasRowsOf final before → has_column before column ≡ true
    → AreKnown final (flat_map (coefficient_declared column) pairs)
    → are_known_in_turn before (flat_map (coefficient_declared column) pairs) ≡ true
cells-known final before column [] rows c h = refl
cells-known final before column (pair ∷ pairs) rows c h =
    let d : Declaration = declare_coefficient (record { row = pair.row; column = column }) (value_of pair.literal) in
    let row = first_so _ _ (first_so _ _ h) in
    both_so _ _ (both_so _ _ (rows pair.row row) c) (cells-known final (with_declaration before d) column pairs rows c (second_so _ _ h))

pub column-there : (before : Draft) (column : List ℕ) → has_column (with_declaration before (declare_column column)) column ≡ true
column-there before column = has-put column column tt before.columns ∙ or_left _ _ (itself_named column)

column-line-known : (final before : Draft) (marked : Bool) (line : ValuesLine) → HasRowsOf final before → AreKnown final (declare_column
    line.name ∷ (when marked (declare_marked line.name) ++ flat_map (coefficient_declared line.name) line.pairs))
    → are_known_in_turn before
    (declare_column line.name ∷ (when marked (declare_marked line.name) ++ flat_map (coefficient_declared line.name) line.pairs)) ≡ true
column-line-known final before true line rows h =
    let next = with_declaration before (declare_column line.name) in
    let c = column-there before line.name in both_so _ _ c (cells-known final _ line.name line.pairs rows c (second_so _ _ h))
column-line-known final before false line rows h = cells-known final _ line.name line.pairs rows (column-there before line.name) h

columns-known : (context : Context) (final before : Draft) (fields : Fields) → HasRowsOf final before
    → AreKnown final (columns_line_declared context fields) → are_known_in_turn before (columns_line_declared context fields) ≡ true
columns-known context final before fields rows h = by (is_marker_line fields) h
  where
    of : (o : Option ValuesLine) → AreKnown final (declared_if_some (column_declared context) o)
        → are_known_in_turn before (declared_if_some (column_declared context) o) ≡ true
    of None k = refl
    of (Some line) k = column-line-known final before context.in_integer_part line rows k

    by : (b : Bool) → AreKnown final (cond b [] (declared_if_some (column_declared context) (column_shape fields)))
        → are_known_in_turn before (cond b [] (declared_if_some (column_declared context) (column_shape fields))) ≡ true
    by true k = refl
    by false k = of (column_shape fields) k

sides-known : (earlier final before : Draft) (pairs : List Pair) → HasRowsOf final before
    → AreKnown final (flat_map (λ (pair : Pair). rhs_declared earlier pair.row (value_of pair.literal)) pairs)
    → are_known_in_turn before (flat_map (λ (pair : Pair). rhs_declared earlier pair.row (value_of pair.literal)) pairs) ≡ true
sides-known earlier final before [] rows h = refl
sides-known earlier final before (pair ∷ pairs) rows h =
    let v = value_of pair.literal in
    let more = flat_map (λ (pair : Pair). rhs_declared earlier pair.row (value_of pair.literal)) pairs in
    elim (is_free_row earlier pair.row) as (λ b. AreKnown final (cond b [] (declare_rhs pair.row v ∷ []) ++ more)
    → are_known_in_turn before (cond b [] (declare_rhs pair.row v ∷ []) ++ more) ≡ true) [
      | true ↦ λ k. sides-known earlier final before pairs rows k
      | false ↦ λ k. both_so (has_row before pair.row) (are_known_in_turn (with_declaration before (declare_rhs pair.row v)) more)
          (rows pair.row (first_so (has_row final pair.row) (list_all (is_known final) more) k))
          (sides-known earlier final (with_declaration before (declare_rhs pair.row v)) pairs rows
          (second_so (has_row final pair.row) (list_all (is_known final) more) k))
    ] h

ranges-known : (final before : Draft) (pairs : List Pair) → HasRowsOf final before
    → AreKnown final (ranges_declared (record { name = []; pairs = pairs }))
    → are_known_in_turn before (ranges_declared (record { name = []; pairs = pairs })) ≡ true
ranges-known final before [] rows h = refl
ranges-known final before (pair ∷ pairs) rows h =
    let more = ranges_declared (record { name = []; pairs = pairs }) in
    let d : Declaration = declare_range pair.row (value_of pair.literal) in
    both_so _ _ (rows pair.row (first_so _ _ h)) (ranges-known final (with_declaration before d) pairs rows (second_so _ _ h))

bound-known : (final before : Draft) (type : BoundType) (c : List ℕ) (v : Limit) → HasColumnsOf final before
    → AreKnown final (bound_declared type c v) → are_known_in_turn before (bound_declared type c v) ≡ true
bound-known final before bounds.Lower c v columns h = let k = columns c (first_so _ _ h) in rw k refl
bound-known final before bounds.Upper c v columns h = let k = columns c (first_so _ _ h) in rw k refl
bound-known final before bounds.NoLower c v columns h = let k = columns c (first_so _ _ h) in rw k refl
bound-known final before bounds.NoUpper c v columns h = let k = columns c (first_so _ _ h) in rw k refl
bound-known final before bounds.Binary c v columns h = let k = columns c (first_so _ _ h) in rw k refl
bound-known final before type c v columns h = grind arith

bounds-known : (final before : Draft) (fields : Fields) → HasColumnsOf final before → AreKnown final (bound_line_declared fields)
    → are_known_in_turn before (bound_line_declared fields) ≡ true
bounds-known final before [] columns h = refl
bounds-known final before (letters ∷ more) columns h = typed (bound_type letters) h
  where
    lined : (type : BoundType) (o : Option BoundLine)
        → AreKnown final (declared_if_some (λ (line : BoundLine). bound_declared type line.column (bound_value line)) o)
        → are_known_in_turn before (declared_if_some (λ (line : BoundLine). bound_declared type line.column (bound_value line)) o) ≡ true
    lined type None k = refl
    lined type (Some line) k = bound-known final before type line.column (bound_value line) columns k

    typed : (o : Option BoundType) → AreKnown final (declared_if_some (λ type. declared_if_some (λ (line : BoundLine). bound_declared type
        line.column (bound_value line)) (bound_shape type more)) o) → are_known_in_turn before (declared_if_some (λ type. declared_if_some
        (λ (line : BoundLine). bound_declared type line.column (bound_value line)) (bound_shape type more)) o) ≡ true
    typed None k = refl
    typed (Some type) k = lined type (bound_shape type more) k

-- a section whose lines name rows
abbrev is_rowed : Option Section → Bool
is_rowed (Some Columns) = true
is_rowed (Some Rhs) = true
is_rowed (Some Ranges) = true
is_rowed _ = false

-- a sense, an objective and a row refer to no other name
sense-known : (before : Draft) (fields : Fields) → are_known_in_turn before (declared_if_some sense_declared (word_shape fields)) ≡ true
sense-known = grind arith

rows-known : (context : Context) (earlier before : Draft) (fields : Fields)
    → are_known_in_turn before (declared_if_some (row_declared context earlier) (row_shape fields)) ≡ true
rows-known = grind arith

header-known : (context : Context) (earlier : Draft) (more : Fields) (o : Option Section)
    → are_known_in_turn earlier (header_declared context earlier more o) ≡ true
header-known = grind arith

data-known : (context : Context) (final earlier : Draft) (fields : Fields) (o : Option Section)
    → (is_rowed o ≡ true → HasRowsOf final earlier) → (is_section Bounds o ≡ true → HasColumnsOf final earlier)
    → AreKnown final (data_declared context earlier fields o) → are_known_in_turn earlier (data_declared context earlier fields o) ≡ true
data-known context final earlier fields None rows columns h = refl
data-known context final earlier fields (Some Name) rows columns h = refl
data-known context final earlier fields (Some ObjSense) rows columns h = sense-known earlier fields
data-known context final earlier fields (Some ObjName) rows columns h = refl
data-known context final earlier fields (Some Rows) rows columns h = rows-known context earlier earlier fields
data-known context final earlier fields (Some Columns) rows columns h = columns-known context final earlier fields (rows refl) h
data-known context final earlier fields (Some Rhs) rows columns h = of (vector_shape fields) h
  where
    of : (o : Option ValuesLine) → AreKnown final (declared_if_some (rhs_line_declared earlier) o)
        → are_known_in_turn earlier (declared_if_some (rhs_line_declared earlier) o) ≡ true
    of None k = refl
    of (Some line) k = sides-known earlier final earlier line.pairs (rows refl) k
data-known context final earlier fields (Some Ranges) rows columns h = of (vector_shape fields) h
  where
    of : (o : Option ValuesLine) → AreKnown final (declared_if_some ranges_declared o)
        → are_known_in_turn earlier (declared_if_some ranges_declared o) ≡ true
    of None k = refl
    of (Some line) k = ranges-known final earlier line.pairs (rows refl) k
data-known context final earlier fields (Some Bounds) rows columns h = bounds-known final earlier fields (columns refl) h
data-known context final earlier fields (Some EndData) rows columns h = refl

-- ---- all lines in turn

known-append : (before : Draft) (xs ys : Declarations) → are_known_in_turn before xs ≡ true
    → are_known_in_turn (with_declarations before xs) ys ≡ true → are_known_in_turn before (xs ++ ys) ≡ true
known-append before [] ys h k = k
known-append before (d ∷ ds) ys h k =
    grind (
      arith,
      both_so,
      are_known_in_turn,
      known-append (with_declaration before d) ds ys
          (second_so (is_known before d) (are_known_in_turn (with_declaration before d) ds) h) k,
    )

-- what is declared from a line on leaves rows and columns unchanged, after their sections
same-rows : (before : List LineContent) (earlier : Draft) (items : List LineContent) → are_well_formed before earlier items ≡ true → Past
    Rows before → has_section before Columns ≡ true → HasRowsOf (with_declarations earlier (declared_items before earlier items)) earlier
same-rows before earlier items h past columns r known =
    sym (rows-kept (declared_items before earlier items) earlier r (no-rows-later items before earlier h past columns)) ∙ known

same-columns : (before : List LineContent) (earlier : Draft) (items : List LineContent) → are_well_formed before earlier items ≡ true
    → Past Columns before → HasColumnsOf (with_declarations earlier (declared_items before earlier items)) earlier
same-columns before earlier items h past c known =
    sym (columns-kept (declared_items before earlier items) earlier c (no-columns-later items before earlier h past)) ∙ known

rowed-late : (o : Option Section) → is_rowed o ≡ true → (is_late o ≡ true) × (is_section Rows o ≡ false)
rowed-late = grind arith

bounds-late : (o : Option Section) → is_section Bounds o ≡ true → (is_late o ≡ true) × (is_section Columns o ≡ false)
bounds-late = grind arith

line-known : (before : List LineContent) (earlier : Draft) (item : LineContent) (items : List LineContent)
    → are_well_formed before earlier
    (item ∷ items) ≡ true → Ordered before → AreKnown (with_declarations earlier (declared_items before earlier (item ∷ items)))
    (line_declares (context_of before) earlier item) → are_known_in_turn earlier (line_declares (context_of before) earlier item) ≡ true
line-known before earlier skipped items h o known = refl
line-known before earlier (header keyword more) items h o known = header-known (context_of before) earlier more (section_named keyword)
line-known before earlier (data_line fields) items h o known = data-known (context_of before)
    (with_declarations earlier (declared_items before earlier (data_line fields ∷ items))) earlier fields _ rows columns known
  where
    rows : is_rowed (current_section before) ≡ true
        → HasRowsOf (with_declarations earlier (declared_items before earlier (data_line fields ∷ items))) earlier
    rows rowed =
        let late = rowed-late _ rowed in
        let begun = o.columns late.0 in
        same-rows before earlier (data_line fields ∷ items) h (record { begun = o.rows begun; left = late.1 }) begun

    columns : is_section Bounds (current_section before) ≡ true
        → HasColumnsOf (with_declarations earlier (declared_items before earlier (data_line fields ∷ items))) earlier
    columns bound =
        let late = bounds-late _ bound in
        same-columns before earlier (data_line fields ∷ items) h (record { begun = o.columns late.0; left = late.1 })

-- Each row and column that the lines name, and that is declared somewhere, is declared before.
pub known-lines : (items before : List LineContent) (earlier : Draft) → are_well_formed before earlier items ≡ true → Ordered before
    → AreKnown (with_declarations earlier (declared_items before earlier items)) (declared_items before earlier items)
    → are_known_in_turn earlier (declared_items before earlier items) ≡ true
known-lines [] before earlier h o known = refl
known-lines (item ∷ items) before earlier h o known =
    let here = line_declares (context_of before) earlier item in
    let more = declared_items (before ++ item ∷ []) (with_declarations earlier here) items in
    let final = with_declarations earlier (here ++ more) in
    let parts = sym (list_all-append _ here more) ∙ known in
    let same : final ≡ with_declarations (with_declarations earlier here) more = with_declarations-append here more earlier in
    known-append earlier here more (line-known before earlier item items h o (first_so _ _ parts))
    (known-lines items (before ++ item ∷ []) (with_declarations earlier here) (good-rest before earlier item items h) (ordered-push before
    earlier item (good-first before earlier item items h) o) (subst (λ all. AreKnown all more) same (second_so _ _ parts)))

-- ---- what well-formed lines declare has legal names and decimals

-- ---- lines

sense-legal : (fields : Fields) → list_all is_legal (declared_if_some sense_declared (word_shape fields)) ≡ true
sense-legal = grind arith

row-legal : (context : Context) (earlier : Draft) (o : Option RowLine) → those_of (judged_by row_line_tests o) ≡ []
    → list_all is_legal (declared_if_some (row_declared context earlier) o) ≡ true
row-legal = grind arith

cells-legal : (column : List ℕ) (pairs : List Pair) → list_all is_legal (flat_map (coefficient_declared column) pairs) ≡ true
cells-legal column pairs = each-flat is_legal (coefficient_declared column) pairs (λ pair. rw (value-decimal pair.literal) refl)

column-legal : (context : Context) (earlier : Draft) (o : Option ValuesLine) → those_of (judged_by (column_tests context earlier) o) ≡ []
    → list_all is_legal (declared_if_some (column_declared context) o) ≡ true
column-legal = grind (arith, both_so, name-legal, cells-legal)

columns-legal : (context : Context) (earlier : Draft) (fields : Fields) → those_of (columns_line_tests context earlier fields) ≡ []
    → list_all is_legal (columns_line_declared context fields) ≡ true
columns-legal = grind (arith, column-legal)

sides-legal : (earlier : Draft) (fields : Fields)
    → list_all is_legal (declared_if_some (rhs_line_declared earlier) (vector_shape fields)) ≡ true
sides-legal earlier fields = each-declared is_legal (rhs_line_declared earlier) (vector_shape fields) (λ line. each-flat is_legal
    (λ (pair : Pair). rhs_declared earlier pair.row (value_of pair.literal)) line.pairs (λ pair. one pair (is_free_row earlier pair.row)))
  where
    one : (pair : Pair) (b : Bool) → list_all is_legal (cond b [] (declare_rhs pair.row (value_of pair.literal) ∷ [])) ≡ true
    one pair true = refl
    one pair false = rw (value-decimal pair.literal) refl

ranges-legal : (fields : Fields) → list_all is_legal (declared_if_some ranges_declared (vector_shape fields)) ≡ true
ranges-legal = grind (arith, each-declared, each-mapped, value-decimal)

bound-legal : (type : BoundType) (c : List ℕ) (v : Limit) → is_given v ≡ true → list_all is_legal (bound_declared type c v) ≡ true
bound-legal = grind arith

bound-value-given : (line : BoundLine) → is_given (bound_value line) ≡ true
bound-value-given = grind (arith, limit-given, value-decimal)

bounds-legal : (fields : Fields) → list_all is_legal (bound_line_declared fields) ≡ true
bounds-legal [] = refl
bounds-legal (letters ∷ more) = each-declared is_legal
    (λ type. declared_if_some (λ (line : BoundLine). bound_declared type line.column (bound_value line)) (bound_shape type more))
    (bound_type letters) (λ type. each-declared is_legal (λ (line : BoundLine). bound_declared type line.column (bound_value line))
    (bound_shape type more) (λ line. bound-legal type line.column (bound_value line) (bound-value-given line)))

header-legal : (context : Context) (earlier : Draft) (more : Fields) (o : Option Section)
    → list_all is_legal (header_declared context earlier more o) ≡ true
header-legal = grind arith

data-legal : (context : Context) (earlier : Draft) (fields : Fields) (o : Option Section)
    → those_of (data_tests context earlier fields o) ≡ []
    → list_all is_legal (data_declared context earlier fields o) ≡ true
data-legal context earlier fields None h = refl
data-legal context earlier fields (Some Name) h = refl
data-legal context earlier fields (Some ObjSense) h = sense-legal fields
data-legal context earlier fields (Some ObjName) h = refl
data-legal context earlier fields (Some Rows) h = row-legal context earlier (row_shape fields) h
data-legal context earlier fields (Some Columns) h = columns-legal context earlier fields h
data-legal context earlier fields (Some Rhs) h = sides-legal earlier fields
data-legal context earlier fields (Some Ranges) h = ranges-legal fields
data-legal context earlier fields (Some Bounds) h = bounds-legal fields
data-legal context earlier fields (Some EndData) h = refl

pub line-legal : (before : List LineContent) (earlier : Draft) (item : LineContent) → IsGood before earlier item
    → list_all is_legal (line_declares (context_of before) earlier item) ≡ true
line-legal before earlier skipped h = refl
line-legal before earlier (header keyword more) h = header-legal (context_of before) earlier more (section_named keyword)
line-legal before earlier (data_line fields) h = data-legal (context_of before) earlier fields _ h

pub lines-legal : (items before : List LineContent) (earlier : Draft) → are_well_formed before earlier items ≡ true
    → list_all is_legal (declared_items before earlier items) ≡ true
lines-legal [] before earlier h = refl
lines-legal (item ∷ items) before earlier h =
    let here = line_declares (context_of before) earlier item in
    let more = declared_items (before ++ item ∷ []) (with_declarations earlier here) items in list_all-append is_legal here more
    ∙ both_so _ _ (line-legal before earlier item (good-first before earlier item items h))
    (lines-legal items (before ++ item ∷ []) (with_declarations earlier here) (good-rest before earlier item items h))

-- ---- by ENDATA the objective is declared: by an N row, or by the header of COLUMNS

-- once COLUMNS has begun, the objective exists
abbrev pub IsNamed : List LineContent → Draft → Type 0
IsNamed before earlier = has_section before Columns ≡ true → is_some earlier.objective ≡ true

pub columns-name : (context : Context) (earlier : Draft) (keyword : List ℕ) (more : Fields) (o : Option Section)
    → those_of (header_tests context earlier keyword more o) ≡ [] → is_section Columns o ≡ true
    → is_some (with_declarations earlier (header_declared context earlier more o)).objective ≡ true
columns-name = grind arith

named-push : (before : List LineContent) (earlier : Draft) (item : LineContent) → IsGood before earlier item → IsNamed before earlier
    → IsNamed (before ++ item ∷ []) (with_declarations earlier (line_declares (context_of before) earlier item))
named-push = grind (arith, has_section-push, false≢true, columns-name, named-after)

-- ENDATA comes after COLUMNS
pub end-after : (context : Context) (earlier : Draft) (keyword : List ℕ) (more : Fields) (o : Option Section)
    → those_of (header_tests context earlier keyword more o) ≡ [] → is_section EndData o ≡ true → has context.sections_seen Columns ≡ true
end-after = grind arith

-- well-formed lines, one of which is that of ENDATA
pub named-lines : (lines : List (List ℕ)) (before : List LineContent) (earlier : Draft) → list_any is_end lines ≡ true
    → are_well_formed before earlier (map content_of lines) ≡ true → IsNamed before earlier
    → is_some (with_declarations earlier (declared_items before earlier (map content_of lines))).objective ≡ true
named-lines [] before earlier h g named = cc
named-lines (line ∷ lines) before earlier h g named =
    let item = content_of line in
    let here = line_declares (context_of before) earlier item in
    let more = declared_items (before ++ item ∷ []) (with_declarations earlier here) (map content_of lines) in
    elim (is_end line) as (λ b. is_end line ≡ b → (b || list_any is_end lines) ≡ true
    → is_some (with_declarations earlier (here ++ more)).objective ≡ true) [
      | true ↦ λ e _. named-after (here ++ more) earlier (named (at_end item e (good-first before earlier item (map content_of lines) g)))
      | false ↦ λ _ k. ap (λ all. is_some all.objective) (with_declarations-append here more earlier)
          ∙ named-lines lines (before ++ item ∷ []) (with_declarations earlier here) k
          (good-rest before earlier item (map content_of lines)
          g) (named-push before earlier item (good-first before earlier item (map content_of lines) g) named)
    ] refl h
  where
    at_end : (x : LineContent) → begins EndData x ≡ true → IsGood before earlier x → has_section before Columns ≡ true
    at_end skipped e good = cc
    at_end (header keyword m) e good = end-after (context_of before) earlier keyword m _ good e
    at_end (data_line fields) e good = cc

-- ---- bytes without a first error declare a model

-- ---- lines without an error

or-none : {X : Type 0} (o p : Option X) → option_or o p ≡ None → (o ≡ None) × (p ≡ None)
or-none = grind arith

mapped-none : {X Y : Type 0} (f : X → Y) (o : Option X) → option_map f o ≡ None → o ≡ None
mapped-none = grind arith

pub record AreFaultless (lines : List (List ℕ)) (before : List LineContent) (earlier : Draft) : Type 0 where
  pub good : list_all is_well_formed (lines_in_context_after before earlier lines) ≡ true
  pub unrefused : refusals_in_turn earlier (flat_map declared_at (lines_in_context_after before earlier lines)) ≡ []

lines-faultless : (n : ℕ) (lines : List (List ℕ)) (before : List LineContent) (earlier : Draft)
    → first_line_fault n (lines_in_context_after before earlier lines) ≡ None → AreFaultless lines before earlier
lines-faultless n [] before earlier h = record { good = refl; unrefused = refl }
lines-faultless n (line ∷ lines) before earlier h =
    let placed : LineInContext = record { context = context_of before; earlier = earlier; line = line } in
    let here = declared_at placed in
    let next = with_declarations earlier here in
    let later = lines_in_context_after (before ++ content_of line ∷ []) next lines in
    let parts = or-none _ _ h in
    let fine = faultless (tests_at placed) earlier here (mapped-none (fault_on_line n) _ parts.0) in
    let more = lines-faultless (n + 1) lines (before ++ content_of line ∷ []) next parts.1 in
    record {
      good = both_so _ _ (ap (λ faults. not (is_nonempty faults)) fine.form) more.good;
      unrefused = refusals_in_turn-append here _ earlier
          ∙ join_none _ _ fine.unrefused more.unrefused;
    }

-- ---- the whole

-- if there is an ENDATA, it is among the lines that are read
end-read : (ls : List (List ℕ)) → list_any is_end ls ≡ true → list_any is_end (take (suc (position_or_len is_end ls)) ls) ≡ true
end-read [] h = cc
end-read (l ∷ ls) h =
    elim (is_end l) as (λ b. is_end l ≡ b → (b || list_any is_end ls) ≡ true
    → list_any is_end (take (suc (cond (not b) (1 + position_or_len is_end ls) 0)) (l ∷ ls)) ≡ true) [
      | true ↦ λ e _. or_left _ _ e
      | false ↦ λ _ k.
          let next : 1 + position_or_len is_end ls ≡ suc (position_or_len is_end ls) = omega arith in
          subst (λ n. list_any is_end (take (suc n) (l ∷ ls)) ≡ true) (sym next)
          (or_right _ _ (end-read ls k))
    ] refl h

pub record IsWholeFaultless (bytes : List ℕ) : Type 0 where
  pub ends : has_end bytes ≡ true
  pub file : file_fault (draft_of (declarations_of bytes)) ≡ None

whole-faultless : (bytes : List ℕ) → whole_mps_fault bytes ≡ None → IsWholeFaultless bytes
whole-faultless = grind arith

-- Bytes without a first error declare the model of what their lines declare.
pub declares-from_no_fault : (bytes : List ℕ) → first_mps_fault bytes ≡ None
    → DeclaresMps bytes (model_of (draft_of (declarations_of bytes)))
declares-from_no_fault bytes h =
    let items = map content_of (read_lines bytes) in
    let parts = or-none _ _ h in
    let fine = lines-faultless 1 (read_lines bytes) [] empty_draft parts.0 in
    let whole = whole-faultless bytes parts.1 in
    let good = items-good [] empty_draft (read_lines bytes) fine.good in
    let same = lines-declare [] empty_draft (read_lines bytes) in
    let named = named-lines (read_lines bytes) [] empty_draft (end-read (lines bytes) whole.ends) good (λ e. cc) in
    record {
      text = both_so _ _ whole.ends fine.good;
      means = means-from_none _
          (objective-declared (declarations_of bytes) empty_draft
          (ap (λ ds. is_some (with_declarations empty_draft ds).objective) same ∙ named))
          (ap (list_all is_legal) same ∙ lines-legal items [] empty_draft good) fine.unrefused whole.file;
    }

pub model-unless_faulty : DeclareUnlessFaulty
model-unless_faulty bytes none =
    (model_of (draft_of (declarations_of bytes)), declares-from_no_fault bytes (no_fault-unless (first_mps_fault bytes) none))

-- ---- bytes that declare a model have no first error

-- well-formed lines, none of whose declarations is rejected
lines-no_fault : (n : ℕ) (lines : List (List ℕ)) (before : List LineContent) (earlier : Draft)
    → list_all is_well_formed (lines_in_context_after before earlier lines) ≡ true → refusals_in_turn earlier (flat_map declared_at
    (lines_in_context_after before earlier lines)) ≡ [] → first_line_fault n (lines_in_context_after before earlier lines) ≡ None
lines-no_fault n [] before earlier good none = refl
lines-no_fault n (line ∷ lines) before earlier good none =
    let placed : LineInContext = record { context = context_of before; earlier = earlier; line = line } in
    let here = declared_at placed in
    let next = with_declarations earlier here in
    let later = lines_in_context_after (before ++ content_of line ∷ []) next lines in
    let more = flat_map declared_at later in
    let parts = sym (refusals_in_turn-append here more earlier) ∙ none in
    let form = no_faults _ (first_so _ _ good) in
    let fine = no_fault (tests_at placed) earlier here form (left_none _ _ parts) in
    ap (λ o. option_or (option_map (fault_on_line n) o) (first_line_fault (n + 1) later)) fine
    ∙ lines-no_fault (n + 1) lines (before ++ content_of line ∷ []) next (second_so _ _ good) (right_none _ _ parts)

pub no_fault-from_declares : (bytes : List ℕ) (m : LinearModel) → DeclaresMps bytes m → first_mps_fault bytes ≡ None
no_fault-from_declares bytes m declares =
    let items = map content_of (read_lines bytes) in
    let same = lines-declare [] empty_draft (read_lines bytes) in
    let formed = second_so (has_end bytes) _ declares.text in
    let good : are_well_formed [] empty_draft items ≡ true = items-good [] empty_draft (read_lines bytes) formed in
    let means : Means (declared_items [] empty_draft items) m = subst (λ ds. Means ds m) same declares.means in
    let known = known-lines items [] empty_draft good ordered-nil means.consistent.known in
    let none = none-from_means _ m (lines-legal items [] empty_draft good) known means in (λ i. option_or
    (lines-no_fault 1 (read_lines bytes) [] empty_draft formed (ap (refusals_in_turn empty_draft) same ∙ none.0) i)
    (whole_mps_fault bytes))
    ∙ rw (first_so (has_end bytes) (list_all is_well_formed (lines_in_context bytes)) declares.text)
    (ap (λ ds. file_fault (draft_of ds)) same ∙ none.1)

pub model-or_fault : DeclareOrFail
model-or_fault = one_of_both DeclaresMps first_mps_fault no_fault-from_declares

-- ---- the end of a text: what its builder returns is the result for the bytes

pub finished-reads : (bytes : List ℕ) (draft : Draft) (answer : Result LinearModel ReadFault) → draft ≡ draft_of (declarations_of bytes)
    → first_mps_fault bytes ≡ file_fault draft → Finishes draft answer → ReadsMps bytes answer
finished-reads = grind (arith, finished-answers, declares-from_no_fault)
