-- What a line may change in a draft, and on which lines before what a draft has was declared.
use Rattle.mpslp_mps_sentences.proofs.Prelude
use Prelude.{◌≡◌, refl, List, [], ◌∷◌, ℕ, Bool, true, list_all, Declaration, declare_lower, declare_upper, declare_integer, declare_semi}
use Prelude.{Limit, Fields, arith, ◌∙◌, ◌++◌, false, list_any-append, Option, Some, not, ◌||◌, ◌&&◌, list_any, option_map_or, first_so}
use Prelude.{second_so, Number, Sense, RowType, FaultKind, both_so, or_left, or_right, CoefficientKey, by_type, declare_sense}
use Prelude.{declare_objective, declare_constant, declare_row, declare_rhs, declare_range, declare_column, declare_coefficient}
use Prelude.{declare_marked, declare_binary, Declarations, Draft, with_declaration, with_declarations, LineContent, skipped, header}
use Prelude.{data_line, section_named, is_section, Section, Name, ObjSense, Rows, Columns, Rhs, Ranges, Bounds, Context, context_of}
use Prelude.{current_section, data_lines, data_declared, header_declared, line_declares, data_lines-push, is_line_of, empty_draft}
use Prelude.{refusal_tests, kind_of_build_fault, is_kind, never, same_section, sym, ap, cond, append-nil, None, is_some, filter_map}
use Prelude.{last_or, flat_map, cons_option, same_bytes, when, has_name, has-put, value_of, Pair, ValuesLine, column_shape, is_marker_line}
use Prelude.{opening_word, fields_under, marker_word, line_column, declared_if_some, coefficient_declared, column_declared, same_column}
use Prelude.{opens_block, block_lines, is_in_block, map, not_so, is_free_row, is_row_by_limits, is_definition_by_limits, rhs_declared}
use Prelude.{at-put, vector_shape, BoundLine, bound_type, bound_shape, is_integer_type, is_semi_type, BoundType, rhs_line_declared}
use Prelude.{ranges_declared, bound_declared, bound_value, bound_line_declared, has_value_of, gives_lower, gives_upper, is_such_bound}
use Prelude.{has_bound}
use Rattle.mpslp_mps_sentences.proofs.{FaultedLines.{refuses, refused_as}, FieldsInWords.{section-is, next_draft, Keeps}}

-- ---- what a line may change in a draft: each section declares its own, and a header only a sense or an objective

-- the test passes for whatever BOUNDS declares
pub record Passes (p : Declaration → Bool) : Type 0 where
  pub lower : (c : List ℕ) (l : Limit) → p (declare_lower c l) ≡ true
  pub upper : (c : List ℕ) (l : Limit) → p (declare_upper c l) ≡ true
  pub integer : (c : List ℕ) → p (declare_integer c) ≡ true
  pub semi : (c : List ℕ) → p (declare_semi c) ≡ true

-- ---- declarations that are not rejected with a kind

-- an error of this kind may reject such declarations
abbrev pub may_refuse : FaultKind → Declaration → Bool
may_refuse kind d = list_any (λ test. is_kind kind (kind_of_build_fault test.1)) (refusal_tests empty_draft d)

-- the kinds of the tests of a declaration do not depend on the draft
not-refused : (kind : FaultKind) (all : Draft) (d : Declaration) → not (may_refuse kind d) ≡ true →
    refused_as kind (refusal_tests all d) ≡ false
not-refused = grind arith

pub none-refuse : (kind : FaultKind) (ds : Declarations) (all : Draft) → list_all (λ d. not (may_refuse kind d)) ds ≡ true
    → refuses kind all ds ≡ false
none-refuse kind [] all h = refl
none-refuse kind (d ∷ ds) all h =
    grind (
      arith,
      refuses,
      not-refused,
      none-refuse kind ds (with_declaration all d)
          (second_so (not (may_refuse kind d)) (list_all (λ d. not (may_refuse kind d)) ds) h),
    )

pub no-one : {X : Type 0} (kind : FaultKind) (ds : Declarations) (all : Draft) → list_all (λ d. not (may_refuse kind d)) ds ≡ true
    → refuses kind all ds ≡ true → X
no-one = grind (arith, never, none-refuse)

-- ---- tests of declarations, section by section

pub record HoldsInSections (p : Section → Declaration → Bool) : Type 0 where
  pub sense : (s : Sense) → p ObjSense (declare_sense s) ≡ true
  pub objective : (name : List ℕ) → p Rows (declare_objective name) ≡ true
  pub row : (name : List ℕ) (type : RowType) → p Rows (declare_row name (by_type type)) ≡ true
  pub column : (name : List ℕ) → p Columns (declare_column name) ≡ true
  pub marked : (name : List ℕ) → p Columns (declare_marked name) ≡ true
  pub coefficient : (key : CoefficientKey) (value : Number) → p Columns (declare_coefficient key value) ≡ true
  pub side : (row : List ℕ) (value : Number) → p Rhs (declare_rhs row value) ≡ true
  pub range : (row : List ℕ) (value : Number) → p Ranges (declare_range row value) ≡ true
  pub bounds : Passes (p Bounds)

abbrev pub holds_in : (Section → Declaration → Bool) → Option Section → Declaration → Bool
holds_in p o d = option_map_or (λ section. p section d) o false

module _ (p : Section → Declaration → Bool) (holds : HoldsInSections p) where
  pub data-each : (context : Context) (earlier : Draft) (fields : Fields) (o : Option Section) →
      list_all (λ d. holds_in p o d) (data_declared context earlier fields o) ≡ true
  data-each context earlier fields o = grind arith

abbrev pub is_of_header : Declaration → Bool
is_of_header (declare_sense _) = true
is_of_header (declare_objective _) = true
is_of_header _ = false

pub header-each : (context : Context) (earlier : Draft) (more : Fields) (o : Option Section)
    → list_all is_of_header (header_declared context earlier more o) ≡ true
header-each = grind arith

-- ---- the section of a declaration

-- no line declares a constant or a binary column
abbrev pub home_of : Declaration → Section
home_of (declare_sense _) = ObjSense
home_of (declare_objective _) = Rows
home_of (declare_row _ _) = Rows
home_of (declare_column _) = Columns
home_of (declare_marked _) = Columns
home_of (declare_coefficient _ _) = Columns
home_of (declare_rhs _ _) = Rhs
home_of (declare_range _ _) = Ranges
home_of (declare_lower _ _) = Bounds
home_of (declare_upper _ _) = Bounds
home_of (declare_integer _) = Bounds
home_of (declare_semi _) = Bounds
home_of (declare_constant _) = Name
home_of (declare_binary _) = Name

abbrev pub is_at_home : Section → Declaration → Bool
is_at_home section d = not (is_section Name (Some (home_of d))) && is_section (home_of d) (Some section)

-- a declaration of lines of another section
abbrev pub is_elsewhere : Section → Declaration → Bool
is_elsewhere section d = not (is_section Name (Some (home_of d))) && not (is_section section (Some (home_of d)))

at_home : HoldsInSections is_at_home
at_home = grind arith

-- a weaker test of all
pub all-so : (p q : Declaration → Bool) (ds : Declarations) → ((d : Declaration) → p d ≡ true → q d ≡ true) → list_all p ds ≡ true
    → list_all q ds ≡ true
all-so p q [] h k = refl
all-so p q (d ∷ ds) h k = both_so _ _ (h d (first_so _ _ k)) (all-so p q ds h (second_so _ _ k))

-- what lines of other sections declare
elsewhere : (section : Section) (context : Context) (earlier : Draft) (fields : Fields) (o : Option Section) →
    is_section section o ≡ false → list_all (is_elsewhere section) (data_declared context earlier fields o) ≡ true
elsewhere section context earlier fields o h = grind arith

-- ---- a part of the draft that only lines of one section declare

pub each-kept : {X : Type 0} (part : Draft → X) (p : Declaration → Bool)
    → ((all : Draft) (d : Declaration) → p d ≡ true → part (with_declaration all d) ≡ part all) →
    (ds : Declarations) (all : Draft) → list_all p ds ≡ true → part (with_declarations all ds) ≡ part all
each-kept part p one [] all h = refl
each-kept part p one (d ∷ ds) all h = each-kept part p one ds (with_declaration all d) (second_so (p d) (list_all p ds) h)
    ∙ one all d (first_so (p d) (list_all p ds) h)

pub record IsPartOf (section : Section) (part : Draft → Bool) : Type 0 where
  pub headed : (s : Sense) → is_elsewhere section (declare_sense s) ≡ true
  pub objective : (all : Draft) (name : List ℕ) → part (with_declaration all (declare_objective name)) ≡ part all
  pub other : (all : Draft) (d : Declaration) → is_elsewhere section d ≡ true → part (with_declaration all d) ≡ part all

module _ (section : Section) (part : Draft → Bool) (is : IsPartOf section part) where
  pub header-kept : (context : Context) (earlier : Draft) (more : Fields) (o : Option Section)
      → part (with_declarations earlier (header_declared context earlier more o)) ≡ part earlier
  header-kept context earlier more o =
      each-kept part is_of_header by (header_declared context earlier more o) earlier (header-each context earlier more o)
    where
      by : (all : Draft) (d : Declaration) → is_of_header d ≡ true → part (with_declaration all d) ≡ part all
      by all (declare_sense s) h = is.other all (declare_sense s) (is.headed s)
      by all (declare_objective name) h = is.objective all name
      by all _ h = cc

  pub data-kept : (context : Context) (earlier : Draft) (fields : Fields) (o : Option Section) →
      is_section section o ≡ false → part (with_declarations earlier (data_declared context earlier fields o)) ≡ part earlier
  data-kept context earlier fields o h =
      each-kept part (is_elsewhere section) is.other (data_declared context earlier fields o) earlier
      (elsewhere section context earlier fields o h)

  -- if each line of the section that declares it passes the test, it has such a line
  pub lines-kept : (test : Fields → Bool) →
      ((context : Context) (earlier : Draft) (fields : Fields) → part (with_declarations earlier
      (data_declared context earlier fields (Some section))) ≡ true → (test fields || part earlier) ≡ true) →
      (before : List LineContent) (earlier : Draft) (item : LineContent) →
      (part earlier ≡ true → list_any test (data_lines section before) ≡ true) →
      part (next_draft before earlier item) ≡ true → list_any test (data_lines section (before ++ item ∷ [])) ≡ true
  lines-kept test own before earlier item have h =
      grind (arith, data_lines-push, list_any-append, or_left, or_right, header-kept, section-is, data-kept)

-- ---- errors that only declarations of one section have

pub record IsErrorOfSection (section : Section) (kind : FaultKind) : Type 0 where
  pub header : (d : Declaration) → is_of_header d ≡ true → not (may_refuse kind d) ≡ true
  pub other : (d : Declaration) → is_elsewhere section d ≡ true → not (may_refuse kind d) ≡ true

-- no header has it
pub unrefused-header : {X : Type 0} (kind : FaultKind) →
    ((d : Declaration) → is_of_header d ≡ true → not (may_refuse kind d) ≡ true) →
    (context : Context) (earlier : Draft) (more : Fields) (o : Option Section) →
    refuses kind earlier (header_declared context earlier more o) ≡ true → X
unrefused-header kind none context earlier more o h = no-one kind (header_declared context earlier more o) earlier
    (all-so is_of_header _ (header_declared context earlier more o) none (header-each context earlier more o)) h

-- nor has a line of another section
pub unrefused-data : {X : Type 0} (section : Section) (kind : FaultKind) → ((d : Declaration) → is_elsewhere section d ≡ true
    → not (may_refuse kind d) ≡ true) → (context : Context) (earlier : Draft) (fields : Fields) (o : Option Section)
    → is_section section o ≡ false → refuses kind earlier (data_declared context earlier fields o) ≡ true → X
unrefused-data section kind other context earlier fields o out h =
    no-one kind (data_declared context earlier fields o) earlier
    (all-so _ _ _ other (elsewhere section context earlier fields o out)) h

-- nor has a line of another section than these, if they are the homes of all declarations that may be rejected with it
pub unrefused : {X : Type 0} (kind : FaultKind) (homes : List Section)
    → ((d : Declaration) → (list_any (same_section (home_of d)) (Name ∷ homes) || not (may_refuse kind d)) ≡ true)
    → (context : Context) (earlier : Draft) (fields : Fields) (section : Section) →
    list_any (same_section section) (Name ∷ homes) ≡ false →
    refuses kind earlier (data_declared context earlier fields (Some section)) ≡ true → X
unrefused kind homes none context earlier fields section out h =
    no-one kind (data_declared context earlier fields (Some section)) earlier
    (all-so _ _ (data_declared context earlier fields (Some section)) by
    (data-each is_at_home at_home context earlier fields (Some section))) h
  where
    by : (d : Declaration) → is_at_home section d ≡ true → not (may_refuse kind d) ≡ true
    by = grind (arith, none)

-- so a line with this error is one of the section, and passes the test if each of those with the error does
pub line-of : (section : Section) (kind : FaultKind) → IsErrorOfSection section kind →
    (test : Fields → Bool) (before : List LineContent) (earlier : Draft) →
    ((fields : Fields) → refuses kind earlier (data_declared (context_of before) earlier fields (Some section)) ≡ true
    → test fields ≡ true) → (item : LineContent) → refuses kind earlier (line_declares (context_of before) earlier item) ≡ true
    → is_line_of section test before item ≡ true
line-of section kind is test before earlier own skipped h = cc
line-of section kind is test before earlier own (header keyword more) h =
    unrefused-header kind is.header (context_of before) earlier more (section_named keyword) h
line-of section kind is test before earlier own (data_line fields) h = under (is_section section (current_section before)) refl
  where
    under : (b : Bool) → is_section section (current_section before) ≡ b → (b && test fields) ≡ true
    under true e = grind (arith, refuses, data_declared, context_of, section-is, current_section)
    under false e = unrefused-data section kind is.other (context_of before) earlier fields (current_section before) e h

-- ---- a column that a draft has marked has a line in an integer block. Right-hand sides, ranges and bounds that a
-- draft has are on lines before; MPS text declares no constant and no row by its limits

-- ---- lists of lines

abbrev is_of : List ℕ → Fields → Bool
is_of column fields = same_column (Some column) (line_column fields)

abbrev is_opening : Option (List ℕ) → Bool
is_opening word = option_map_or (same_bytes opening_word) word false

block-more : (column : List ℕ) (lines : List Fields) (fields : Fields) → list_any (is_of column) (block_lines lines) ≡ true
    → list_any (is_of column) (block_lines (lines ++ fields ∷ [])) ≡ true
block-more column [] fields h = cc
block-more column (x ∷ lines) fields h = by (is_some (marker_word x)) h (λ k. block-more column lines fields k)
  where
    or : (a b c : Bool) → (b ≡ true → c ≡ true) → (a || b) ≡ true → (a || c) ≡ true
    or = grind arith

    by : (b : Bool) → list_any (is_of column) (cond b [] (x ∷ block_lines lines)) ≡ true
        → (list_any (is_of column) (block_lines lines) ≡ true →
        list_any (is_of column) (block_lines (lines ++ fields ∷ [])) ≡ true) →
        list_any (is_of column) (cond b [] (x ∷ block_lines (lines ++ fields ∷ []))) ≡ true
    by = grind arith

in_block-more : (column : List ℕ) (lines : List Fields) (fields : Fields) → is_in_block column lines ≡ true
    → is_in_block column (lines ++ fields ∷ []) ≡ true
in_block-more column [] fields h = cc
in_block-more column (x ∷ lines) fields h =
    by (opens_block x) (list_any (is_of column) (block_lines lines)) (is_in_block column lines)
    (list_any (is_of column) (block_lines (lines ++ fields ∷ []))) (is_in_block column (lines ++ fields ∷ []))
    (block-more column lines fields) (in_block-more column lines fields) h
  where
    by : (o a b c d : Bool) → (a ≡ true → c ≡ true) → (b ≡ true → d ≡ true) → ((o && a) || b) ≡ true → ((o && c) || d) ≡ true
    by = grind (arith, or_left, or_right)

-- if the last marker line, or the one before all these, opens a block, a line after them is in it
last-block : (column : List ℕ) (fields : Fields) → is_marker_line fields ≡ false → is_of column fields ≡ true
    → (lines : List Fields) (word : Option (List ℕ)) → is_opening (last_or word (filter_map marker_word lines)) ≡ true
    → ((is_opening word && list_any (is_of column) (block_lines (lines ++ fields ∷ []))) || is_in_block column
    (lines ++ fields ∷ [])) ≡ true
last-block column fields plain of [] word h = grind (arith, or_left)
last-block column fields plain of (x ∷ lines) word h = by (marker_word x) h (λ w k. last-block column fields plain of lines w k)
  where
    more : List Fields
    more = lines ++ fields ∷ []

    by : (o : Option (List ℕ)) → is_opening (last_or word (cons_option o (filter_map marker_word lines))) ≡ true →
        ((w : Option (List ℕ)) → is_opening (last_or w (filter_map marker_word lines)) ≡ true →
        ((is_opening w && list_any (is_of column) (block_lines more))
        || is_in_block column more) ≡ true) →
        ((is_opening word && list_any (is_of column) (cond (is_some o) [] (x ∷ block_lines more)))
        || ((is_opening o && list_any (is_of column) (block_lines more)) || is_in_block column more)) ≡ true
    by = grind (arith, or_right, more)

-- ---- the columns that are marked

marked-part : (column : List ℕ) → IsPartOf Columns (λ all. has_name all.marked column)
marked-part = grind arith

cells-same : (column name : List ℕ) (pairs : List Pair) (all : Draft)
    → has_name (with_declarations all (flat_map (coefficient_declared name) pairs)).marked column ≡ has_name all.marked column
cells-same column name [] all = refl
cells-same column name (pair ∷ pairs) all = cells-same column name pairs
    (with_declaration all (declare_coefficient (record { row = pair.row; column = name }) (value_of pair.literal)))

abbrev pub HaveMarkedLines : List LineContent → Draft → Type 0
HaveMarkedLines before earlier = (column : List ℕ) → has_name earlier.marked column ≡ true →
    is_in_block column (data_lines Columns before) ≡ true

pub marked_lines-kept : Keeps HaveMarkedLines
marked_lines-kept before earlier item have column h = ap (is_in_block column) (data_lines-push Columns before item) ∙ by item h
  where
    lines : List Fields
    lines = data_lines Columns before

    old : has_name earlier.marked column ≡ true → is_in_block column (lines ++ []) ≡ true
    old = grind (arith, is_in_block, append-nil)

    new : (fields : Fields) → is_marker_line fields ≡ false → (line : ValuesLine) → column_shape fields ≡ Some line
        → same_bytes column line.name ≡ true → (context_of before).in_integer_part ≡ true →
        is_in_block column (lines ++ fields ∷ []) ≡ true
    new fields plain line shape same inside = last-block column fields plain here lines None inside
      where
        here : is_of column fields ≡ true
        here = grind arith

    front : (fields : Fields) → is_marker_line fields ≡ false → (line : ValuesLine) → column_shape fields ≡ Some line → (b : Bool)
        → (context_of before).in_integer_part ≡ b → has_name (with_declarations earlier (declare_column line.name
        ∷ (cond b (declare_marked line.name ∷ []) [] ++ flat_map (coefficient_declared line.name) line.pairs))).marked
        column ≡ true → is_in_block column (lines ++ fields ∷ []) ≡ true
    front = grind (arith, has-put, cells-same, in_block-more, lines, new)

    shaped : (fields : Fields) → is_marker_line fields ≡ false → (o : Option ValuesLine) → column_shape fields ≡ o
        → has_name (with_declarations earlier (declared_if_some (column_declared (context_of before)) o)).marked column ≡ true
        → is_in_block column (lines ++ fields ∷ []) ≡ true
    shaped = grind (arith, in_block-more, front, context_of)

    own : (fields : Fields) (b : Bool) → is_marker_line fields ≡ b → has_name
        (with_declarations earlier (cond b []
        (declared_if_some (column_declared (context_of before)) (column_shape fields)))).marked column
        ≡ true → is_in_block column (lines ++ fields ∷ []) ≡ true
    own = grind (arith, in_block-more, shaped, column_shape)

    by : (x : LineContent) → has_name (with_declarations earlier (line_declares (context_of before) earlier x)).marked
        column ≡ true → is_in_block column (lines ++ fields_under Columns (current_section before) x) ≡ true
    by skipped k = old k
    by (header keyword more) k = old
        (sym (header-kept Columns (λ all. has_name all.marked column) (marked-part column) (context_of before) earlier
        more (section_named keyword)) ∙ k)
    by (data_line fields) k = grind
        (arith, data_line, is_section, current_section, is_in_block, when, section-is, data-kept, marked-part, own, old)

-- ---- no constant, no row by its limits, no binary column

pub record IsPlain (all : Draft) : Type 0 where
  pub limits : (row : List ℕ) → is_row_by_limits all row ≡ false
  pub constant : all.constant ≡ None
  pub binaries : (column : List ℕ) → has_name all.binaries column ≡ false

abbrev is_plain : Declaration → Bool
is_plain (declare_constant _) = false
is_plain (declare_binary _) = false
is_plain (declare_row _ definition) = not (is_definition_by_limits definition)
is_plain _ = true

plain-one : (all : Draft) (d : Declaration) → is_plain d ≡ true → IsPlain all → IsPlain (with_declaration all d)
plain-one all (declare_constant v) h plain = cc
plain-one all (declare_binary c) h plain = cc
plain-one all (declare_row name definition) h plain = grind (arith, not_so, at-put)
plain-one all _ h plain = grind arith

plain-all : (ds : Declarations) (all : Draft) → list_all is_plain ds ≡ true → IsPlain all → IsPlain (with_declarations all ds)
plain-all [] all h plain = plain
plain-all (d ∷ ds) all h plain = plain-all ds (with_declaration all d) (second_so _ _ h) (plain-one all d (first_so _ _ h) plain)

plain-in_sections : HoldsInSections (λ section d. is_plain d)
plain-in_sections = grind arith

pub plain-kept : (context : Context) (earlier : Draft) (item : LineContent) → IsPlain earlier
    → IsPlain (with_declarations earlier (line_declares context earlier item))
plain-kept context earlier skipped plain = plain
plain-kept context earlier (header keyword more) plain = grind (arith, plain-all, all-so, is_of_header, header-each)
plain-kept context earlier (data_line fields) plain = plain-all (data_declared context earlier fields context.section) earlier
    (all-so _ is_plain _ (λ d k. by context.section d k)
    (data-each (λ section d. is_plain d) plain-in_sections context earlier fields context.section)) plain
  where
    by : (o : Option Section) (d : Declaration) → holds_in (λ section e. is_plain e) o d ≡ true → is_plain d ≡ true
    by = grind arith

pub none-plain : IsPlain empty_draft
none-plain = grind arith

-- ---- ranges

ranges-part : (row : List ℕ) → IsPartOf Ranges (λ all. has_name all.ranges row)
ranges-part = grind arith

-- one more first, or the others
turned : (a b c : Bool) → (b || (a || c)) ≡ true → ((a || b) || c) ≡ true
turned = grind arith

own-ranges : (row : List ℕ) (pairs : List Pair) (all : Draft)
    → has_name (with_declarations all (map (λ (pair : Pair). declare_range pair.row (value_of pair.literal))
    pairs)).ranges row ≡ true → (list_any (λ pair. same_bytes row pair.row) pairs || has_name all.ranges row) ≡ true
own-ranges row [] all h = h
own-ranges row (pair ∷ pairs) all h =
    grind (arith, turned, has-put, own-ranges row pairs (with_declaration all (declare_range pair.row (value_of pair.literal))) h)

abbrev pub HaveRangeLines : List LineContent → Draft → Type 0
HaveRangeLines before earlier = (row : List ℕ) → has_name earlier.ranges row ≡ true →
    list_any (has_value_of row) (data_lines Ranges before) ≡ true

pub range_lines-kept : Keeps HaveRangeLines
range_lines-kept before earlier item have row h =
    lines-kept Ranges (λ all. has_name all.ranges row) (ranges-part row) _ own before earlier item (have row) h
  where
    of : (all : Draft) (o : Option ValuesLine) →
        has_name (with_declarations all (declared_if_some ranges_declared o)).ranges row ≡ true →
        (list_any (λ pair. same_bytes row pair.row) (option_map_or (λ (line : ValuesLine). line.pairs) o []) ||
        has_name all.ranges row) ≡ true
    of = grind (arith, own-ranges)

    own : (context : Context) (all : Draft) (fields : Fields) → has_name (with_declarations all
        (data_declared context all fields (Some Ranges))).ranges row ≡ true →
        (has_value_of row fields || has_name all.ranges row) ≡ true
    own = grind (arith, of, vector_shape)

-- ---- right-hand sides

sides-part : (row : List ℕ) → IsPartOf Rhs (λ all. has_name all.rhs_values row)
sides-part = grind arith

own-sides : (earlier : Draft) (row : List ℕ) (pairs : List Pair) (all : Draft) → has_name
    (with_declarations all (flat_map (λ (pair : Pair). rhs_declared earlier pair.row (value_of pair.literal))
    pairs)).rhs_values row ≡ true → (list_any (λ pair. same_bytes row pair.row) pairs || has_name all.rhs_values row) ≡ true
own-sides earlier row [] all h = h
own-sides earlier row (pair ∷ pairs) all h = by (is_free_row earlier pair.row) h (λ next k. own-sides earlier row pairs next k)
  where
    more : Declarations
    more = flat_map (λ p. rhs_declared earlier p.row (value_of p.literal)) pairs

    by : (b : Bool) → has_name (with_declarations all
        (cond b [] (declare_rhs pair.row (value_of pair.literal) ∷ []) ++ more)).rhs_values row ≡ true →
        ((next : Draft) → has_name (with_declarations next more).rhs_values row ≡ true →
        (list_any (λ p. same_bytes row p.row) pairs || has_name next.rhs_values row) ≡ true)
        → ((same_bytes row pair.row || list_any (λ p. same_bytes row p.row) pairs) || has_name all.rhs_values row) ≡ true
    by = grind (arith, turned, or_right, has-put)

abbrev pub HaveSideLines : List LineContent → Draft → Type 0
HaveSideLines before earlier = (row : List ℕ) → has_name earlier.rhs_values row ≡ true →
    list_any (has_value_of row) (data_lines Rhs before) ≡ true

pub side_lines-kept : Keeps HaveSideLines
side_lines-kept before earlier item have row h =
    lines-kept Rhs (λ all. has_name all.rhs_values row) (sides-part row) _ own before earlier item (have row) h
  where
    of : (all : Draft) (o : Option ValuesLine) →
        has_name (with_declarations all (declared_if_some (rhs_line_declared all) o)).rhs_values row ≡ true →
        (list_any (λ pair. same_bytes row pair.row) (option_map_or (λ (line : ValuesLine). line.pairs) o []) ||
        has_name all.rhs_values row) ≡ true
    of = grind (arith, own-sides)

    own : (context : Context) (all : Draft) (fields : Fields)
        → has_name (with_declarations all (data_declared context all fields (Some Rhs))).rhs_values row ≡ true
        → (has_value_of row fields || has_name all.rhs_values row) ≡ true
    own = grind (arith, of, vector_shape)

-- ---- bounds and types of columns

-- what a line of BOUNDS declares of a column, if each bound that declares it has a type of this kind
of-bounds : (part : Draft → Bool) (is_of : BoundType → Bool) (column : List ℕ) →
    ((type : BoundType) (c : List ℕ) (v : Limit) (all : Draft) →
    part (with_declarations all (bound_declared type c v)) ≡ true → ((is_of type && same_bytes column c) || part all) ≡ true)
    → (fields : Fields) (all : Draft) → part (with_declarations all (bound_line_declared fields)) ≡ true
    → (is_such_bound (λ type name. is_of type && same_bytes column name) fields || part all) ≡ true
of-bounds part is_of column each [] all h = h
of-bounds part is_of column each (letters ∷ more) all h = typed (bound_type letters) h
  where
    lined : (type : BoundType) (o : Option BoundLine)
        → part (with_declarations all (declared_if_some
        (λ (line : BoundLine). bound_declared type line.column (bound_value line)) o)) ≡ true →
        (option_map_or (λ (line : BoundLine). is_of type && same_bytes column line.column) o false || part all) ≡ true
    lined = grind arith

    typed : (o : Option BoundType) → part (with_declarations all (declared_if_some (λ (type : BoundType). declared_if_some
        (λ (line : BoundLine). bound_declared type line.column (bound_value line)) (bound_shape type more)) o)) ≡ true
        → (option_map_or (λ (type : BoundType). option_map_or
        (λ (line : BoundLine). is_of type && same_bytes column line.column) (bound_shape type more) false) o false
        || part all) ≡ true
    typed = grind arith

lowers-part : (column : List ℕ) → IsPartOf Bounds (λ all. has_name all.lowers column)
lowers-part = grind arith

uppers-part : (column : List ℕ) → IsPartOf Bounds (λ all. has_name all.uppers column)
uppers-part = grind arith

integers-part : (column : List ℕ) → IsPartOf Bounds (λ all. has_name all.integers column)
integers-part = grind arith

semis-part : (column : List ℕ) → IsPartOf Bounds (λ all. has_name all.semis column)
semis-part = grind arith

abbrev pub HaveBoundLines : (Draft → List ℕ → Bool) → (BoundType → Bool) → List LineContent → Draft → Type 0
HaveBoundLines part is_of before earlier = (column : List ℕ) → part earlier column ≡ true → has_bound before is_of column ≡ true

module _ (part : Draft → List ℕ → Bool) (is_of : BoundType → Bool) (is : (column : List ℕ) →
    IsPartOf Bounds (λ all. part all column)) (each : (column : List ℕ) (type : BoundType) (c : List ℕ) (v : Limit)
    (all : Draft) → part (with_declarations all (bound_declared type c v)) column ≡ true →
    ((is_of type && same_bytes column c) || part all column) ≡ true) where
  bound_lines-kept : Keeps (HaveBoundLines part is_of)
  bound_lines-kept before earlier item have column h =
      lines-kept Bounds (λ all. part all column) (is column) _
      (λ context all fields k. of-bounds (λ draft. part draft column) is_of column (each column) fields all k)
      before earlier item (have column) h

abbrev pub lower_of : Draft → List ℕ → Bool
lower_of all column = has_name all.lowers column

abbrev pub upper_of : Draft → List ℕ → Bool
upper_of all column = has_name all.uppers column

abbrev pub integer_of : Draft → List ℕ → Bool
integer_of all column = has_name all.integers column

abbrev pub semi_of : Draft → List ℕ → Bool
semi_of all column = has_name all.semis column

pub lower_lines-kept : Keeps (HaveBoundLines lower_of gives_lower)
lower_lines-kept = bound_lines-kept lower_of gives_lower lowers-part each
  where
    put : (column c : List ℕ) (v : Limit) (all : Draft) → has_name (with_declaration all (declare_lower c v)).lowers column ≡ true
        → (same_bytes column c || has_name all.lowers column) ≡ true
    put = grind (arith, has-put)

    each : (column : List ℕ) (type : BoundType) (c : List ℕ) (v : Limit) (all : Draft) → has_name (with_declarations all
        (bound_declared type c v)).lowers column ≡ true →
        ((gives_lower type && same_bytes column c) || has_name all.lowers column) ≡ true
    each = grind (arith, put)

pub upper_lines-kept : Keeps (HaveBoundLines upper_of gives_upper)
upper_lines-kept = bound_lines-kept upper_of gives_upper uppers-part each
  where
    put : (column c : List ℕ) (v : Limit) (all : Draft) → has_name (with_declaration all (declare_upper c v)).uppers column ≡ true
        → (same_bytes column c || has_name all.uppers column) ≡ true
    put = grind (arith, has-put)

    each : (column : List ℕ) (type : BoundType) (c : List ℕ) (v : Limit) (all : Draft) → has_name (with_declarations all
        (bound_declared type c v)).uppers column ≡ true →
        ((gives_upper type && same_bytes column c) || has_name all.uppers column) ≡ true
    each = grind (arith, put)

pub integer_lines-kept : Keeps (HaveBoundLines integer_of is_integer_type)
integer_lines-kept = bound_lines-kept integer_of is_integer_type integers-part each
  where
    put : (column c : List ℕ) (all : Draft) → has_name (with_declaration all (declare_integer c)).integers column ≡ true
        → (same_bytes column c || has_name all.integers column) ≡ true
    put = grind (arith, has-put)

    each : (column : List ℕ) (type : BoundType) (c : List ℕ) (v : Limit) (all : Draft)
        → has_name (with_declarations all (bound_declared type c v)).integers column ≡ true
        → ((is_integer_type type && same_bytes column c) || has_name all.integers column) ≡ true
    each = grind (arith, put)

pub semi_lines-kept : Keeps (HaveBoundLines semi_of is_semi_type)
semi_lines-kept = bound_lines-kept semi_of is_semi_type semis-part each
  where
    put : (column c : List ℕ) (all : Draft) → has_name (with_declaration all (declare_semi c)).semis column ≡ true
        → (same_bytes column c || has_name all.semis column) ≡ true
    put = grind (arith, has-put)

    each : (column : List ℕ) (type : BoundType) (c : List ℕ) (v : Limit) (all : Draft) → has_name (with_declarations all
        (bound_declared type c v)).semis column ≡ true →
        ((is_semi_type type && same_bytes column c) || has_name all.semis column) ≡ true
    each = grind (arith, put)
