-- What a draft has by the lines before; the first line with an error, and the kinds for which each line is tested.
use Rattle.mpslp_mps_sentences.proofs.Prelude
use Prelude.{arith, rules, ◌≡◌, refl, sym, ap, ◌∙◌, List, [], ◌∷◌, ◌++◌, ℕ, Bool, true, false, cond, false≢true, true≢false}
use Prelude.{filter_map-append, flat_map-append, list_any-append, Option, None, is_none, is_some, not, filter_map, ◌||◌, ◌&&◌, codes}
use Prelude.{list_any, list_all, flat_map, cons_option, option_map, option_map_or, first_so, second_so, same_bytes, is_mps_name, RowType}
use Prelude.{when, head_of, is_nonempty, or_left, or_right, both_so, both_false, nor, not_so, so_not, CoefficientKey, RowDefinition}
use Prelude.{Declaration, declare_sense, declare_objective, declare_row, declare_column, declare_coefficient, declare_marked, Declarations}
use Prelude.{Draft, with_declaration, with_declarations, empty_draft, has_row, has_coefficient, more_entries, has-put, has-put_key}
use Prelude.{value_of, named-after, Fields, LineContent, data_line, begins, is_section, RowLine, Pair, ValuesLine, word_shape, row_type}
use Prelude.{column_shape, is_marker_line, Section, ObjSense, ObjName, Rows, Columns, Context, context_of, current_section, objname}
use Prelude.{fields_under, data_lines, has_section, declared_if_some, row_of_type, row_declared, coefficient_declared, column_declared}
use Prelude.{data_declared, header_declared, line_declares, never, IsGood, no_rows, rows-kept, no-rows-data, data_lines-push}
use Prelude.{has_section-push, said_after-push, objname-push, words_in, row_name, is_named, names_row, is_free_row_line}
use Prelude.{has_default_objective, has_entry_of, has_its_word, subst, append_assoc, suc, ◌+◌, ◌^◌, map, nat_tests, append-nil, map-append}
use Prelude.{Some, nat_le, nat_lt, min, length, if◌then◌else◌, option_or, kind_rank, least_kind, BuildFault, Fault, FaultKind, LineTooLong}
use Prelude.{BadByte, MissingEnd, NoColumns, those_of, draft_of, named_kinds, whole_fault, names_with, named_faults, file_fault}
use Prelude.{refusal_tests, refusals_in_turn, declaring_faults, first_fault, kind_of_build_fault, fault_on_line, is_kind, is_legal_byte}
use Prelude.{FaultTests, lesser, earlier_of, least-append, least-none, faultless, content_of, outside_comment, item_tests, line_tests}
use Prelude.{LineInContext, has_end, declared_at, tests_at, lines_in_context_after, lines_in_context, declarations_of, line_fault}
use Prelude.{first_line_fault, whole_mps_fault, item-form, IsFaultOfLine, IsInWords, judged_by, Rhs, Ranges, Bounds, section_tests}
use Prelude.{header_tests, column_tests, data_tests, section_named, skipped, header}
use Rattle.std.proofs.Common.{◌-◌}
use Rattle.mpslp_mps_sentences.proofs.WholeText.{Known, known-kept}
use Rattle.mpslp_mps_sentences.proofs.FieldsInWords.{section-is, row-fields, Keeps, KeepsIfGood, next_draft}
use Rattle.mpslp_mps_sentences.proofs.SectionsInWords.{are_unnamed, objective-kept, header-unnamed, data-unnamed, stated-words}
use Rattle.mpslp_types.specs.declared.faults.FaultKind.TheVariants as kinds

-- ---- a draft has the rows, coefficients and sense of the lines before by `TextInWords`; each row that they name
-- exists

-- ---- one line more

names_row-push : (before : List LineContent) (item : LineContent) (name : List ℕ) → names_row (before ++ item ∷ []) name
    ≡ (names_row before name || is_named name (filter_map row_name (fields_under Rows (current_section before) item)))
names_row-push = grind (arith, data_lines-push, filter_map-append, list_any-append)

-- ---- each row that a line of ROWS names exists

abbrev pub AreRowsThere : List LineContent → Draft → Type 0
AreRowsThere before earlier = (name : List ℕ) → names_row before name ≡ true → has_row earlier name ≡ true

-- a new objective keeps the other rows, if there was none
new-objective : (all : Draft) (name other : List ℕ) → is_none all.objective ≡ true → has_row all name ≡ true
    → has_row (with_declaration all (declare_objective other)) name ≡ true
new-objective = grind arith

new-row : (all : Draft) (name other : List ℕ) (form : RowDefinition) → has_row all name ≡ true
    → has_row (with_declaration all (declare_row other form)) name ≡ true
new-row = grind (arith, more_entries)

no-rows-header : (context : Context) (earlier : Draft) (more : Fields) (o : Option Section) → is_section Columns o ≡ false
    → no_rows (header_declared context earlier more o) ≡ true
no-rows-header = grind arith

rows-stay : (context : Context) (earlier : Draft) (item : LineContent) (name : List ℕ) → has_row earlier name ≡ true
    → has_row (with_declarations earlier (line_declares context earlier item)) name ≡ true
rows-stay = search (rules, new-objective, section-is, rows-kept, no-rows-header, new-row, no-rows-data)

-- what a row line declares exists
line-there : (context : Context) (earlier : Draft) (line : RowLine) (type : RowType) (name : List ℕ) →
    same_bytes name line.name ≡ true →
    has_row (with_declarations earlier (row_of_type context earlier line.name type)) name ≡ true
line-there = grind (arith, or_right, has-put, or_left)

rows_there-kept : KeepsIfGood AreRowsThere
rows_there-kept before earlier item good there name h =
    by (names_row before name) refl item good (sym (names_row-push before item name) ∙ h)
  where
    typed : (line : RowLine) (o : Option RowType) → is_some o ≡ true → same_bytes name line.name ≡ true
        → has_row (with_declarations earlier (declared_if_some (row_of_type (context_of before) earlier line.name) o)) name ≡ true
    typed = grind (arith, line-there, context_of)

    first : (b : Bool) → (b || false) ≡ true → b ≡ true
    first = grind arith

    row : (o : Option RowLine) → option_map_or (λ (line : RowLine). is_some (row_type line.letter) && is_mps_name
        line.name) o false ≡ true → is_named name (cons_option (option_map (λ (line : RowLine). line.name) o) []) ≡ true
        → has_row (with_declarations earlier (declared_if_some (row_declared (context_of before) earlier) o)) name ≡ true
    row = grind (arith, false≢true, typed, row_type, first_so, first)

    under : (fields : Fields) → IsGood before earlier (data_line fields) → (b : Bool) →
        is_section Rows (current_section before) ≡ b → is_named name (filter_map row_name (when b fields)) ≡ true
        → has_row (with_declarations earlier (line_declares (context_of before) earlier (data_line fields))) name ≡ true
    under = grind (arith, section-is, row-fields, false≢true, row)

    new : (x : LineContent) → IsGood before earlier x →
        is_named name (filter_map row_name (fields_under Rows (current_section before) x)) ≡ true →
        has_row (with_declarations earlier (line_declares (context_of before) earlier x)) name ≡ true
    new = grind (arith, false≢true, under)

    by : (b : Bool) → names_row before name ≡ b → (x : LineContent) → IsGood before earlier x
        → (b || is_named name (filter_map row_name (fields_under Rows (current_section before) x))) ≡ true
        → has_row (with_declarations earlier (line_declares (context_of before) earlier x)) name ≡ true
    by = grind (arith, rows-stay, context_of, new)

-- ---- each row that exists has a line, up to the header of COLUMNS, when the objective may be `obj`

abbrev pub HaveRowLines : List LineContent → Draft → Type 0
HaveRowLines before earlier = (name : List ℕ) → has_row earlier name ≡ true →
    (names_row before name || has_section before Columns) ≡ true

row_lines-kept : Keeps HaveRowLines
row_lines-kept = grind (
  arith,
  names_row-push,
  has_section-push,
  or_right,
  false≢true,
  has-put,
  or_left,
  rows-kept,
  no-rows-header,
  no-rows-data,
  section-is,
)

-- ---- each coefficient that exists has a line

abbrev pub declares_entry : Declaration → Bool
declares_entry (declare_coefficient _ _) = true
declares_entry _ = false

entry-kept : (all : Draft) (d : Declaration) (key : CoefficientKey) → not (declares_entry d) ≡ true
    → has_coefficient (with_declaration all d) key ≡ has_coefficient all key
entry-kept = grind arith

entries-kept : (ds : Declarations) (all : Draft) (key : CoefficientKey) → list_all (λ d. not (declares_entry d)) ds ≡ true
    → has_coefficient (with_declarations all ds) key ≡ has_coefficient all key
entries-kept [] all key h = refl
entries-kept (d ∷ ds) all key h =
    grind (
      arith,
      entry-kept,
      entries-kept ds (with_declaration all d) key
          (second_so (not (declares_entry d)) (list_all (λ d. not (declares_entry d)) ds) h),
    )

no-entries-header : (context : Context) (earlier : Draft) (more : Fields) (o : Option Section)
    → list_all (λ d. not (declares_entry d)) (header_declared context earlier more o) ≡ true
no-entries-header = grind arith

no-entries-data : (context : Context) (earlier : Draft) (fields : Fields) (o : Option Section) → is_section Columns o ≡ false
    → list_all (λ d. not (declares_entry d)) (data_declared context earlier fields o) ≡ true
no-entries-data = grind arith

-- a coefficient that exists after those of a column is one of them or existed before
own-entries : (column : List ℕ) (pairs : List Pair) (all : Draft) (key : CoefficientKey)
    → has_coefficient (with_declarations all (flat_map (coefficient_declared column) pairs)) key ≡ true
    → ((same_bytes key.column column && list_any (λ pair. same_bytes key.row pair.row) pairs) || has_coefficient all key) ≡ true
own-entries column [] all key h = or_right _ _ h
own-entries column (pair ∷ pairs) all key h =
    grind (
      arith,
      has-put_key,
      own-entries column pairs
          (with_declaration all (declare_coefficient (record { row = pair.row; column = column }) (value_of pair.literal))) key h,
    )

abbrev pub HaveEntryLines : List LineContent → Draft → Type 0
HaveEntryLines before earlier = (key : CoefficientKey) → has_coefficient earlier key ≡ true
    → list_any (has_entry_of key.column key.row) (data_lines Columns before) ≡ true

entry_lines-kept : Keeps HaveEntryLines
entry_lines-kept before earlier item have key h = ap (list_any test) (data_lines-push Columns before item)
    ∙ (list_any-append test (data_lines Columns before) (fields_under Columns (current_section before) item) ∙ by item h)
  where
    test : Fields → Bool
    test = has_entry_of key.column key.row

    lines : List Fields
    lines = data_lines Columns before

    old : (b : Bool) → has_coefficient earlier key ≡ true → (list_any test lines || b) ≡ true
    old = grind arith

    marks : (line : ValuesLine) (b : Bool) → has_coefficient (with_declarations earlier (declare_column line.name
        ∷ (cond b (declare_marked line.name ∷ []) [] ++ flat_map (coefficient_declared line.name) line.pairs))) key ≡ true
        → ((same_bytes key.column line.name && list_any (λ pair. same_bytes key.row pair.row) line.pairs) ||
        has_coefficient earlier key) ≡ true
    marks line true k = own-entries line.name line.pairs _ key k
    marks line false k = own-entries line.name line.pairs _ key k

    of : (o : Option ValuesLine) →
        has_coefficient (with_declarations earlier (declared_if_some (column_declared (context_of before)) o))
        key ≡ true → (option_map_or (λ (line : ValuesLine). same_bytes key.column line.name
        && list_any (λ pair. same_bytes key.row pair.row) line.pairs) o false || has_coefficient earlier key) ≡ true
    of = grind (arith, marks, context_of)

    line : (fields : Fields) (b : Bool) → is_marker_line fields ≡ b → has_coefficient
        (with_declarations earlier (cond b []
        (declared_if_some (column_declared (context_of before)) (column_shape fields)))) key ≡ true
        → (option_map_or (λ (line : ValuesLine). same_bytes key.column line.name && list_any (λ pair. same_bytes key.row pair.row)
        line.pairs) (cond b None (column_shape fields)) false || has_coefficient earlier key) ≡ true
    line = grind (arith, of, column_shape)

    either : (a : Bool) → (a || has_coefficient earlier key) ≡ true → (list_any test lines || (a || false)) ≡ true
    either = grind arith

    by : (x : LineContent) → has_coefficient (with_declarations earlier (line_declares (context_of before) earlier x)) key ≡ true
        → (list_any test lines || list_any test (fields_under Columns (current_section before) x)) ≡ true
    by = grind (arith, entries-kept, no-entries-header, section-is, no-entries-data, old, test, lines, either, line)

-- ---- a sense that exists is a word of OBJSENSE

abbrev pub HasSenseWord : List LineContent → Draft → Type 0
HasSenseWord before earlier = is_some earlier.sense ≡ true → has_its_word before ObjSense ≡ true

abbrev declares_sense : Declaration → Bool
declares_sense (declare_sense _) = true
declares_sense _ = false

sense-kept : (all : Draft) (d : Declaration) → not (declares_sense d) ≡ true → (with_declaration all d).sense ≡ all.sense
sense-kept = grind arith

senses-kept : (ds : Declarations) (all : Draft) → list_all (λ d. not (declares_sense d)) ds ≡ true →
    (with_declarations all ds).sense ≡ all.sense
senses-kept [] all h = refl
senses-kept (d ∷ ds) all h = grind (
  arith,
  sense-kept,
  senses-kept ds (with_declaration all d)
      (second_so (not (declares_sense d)) (list_all (λ d. not (declares_sense d)) ds) h),
)

no-senses-header : (context : Context) (earlier : Draft) (more : Fields) (o : Option Section) → is_section ObjSense o ≡ false
    → list_all (λ d. not (declares_sense d)) (header_declared context earlier more o) ≡ true
no-senses-header = grind arith

no-senses-data : (context : Context) (earlier : Draft) (fields : Fields) (o : Option Section) → is_section ObjSense o ≡ false
    → list_all (λ d. not (declares_sense d)) (data_declared context earlier fields o) ≡ true
no-senses-data = grind arith

sense_word-kept : Keeps HasSenseWord
sense_word-kept = grind (
  arith,
  said_after-push,
  flat_map-append,
  false≢true,
  section-is,
  senses-kept,
  no-senses-header,
  no-senses-data,
)

-- ---- the objective: an N row, or `obj` from the header of COLUMNS on

abbrev has_free_line : List LineContent → Bool
has_free_line before = list_any is_free_row_line (data_lines Rows before)

free_line-push : (before : List LineContent) (item : LineContent) → has_free_line (before ++ item ∷ [])
    ≡ (has_free_line before || list_any is_free_row_line (fields_under Rows (current_section before) item))
free_line-push = grind (arith, data_lines-push, list_any-append)

word-push : (section : Section) (before : List LineContent) (item : LineContent) → has_its_word before section ≡ true
    → has_its_word (before ++ item ∷ []) section ≡ true
word-push = grind (arith, said_after-push, flat_map-append, false≢true)

-- an objective that exists is an N row, or COLUMNS has begun
abbrev pub IsFreeLine : List LineContent → Draft → Type 0
IsFreeLine before earlier = is_some earlier.objective ≡ true → (has_free_line before || has_section before Columns) ≡ true

free_line-kept : Keeps IsFreeLine
free_line-kept = grind (
  arith,
  free_line-push,
  has_section-push,
  or_right,
  false≢true,
  are_unnamed,
  objective-kept,
  or_left,
  header-unnamed,
  section-is,
  data-unnamed,
)

-- an N row is the objective, or OBJNAME gives another name
abbrev pub IsFreeNamed : List LineContent → Draft → Type 0
IsFreeNamed before earlier = has_free_line before ≡ true → (is_some earlier.objective || is_some (objname before)) ≡ true

free_named-kept : Keeps IsFreeNamed
free_named-kept = grind (arith, free_line-push, or_left, named-after, or_right, objname-push, false≢true, true≢false, section-is)

-- if there is none, and OBJNAME has no word, `obj` exists from the header of COLUMNS on
abbrev pub IsDefaultThere : List LineContent → Draft → Type 0
IsDefaultThere before earlier = has_section before Columns ≡ true → has_default_objective before ≡ true →
    has_row earlier (codes "obj") ≡ true

no-word : (before : List LineContent) → has_its_word before ObjName ≡ false → objname before ≡ None
no-word before h = sym (ap head_of (stated-words None before)) ∙ none (words_in ObjName before) h
  where
    none : (words : List Fields) → is_nonempty (flat_map (λ (fields : Fields). fields) words) ≡ false →
        head_of (filter_map word_shape words) ≡ None
    none [] e = refl
    none ([] ∷ more) e = none more e
    none ((word ∷ rest) ∷ more) e = absurd (true≢false e)

default_there-kept : (before : List LineContent) (earlier : Draft) (item : LineContent) → IsFreeLine before earlier
    → IsDefaultThere before earlier → IsDefaultThere (before ++ item ∷ []) (next_draft before earlier item)
default_there-kept before earlier item free there begun default =
    by (has_section before Columns) refl item (sym (has_section-push Columns before item) ∙ begun) free_before
    (no_word item word_after)
  where
    free_before : has_free_line before ≡ false
    free_before = grind (arith, nor, free_line-push, not_so)

    word_after : has_its_word (before ++ item ∷ []) ObjName ≡ false
    word_after = grind arith

    no_word : (x : LineContent) → has_its_word (before ++ x ∷ []) ObjName ≡ false → has_its_word before ObjName ≡ false
    no_word = grind (arith, never, word-push)

    none_yet : (b : Bool) → is_some earlier.objective ≡ b → has_free_line before ≡ false → has_section before Columns ≡ false
        → is_none earlier.objective ≡ true
    none_yet = grind (arith, never, both_false, true≢false)

    declares : (o : Option Section) (more : Fields) → is_section Columns o ≡ true → is_none earlier.objective ≡ true →
        is_none (objname before)
        ≡ true → has_row (with_declarations earlier (header_declared (context_of before) earlier more o)) (codes "obj") ≡ true
    declares = grind (arith, section-is, both_so)

    by : (b : Bool) → has_section before Columns ≡ b → (x : LineContent) → (b || begins Columns x) ≡ true →
        has_free_line before ≡ false
        → has_its_word before ObjName ≡ false →
        has_row (with_declarations earlier (line_declares (context_of before) earlier x)) (codes "obj") ≡ true
    by = grind (arith, rows-stay, both_so, so_not, no-word, declares, none_yet)

-- ---- all of it

pub record Stated (before : List LineContent) (earlier : Draft) : Type 0 where
  pub known : Known before earlier
  pub rows_there : AreRowsThere before earlier
  pub row_lines : HaveRowLines before earlier
  pub entry_lines : HaveEntryLines before earlier
  pub sense_word : HasSenseWord before earlier
  pub free_line : IsFreeLine before earlier
  pub free_named : IsFreeNamed before earlier
  pub default_there : IsDefaultThere before earlier

pub none-stated : Stated [] empty_draft
none-stated = grind arith

pub stated-kept : KeepsIfGood Stated
stated-kept before earlier item good stated =
    search (
      rules,
      known-kept,
      rows_there-kept,
      row_lines-kept,
      entry_lines-kept,
      sense_word-kept,
      free_line-kept,
      free_named-kept,
      default_there-kept,
    )

-- ---- the first line of a text with an error: its kind is that of one of its tests, or of a rejected declaration. The
-- kinds of errors for which each line is tested, so that a kind determines the tests

-- ---- which tests a kind has

-- one of the tests of this kind holds
abbrev pub holds_of : FaultKind → FaultTests → Bool
holds_of kind [] = false
holds_of kind (test ∷ more) = if is_kind kind test.1 then (test.0 || holds_of kind more) else holds_of kind more

-- one of the errors of declarations has this kind
abbrev pub refused_as : FaultKind → List (Bool × BuildFault) → Bool
refused_as kind [] = false
refused_as kind (test ∷ more) = if is_kind kind (kind_of_build_fault test.1) then (test.0 || refused_as kind more)
    else refused_as kind more

abbrev pub refuses : FaultKind → Draft → Declarations → Bool
refuses kind earlier [] = false
refuses kind earlier (d ∷ ds) = refused_as kind (refusal_tests earlier d) || refuses kind (with_declaration earlier d) ds

itself : (kind : FaultKind) → is_kind kind kind ≡ true
itself = grind arith

among-least : (kinds : List FaultKind) (kind : FaultKind) → least_kind kinds ≡ Some kind → list_any (is_kind kind) kinds ≡ true
among-least [] kind h = cc
among-least (first ∷ kinds) kind h = by (least_kind kinds) (among-least kinds kind) h
  where
    here : first ≡ kind → (is_kind kind first || list_any (is_kind kind) kinds) ≡ true
    here = grind arith

    one : (a b : FaultKind) → Some a ≡ Some b → a ≡ b
    one a b e = cc

    of : (other : FaultKind) → (Some other ≡ Some kind → list_any (is_kind kind) kinds ≡ true) → (b : Bool)
        → Some (cond b other first) ≡ Some kind → (is_kind kind first || list_any (is_kind kind) kinds) ≡ true
    of other rest true e = or_right _ _ (rest e)
    of other rest false e = here (one first kind e)

    by : (o : Option FaultKind) → (o ≡ Some kind → list_any (is_kind kind) kinds ≡ true) → Some (lesser first o) ≡ Some kind
        → (is_kind kind first || list_any (is_kind kind) kinds) ≡ true
    by None rest e = here (one first kind e)
    by (Some other) rest e = of other rest (nat_lt (kind_rank other) (kind_rank first)) e

any-held : (kind : FaultKind) (tests : FaultTests) → list_any (is_kind kind) (those_of tests) ≡ holds_of kind tests
any-held kind [] = refl
any-held kind ((held, other) ∷ more) = by (any-held kind more) held (is_kind kind other) refl
  where
    by : list_any (is_kind kind) (those_of more) ≡ holds_of kind more → (b c : Bool) → is_kind kind other ≡ c
        → list_any (is_kind kind) (cond b (other ∷ those_of more) (those_of more)) ≡ cond c (b || holds_of kind more)
        (holds_of kind more)
    by = grind arith

any-refused : (kind : FaultKind) (tests : List (Bool × BuildFault))
    → list_any (is_kind kind) (map kind_of_build_fault (those_of tests)) ≡ refused_as kind tests
any-refused kind [] = refl
any-refused kind ((held, other) ∷ more) = by (any-refused kind more) held (is_kind kind (kind_of_build_fault other)) refl
  where
    by : list_any (is_kind kind) (map kind_of_build_fault (those_of more)) ≡ refused_as kind more → (b c : Bool) → is_kind kind
        (kind_of_build_fault other) ≡ c →
        list_any (is_kind kind) (map kind_of_build_fault (cond b (other ∷ those_of more) (those_of more)))
        ≡ cond c (b || refused_as kind more) (refused_as kind more)
    by = grind arith

any-declaring : (kind : FaultKind) (earlier : Draft) (ds : Declarations)
    → list_any (is_kind kind) (declaring_faults earlier ds) ≡ refuses kind earlier ds
any-declaring kind earlier [] = refl
any-declaring kind earlier (d ∷ ds) =
    grind (arith, map-append, list_any-append, any-refused, any-declaring kind (with_declaration earlier d) ds)

-- the kind of the first error of a line is that of a failing test, or of a rejected declaration
reported-by : (tests : FaultTests) (earlier : Draft) (ds : Declarations) (kind : FaultKind) →
    first_fault tests earlier ds ≡ Some kind → (holds_of kind tests || refuses kind earlier ds) ≡ true
reported-by tests earlier ds kind h = sym (list_any-append (is_kind kind) (those_of tests) (declaring_faults earlier ds)
    ∙ (ap (λ b. b || list_any (is_kind kind) (declaring_faults earlier ds)) (any-held kind tests)
    ∙ ap (λ b. holds_of kind tests || b) (any-declaring kind earlier ds))) ∙ among-least _ kind h

-- ---- kinds that come after those of the form of a line

abbrev pub is_below : FaultKind → FaultKind → Bool
is_below kind other = nat_lt (kind_rank other) (kind_rank kind)

least-passes : (p : FaultKind → Bool) (kinds : List FaultKind) → list_all p kinds ≡ true →
    option_map_or p (least_kind kinds) true ≡ true
least-passes p [] h = refl
least-passes p (kind ∷ kinds) h = grind (arith, lesser, least-passes p kinds (second_so (p kind) (list_all p kinds) h))

those-below : (kind : FaultKind) (tests : FaultTests) → list_all (λ test. is_below kind test.1) tests ≡ true
    → list_all (is_below kind) (those_of tests) ≡ true
those-below kind [] h = refl
those-below kind ((held, other) ∷ more) h =
    grind (
      arith,
      both_so,
      those-below kind more
          (second_so (is_below kind other) (list_all (λ test. is_below kind test.1) more) h),
    )

not-below : (kind other : FaultKind) → is_below kind other ≡ true → other ≡ kind → ⊥
not-below = grind arith

-- if the first error is of such a kind, no test of the form fails
pub form-holds : (tests : FaultTests) (earlier : Draft) (ds : Declarations) (kind : FaultKind)
    → list_all (λ test. is_below kind test.1) tests ≡ true → first_fault tests earlier ds ≡ Some kind → those_of tests ≡ []
form-holds tests earlier ds kind below h = by (least_kind (those_of tests)) refl
    (least-passes (is_below kind) (those_of tests) (those-below kind tests below)) (sym (least-append _ _) ∙ h)
  where
    one : (a b : FaultKind) → Some a ≡ Some b → a ≡ b
    one a b e = cc

    lower : (a b c : ℕ) → nat_lt a b ≡ true → nat_lt b c ≡ true → nat_lt a c ≡ true
    lower = grind (arith, nat_tests)

    of : (first : FaultKind) → is_below kind first ≡ true → (p : Option FaultKind) → lesser first p ≡ kind → ⊥
    of first e None k = not-below kind first e k
    of first e (Some other) k = either (nat_lt (kind_rank other) (kind_rank first)) refl k
      where
        either : (b : Bool) → nat_lt (kind_rank other) (kind_rank first) ≡ b → cond b other first ≡ kind → ⊥
        either true f l = grind (arith, not-below, lower, kind_rank)
        either false f l = not-below kind first e l

    by : (o : Option FaultKind) → least_kind (those_of tests) ≡ o → option_map_or (is_below kind) o true ≡ true
        → earlier_of o (least_kind (declaring_faults earlier ds)) ≡ Some kind → those_of tests ≡ []
    by = grind (arith, least-none, of, one, lesser, least_kind, declaring_faults)

-- ---- the line

-- What holds of the lines before any line, and the draft that they declare, if none of them has an error.
pub record IsKept (Holds : List LineContent → Draft → Type 0) : Type 0 where
  pub none : Holds [] empty_draft
  pub kept : (before : List LineContent) (earlier : Draft) (item : LineContent) → IsGood before earlier item
      → refusals_in_turn earlier (line_declares (context_of before) earlier item) ≡ [] → Holds before earlier
      → Holds (before ++ item ∷ []) (next_draft before earlier item)

-- what is known of the line, and of those before it
pub record Faulted (Holds : List LineContent → Draft → Type 0) (ls : List (List ℕ)) (before : List LineContent) (n : ℕ)
    (fault : Fault) : Type 0 where
  pub front : List (List ℕ)
  pub line : List ℕ
  pub later : List (List ℕ)
  pub earlier : Draft
  pub parted : ls ≡ front ++ line ∷ later
  pub number : fault.line ≡ min (length front + n) (2 ^ 64 - 1)
  pub known : Holds (before ++ map content_of front) earlier
  pub stated : first_fault (line_tests (context_of (before ++ map content_of front)) earlier line) earlier
      (line_declares (context_of (before ++ map content_of front)) earlier (content_of line)) ≡ Some fault.kind

one-less : (m n : ℕ) → m + (n + 1) ≡ suc m + n
one-less = grind (arith)

none-before : (n : ℕ) → n ≡ 0 + n
none-before = grind (arith)

find-line : (Holds : List LineContent → Draft → Type 0) → IsKept Holds
    → (ls : List (List ℕ)) (before : List LineContent) (earlier : Draft) (n : ℕ) (fault : Fault) → Holds before earlier
    → first_line_fault n (lines_in_context_after before earlier ls) ≡ Some fault → Faulted Holds ls before n fault
find-line Holds keeps [] before earlier n fault known h = absurd cc
find-line Holds keeps (line ∷ ls) before earlier n fault known h =
    by (λ good free e. find-line Holds keeps ls _ next (n + 1) fault
    (keeps.kept before earlier (content_of line) good free known) e) (line_fault placed) refl h
  where
    placed : LineInContext
    placed = search (rules, context_of)

    next : Draft
    next = with_declarations earlier (declared_at placed)

    rest : List LineInContext
    rest = lines_in_context_after (before ++ content_of line ∷ []) next ls

    by : (IsGood before earlier (content_of line) → refusals_in_turn earlier (declared_at placed) ≡ [] →
        first_line_fault (n + 1) rest
        ≡ Some fault → Faulted Holds ls (before ++ content_of line ∷ []) (n + 1) fault) → (o : Option FaultKind) →
        line_fault placed ≡ o → option_or (option_map (fault_on_line n) o) (first_line_fault (n + 1) rest) ≡ Some
        fault → Faulted Holds (line ∷ ls) before n fault
    by find None e k =
        let fine = faultless (tests_at placed) earlier (declared_at placed) e in
        let good : IsGood before earlier (content_of line) = item-form _ earlier line fine.form in
        let found = find good fine.unrefused k in
        let same : (before ++ content_of line ∷ []) ++ map content_of found.front ≡ before
        ++ map content_of (line ∷ found.front) = append_assoc before _ (map content_of found.front) in
        record {
          front = line ∷ found.front;
          line = found.line;
          later = found.later;
          earlier = found.earlier;
          parted = ap (λ (more : List _). line ∷ more) found.parted;
          number = found.number ∙ ap (λ m. min m (2 ^ 64 - 1)) (one-less _ n);
          known = subst (λ items. Holds items found.earlier) same found.known;
          stated = subst (λ items. first_fault (line_tests (context_of items) found.earlier found.line) found.earlier
              (line_declares (context_of items) found.earlier (content_of found.line)) ≡ Some fault.kind) same found.stated;
        }
    by find (Some kind) e k =
        let same : fault_on_line n kind ≡ fault = cc in
        let none = sym (append-nil before) in
        record {
          front = [];
          line = line;
          later = ls;
          earlier = earlier;
          parted = refl;
          number = sym (ap (λ f. f.line) same) ∙ ap (λ m. min m (2 ^ 64 - 1)) (none-before n);
          known = subst (λ items. Holds items earlier) none known;
          stated = subst (λ items. first_fault (line_tests (context_of items) earlier line) earlier
              (line_declares (context_of items) earlier (content_of line)) ≡ Some fault.kind) none
              (e ∙ ap (λ f. Some f.kind) same);
        }

-- ---- an error of the whole file has a kind of its own

abbrev is_of_whole : FaultKind → Bool
is_of_whole kind = nat_le (kind_rank MissingEnd) (kind_rank kind)

named-whole : (all : Draft) (kinds : List FaultKind) (fault : Fault) → list_all is_of_whole kinds ≡ true
    → head_of (filter_map (λ kind. option_map (λ name. whole_fault kind (Some name)) (head_of (names_with all kind)))
    kinds) ≡ Some fault → is_of_whole fault.kind ≡ true
named-whole all [] fault h e = cc
named-whole all (kind ∷ kinds) fault h e =
    grind (arith, named-whole all kinds fault (second_so (is_of_whole kind) (list_all is_of_whole kinds) h))

of-whole : (bytes : List ℕ) (fault : Fault) → whole_mps_fault bytes ≡ Some fault → is_of_whole fault.kind ≡ true
of-whole bytes fault h = by (has_end bytes) h
  where
    all : Draft
    all = draft_of (declarations_of bytes)

    simple : (kind : FaultKind) → is_of_whole kind ≡ true → Some (whole_fault kind None) ≡ Some fault →
        is_of_whole fault.kind ≡ true
    simple = grind arith

    of : (b : Bool) → cond b (head_of (named_faults all)) (Some (whole_fault NoColumns None)) ≡ Some fault →
        is_of_whole fault.kind ≡ true
    of true e = named-whole all named_kinds fault refl e
    of false e = grind (arith, simple)

    by : (b : Bool) → cond b (file_fault all) (Some (whole_fault MissingEnd None)) ≡ Some fault → is_of_whole fault.kind ≡ true
    by = grind (arith, of, is_nonempty, simple)

-- ---- the law of a kind

-- the tests of the length and the bytes of a line are of other kinds
passed : (kind : FaultKind) (first second : Bool) (tests : FaultTests) → is_kind kind LineTooLong ≡ false →
    is_kind kind BadByte ≡ false → holds_of kind ((first, LineTooLong) ∷ (second, BadByte) ∷ tests) ≡ holds_of kind tests
passed = grind arith

-- The kind is that of a failing test of the line's form, or of a rejected declaration; only the latter if it comes after all
-- kinds of its form.
pub record IsFirst (kind : FaultKind) (before : List LineContent) (earlier : Draft) (item : LineContent) : Type 0 where
  pub stated : (holds_of kind (item_tests (context_of before) earlier item) || refuses kind earlier
      (line_declares (context_of before) earlier item)) ≡ true
  pub late : is_below kind LineTooLong ≡ true → is_below kind BadByte ≡ true
      → list_all (λ test. is_below kind test.1) (item_tests (context_of before) earlier item) ≡ true → IsGood before earlier item

-- If each line whose first error is of this kind is such a line, the law of the kind holds.
pub in-words-by : (Holds : List LineContent → Draft → Type 0) → IsKept Holds
    → (kind : FaultKind) (is_such : List LineContent → LineContent → Bool) → is_of_whole kind ≡ false →
    is_kind kind LineTooLong ≡ false → is_kind kind BadByte ≡ false →
    ((before : List LineContent) (earlier : Draft) (item : LineContent) → Holds before earlier
    → IsFirst kind before earlier item → is_such before item ≡ true) → IsInWords kind is_such
in-words-by Holds keeps kind is_such early short legal such bytes fault first k =
    by (first_line_fault 1 (lines_in_context bytes)) refl first
  where
    by : (o : Option Fault) → first_line_fault 1 (lines_in_context bytes) ≡ o → option_or o (whole_mps_fault bytes) ≡ Some fault
        → IsFaultOfLine is_such bytes fault
    by None e h = grind (arith, never, of-whole)
    by (Some other) e h =
        let same : other ≡ fault = cc in
        let found = find-line Holds keeps _ [] empty_draft 1 fault keeps.none (e ∙ ap (λ f. Some f) same) in
        let items = map content_of found.front in
        let ds = line_declares (context_of items) found.earlier (content_of found.line) in
        let tests = item_tests (context_of items) found.earlier (content_of found.line) in
        let first_is = found.stated ∙ ap (λ x. Some x) k in
        let stated = reported-by (line_tests (context_of items) found.earlier found.line) found.earlier ds kind first_is in
        record {
          before = found.front;
          line = found.line;
          later = found.later;
          text = found.parted;
          number = found.number;
          such = such items found.earlier (content_of found.line) found.known
              (record {
                stated = sym (ap (λ b. b || refuses kind found.earlier ds)
                    (passed kind _ (not (list_all is_legal_byte (outside_comment found.line))) tests short legal))
                    ∙ stated;
                late = λ a b c.
                    item-form _ found.earlier found.line
                    (form-holds (line_tests (context_of items) found.earlier found.line) found.earlier ds kind
                    (both_so _ _ a
                    (both_so _ _ b c)) first_is);
              });
        }

-- by what is known of names
pub in-words : (kind : FaultKind) (is_such : List LineContent → LineContent → Bool) → is_of_whole kind ≡ false
    → is_kind kind LineTooLong ≡ false → is_kind kind BadByte ≡ false →
    ((before : List LineContent) (earlier : Draft) (item : LineContent) → Stated before earlier →
    IsFirst kind before earlier item → is_such before item ≡ true) → IsInWords kind is_such
in-words = in-words-by Stated (record
    { none = none-stated; kept = λ before earlier item good _ stated. stated-kept before earlier item good stated })

-- ---- tests of other kinds

abbrev pub is_among : List FaultKind → FaultKind → Bool
is_among kinds kind = list_any (is_kind kind) kinds

alike : (kinds : List FaultKind) (kind other : FaultKind) → is_kind kind other ≡ true → is_among kinds other ≡ is_among kinds kind
alike = grind arith

-- if the kinds of the tests are among these, none is of another kind
pub none-holds : (ks : List FaultKind) (kind : FaultKind) (tests : FaultTests) →
    list_all (λ test. is_among ks test.1) tests ≡ true → is_among ks kind ≡ false → holds_of kind tests ≡ false
none-holds ks kind [] h k = refl
none-holds ks kind ((held, other) ∷ more) h k =
    by (none-holds ks kind more (second_so (is_among ks other) (list_all (λ test. is_among ks test.1) more) h) k)
    (is_kind kind other) refl
  where
    by : holds_of kind more ≡ false → (b : Bool) → is_kind kind other ≡ b →
        cond b (held || holds_of kind more) (holds_of kind more) ≡ false
    by = grind arith

abbrev refusal_kinds : List FaultKind
refusal_kinds = kinds.UnknownRow ∷ kinds.UnknownColumn ∷ kinds.DuplicateRow ∷ kinds.DuplicateEntry ∷ kinds.DuplicateRhs
    ∷ kinds.DuplicateRange ∷ kinds.DuplicateBound ∷ kinds.RangeOnFree ∷ kinds.SemiContinuous ∷ kinds.InfiniteValue ∷ []

refusal-among : (fault : BuildFault) → is_among refusal_kinds (kind_of_build_fault fault) ≡ true
refusal-among = grind arith

pub none-refused : (kind : FaultKind) (tests : List (Bool × BuildFault)) → is_among refusal_kinds kind ≡ false →
    refused_as kind tests ≡ false
none-refused kind [] k = refl
none-refused kind ((held, other) ∷ more) k = grind (arith, refused_as, never, refusal-among, alike, none-refused kind more k)

-- a kind that only the form of a line has
form-only : (kind : FaultKind) → is_among refusal_kinds kind ≡ false → (ds : Declarations) (earlier : Draft) →
    refuses kind earlier ds ≡ false
form-only kind k [] earlier = refl
form-only kind k (d ∷ ds) earlier =
    grind (arith, with_declaration, none-refused, form-only kind k ds (with_declaration earlier d))

pub left_only : (a b : Bool) → b ≡ false → (a || b) ≡ true → a ≡ true
left_only = grind arith

pub right_only : (a b : Bool) → a ≡ false → (a || b) ≡ true → b ≡ true
right_only = grind arith

-- ---- the kinds of each line

abbrev pub header_kinds : List FaultKind
header_kinds = kinds.Quadratic ∷ kinds.Sos ∷ kinds.Indicator ∷ kinds.UnknownSection ∷ kinds.SectionOrder ∷ kinds.SectionRepeated
    ∷ kinds.FieldCount ∷ kinds.BadType ∷ kinds.UnknownRow ∷ []

abbrev pub number_kinds : List FaultKind
number_kinds = kinds.FieldCount ∷ kinds.BadType ∷ kinds.BadNumber ∷ kinds.LongNumber ∷ kinds.TooManyDigits ∷
    kinds.ExponentRange ∷ kinds.SecondSet ∷ []

abbrev pub column_kinds : List FaultKind
column_kinds = kinds.FieldCount ∷ kinds.NameLength ∷ kinds.NameByte ∷ kinds.NameMarker ∷ kinds.BadNumber ∷ kinds.LongNumber
    ∷ kinds.TooManyDigits ∷ kinds.ExponentRange ∷ kinds.ColumnSplit ∷ []

-- of each section but COLUMNS, whose lines are of two forms
abbrev pub kinds_in : Option Section → List FaultKind
kinds_in (Some Rows) = kinds.FieldCount ∷ kinds.BadType ∷ kinds.NameLength ∷ kinds.NameByte ∷ kinds.NameMarker ∷ []
kinds_in (Some Columns) = kinds.Sos ∷ kinds.BadMarker ∷ column_kinds
kinds_in (Some Rhs) = number_kinds
kinds_in (Some Ranges) = number_kinds
kinds_in (Some Bounds) = number_kinds
kinds_in _ = kinds.SectionOrder ∷ kinds.FieldCount ∷ kinds.BadType ∷ []

abbrev pub AreAmong : List FaultKind → FaultTests → Type 0
AreAmong ks tests = list_all (λ test. is_among ks test.1) tests ≡ true

abbrev pub unknown_kinds : List FaultKind
unknown_kinds = kinds.Quadratic ∷ kinds.Sos ∷ kinds.Indicator ∷ kinds.UnknownSection ∷ []

pub unknown-among : (quadratic sos indicator : Bool) → AreAmong unknown_kinds
    ((true, cond quadratic kinds.Quadratic (cond sos kinds.Sos (cond indicator kinds.Indicator kinds.UnknownSection))) ∷ [])
unknown-among = grind arith

pub section-among : (context : Context) (earlier : Draft) (section : Section) (more : Fields)
    → AreAmong (kinds.BadType ∷ kinds.UnknownRow ∷ []) (section_tests context earlier section more)
section-among = grind arith

pub column-among : (context : Context) (earlier : Draft) (fields : Fields)
    → AreAmong column_kinds (judged_by (column_tests context earlier) (column_shape fields))
column-among = grind arith

pub data-among : (context : Context) (earlier : Draft) (fields : Fields) (o : Option Section) →
    AreAmong (kinds_in o) (data_tests context earlier fields o)
data-among context earlier fields o = grind arith

pub header-among : (context : Context) (earlier : Draft) (keyword : List ℕ) (more : Fields) (o : Option Section)
    → AreAmong header_kinds (header_tests context earlier keyword more o)
header-among = grind arith

-- a kind that no data line has
pub no-data : {X : Type 0} (kind : FaultKind) (context : Context) (earlier : Draft) (fields : Fields) (o : Option Section)
    → is_among (kinds_in o) kind ≡ false → holds_of kind (data_tests context earlier fields o) ≡ true → X
no-data kind context earlier fields o k h = absurd (never _ h (none-holds _ kind _ (data-among context earlier fields o) k))

pub no-header : {X : Type 0} (kind : FaultKind) (context : Context) (earlier : Draft) (keyword : List ℕ) (more : Fields)
    (o : Option Section) → is_among header_kinds kind ≡ false →
    holds_of kind (header_tests context earlier keyword more o) ≡ true → X
no-header kind context earlier keyword more o k h =
    absurd (never _ h (none-holds header_kinds kind _ (header-among context earlier keyword more o) k))

-- what is left of the tests of a line, if the kind is not one of a rejected declaration
pub by-form : (kind : FaultKind) (is_such : List LineContent → LineContent → Bool) → is_among refusal_kinds kind ≡ false
    → ((before : List LineContent) (earlier : Draft) (item : LineContent) → Stated before earlier
    → holds_of kind (item_tests (context_of before) earlier item) ≡ true → is_such before item ≡ true) →
    (before : List LineContent) (earlier : Draft) (item : LineContent) → Stated before earlier →
    IsFirst kind before earlier item → is_such before item ≡ true
by-form = grind (arith, left_only, holds_of, refuses, form-only)

-- and if it is none of those of the form of a line, one of its declarations is rejected
pub by-declaration-of-data : (kind : FaultKind) (before : List LineContent) (earlier : Draft) (fields : Fields)
    → ((o : Option Section) → is_among (kinds_in o) kind ≡ false) → IsFirst kind before earlier (data_line fields)
    → refuses kind earlier (data_declared (context_of before) earlier fields (current_section before)) ≡ true
by-declaration-of-data kind before earlier fields lines first =
    right_only _ _ (none-holds _ kind _ (data-among (context_of before) earlier fields _)
    (lines (current_section before))) first.stated

pub by-declaration : (kind : FaultKind) (before : List LineContent) (earlier : Draft) (item : LineContent)
    → is_among header_kinds kind ≡ false → ((o : Option Section) → is_among (kinds_in o) kind ≡ false) →
    IsFirst kind before earlier item → refuses kind earlier (line_declares (context_of before) earlier item) ≡ true
by-declaration kind before earlier skipped heads lines first = first.stated
by-declaration kind before earlier (header keyword more) heads lines first = right_only
    _ _ (none-holds header_kinds kind _ (header-among (context_of before) earlier keyword more (section_named keyword))
    heads) first.stated
by-declaration kind before earlier (data_line fields) heads lines first = grind (arith, data_line, by-declaration-of-data)
