-- Lines after other lines: sections and their order, what lines declare, and clashes of the types of a column.
use Rattle.mpslp_mps.proofs.Prelude
use Prelude.{arith, ◌≡◌, refl, sym, ap, ◌∙◌, List, [], ◌∷◌, ◌++◌, append_assoc, Bool, false, append-nil, filter_map-append, list_any-append}
use Prelude.{Option, Some, None, ◌||◌, last_or, cons_option, option_or, LineContent, section_of_header, begins, is_section, has, Section}
use Prelude.{section_after, current_section, fields_under, said_after, data_lines, has_section, ℕ, true, map, ◌&&◌, not, flat_map, list_all}
use Prelude.{first_so, second_so, Declarations, Draft, with_declarations, is_nonempty, those_of, FaultKind, both_so, has_legal_length}
use Prelude.{later_tests, legal-only, content_of, outside_comment, is_legal_line, Context, context_of, line_declares, item_tests}
use Prelude.{line_tests, declared_at, is_well_formed, lines_in_context_after, false≢true, list_all-append, Number, Declaration}
use Prelude.{declare_sense, declare_objective, declare_row, declare_rhs, declare_range, declare_column, with_declaration, has_row}
use Prelude.{has_column, Sense, or_left, first_test, value_of, FaultTests, Fields, may_follow, word_shape, sense_of, vector_shape, Rows}
use Prelude.{Columns, Rhs, Ranges, Bounds, declared_if_some, sense_declared, rhs_line_declared, ranges_declared, may_begin, is_out_of_order}
use Prelude.{lacks_objective, section_tests, header_tests, cond, Ok, Err, list_any, option_map, option_map_or, Answer, first_refusal}
use Prelude.{declare_marked, declare_integer, declare_semi, is_integer, is_semi, IsMade, refusals, declared_names-from_made, when, Limit}
use Prelude.{is_kind_clash, has_kind_clash, says_no_kind, no-clash, ValuesLine, column_shape, is_marker_line, BoundLine, bound_type}
use Prelude.{bound_shape, BoundType, ObjSense, coefficient_declared, column_declared, bound_declared, bound_value, bound_line_declared}
use Prelude.{data_declared, header_declared, named_values, column_clash, type_clash, bound_clash, columns_line_declared, line_column}
use Prelude.{has-put, itself_named, more_entries}
use Rattle.mpslp_types.specs.declared.faults.FaultKind.TheVariants as kinds
use Rattle.mpslp_types.specs.declared.faults.BuildFault.TheVariants as builds

-- ---- how one more line changes what is known of the lines before

pub last_or-append : {X : Type 0} (o : Option X) (xs ys : List X) → last_or o (xs ++ ys) ≡ last_or (last_or o xs) ys
last_or-append o [] ys = refl
last_or-append o (x ∷ xs) ys = last_or-append (Some x) xs ys

last-one : (o c : Option Section) → last_or c (cons_option o []) ≡ option_or o c
last-one = grind arith

-- the section after a line: the one that it begins, or the one before
pub current_section-push : (before : List LineContent) (item : LineContent)
    → current_section (before ++ item ∷ []) ≡ option_or (section_of_header item) (current_section before)
current_section-push = grind (arith, filter_map-append, last_or-append, last-one)

pub or_false : (b : Bool) → (b || false) ≡ b
or_false = grind arith

-- sections, and optionally one more
pub has-more : (section : Section) (begun : List Section) (o : Option Section)
    → has (begun ++ cons_option o []) section ≡ (has begun section || is_section section o)
has-more = grind (arith, list_any-append, or_false)

-- a section has begun after its header
pub has_section-push : (section : Section) (before : List LineContent) (item : LineContent)
    → has_section (before ++ item ∷ []) section ≡ (has_section before section || begins section item)
has_section-push = grind (arith, filter_map-append, has-more)

pub has_section-append : (section : Section) (before items : List LineContent)
    → has_section (before ++ items) section ≡ (has_section before section || has_section items section)
has_section-append = grind (arith, filter_map-append, list_any-append)

pub has_section-cons : (section : Section) (item : LineContent) (before : List LineContent)
    → has_section (item ∷ before) section ≡ (begins section item || has_section before section)
has_section-cons = grind arith

section_after-cons : (current : Option Section) (x : LineContent) (before : List LineContent)
    → section_after current (x ∷ before) ≡ section_after (option_or (section_of_header x) current) before
section_after-cons = grind arith

-- what lines give where they are, including this one
pub said_after-push : {X : Type 0} (says : Option Section → LineContent → List X) (current : Option Section)
    (before : List LineContent) (item : LineContent)
    → said_after says current (before ++ item ∷ []) ≡ said_after says current before ++ says (section_after current before) item
said_after-push says current [] item = append-nil (says current item)
said_after-push {X} says current (x ∷ before) item =
    let next = option_or (section_of_header x) current in
    ap (λ more. says current x ++ more) (said_after-push says next before item ∙ ap (λ c. said_after says next before ++ says c item)
    (sym (section_after-cons current x before))) ∙ sym (append_assoc (says current x) (said_after says next before) _)

-- the data lines of a section, including this one if it is in the section
pub data_lines-push : (section : Section) (before : List LineContent) (item : LineContent)
    → data_lines section (before ++ item ∷ []) ≡ data_lines section before ++ fields_under section (current_section before) item
data_lines-push section before item = said_after-push (fields_under section) None before item

-- ---- lines after other lines: what they declare, and that they are well-formed

-- the errors of the form of the content of a line
abbrev pub form_faults : Context → Draft → LineContent → List FaultKind
form_faults context earlier item = those_of (item_tests context earlier item)

-- what items declare after these, which declared `earlier`; and whether they are well-formed there
abbrev pub declared_items : List LineContent → Draft → List LineContent → Declarations
declared_items before earlier [] = []
declared_items before earlier (item ∷ items) = line_declares (context_of before) earlier item
    ++ declared_items (before ++ item ∷ []) (with_declarations earlier (line_declares (context_of before) earlier item)) items

abbrev pub are_well_formed : List LineContent → Draft → List LineContent → Bool
are_well_formed before earlier [] = true
are_well_formed before earlier (item ∷ items) = not (is_nonempty (form_faults (context_of before) earlier item))
    && are_well_formed (before ++ item ∷ []) (with_declarations earlier (line_declares (context_of before) earlier item)) items

pub no_faults : (faults : List FaultKind) → not (is_nonempty faults) ≡ true → faults ≡ []
no_faults = grind arith

-- ---- lines and their contents

pub lines-declare : (before : List LineContent) (earlier : Draft) (lines : List (List ℕ))
    → flat_map declared_at (lines_in_context_after before earlier lines) ≡ declared_items before earlier (map content_of lines)
lines-declare before earlier [] = refl
lines-declare before earlier (line ∷ lines) =
    let here = line_declares (context_of before) earlier (content_of line) in
    ap (λ more. here ++ more) (lines-declare (before ++ content_of line ∷ []) (with_declarations earlier here) lines)

abbrev are_good : List LineContent → Draft → List (List ℕ) → Bool
are_good before earlier lines = list_all is_well_formed (lines_in_context_after before earlier lines)

pub item-form : (context : Context) (earlier : Draft) (line : List ℕ) → those_of (line_tests context earlier line) ≡ []
    → form_faults context earlier (content_of line) ≡ []
item-form context earlier line h = grind (arith, later_tests)

-- if lines are well-formed, so are their contents
pub items-good : (before : List LineContent) (earlier : Draft) (lines : List (List ℕ)) → are_good before earlier lines ≡ true
    → are_well_formed before earlier (map content_of lines) ≡ true
items-good before earlier [] h = refl
items-good before earlier (line ∷ lines) h =
    let item = content_of line in
    let next = with_declarations earlier (line_declares (context_of before) earlier item) in
    let forms = those_of (line_tests (context_of before) earlier line) in
    let more = are_good (before ++ item ∷ []) next lines in
    both_so _ _ (ap (λ faults. not (is_nonempty faults)) (item-form _ earlier line (no_faults forms (first_so _ _ h))))
    (items-good (before ++ item ∷ []) next lines (second_so _ _ h))

-- and conversely, if the lines have legal lengths and bytes
pub lines-good : (before : List LineContent) (earlier : Draft) (lines : List (List ℕ)) → list_all is_legal_line lines ≡ true
    → are_well_formed before earlier (map content_of lines) ≡ true → are_good before earlier lines ≡ true
lines-good before earlier [] legal h = refl
lines-good before earlier (line ∷ lines) legal h =
    let item = content_of line in
    let next = with_declarations earlier (line_declares (context_of before) earlier item) in
    let forms = form_faults (context_of before) earlier item in
    let more = are_well_formed (before ++ item ∷ []) next (map content_of lines) in
    let here = first_so _ _ legal in
    let only = legal-only line (outside_comment line) (item_tests (context_of before) earlier item)
    (first_so _ _ here) (second_so (has_legal_length line) _ here) in
    both_so _ _ (ap (λ faults. not (is_nonempty faults)) only
    ∙ first_so _ more h) (lines-good (before ++ item ∷ []) next lines (second_so _ _ legal) (second_so _ _ h))

-- ---- the order of sections in well-formed lines, and so the lines in which rows and columns are declared

-- ---- well-formed headers

abbrev tests_of_fields : Context → Draft → Fields → Section → FaultTests
tests_of_fields context earlier more section = (not (may_follow section more), kinds.FieldCount)
    ∷ section_tests context earlier section more

abbrev tests_after_order : Context → Draft → Fields → Section → FaultTests
tests_after_order context earlier more section =
    (has context.sections_seen section, kinds.SectionRepeated) ∷ tests_of_fields context earlier more section

pub header-ordered : (context : Context) (earlier : Draft) (keyword : List ℕ) (more : Fields) (section : Section)
    → those_of (header_tests context earlier keyword more (Some section)) ≡ [] → is_out_of_order context section ≡ false
header-ordered context earlier keyword more section h = first_test _ kinds.SectionOrder (tests_after_order context earlier more section) h

pub header-fresh : (context : Context) (earlier : Draft) (keyword : List ℕ) (more : Fields) (section : Section)
    → those_of (header_tests context earlier keyword more (Some section)) ≡ [] → has context.sections_seen section ≡ false
header-fresh context earlier keyword more section h = first_test _ kinds.SectionRepeated (tests_of_fields context earlier more section)
    (later_tests (is_out_of_order context section) kinds.SectionOrder (tests_after_order context earlier more section) h)

pub header-begins : (context : Context) (earlier : Draft) (keyword : List ℕ) (more : Fields) (section : Section)
    → those_of (header_tests context earlier keyword more (Some section)) ≡ [] → may_begin context section ≡ true
header-begins = grind arith

-- at COLUMNS there is a row with the name that OBJNAME gives
pub header-complete : (context : Context) (earlier : Draft) (keyword : List ℕ) (more : Fields)
    → those_of (header_tests context earlier keyword more (Some Columns)) ≡ [] → lacks_objective context earlier ≡ false
header-complete = grind arith

-- ---- a section that is complete

-- it has begun, and another one is current
pub record Past (section : Section) (before : List LineContent) : Type 0 where
  pub begun : has_section before section ≡ true
  pub left : is_section section (current_section before) ≡ false

rows-again : (context : Context) (earlier : Draft) (keyword : List ℕ) (more : Fields) (o : Option Section)
    → those_of (header_tests context earlier keyword more o) ≡ [] → is_section Rows o ≡ true → has context.sections_seen Rows ≡ false
rows-again = grind arith

columns-again : (context : Context) (earlier : Draft) (keyword : List ℕ) (more : Fields) (o : Option Section)
    → those_of (header_tests context earlier keyword more o) ≡ [] → is_section Columns o ≡ true
    → has context.sections_seen Columns ≡ false
columns-again = grind arith

stays-left : (section : Section) (o current : Option Section) → (is_section section o ≡ true → ⊥) → is_section section current ≡ false
    → is_section section (option_or o current) ≡ false
stays-left = grind arith

pub never : (b : Bool) → b ≡ true → b ≡ false → ⊥
never true h k = cc
never false h k = cc

abbrev pub IsGood : List LineContent → Draft → LineContent → Type 0
IsGood before earlier item = form_faults (context_of before) earlier item ≡ []

pub past-rows : (before : List LineContent) (earlier : Draft) (item : LineContent) → IsGood before earlier item → Past Rows before
    → Past Rows (before ++ item ∷ [])
past-rows = grind (arith, has_section-push, or_left, current_section-push, stays-left, false≢true, never, rows-again)

pub past-columns : (before : List LineContent) (earlier : Draft) (item : LineContent) → IsGood before earlier item → Past Columns before
    → Past Columns (before ++ item ∷ [])
past-columns = grind (arith, has_section-push, or_left, current_section-push, stays-left, false≢true, never, columns-again)

-- ---- the order of sections

-- a section after ROWS
abbrev pub is_late : Option Section → Bool
is_late (Some Columns) = true
is_late (Some Rhs) = true
is_late (Some Ranges) = true
is_late (Some Bounds) = true
is_late _ = false

pub record Ordered (before : List LineContent) : Type 0 where
  pub rows : has_section before Columns ≡ true → has_section before Rows ≡ true
  pub columns : is_late (current_section before) ≡ true → has_section before Columns ≡ true

pub ordered-nil : Ordered []
ordered-nil = record { rows = λ h. cc; columns = λ h. cc }

-- COLUMNS begins after ROWS; what begins after COLUMNS
columns-after : (context : Context) (earlier : Draft) (keyword : List ℕ) (more : Fields) (o : Option Section)
    → those_of (header_tests context earlier keyword more o) ≡ [] → is_section Columns o ≡ true → has context.sections_seen Rows ≡ true
columns-after = grind arith

late-after : (context : Context) (earlier : Draft) (keyword : List ℕ) (more : Fields) (o current : Option Section)
    → those_of (header_tests context earlier keyword more o) ≡ [] → (is_late current ≡ true → has context.sections_seen Columns ≡ true)
    → is_late (option_or o current) ≡ true → (has context.sections_seen Columns || is_section Columns o) ≡ true
late-after = grind arith

pub ordered-push : (before : List LineContent) (earlier : Draft) (item : LineContent) → IsGood before earlier item → Ordered before
    → Ordered (before ++ item ∷ [])
ordered-push = grind (arith, has_section-push, or_left, current_section-push, false≢true, columns-after, late-after)

-- ---- what declares rows and columns

abbrev pub declares_row : Declaration → Bool
declares_row (declare_objective _) = true
declares_row (declare_row _ _) = true
declares_row _ = false

abbrev pub declares_column : Declaration → Bool
declares_column (declare_column _) = true
declares_column _ = false

abbrev pub no_rows : Declarations → Bool
no_rows ds = list_all (λ d. not (declares_row d)) ds

abbrev pub no_columns : Declarations → Bool
no_columns ds = list_all (λ d. not (declares_column d)) ds

row-kept : (all : Draft) (d : Declaration) (r : List ℕ) → not (declares_row d) ≡ true → has_row (with_declaration all d) r ≡ has_row all r
row-kept = grind arith

pub rows-kept : (ds : Declarations) (all : Draft) (r : List ℕ) → no_rows ds ≡ true → has_row (with_declarations all ds) r ≡ has_row all r
rows-kept [] all r h = refl
rows-kept (d ∷ ds) all r h = rows-kept ds (with_declaration all d) r (second_so _ _ h) ∙ row-kept all d r (first_so _ _ h)

column-kept : (all : Draft) (d : Declaration) (c : List ℕ) → not (declares_column d) ≡ true
    → has_column (with_declaration all d) c ≡ has_column all c
column-kept = grind arith

pub columns-kept : (ds : Declarations) (all : Draft) (c : List ℕ) → no_columns ds ≡ true
    → has_column (with_declarations all ds) c ≡ has_column all c
columns-kept [] all c h = refl
columns-kept (d ∷ ds) all c h = columns-kept ds (with_declaration all d) c (second_so _ _ h) ∙ column-kept all d c (first_so _ _ h)

-- a column that is declared stays declared
stays-there : (all : Draft) (d : Declaration) (name : List ℕ) → has_column all name ≡ true
    → has_column (with_declaration all d) name ≡ true
stays-there = grind (arith, more_entries)

pub column-after : (ds : Declarations) (all : Draft) (name : List ℕ) → has_column all name ≡ true
    → has_column (with_declarations all ds) name ≡ true
column-after [] all name h = h
column-after (d ∷ ds) all name h = column-after ds (with_declaration all d) name (stays-there all d name h)

-- a line of a column declares it
pub declares-itself : (context : Context) (earlier : Draft) (fields : Fields) (name : List ℕ) → line_column fields ≡ Some name
    → has_column (with_declarations earlier (columns_line_declared context fields)) name ≡ true
declares-itself = grind (arith, column-after, has-put, or_left, itself_named)

-- ---- which lines declare none

-- the test passes for whatever an optional value declares
pub each-declared : {X : Type 0} (p : Declaration → Bool) (f : X → Declarations) (o : Option X) → ((x : X) → list_all p (f x) ≡ true)
    → list_all p (declared_if_some f o) ≡ true
each-declared p f None h = refl
each-declared p f (Some x) h = h x

pub each-flat : {X : Type 0} (p : Declaration → Bool) (f : X → Declarations) (xs : List X) → ((x : X) → list_all p (f x) ≡ true)
    → list_all p (flat_map f xs) ≡ true
each-flat p f [] h = refl
each-flat p f (x ∷ xs) h = list_all-append p _ (flat_map f xs) ∙ both_so _ _ (h x) (each-flat p f xs h)

pub each-mapped : {X : Type 0} (p : Declaration → Bool) (f : X → Declaration) (xs : List X)
    → ((x : X) → p (f x) ≡ true) → list_all p (map f xs) ≡ true
each-mapped p f [] h = refl
each-mapped p f (x ∷ xs) h = both_so _ _ (h x) (each-mapped p f xs h)

-- a sense that is declared
pub sense-passes : (p : Declaration → Bool) → ((s : Sense) → p (declare_sense s) ≡ true) → (fields : Fields)
    → list_all p (declared_if_some sense_declared (word_shape fields)) ≡ true
sense-passes p h fields = each-declared p sense_declared (word_shape fields)
    (λ word. each-declared p (λ sense. declare_sense sense ∷ []) (sense_of word) (λ s. both_so _ _ (h s) refl))

-- right-hand sides and ranges that are declared
pub sides-passes : (p : Declaration → Bool) → ((r : List ℕ) (v : Number) → p (declare_rhs r v) ≡ true)
    → (earlier : Draft) (fields : Fields)
    → list_all p (declared_if_some (rhs_line_declared earlier) (vector_shape fields)) ≡ true
sides-passes = grind arith

pub ranges-passes : (p : Declaration → Bool) → ((r : List ℕ) (v : Number) → p (declare_range r v) ≡ true) → (fields : Fields)
    → list_all p (declared_if_some ranges_declared (vector_shape fields)) ≡ true
ranges-passes p h fields =
    each-declared p ranges_declared _
    (λ line. each-mapped p _ line.pairs (λ pair. h pair.row (value_of pair.literal)))

-- ---- lines that would make a column both integer and semi-continuous: the first error of their form, and of no other
-- line

-- ---- checks by the builder

-- whether the result is that the column is of the other type; it is if and only if the column is, because then it exists
abbrev pub is_clash_answer : Answer → Bool
is_clash_answer (Ok x) = false
is_clash_answer (Err fault) = is_kind_clash fault

stated_so : (known other : Bool) → (other ≡ true → known ≡ true)
    → is_clash_answer (first_refusal (those_of ((not known, builds.UnknownColumn) ∷ (other, builds.SemiContinuous) ∷ []))) ≡ other
stated_so = grind arith

pub integer-answered : (all : Draft) (c : List ℕ) (answer : Answer) → IsMade all
    → answer ≡ first_refusal (refusals all (declare_integer c))
    → is_clash_answer answer ≡ is_semi all c
integer-answered all c answer made is = ap is_clash_answer is ∙ stated_so _ _ ((declared_names-from_made all made).semis c)

pub semi-answered : (all : Draft) (c : List ℕ) (answer : Answer) → IsMade all → answer ≡ first_refusal (refusals all (declare_semi c))
    → is_clash_answer answer ≡ is_integer all c
semi-answered all c answer made is = ap is_clash_answer is ∙ stated_so _ _ ((declared_names-from_made all made).integers c)

-- ---- what a line declares

-- declaring the type of a column clashes if the column is of the other type
kind_clash : (unknown other : Bool)
    → list_any is_kind_clash (those_of ((unknown, builds.UnknownColumn) ∷ (other, builds.SemiContinuous) ∷ []))
    ≡ other
kind_clash = grind arith

then_none : (earlier : Draft) (d : Declaration) (more : Declarations) (other : Bool) → list_any is_kind_clash (refusals earlier d) ≡ other
    → list_all says_no_kind more ≡ true → has_kind_clash earlier (d ∷ more) ≡ (other || false)
then_none = grind (arith, list_any-append, no-clash)

and_none : (b : Bool) → (b && false) ≡ false
and_none = grind arith

-- of COLUMNS
pub column-clashes : (context : Context) (earlier : Draft) (fields : Fields) → is_marker_line fields ≡ false
    → has_kind_clash earlier (data_declared context earlier fields (Some Columns)) ≡ column_clash context earlier fields
column-clashes context earlier fields plain = ap (λ b. has_kind_clash earlier
    (cond b [] (declared_if_some (column_declared context) (column_shape fields)))) plain ∙ of (column_shape fields)
  where
    front : (line : ValuesLine) (marked : Bool)
        → has_kind_clash earlier (declare_column line.name ∷ (when marked (declare_marked line.name)
        ++ flat_map (coefficient_declared line.name) line.pairs)) ≡ (marked && is_semi earlier line.name)
    front = grind (arith, then_none, kind_clash, each-flat, says_no_kind, or_false, no-clash)

    of : (o : Option ValuesLine) → has_kind_clash earlier (declared_if_some (column_declared context) o)
        ≡ (context.in_integer_part && option_map_or (λ line. is_semi earlier line.name) o false)
    of None = sym (and_none context.in_integer_part)
    of (Some line) = front line context.in_integer_part

-- the column of a line that does not clash
pub column-apart : (context : Context) (earlier : Draft) (fields : Fields) (column : List ℕ) (values : List (List ℕ × Number))
    → option_map named_values (column_shape fields) ≡ Some (column, values) → column_clash context earlier fields ≡ false
    → (context.in_integer_part && is_semi earlier column) ≡ false
column-apart = grind arith

-- of BOUNDS
type-clashes : (earlier : Draft) (type : BoundType) (c : List ℕ) (v : Limit)
    → has_kind_clash earlier (bound_declared type c v) ≡ type_clash earlier type c
type-clashes earlier type c v = grind arith

pub bound-clashes : (earlier : Draft) (fields : Fields) → has_kind_clash earlier (bound_line_declared fields) ≡ bound_clash earlier fields
bound-clashes earlier [] = refl
bound-clashes earlier (letters ∷ more) = typed (bound_type letters)
  where
    lined : (type : BoundType) (o : Option BoundLine)
        → has_kind_clash earlier (declared_if_some (λ (line : BoundLine). bound_declared type
        line.column (bound_value line)) o) ≡ option_map_or (λ line. type_clash earlier type line.column) o false
    lined type None = refl
    lined type (Some line) = type-clashes earlier type line.column _

    typed : (o : Option BoundType) → has_kind_clash earlier (declared_if_some
        (λ type. declared_if_some (λ (line : BoundLine). bound_declared type line.column (bound_value line)) (bound_shape type more)) o)
        ≡ option_map_or (λ type. option_map_or (λ line. type_clash earlier type line.column) (bound_shape type more) false) o false
    typed None = refl
    typed (Some type) = lined type (bound_shape type more)

-- the column of a bound that does not clash
pub bound-apart : (earlier : Draft) (letters : List ℕ) (more : Fields) (type : BoundType) (line : BoundLine) → bound_type letters ≡ Some
    type → bound_shape type more ≡ Some line → bound_clash earlier (letters ∷ more) ≡ false → type_clash earlier type line.column ≡ false
bound-apart = grind arith

-- in the other sections nothing clashes
pub sense-apart : (context : Context) (earlier : Draft) (fields : Fields)
    → has_kind_clash earlier (data_declared context earlier fields (Some ObjSense)) ≡ false
sense-apart context earlier fields =
    no-clash (data_declared context earlier fields (Some ObjSense)) earlier (sense-passes says_no_kind (λ s. refl) fields)

pub rows-apart : (context : Context) (earlier : Draft) (fields : Fields)
    → has_kind_clash earlier (data_declared context earlier fields (Some Rows)) ≡ false
rows-apart = grind arith

pub sides-apart : (context : Context) (earlier : Draft) (fields : Fields)
    → has_kind_clash earlier (data_declared context earlier fields (Some Rhs)) ≡ false
sides-apart context earlier fields =
    no-clash (data_declared context earlier fields (Some Rhs)) earlier (sides-passes says_no_kind (λ r v. refl) earlier fields)

pub ranges-apart : (context : Context) (earlier : Draft) (fields : Fields)
    → has_kind_clash earlier (data_declared context earlier fields (Some Ranges)) ≡ false
ranges-apart context earlier fields =
    no-clash (data_declared context earlier fields (Some Ranges)) earlier (ranges-passes says_no_kind (λ r v. refl) fields)

pub header-apart : (context : Context) (earlier : Draft) (more : Fields) (section : Option Section)
    → has_kind_clash earlier (header_declared context earlier more section) ≡ false
header-apart = grind arith
