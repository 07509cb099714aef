-- The first error of a line, by its section: that of its form, or else that of what it declares.
use Rattle.mpslp_mps.proofs.Prelude
use Prelude.{arith, ◌≡◌, refl, ℕ, List, [], ◌∷◌, Bool, true, false, cond, not, is_some, Option, Some, None, Draft, Fields, LineContent}
use Prelude.{word_shape, row_shape, column_shape, is_marker_line, marker_shape, vector_shape, bound_type, BoundType, Section, Name}
use Prelude.{ObjSense, ObjName, Rows, Columns, Rhs, Ranges, Bounds, EndData, item_tests, header_tests, word_tests, row_line_tests}
use Prelude.{is_sos_marker, marker_tests, marker_word_tests, typed_bound_tests, column_tests, vector_tests, data_tests, Context}
use Prelude.{FaultTests, judged_by, are_rising, ap, ◌∙◌, ◌++◌, map, list_all, flat_map, option_map, Number, Declarations, declare_range}
use Prelude.{rhs_declared, those_of, least_kind, FaultKind, data_line, Pair, ValuesLine, declared_if_some, rhs_line_declared}
use Prelude.{ranges_declared, data_declared, bound_line_tests, item_fault, row_value, named_values, rhs_values_declared, ranges_of}
use Prelude.{value_of, first_held, declaring_faults, declared_fault, is_from, has_kind_clash, form-first, is_after_clash, clash-first}
use Prelude.{declared-first, held-among, Ok, with_declarations, next_context, ReadsContent, IsErrorOf, LineError, OutOfMemory, RowLine}
use Prelude.{header, section_named, header_declared}
use Rattle.mpslp_lines.specs.declared.errors.LineError.TheVariants.{Fault}
use Rattle.mpslp_mps.proofs.OrderLemmas.{header-apart}
use Rattle.mpslp_types.specs.declared.faults.FaultKind.TheVariants as kinds

-- ---- the tests of a line are in the order of kinds

-- tests in the order of kinds, after those of the length and the bytes of a line
abbrev pub AreRising : FaultTests → Type 0
AreRising tests = are_rising ((false, kinds.LineTooLong) ∷ (false, kinds.BadByte) ∷ tests) ≡ true

-- and so are these tests without the latter
pub rising-only : (tests : FaultTests) → AreRising tests → are_rising tests ≡ true
rising-only = grind arith

-- ---- by the shape of a line

judged-rising : {X : Type 0} (tests : X → FaultTests) (o : Option X) → ((x : X) → AreRising (tests x)) → AreRising (judged_by tests o)
judged-rising = grind arith

typed-rising : (context : Context) (more : Fields) (o : Option BoundType) → AreRising (typed_bound_tests context more o)
typed-rising = grind arith

rising-if : (b : Bool) (x y : FaultTests) → AreRising x → AreRising y → AreRising (cond b x y)
rising-if = grind arith

sense-rising : (b : Bool) (o : Option (List ℕ)) → AreRising ((b, kinds.SectionOrder) ∷ judged_by word_tests o)
sense-rising = grind arith

judged-after-order : (b : Bool) (o : Option (List ℕ)) → AreRising ((b, kinds.SectionOrder) ∷ judged_by (λ _. []) o)
judged-after-order = grind arith

marker-rising : (b : Bool) (context : Context) (o : Option (List ℕ))
    → AreRising ((b, kinds.Sos) ∷ judged_by (marker_word_tests context) o)
marker-rising = grind arith

data-after : (context : Context) (earlier : Draft) (fields : Fields) (section : Option Section)
    → AreRising (data_tests context earlier fields section)
data-after context earlier fields None = refl
data-after context earlier fields (Some Name) = refl
data-after context earlier fields (Some ObjSense) = sense-rising (not (is_some context.word_due)) (word_shape fields)
data-after context earlier fields (Some ObjName) = judged-after-order (not (is_some context.word_due)) (word_shape fields)
data-after context earlier fields (Some Rows) = judged-rising row_line_tests (row_shape fields) (λ _. refl)
data-after context earlier fields (Some Columns) =
    rising-if (is_marker_line fields) (marker_tests context fields) (judged_by (column_tests context earlier) (column_shape fields))
    (marker-rising (is_sos_marker fields) context (marker_shape fields))
    (judged-rising (column_tests context earlier) (column_shape fields) (λ _. refl))
data-after context earlier fields (Some Rhs) = judged-rising (vector_tests context.rhs_set) (vector_shape fields) (λ _. refl)
data-after context earlier fields (Some Ranges) = judged-rising (vector_tests context.ranges_set) (vector_shape fields) (λ _. refl)
data-after context earlier [] (Some Bounds) = refl
data-after context earlier (letters ∷ more) (Some Bounds) = typed-rising context more (bound_type letters)
data-after context earlier fields (Some EndData) = refl

header-after : (context : Context) (earlier : Draft) (keyword : List ℕ) (more : Fields) (section : Option Section)
    → AreRising (header_tests context earlier keyword more section)
header-after = grind arith

pub item-rising : (context : Context) (earlier : Draft) (item : LineContent) → AreRising (item_tests context earlier item)
item-rising = grind (arith, header-after)

pub data-rising : (context : Context) (earlier : Draft) (fields : Fields) (section : Option Section)
    → are_rising (data_tests context earlier fields section) ≡ true
data-rising context earlier fields section =
    rising-only (data_tests context earlier fields section) (data-after context earlier fields section)

pub header-rising : (context : Context) (earlier : Draft) (keyword : List ℕ) (more : Fields) (section : Option Section)
    → are_rising (header_tests context earlier keyword more section) ≡ true
header-rising context earlier keyword more section =
    rising-only (header_tests context earlier keyword more section) (header-after context earlier keyword more section)

-- ---- the first error of a data line, by its section

-- all kinds of the tests come before those of what is declared
abbrev pub are_early : FaultTests → Type 0
are_early tests = list_all (λ test. is_from test.1 kinds.UnknownRow) tests ≡ true

abbrev pub data_fault : Context → Draft → Fields → Option FaultKind
data_fault context earlier fields = item_fault context earlier (data_line fields)

-- an error of the form of a line, if it comes before those of what is declared, and no types of a column clash
pub data_fault-form : (context : Context) (earlier : Draft) (fields : Fields) (section : Option Section)
    (kind : FaultKind) → context.section ≡ section
    → are_early (data_tests context earlier fields section)
    → has_kind_clash earlier (data_declared context earlier fields section) ≡ false
    → first_held (data_tests context earlier fields section) ≡ Some kind → data_fault context earlier fields ≡ Some kind
data_fault-form context earlier fields section kind h early apart held =
    form-first (data_tests context earlier fields context.section) kind earlier (data_declared context earlier fields context.section)
    (data-rising context earlier fields context.section)
    (ap (λ (s : Option Section). first_held (data_tests context earlier fields s)) h ∙ held)
    (held-among (λ k. is_from k kinds.UnknownRow) (data_tests context earlier fields section) kind early held)
    (ap (λ (s : Option Section). has_kind_clash earlier (data_declared context earlier fields s)) h ∙ apart)

-- a clash of the types of a column is reported before all later tests of the form of the line
pub clash-reported : (context : Context) (earlier : Draft) (fields : Fields) (section : Option Section) → context.section ≡ section
    → list_all (λ test. is_after_clash test.1) (data_tests context earlier fields section) ≡ true → has_kind_clash earlier
    (data_declared context earlier fields section) ≡ true → data_fault context earlier fields ≡ Some kinds.SemiContinuous
clash-reported context earlier fields section h following clash = ap (λ s. least_kind (those_of (data_tests context earlier fields s)
    ++ declaring_faults earlier (data_declared context earlier fields s))) h ∙ clash-first (data_tests context earlier fields section)
    earlier (data_declared context earlier fields section) (data-rising context earlier fields section) following clash

-- no error of the form of the line
pub data_fault-declared : (context : Context) (earlier : Draft) (fields : Fields) (section : Option Section)
    (declarations : Declarations) → context.section ≡ section
    → first_held (data_tests context earlier fields section) ≡ None → data_declared context earlier fields section ≡ declarations
    → data_fault context earlier fields ≡ declared_fault earlier declarations
data_fault-declared context earlier fields section declarations h held is = grind (arith, declared-first, data-rising)

pub declared-is : (context : Context) (earlier : Draft) (fields : Fields) (section : Option Section) (declarations : Declarations)
    → context.section ≡ section → data_declared context earlier fields section ≡ declarations
    → data_declared context earlier fields context.section ≡ declarations
declared-is context earlier fields section declarations h is = ap (data_declared context earlier fields) h ∙ is

-- ---- lines of RHS and RANGES

pub vector-early : (first : Option (List ℕ)) (o : Option ValuesLine) → are_early (judged_by (vector_tests first) o)
vector-early first None = refl
vector-early first (Some line) = refl

sides-pairs : (earlier : Draft) (pairs : List Pair) → flat_map (λ (pair : Pair). rhs_declared earlier pair.row (value_of pair.literal))
    pairs ≡ rhs_values_declared earlier (map row_value pairs)
sides-pairs earlier [] = refl
sides-pairs earlier (pair ∷ pairs) = ap (λ more. rhs_declared earlier pair.row (value_of pair.literal) ++ more)
    (sides-pairs earlier pairs)

pub rhs_values-are : (earlier : Draft) (o : Option ValuesLine) (set : List ℕ) (values : List (List ℕ × Number))
    → option_map named_values o ≡ Some (set, values) → declared_if_some (rhs_line_declared earlier) o ≡ rhs_values_declared earlier values
rhs_values-are = grind (arith, sides-pairs)

ranges-pairs : (pairs : List Pair) → map (λ (pair : Pair). declare_range pair.row (value_of pair.literal)) pairs
    ≡ ranges_of (map row_value pairs)
ranges-pairs [] = refl
ranges-pairs (pair ∷ pairs) = ap (λ more. declare_range pair.row (value_of pair.literal) ∷ more) (ranges-pairs pairs)

pub ranges-are : (o : Option ValuesLine) (set : List ℕ) (values : List (List ℕ × Number)) → option_map named_values o ≡ Some (set, values)
    → declared_if_some ranges_declared o ≡ ranges_of values
ranges-are = grind (arith, ranges-pairs)

-- ---- lines of BOUNDS

pub bounds-early : (context : Context) (letters : List ℕ) (more : Fields) → are_early (bound_line_tests context (letters ∷ more))
bounds-early = grind arith

-- all tests of a line of BOUNDS come after that for a clash of types
pub bounds-after : (context : Context) (letters : List ℕ) (more : Fields)
    → list_all (λ test. is_after_clash test.1) (bound_line_tests context (letters ∷ more)) ≡ true
bounds-after = grind arith

-- ---- data lines that are accepted, and those that are not

-- a kind that comes before all those of what is declared
abbrev pub is_early : Bool × FaultKind → Bool
is_early test = is_from test.1 kinds.UnknownRow

-- after the form is checked, an error of it is the first error of the line
pub data-judged : (context : Context) (earlier : Draft) (fields : Fields) (section : Section) (error : LineError)
    → context.section ≡ Some section
    → list_all is_early (data_tests context earlier fields (Some section)) ≡ true → has_kind_clash earlier (data_declared context earlier
    fields (Some section)) ≡ false → IsErrorOf (first_held (data_tests context earlier fields (Some section))) error
    → IsErrorOf (data_fault context earlier fields) error
data-judged context earlier fields section (Fault kind) here early apart held =
    data_fault-form context earlier fields (Some section) kind here early apart held
data-judged context earlier fields section OutOfMemory here early apart held = tt

-- a data line that is accepted
pub data-taken : (context : Context) (earlier : Draft) (fields : Fields) (section : Section) (ds : Declarations)
    (next : Context) (later : Draft)
    → context.section ≡ Some section → first_held (data_tests context earlier fields (Some section)) ≡ None
    → data_declared context earlier fields (Some section) ≡ ds
    → declared_fault earlier ds ≡ None → next ≡ next_context context (data_line fields) → later ≡ with_declarations earlier ds
    → ReadsContent context earlier (data_line fields) (Ok tt) next later
data-taken context earlier fields section ds next later here held is fault_is step draft = grind (arith, data_fault-declared, declared-is)

-- ---- lines of OBJSENSE, OBJNAME and ROWS: the kinds of their forms come before those of what they declare

pub sense-early : (b : Bool) (o : Option (List ℕ)) → list_all is_early ((b, kinds.SectionOrder) ∷ judged_by word_tests o) ≡ true
sense-early = grind arith

pub objective-name-early : (b : Bool) (o : Option (List ℕ)) → list_all is_early ((b, kinds.SectionOrder) ∷ judged_by (λ _. []) o) ≡ true
objective-name-early = grind arith

pub row-early : (o : Option RowLine) → list_all is_early (judged_by row_line_tests o) ≡ true
row-early = grind arith

-- ---- the first error of a header: that of its form, or else that of what it declares

header-early : (context : Context) (earlier : Draft) (keyword : List ℕ) (more : Fields) (section : Option Section)
    → list_all is_early (header_tests context earlier keyword more section) ≡ true
header-early = grind arith

pub header-form : (context : Context) (earlier : Draft) (keyword : List ℕ) (more : Fields) (kind : FaultKind)
    → first_held (header_tests context earlier keyword more (section_named keyword)) ≡ Some kind
    → item_fault context earlier (header keyword more) ≡ Some kind
header-form context earlier keyword more kind held =
    let tests = header_tests context earlier keyword more (section_named keyword) in
    form-first tests kind earlier (header_declared context earlier more (section_named keyword)) (header-rising context earlier keyword
    more _) held (held-among (λ other. is_from other kinds.UnknownRow) tests kind (header-early context earlier keyword more _) held)
    (header-apart context earlier more (section_named keyword))

pub header-declares : (context : Context) (earlier : Draft) (keyword : List ℕ) (more : Fields) (section : Section)
    → section_named keyword ≡ Some section → first_held (header_tests context earlier keyword more (section_named keyword)) ≡ None
    → item_fault context earlier (header keyword more) ≡ declared_fault earlier (header_declared context earlier more (Some section))
header-declares = grind arith
