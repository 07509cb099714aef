-- Data lines have the fields that their section requires, headers are in the order of the format; and conversely such
-- lines are well-formed.
use Rattle.mpslp_mps_sentences.proofs.Prelude
use Prelude.{arith, ◌≡◌, refl, sym, ap, ◌∙◌, List, [], ◌∷◌, ◌++◌, ℕ, Bool, true, false, cond, Option, Some, None, is_some, is_none, not}
use Prelude.{◌&&◌, ◌||◌, list_all, option_map, option_map_or, first_so, same_bytes, is_mps_name, FaultKind, those_of, both_so, nor, Draft}
use Prelude.{FaultTests, judged_by, name_tests, number_fault, is_kind, has_number_fault, number_tests, name-legal, first_test, later_tests}
use Prelude.{Fields, is_section, Pair, ValuesLine, row_shape, column_shape, is_marker_line, marker_shape, opening_word, closing_word}
use Prelude.{vector_shape, BoundLine, bound_type, bound_shape, Section, BoundType, Context, marker_word, line_column, vector_set, bound_set}
use Prelude.{literals_of, set_tests, row_line_tests, is_sos_marker, marker_word_tests, marker_tests, is_split, column_tests}
use Prelude.{columns_line_tests, vector_tests, bound_tests, typed_bound_tests, bound_line_tests, is_number, have_numbers, is_row_line}
use Prelude.{is_columns_line, is_vector_line, is_bound_line, with_declarations, LineContent, IsGood, context_of, line_declares, rules}
use Prelude.{filter_map, second_so, same_name, subst, append-nil, list_all-append, list_any-append, filter_map-append, nat_le, list_any}
use Prelude.{last_or, cons_option, or_left, or_right, back, not_so, so_not, is_nonempty, are_distinct, has, section_of_header, may_follow}
use Prelude.{Rows, Columns, EndData, seen_sections, may_begin, section_tests, header_tests, header-fresh, header-begins, said_after-push}
use Prelude.{section_rank, in_order, same_section, may_have_more, is_good_header, stray_lines, both_false, Name, ObjSense, ObjName, Rhs}
use Prelude.{Ranges, Bounds, are_good_sections}
use Rattle.mpslp_types.specs.declared.faults.FaultKind.TheVariants as kinds

-- ---- a well-formed data line has the fields that its section requires. A data line with the fields that its section
-- requires is well-formed, if its marker, its column and its set fit

-- ---- a section is determined by its keyword

some-word : (a b : List ℕ) → Some a ≡ Some b → a ≡ b
some-word a b h = cc

pub section-is : (section : Section) (o : Option Section) → is_section section o ≡ true → o ≡ Some section
section-is = grind arith

-- ---- numbers

abbrev NoFault : List (List ℕ) → Type 0
NoFault literals = (has_number_fault literals kinds.BadNumber ≡ false) × (has_number_fault literals kinds.LongNumber ≡ false)
    × (has_number_fault literals kinds.TooManyDigits ≡ false) × (has_number_fault literals kinds.ExponentRange ≡ false)

number-fine : (literal : List ℕ) (literals : List (List ℕ)) → NoFault (literal ∷ literals) → is_number literal ≡ true
number-fine = grind arith

rest-fine : (literal : List ℕ) (literals : List (List ℕ)) (kind : FaultKind) → has_number_fault (literal ∷ literals) kind ≡ false
    → has_number_fault literals kind ≡ false
rest-fine literal literals kind h = by (number_fault literal) refl
  where
    by : (o : Option FaultKind) → number_fault literal ≡ o → has_number_fault literals kind ≡ false
    by None e = grind (arith, has_number_fault)
    by (Some other) e = grind (arith, has_number_fault, is_kind, nor)

numbers-fine : (literals : List (List ℕ)) → NoFault literals → list_all is_number literals ≡ true
numbers-fine [] h = refl
numbers-fine (literal ∷ literals) (a, b, c, d) =
    grind (
      arith,
      both_so,
      number-fine,
      rest-fine,
      numbers-fine literals (
        rest-fine literal literals kinds.BadNumber a,
        rest-fine literal literals kinds.LongNumber b,
        rest-fine literal
            literals kinds.TooManyDigits c,
        rest-fine literal literals kinds.ExponentRange d,
      ),
    )

pairs-fine : (pairs : List Pair) →
    list_all is_number (literals_of pairs) ≡ list_all (λ (pair : Pair). is_number pair.literal) pairs
pairs-fine [] = refl
pairs-fine (pair ∷ pairs) = grind (arith, is_number, pairs-fine pairs)

after-numbers : (literals : List (List ℕ)) (more : FaultTests) → those_of (number_tests literals ++ more) ≡ []
    → NoFault literals × (those_of more ≡ [])
after-numbers = grind arith

after-names : (name : List ℕ) (more : FaultTests) → those_of (name_tests name ++ more) ≡ [] → those_of more ≡ []
after-names = grind arith

fine : (b : Bool) → not b ≡ false → b ≡ true
fine = grind arith

-- ---- data lines by section

something : {X : Type 0} (o : Option X) → is_none o ≡ false → is_some o ≡ true
something = grind arith

pub row-fields : (fields : Fields) → those_of (judged_by row_line_tests (row_shape fields)) ≡ [] → is_row_line fields ≡ true
row-fields = grind arith

pub numbers-of : (pairs : List Pair) (more : FaultTests) → those_of (number_tests (literals_of pairs) ++ more) ≡ [] →
    have_numbers pairs ≡ true
numbers-of = grind (arith, pairs-fine, numbers-fine, literals_of, after-numbers)

-- the tests of a line of a column after those of its name and its numbers
column-parts : (context : Context) (earlier : Draft) (line : ValuesLine) → those_of (column_tests context earlier line) ≡ []
    → (is_mps_name line.name ≡ true) × (have_numbers line.pairs ≡ true) × (is_split context earlier line.name ≡ false)
column-parts context earlier line h =
    let split = is_split context earlier line.name in
    let last : FaultTests = (split, kinds.ColumnSplit) ∷ [] in
    let numbers = number_tests (literals_of line.pairs) ++ last in
    let rest = after-names line.name numbers h in (
      name-legal line.name numbers h,
      numbers-of line.pairs last rest,
      first_test split kinds.ColumnSplit []
          (after-numbers (literals_of line.pairs) last rest).1,
    )

pub columns-fields : (context : Context) (earlier : Draft) (fields : Fields) →
    those_of (columns_line_tests context earlier fields) ≡ [] → is_columns_line fields ≡ true
columns-fields context earlier fields h = by (is_marker_line fields) h
  where
    line_of : (o : Option ValuesLine) → those_of (judged_by (column_tests context earlier) o) ≡ []
        → option_map_or (λ (line : ValuesLine). is_mps_name line.name && have_numbers line.pairs) o false ≡ true
    line_of None k = cc
    line_of (Some line) k = grind (arith, column-parts, both_so)

    marker_of : (o : Option (List ℕ)) → those_of (judged_by (marker_word_tests context) o) ≡ [] → is_some o ≡ true
    marker_of = grind arith

    by : (b : Bool) → those_of (cond b (marker_tests context fields)
        (judged_by (column_tests context earlier) (column_shape fields))) ≡ [] → cond b (is_some (marker_shape fields))
        (option_map_or (λ (line : ValuesLine). is_mps_name line.name && have_numbers line.pairs) (column_shape fields)
        false) ≡ true
    by = grind (arith, marker_of, marker_shape, later_tests, judged_by, marker_word_tests, line_of, column_shape)

-- a marker line closes the block that is open, or opens one
pub marker-fits : (context : Context) (earlier : Draft) (fields : Fields) →
    those_of (columns_line_tests context earlier fields) ≡ [] → (word : List ℕ) → marker_word fields ≡ Some word →
    same_bytes word (cond context.in_integer_part closing_word opening_word) ≡ true
marker-fits = grind arith

-- a column continues that of the line before, or begins
pub column-continues_column : (context : Context) (earlier : Draft) (fields : Fields) →
    those_of (columns_line_tests context earlier fields) ≡ [] → (name : List ℕ) → line_column fields ≡ Some name →
    is_split context earlier name ≡ false
column-continues_column context earlier fields h name = by (is_marker_line fields) h
  where
    of : (o : Option ValuesLine) → those_of (judged_by (column_tests context earlier) o) ≡ []
        → option_map (λ (line : ValuesLine). line.name) o ≡ Some name → is_split context earlier name ≡ false
    of = grind arith

    by : (b : Bool) → those_of (cond b (marker_tests context fields)
        (judged_by (column_tests context earlier) (column_shape fields))) ≡ [] →
        cond b None (option_map (λ (line : ValuesLine). line.name) (column_shape fields)) ≡ Some name →
        is_split context earlier name ≡ false
    by = grind (arith, of, column_shape)

-- ---- RHS, RANGES and BOUNDS, and their sets

-- a set other than the first
abbrev pub is_other_set : Option (List ℕ) → List ℕ → Bool
is_other_set first set = option_map_or (λ name. not (same_bytes name set)) first false

pub vector-fields : (first : Option (List ℕ)) (fields : Fields) →
    those_of (judged_by (vector_tests first) (vector_shape fields)) ≡ [] → is_vector_line fields ≡ true
vector-fields first fields h = by (vector_shape fields) h
  where
    by : (o : Option ValuesLine) → those_of (judged_by (vector_tests first) o) ≡ []
        → option_map_or (λ (line : ValuesLine). have_numbers line.pairs) o false ≡ true
    by = grind (arith, numbers-of, set_tests)

pub vector-set : (first : Option (List ℕ)) (fields : Fields) →
    those_of (judged_by (vector_tests first) (vector_shape fields)) ≡ [] → (name : List ℕ) →
    vector_set fields ≡ Some name → is_other_set first name ≡ false
vector-set first fields h name e = by (vector_shape fields) h e
  where
    by : (o : Option ValuesLine) → those_of (judged_by (vector_tests first) o) ≡ []
        → option_map (λ (line : ValuesLine). line.name) o ≡ Some name → is_other_set first name ≡ false
    by = grind (arith, some-word, first_test, after-numbers)

bound-parts : (context : Context) (line : BoundLine) → those_of (bound_tests context line) ≡ []
    → (option_map_or is_number line.literal true ≡ true) × (is_other_set context.bounds_set line.set ≡ false)
bound-parts context line h = by line.literal h
  where
    sets : FaultTests
    sets = set_tests context.bounds_set line.set

    one : (literal : List ℕ) → have_numbers (record { row = []; literal = literal } ∷ []) ≡ true → is_number literal ≡ true
    one = grind arith

    by : (o : Option (List ℕ)) → those_of (option_map_or (λ (literal : List ℕ). number_tests (literal ∷ [])) o [] ++ sets) ≡ []
        → (option_map_or is_number o true ≡ true) × (is_other_set context.bounds_set line.set ≡ false)
    by None k = grind (arith, first_test)
    by (Some literal) k = (
      one literal (numbers-of (record { row = []; literal = literal } ∷ []) sets k),
      first_test _ kinds.SecondSet [] (after-numbers (literal ∷ []) sets k).1,
    )

pub bound-fields : (context : Context) (fields : Fields) → those_of (bound_line_tests context fields) ≡ [] →
    is_bound_line fields ≡ true
bound-fields context [] h = refl
bound-fields context (letters ∷ more) h = by (bound_type letters) h
  where
    of : (o : Option BoundLine) → those_of (judged_by (bound_tests context) o) ≡ []
        → option_map_or (λ (line : BoundLine). option_map_or is_number line.literal true) o false ≡ true
    of = grind (arith, bound-parts)

    by : (o : Option BoundType) → those_of (typed_bound_tests context more o) ≡ [] →
        option_map_or (λ (type : BoundType). option_map_or
        (λ (line : BoundLine). option_map_or is_number line.literal true) (bound_shape type more) false) o false ≡ true
    by = grind (arith, of, bound_shape)

pub bound-set : (context : Context) (fields : Fields) → those_of (bound_line_tests context fields) ≡ [] → (name : List ℕ)
    → bound_set fields ≡ Some name → is_other_set context.bounds_set name ≡ false
bound-set context [] h name e = cc
bound-set context (letters ∷ more) h name e = by (bound_type letters) h e
  where
    of : (o : Option BoundLine) → those_of (judged_by (bound_tests context) o) ≡ []
        → option_map (λ (line : BoundLine). line.set) o ≡ Some name → is_other_set context.bounds_set name ≡ false
    of = grind arith

    by : (o : Option BoundType) → those_of (typed_bound_tests context more o) ≡ [] →
        option_map_or (λ (type : BoundType). option_map (λ (line : BoundLine). line.set) (bound_shape type more)) o
        None ≡ Some name → is_other_set context.bounds_set name ≡ false
    by = grind (arith, of, bound_shape)

-- ---- one more line

-- the draft after it
abbrev pub next_draft : List LineContent → Draft → LineContent → Draft
next_draft before earlier item = with_declarations earlier (line_declares (context_of before) earlier item)

-- what still holds after it
abbrev pub Keeps : (List LineContent → Draft → Type 0) → Type 0
Keeps Holds = (before : List LineContent) (earlier : Draft) (item : LineContent) → Holds before earlier
    → Holds (before ++ item ∷ []) (next_draft before earlier item)

-- and if it is well-formed
abbrev pub KeepsIfGood : (List LineContent → Draft → Type 0) → Type 0
KeepsIfGood Holds = (before : List LineContent) (earlier : Draft) (item : LineContent) → IsGood before earlier item →
    Holds before earlier → Holds (before ++ item ∷ []) (next_draft before earlier item)

-- ---- names and numbers

no-fault : (literal : List ℕ) → is_number literal ≡ true → number_fault literal ≡ None
no-fault = grind arith

no-faults : (pairs : List Pair) → have_numbers pairs ≡ true → filter_map number_fault (literals_of pairs) ≡ []
no-faults [] h = refl
no-faults (pair ∷ pairs) h = grind (arith, no-faults pairs (second_so (is_number pair.literal) (have_numbers pairs) h))

numbers-pass : (pairs : List Pair) (more : FaultTests) → have_numbers pairs ≡ true
    → those_of (number_tests (literals_of pairs) ++ more) ≡ those_of more
numbers-pass = grind (arith, no-faults)

name-passes : (name : List ℕ) (more : FaultTests) → is_mps_name name ≡ true → those_of (name_tests name ++ more) ≡ those_of more
name-passes = grind arith

-- a test that passes
passes : (b : Bool) (kind : FaultKind) (more : FaultTests) → b ≡ false → those_of ((b, kind) ∷ more) ≡ those_of more
passes = grind arith

-- ---- data lines by section

pub row-good : (fields : Fields) → is_row_line fields ≡ true → those_of (judged_by row_line_tests (row_shape fields)) ≡ []
row-good = grind arith

-- the word that opens or closes an integer block is not that of a special ordered set
no-sos : (fields : Fields) (b : Bool) (word : List ℕ) → marker_shape fields ≡ Some word
    → same_bytes word (cond b closing_word opening_word) ≡ true → is_sos_marker fields ≡ false
no-sos = search (rules, same_name)

pub columns-good : (context : Context) (earlier : Draft) (fields : Fields) → is_columns_line fields ≡ true → ((word : List ℕ)
    → marker_word fields ≡ Some word → same_bytes word (cond context.in_integer_part closing_word opening_word) ≡ true)
    → ((name : List ℕ) → line_column fields ≡ Some name → is_split context earlier name ≡ false) →
    those_of (columns_line_tests context earlier fields) ≡ []
columns-good context earlier fields h = by (is_marker_line fields) h
  where
    fits : (o : Option (List ℕ)) → marker_shape fields ≡ o → is_some o ≡ true
        → ((word : List ℕ) → o ≡ Some word → same_bytes word (cond context.in_integer_part closing_word opening_word) ≡ true)
        → those_of ((is_sos_marker fields, kinds.Sos) ∷ judged_by (marker_word_tests context) o) ≡ []
    fits = grind (arith, passes, no-sos)

    of : (o : Option ValuesLine) →
        option_map_or (λ (line : ValuesLine). is_mps_name line.name && have_numbers line.pairs) o false ≡ true
        → ((name : List ℕ) → option_map (λ (line : ValuesLine). line.name) o ≡ Some name → is_split context earlier name ≡ false)
        → those_of (judged_by (column_tests context earlier) o) ≡ []
    of None k s = cc
    of (Some line) k s = let last : FaultTests = (is_split context earlier line.name, kinds.ColumnSplit) ∷ [] in
        name-passes line.name (number_tests (literals_of line.pairs) ++ last) (first_so _ _ k)
        ∙ (numbers-pass line.pairs last (second_so _ _ k) ∙ passes (is_split context earlier line.name)
        kinds.ColumnSplit [] (s line.name refl))

    by : (b : Bool) → cond b (is_some (marker_shape fields)) (option_map_or (λ (line : ValuesLine). is_mps_name line.name
        && have_numbers line.pairs) (column_shape fields) false) ≡ true →
        ((word : List ℕ) → cond b (marker_shape fields) None ≡ Some word →
        same_bytes word (cond context.in_integer_part closing_word opening_word) ≡ true) → ((name : List ℕ) → cond b None
        (option_map (λ (line : ValuesLine). line.name) (column_shape fields)) ≡ Some name → is_split context earlier name ≡ false)
        → those_of (cond b (marker_tests context fields) (judged_by (column_tests context earlier) (column_shape fields))) ≡ []
    by = grind (arith, fits, marker_shape, of, column_shape)

pub vector-good : (first : Option (List ℕ)) (fields : Fields) → is_vector_line fields ≡ true → ((set : List ℕ)
    → vector_set fields ≡ Some set → is_other_set first set ≡ false) →
    those_of (judged_by (vector_tests first) (vector_shape fields)) ≡ []
vector-good first fields h s = by (vector_shape fields) h s
  where
    by : (o : Option ValuesLine) → option_map_or (λ (line : ValuesLine). have_numbers line.pairs) o false ≡ true
        → ((set : List ℕ) → option_map (λ (line : ValuesLine). line.name) o ≡ Some set → is_other_set first set ≡ false)
        → those_of (judged_by (vector_tests first) o) ≡ []
    by None k t = cc
    by (Some line) k t = numbers-pass line.pairs (set_tests first line.name) k
        ∙ passes (is_other_set first line.name) kinds.SecondSet [] (t line.name refl)

pub bound-good : (context : Context) (fields : Fields) → is_bound_line fields ≡ true →
    ((set : List ℕ) → bound_set fields ≡ Some set → is_other_set context.bounds_set set ≡ false) →
    those_of (bound_line_tests context fields) ≡ []
bound-good context [] h s = refl
bound-good context (letters ∷ more) h s = by (bound_type letters) h s
  where
    lit : (line : BoundLine) (o : Option (List ℕ)) → option_map_or is_number o true ≡ true →
        is_other_set context.bounds_set line.set ≡ false →
        those_of (option_map_or (λ (literal : List ℕ). number_tests (literal ∷ [])) o [] ++ set_tests
        context.bounds_set line.set) ≡ []
    lit line None k t = grind (arith, passes)
    lit line (Some literal) k t = numbers-pass (record { row = []; literal = literal } ∷ [])
        (set_tests context.bounds_set line.set) (both_so _ _ k refl) ∙ passes (is_other_set context.bounds_set line.set)
        kinds.SecondSet [] t

    of : (o : Option BoundLine) → option_map_or (λ (line : BoundLine). option_map_or is_number line.literal true) o false ≡ true
        → ((set : List ℕ) → option_map (λ (line : BoundLine). line.set) o ≡ Some set →
        is_other_set context.bounds_set set ≡ false) → those_of (judged_by (bound_tests context) o) ≡ []
    of = grind (arith, lit)

    by : (o : Option BoundType) → option_map_or (λ (type : BoundType). option_map_or
        (λ (line : BoundLine). option_map_or is_number line.literal true) (bound_shape type more) false) o false ≡ true
        → ((set : List ℕ) → option_map_or (λ (type : BoundType). option_map (λ (line : BoundLine). line.set)
        (bound_shape type more)) o None ≡ Some set → is_other_set context.bounds_set set ≡ false) →
        those_of (typed_bound_tests context more o) ≡ []
    by = grind (arith, of, bound_shape)

-- ---- well-formed headers are in the order of the format, each at most once; data lines are only in sections that take
-- data. Headers in the order of the format are well-formed

-- ---- lists of sections

some-mono : (p q : Section → Bool) (xs : List Section) → ((x : Section) → p x ≡ true → q x ≡ true) →
    list_any p xs ≡ true → list_any q xs ≡ true
some-mono p q [] h k = k
some-mono p q (x ∷ xs) h k = by (λ e. some-mono p q xs h e) (p x) refl k
  where
    by : (list_any p xs ≡ true → list_any q xs ≡ true) → (b : Bool) → p x ≡ b → (b || list_any p xs) ≡ true →
        (q x || list_any q xs) ≡ true
    by more true e f = or_left _ _ (h x e)
    by more false e f = or_right _ _ (more f)

all-where : (p q : Section → Bool) (xs : List Section) → ((x : Section) → p x ≡ false → q x ≡ true) →
    list_any p xs ≡ false → list_all q xs ≡ true
all-where p q [] h k = refl
all-where p q (x ∷ xs) h k = let parts = nor _ _ k in both_so _ _ (h x parts.0) (all-where p q xs h parts.1)

one-more : (p : Section → Bool) (xs : List Section) (x : Section) → list_any p (xs ++ x ∷ []) ≡ (list_any p xs || p x)
one-more = grind (arith, list_any-append)

in_order-more : (xs : List Section) (x : Section) → in_order xs ≡ true
    → list_all (λ (y : Section). nat_le (section_rank y) (section_rank x)) xs ≡ true → in_order (xs ++ x ∷ []) ≡ true
in_order-more [] x h k = refl
in_order-more (y ∷ xs) x h k = let test : Section → Bool = λ other. nat_le (section_rank y) (section_rank other) in
    let below = nat_le (section_rank y) (section_rank x) in
    let others = list_all (λ y. nat_le (section_rank y) (section_rank x)) xs in
    both_so _ _ (list_all-append test xs (x ∷ []) ∙ both_so _ _ (first_so _ _ h) (both_so _ _ (first_so _ _ k) refl))
    (in_order-more xs x (second_so _ _ h) (second_so _ _ k))

distinct-more : (xs : List Section) (x : Section) → are_distinct same_section xs ≡ true → list_any (same_section x) xs ≡ false
    → are_distinct same_section (xs ++ x ∷ []) ≡ true
distinct-more [] x h k = refl
distinct-more (y ∷ xs) x h k = let test : Section → Bool = λ later. same_section later y in
    let parts = nor _ _ k in
    both_so _ _ (so_not _ (one-more test xs x ∙ ap (λ b. b || same_section x y) (not_so _ (first_so _ _ h)) ∙ parts.0))
    (distinct-more xs x (second_so _ _ h) parts.1)

-- ---- places

before-rows : (x : Section) → nat_le 2 (section_rank x) ≡ false → nat_le (section_rank x) 1 ≡ true
before-rows = grind arith

up_to-rows : (x : Section) → nat_le 2 (section_rank x) ≡ false → nat_le (section_rank x) 2 ≡ true
up_to-rows = grind arith

up_to-columns : (x : Section) → nat_le 3 (section_rank x) ≡ false → nat_le (section_rank x) 3 ≡ true
up_to-columns = grind arith

up_to-end : (xs : List Section) → list_all (λ (x : Section). nat_le (section_rank x) 4) xs ≡ true
up_to-end [] = refl
up_to-end (x ∷ xs) = grind (arith, both_so, up_to-end xs)

columns-place : (x : Section) → is_section Columns (Some x) ≡ true → nat_le 2 (section_rank x) ≡ true
columns-place = grind arith

pub end-place : (x : Section) → is_section EndData (Some x) ≡ true → nat_le 3 (section_rank x) ≡ true
end-place = grind arith

-- ---- the sections that have begun

-- in order, each at most once; a later one than ROWS comes after ROWS, a later one than COLUMNS after COLUMNS
pub record AreOrdered (sections_seen : List Section) : Type 0 where
  pub order : in_order sections_seen ≡ true
  pub distinct : are_distinct same_section sections_seen ≡ true
  pub rows : list_any (λ (x : Section). nat_le 2 (section_rank x)) sections_seen ≡ true → has sections_seen Rows ≡ true
  pub columns : list_any (λ (x : Section). nat_le 3 (section_rank x)) sections_seen ≡ true → has sections_seen Columns ≡ true

pub rows-there : (sections_seen : List Section) → AreOrdered sections_seen → has sections_seen Columns ≡ true →
    has sections_seen Rows ≡ true
rows-there sections_seen o h = o.rows (some-mono _ _ sections_seen columns-place h)

pub columns-there : (sections_seen : List Section) → AreOrdered sections_seen → has sections_seen EndData ≡ true →
    has sections_seen Columns ≡ true
columns-there sections_seen o h = o.columns (some-mono _ _ sections_seen end-place h)

none-before : (sections_seen : List Section) → is_none (last_or None sections_seen) ≡ true → sections_seen ≡ []
none-before [] h = refl
none-before (x ∷ sections_seen) h = absurd (some-last x sections_seen h)
  where
    some-last : (y : Section) (ys : List Section) → is_none (last_or (Some y) ys) ≡ true → ⊥
    some-last y [] e = cc
    some-last y (z ∷ ys) e = some-last z ys e

later-false : (a b : Bool) → b ≡ false → (a || b) ≡ true → a ≡ true
later-false = grind arith

pub ordered-more : (before : List LineContent) (section : Section) → AreOrdered (seen_sections before) →
    has (seen_sections before) section ≡ false → may_begin (context_of before) section ≡ true →
    AreOrdered (seen_sections before ++ section ∷ [])
ordered-more = grind (
  arith,
  in_order-more,
  distinct-more,
  one-more,
  back,
  none-before,
  all-where,
  before-rows,
  not_so,
  up_to-rows,
  up_to-columns,
  up_to-end,
  or_left,
  rows-there,
  later-false,
  or_right,
)

pub ordered-kept : (before : List LineContent) (earlier : Draft) (item : LineContent) → IsGood before earlier item
    → AreOrdered (seen_sections before) → AreOrdered (seen_sections (before ++ item ∷ []))
ordered-kept before earlier item good o = subst AreOrdered (sym (filter_map-append section_of_header before _)) (by item good)
  where
    same : AreOrdered (seen_sections before ++ [])
    same = subst AreOrdered (sym (append-nil (seen_sections before))) o

    of : (keyword : List ℕ) (more : Fields) (s : Option Section) →
        those_of (header_tests (context_of before) earlier keyword more s) ≡ [] →
        AreOrdered (seen_sections before ++ cons_option s [])
    of keyword more None g = same
    of keyword more (Some s) g = ordered-more before s o (header-fresh (context_of before) earlier keyword more s g)
        (header-begins (context_of before) earlier keyword more s g)

    by : (x : LineContent) → IsGood before earlier x → AreOrdered (seen_sections before ++ cons_option (section_of_header x) [])
    by = grind (arith, same, of)

-- ---- what follows a keyword

pub header-follows : (context : Context) (earlier : Draft) (keyword : List ℕ) (more : Fields) (section : Section)
    → those_of (header_tests context earlier keyword more (Some section)) ≡ []
    → (may_follow section more ≡ true) × (those_of (section_tests context earlier section more) ≡ [])
header-follows = grind arith

may-have : (section : Section) (more : Fields) → may_follow section more ≡ true →
    (may_have_more section || not (is_nonempty more)) ≡ true
may-have = grind arith

pub headers-kept : (before : List LineContent) (earlier : Draft) (item : LineContent) → IsGood before earlier item
    → list_all is_good_header before ≡ true → list_all is_good_header (before ++ item ∷ []) ≡ true
headers-kept before earlier item good h = grind (arith, list_all-append, both_so, may-have, header-follows)

-- ---- no data line outside its sections

pub strays-kept : (before : List LineContent) (earlier : Draft) (item : LineContent) → IsGood before earlier item →
    stray_lines before ≡ [] → stray_lines (before ++ item ∷ []) ≡ []
strays-kept = grind (arith, said_after-push)

-- ---- one section among those of the whole

none-of : (p q : Section → Bool) (xs : List Section) → ((x : Section) → q x ≡ true → p x ≡ false) →
    list_all q xs ≡ true → list_any p xs ≡ false
none-of p q [] h k = refl
none-of p q (x ∷ xs) h k = grind (arith, both_false, none-of p q xs h (second_so (q x) (list_all q xs) k))

all-after : (q : Section → Bool) (xs : List Section) (x : Section) (more : List Section) → list_all q (xs ++ x ∷ more) ≡ true
    → (q x ≡ true) × (list_all q more ≡ true)
all-after q [] x more h = (first_so _ _ h, second_so _ _ h)
all-after q (y ∷ xs) x more h = all-after q xs x more (second_so (q y) (list_all q (xs ++ x ∷ more)) h)

none-after : (q : Section → Bool) (xs : List Section) (x : Section) (more : List Section) → list_any q (xs ++ x ∷ more) ≡ false
    → (q x ≡ false) × (list_any q more ≡ false)
none-after q [] x more h = nor _ _ h
none-after q (y ∷ xs) x more h = none-after q xs x more (nor (q y) (list_any q (xs ++ x ∷ more)) h).1

-- those before it do not have a later place, those after it not an earlier one
pub order-around : (sections_seen : List Section) (section : Section) (later : List Section) →
    in_order (sections_seen ++ section ∷ later) ≡ true →
    (list_all (λ (y : Section). nat_le (section_rank y) (section_rank section)) sections_seen ≡ true)
    × (list_all (λ (y : Section). nat_le (section_rank section) (section_rank y)) later ≡ true)
order-around [] section later h = (refl, first_so _ _ h)
order-around (x ∷ sections_seen) section later h =
    let test : Section → Bool = λ other. nat_le (section_rank x) (section_rank other) in
    let rest = order-around sections_seen section later
    (second_so (list_all test (sections_seen ++ section ∷ later)) (in_order (sections_seen ++ section ∷ later)) h) in (
      both_so _ _
          (all-after test sections_seen section later (first_so _ _ h)).0 rest.0,
      rest.1,
    )

-- none before it is of the same section
pub distinct-before : (sections_seen : List Section) (section : Section) (later : List Section)
    → are_distinct same_section (sections_seen ++ section ∷ later) ≡ true → has sections_seen section ≡ false
distinct-before [] section later h = refl
distinct-before (x ∷ sections_seen) section later h = let test : Section → Bool = λ other. same_section other x in
    let all = list_any test (sections_seen ++ section ∷ later) in both_false _ _ (none-after test sections_seen section later
    (not_so all (first_so (not all) (are_distinct same_section (sections_seen ++ section ∷ later)) h))).0
    (distinct-before sections_seen section later
    (second_so (not all) (are_distinct same_section (sections_seen ++ section ∷ later)) h))

-- ---- whether it may begin

rows-later : (x : Section) → nat_le (section_rank x) 1 ≡ true → is_section Rows (Some x) ≡ false
rows-later = grind arith

rows-earlier : (x : Section) → nat_le 3 (section_rank x) ≡ true → is_section Rows (Some x) ≡ false
rows-earlier = grind arith

columns-earlier : (x : Section) → nat_le 4 (section_rank x) ≡ true → is_section Columns (Some x) ≡ false
columns-earlier = grind arith

nothing-first : (sections_seen : List Section) → list_all (λ (y : Section). nat_le (section_rank y) 0) sections_seen ≡ true
    → has sections_seen Name ≡ false → is_none (last_or None sections_seen) ≡ true
nothing-first [] h k = refl
nothing-first (x ∷ sections_seen) h k = grind (arith, nor)

-- a section of the text that is neither this one nor after it is before it
occurs-before : (p : Section → Bool) (sections_seen : List Section) (section : Section) (later : List Section)
    → list_any p (sections_seen ++ section ∷ later) ≡ true → p section ≡ false → list_any p later ≡ false →
    list_any p sections_seen ≡ true
occurs-before = grind (arith, list_any-append, both_false)

pub begins-so : (before : List LineContent) (section : Section) (later : List Section)
    → are_good_sections (seen_sections before ++ section ∷ later) ≡ true →
    has (seen_sections before ++ section ∷ later) Rows ≡ true →
    has (seen_sections before ++ section ∷ later) Columns ≡ true → may_begin (context_of before) section ≡ true
begins-so before section later h rows columns = by section (order-around sections_seen section later
    (first_so (in_order (sections_seen ++ section ∷ later)) (are_distinct same_section (sections_seen ++ section ∷ later)) h))
    (distinct-before sections_seen section later
    (second_so (in_order (sections_seen ++ section ∷ later))
    (are_distinct same_section (sections_seen ++ section ∷ later)) h)) rows columns
  where
    sections_seen : List Section
    sections_seen = seen_sections before

    early : list_all (λ (y : Section). nat_le (section_rank y) 1) sections_seen ≡ true → not (has sections_seen Rows) ≡ true
    early o = so_not _ (none-of _ _ sections_seen rows-later o)

    late : (s : Section) → is_section Columns (Some s) ≡ false →
        list_all (λ (y : Section). nat_le 4 (section_rank y)) later ≡ true →
        has (sections_seen ++ s ∷ later) Columns ≡ true → has sections_seen Columns ≡ true
    late s e o c = occurs-before _ sections_seen s later c e (none-of _ _ later columns-earlier o)

    by : (s : Section) → (list_all (λ (y : Section). nat_le (section_rank y) (section_rank s)) sections_seen ≡ true)
        × (list_all (λ (y : Section). nat_le (section_rank s) (section_rank y)) later ≡ true) → has sections_seen s ≡ false → has
        (sections_seen ++ s ∷ later) Rows ≡ true → has (sections_seen ++ s ∷ later) Columns ≡ true →
        may_begin (context_of before) s ≡ true
    by Name o f r c = nothing-first sections_seen o.0 f
    by ObjSense o f r c = early o.0
    by ObjName o f r c = early o.0
    by Rows o f r c = refl
    by Columns o f r c = occurs-before _ sections_seen Columns later r refl (none-of _ _ later rows-earlier o.1)
    by Rhs o f r c = late Rhs refl o.1 c
    by Ranges o f r c = late Ranges refl o.1 c
    by Bounds o f r c = late Bounds refl o.1 c
    by EndData o f r c = late EndData refl o.1 c

-- ---- the tests of a header

pub header-good : (context : Context) (earlier : Draft) (keyword : List ℕ) (more : Fields) (section : Section) →
    is_some context.word_due ≡ false → has context.sections_seen section ≡ false → may_begin context section ≡ true →
    may_follow section more ≡ true → those_of (section_tests context earlier section more) ≡ [] →
    those_of (header_tests context earlier keyword more (Some section)) ≡ []
header-good = grind arith
