-- Errors that depend on other lines are as `FaultsInWords` defines their kinds.
use Rattle.mpslp_mps_sentences.proofs.Prelude
use Prelude.{arith, ◌≡◌, refl, ◌∙◌, List, [], ◌∷◌, ◌++◌, ℕ, Bool, true, false, cond, map, list_all-append, Option, Some, None, not}
use Prelude.{filter_map, nat_le, ◌||◌, ◌&&◌, codes, list_any, list_all, last_or, flat_map, option_map, option_map_or, first_so, second_so}
use Prelude.{same_bytes, is_one_of, FaultKind, Limit, head_of, both_so, or_left, or_right, so_not, declare_rhs, declare_range}
use Prelude.{declare_column, declare_coefficient, declare_marked, Draft, with_declaration, has_row, has_column, is_free_row, rhs_declared}
use Prelude.{itself_named, same_name, has-put, is_kind, value_of, FaultTests, Fields, LineContent, skipped, header, data_line}
use Prelude.{section_named, is_section, Pair, ValuesLine, word_shape, column_shape, is_marker_line, vector_shape, BoundLine, bound_type}
use Prelude.{bound_shape, BoundType, Section, Name, ObjSense, Rows, Columns, Rhs, Ranges, Bounds, Context, context_of, current_section}
use Prelude.{seen_sections, has_section, lacks_objective, section_tests, header_tests, data_tests, item_tests, declared_if_some}
use Prelude.{coefficient_declared, column_declared, columns_line_declared, rhs_line_declared, ranges_declared, bound_declared, bound_value}
use Prelude.{bound_line_declared, data_declared, header_declared, IsGood, never, sense-passes, section_rank, has_named_objective, IsInWords}
use Prelude.{names_row, has_default_objective, is_row, pairs_in, names_unknown_row, bound_column, names_column, names_unknown_column}
use Prelude.{line_declares, same_section, nat_tests, is_none, is_some, RowType, is_nonempty, those_of, both_false, CoefficientKey}
use Prelude.{declare_objective, has_coefficient, has-put_key, has, RowLine, row_shape, row_type, data_lines, objname, word_due}
use Prelude.{sense_declared, row_of_type, row_declared, header-fresh, in_order, words_in, row_name, repeats_row, column_line, has_row_twice}
use Prelude.{has_entry_of, repeats_entry_of, repeats_entry, rules, false≢true, true≢false, nat_lt, nor, number_tests, judged_by, takes_word}
use Prelude.{marker_shape, opening_word, closing_word, ObjName, EndData, marker_word, line_column, bound_set, set_tests, may_begin}
use Prelude.{marker_tests, is_split, column_tests, vector_tests, bound_tests, bound_line_tests, alternate, are_together, repeats_section}
use Prelude.{comes_early, comes_late, has_its_word, is_without_word, is_closed, occurs_out_of_order, breaks_turn, is_wrong_marker}
use Prelude.{differs_from, has_second_set, is_of_second_set, splits_column}
use Rattle.mpslp_mps_sentences.proofs.DeclaredByLines.{may_refuse, none-refuse, unrefused, unrefused-header, no-one}
use Rattle.mpslp_mps_sentences.proofs.FaultedLines.{holds_of, refuses, is_below, IsFirst, in-words, is_among, none-holds, left_only}
use Rattle.mpslp_mps_sentences.proofs.FaultedLines.{header_kinds, kinds_in, unknown_kinds, unknown-among, data-among, header-among}
use Rattle.mpslp_mps_sentences.proofs.FaultedLines.{by-declaration, by-declaration-of-data, right_only, Stated, column_kinds, section-among}
use Rattle.mpslp_mps_sentences.proofs.{FaultedLines.{column-among, no-data, no-header, by-form}, FieldsInWords.AreOrdered}
use Rattle.mpslp_mps_sentences.proofs.SectionsInWords.{stated-words, missing, without_word, with_word, sense-word, marker-follows}
use Rattle.mpslp_mps_sentences.proofs.{SectionsInWords.{together-apart, columns_of, IsUnderway}, WholeText.not-split}
use Rattle.mpslp_types.specs.declared.faults.FaultKind.TheVariants as kinds

-- ---- rows and columns that a line names and the draft does not have are unknown in the sense of `FaultsInWords`. Rows
-- and coefficients that a line names again are repeated in the sense of `FaultsInWords`

-- ---- kinds after those of all forms

pub form-good : (kind : FaultKind) (before : List LineContent) (earlier : Draft) (item : LineContent)
    → is_below kind kinds.LineTooLong ≡ true → is_below kind kinds.BadByte ≡ true → list_all (is_below kind) header_kinds ≡ true
    → ((o : Option Section) → list_all (is_below kind) (kinds_in o) ≡ true) → IsFirst kind before earlier item →
    IsGood before earlier item
form-good kind before earlier item long byte heads lines first = first.late long byte (by item)
  where
    member : (ks : List FaultKind) (k : FaultKind) → list_all (is_below kind) ks ≡ true → is_among ks k ≡ true →
        is_below kind k ≡ true
    member [] k h e = cc
    member (x ∷ ks) k h e = of (is_kind k x) refl e (λ f. member ks k (second_so _ _ h) f)
      where
        of : (b : Bool) → is_kind k x ≡ b → (b || is_among ks k) ≡ true →
            (is_among ks k ≡ true → is_below kind k ≡ true) → is_below kind k ≡ true
        of = grind arith

    each : (ks : List FaultKind) (tests : FaultTests) → list_all (is_below kind) ks ≡ true
        → list_all (λ test. is_among ks test.1) tests ≡ true → list_all (λ test. is_below kind test.1) tests ≡ true
    each ks [] h e = refl
    each ks ((held, k) ∷ more) h e = both_so _ _ (member ks k h (first_so _ _ e))
        (each ks more h (second_so (is_among ks k) (list_all (λ test. is_among ks test.1) more) e))

    by : (x : LineContent) → list_all (λ test. is_below kind test.1) (item_tests (context_of before) earlier x) ≡ true
    by skipped = refl
    by (header keyword more) = each header_kinds _ heads (header-among (context_of before) earlier keyword more _)
    by (data_line fields) = each _ _ (lines (current_section before)) (data-among (context_of before) earlier fields _)

-- ---- lists

pub some : {X : Type 0} (p q : X → Bool) (xs : List X) → ((x : X) → p x ≡ true → q x ≡ true) → list_any p xs ≡ true →
    list_any q xs ≡ true
some p q [] h k = k
some p q (x ∷ xs) h k = by (λ e. some p q xs h e) (p x) refl k
  where
    by : (list_any p xs ≡ true → list_any q xs ≡ true) → (b : Bool) → p x ≡ b → (b || list_any p xs) ≡ true →
        (q x || list_any q xs) ≡ true
    by = grind arith

-- what does not exist is not named
unnamed : (a b : Bool) → (a ≡ true → b ≡ true) → not b ≡ true → not a ≡ true
unnamed = grind arith

-- ---- UnknownColumn

bounds-unknown : (type : BoundType) (column : List ℕ) (value : Limit) (all : Draft)
    → refuses kinds.UnknownColumn all (bound_declared type column value) ≡ true → not (has_column all column) ≡ true
bounds-unknown = grind arith

-- the line of a column declares it first
cells-known : (column : List ℕ) (pairs : List Pair) (all : Draft) → has_column all column ≡ true
    → refuses kinds.UnknownColumn all (flat_map (coefficient_declared column) pairs) ≡ false
cells-known column [] all h = refl
cells-known column (pair ∷ pairs) all h =
    grind (
      arith,
      refuses,
      cells-known column pairs
          (with_declaration all (declare_coefficient (record { row = pair.row; column = column }) (value_of pair.literal))) h,
    )

column-known : (context : Context) (earlier : Draft) (fields : Fields)
    → refuses kinds.UnknownColumn earlier (columns_line_declared context fields) ≡ false
column-known context earlier fields = by (is_marker_line fields)
  where
    line : (l : ValuesLine) (b : Bool) → refuses kinds.UnknownColumn (with_declaration earlier (declare_column l.name))
        (cond b (declare_marked l.name ∷ []) [] ++ flat_map (coefficient_declared l.name) l.pairs) ≡ false
    line = grind (arith, refuses, cells-known, has-put, or_left, itself_named)

    of : (o : Option ValuesLine) → refuses kinds.UnknownColumn earlier (declared_if_some (column_declared context) o) ≡ false
    of = grind (arith, line)

    by : (b : Bool) → refuses kinds.UnknownColumn earlier
        (cond b [] (declared_if_some (column_declared context) (column_shape fields))) ≡ false
    by = grind (arith, of, column_shape)

unknown-column : (before : List LineContent) (earlier : Draft) (item : LineContent) → Stated before earlier
    → IsFirst kinds.UnknownColumn before earlier item → names_unknown_column before item ≡ true
unknown-column before earlier item stated first =
    by item (by-declaration kinds.UnknownColumn before earlier item refl (λ o. grind arith) first)
  where
    bound : (fs : Fields) → refuses kinds.UnknownColumn earlier (bound_line_declared fs) ≡ true
        → option_map_or (λ name. not (names_column before name)) (bound_column fs) false ≡ true
    bound [] k = cc
    bound (letters ∷ more) k = typed (bound_type letters) k
      where
        shape : (type : BoundType) (o : Option BoundLine) → refuses kinds.UnknownColumn earlier
            (declared_if_some (λ (line : BoundLine). bound_declared type line.column (bound_value line)) o) ≡ true
            → option_map_or (λ name. not (names_column before name)) (option_map (λ (line : BoundLine). line.column) o)
            false ≡ true
        shape = grind (arith, unnamed, bounds-unknown)

        typed : (o : Option BoundType) →
            refuses kinds.UnknownColumn earlier (declared_if_some (λ (type : BoundType). declared_if_some
            (λ (line : BoundLine). bound_declared type line.column (bound_value line)) (bound_shape type more)) o) ≡ true
            → option_map_or (λ name. not (names_column before name))
            (option_map_or (λ type. option_map (λ (line : BoundLine). line.column) (bound_shape type more)) o None) false ≡ true
        typed = grind (arith, shape, bound_shape)

    other : (fields : Fields) (s : Section) → list_any (same_section s) (Name ∷ Columns ∷ Bounds ∷ []) ≡ false
        → refuses kinds.UnknownColumn earlier (data_declared (context_of before) earlier fields (Some s)) ≡ true → false ≡ true
    other = grind arith

    data_in : (fields : Fields) (o : Option Section) →
        refuses kinds.UnknownColumn earlier (data_declared (context_of before) earlier fields o) ≡ true
        → (is_section Bounds o && option_map_or (λ name. not (names_column before name)) (bound_column fields) false) ≡ true
    data_in = grind (arith, other, never, refuses, columns_line_declared, context_of, column-known, bound)

    by : (x : LineContent) → refuses kinds.UnknownColumn earlier (line_declares (context_of before) earlier x) ≡ true
        → names_unknown_column before x ≡ true
    by skipped k = k
    by (header keyword more) k = unrefused-header kinds.UnknownColumn (λ d h. grind arith) (context_of before) earlier more _ k
    by (data_line fields) k = data_in fields (current_section before) k

pub unknown-columns : IsInWords kinds.UnknownColumn names_unknown_column
unknown-columns = grind (arith, in-words, names_unknown_column, unknown-column)

-- ---- UnknownRow

-- a row of `TextInWords` exists
row-there : (before : List LineContent) (earlier : Draft) (name : List ℕ) → Stated before earlier →
    has_section before Columns ≡ true → is_row before name ≡ true → has_row earlier name ≡ true
row-there before earlier name stated begun h = by (names_row before name) refl h
  where
    by : (b : Bool) → names_row before name ≡ b → (b || (has_default_objective before && same_bytes name (codes "obj"))) ≡ true
        → has_row earlier name ≡ true
    by = search (rules, has_row, same_name, second_so, first_so, has_default_objective, same_bytes, codes)

-- rows that do not exist are not named
rows-unnamed : (before : List LineContent) (earlier : Draft) (pairs : List Pair) → Stated before earlier →
    has_section before Columns ≡ true → list_any (λ pair. not (has_row earlier pair.row)) pairs ≡ true →
    list_any (λ pair. not (is_row before pair.row)) pairs ≡ true
rows-unnamed = grind (arith, some, unnamed, row-there)

either-pair : (a c d : Bool) → (c ≡ true → d ≡ true) → ((a || false) || c) ≡ true → (a || d) ≡ true
either-pair = grind arith

cells-unknown : (column : List ℕ) (pairs : List Pair) (all : Draft) → refuses kinds.UnknownRow all
    (flat_map (coefficient_declared column) pairs) ≡ true → list_any (λ pair. not (has_row all pair.row)) pairs ≡ true
cells-unknown column [] all h = cc
cells-unknown column (pair ∷ pairs) all h =
    let next = with_declaration all (declare_coefficient (record { row = pair.row; column = column }) (value_of pair.literal)) in
    either-pair _ _ _ (cells-unknown column pairs next) h

sides-unknown : (earlier : Draft) (pairs : List Pair) (all : Draft)
    → refuses kinds.UnknownRow all (flat_map (λ (pair : Pair). rhs_declared earlier pair.row (value_of pair.literal))
    pairs) ≡ true → list_any (λ pair. not (has_row all pair.row)) pairs ≡ true
sides-unknown earlier [] all h = cc
sides-unknown earlier (pair ∷ pairs) all h = by (is_free_row earlier pair.row) (λ next e. sides-unknown earlier pairs next e) h
  where
    by : (b : Bool) → ((next : Draft) → refuses kinds.UnknownRow next (flat_map (λ (pair : Pair). rhs_declared earlier pair.row
        (value_of pair.literal)) pairs) ≡ true → list_any (λ pair. not (has_row next pair.row)) pairs ≡ true) →
        refuses kinds.UnknownRow all (cond b [] (declare_rhs pair.row (value_of pair.literal) ∷ []) ++ flat_map
        (λ (pair : Pair). rhs_declared earlier pair.row (value_of pair.literal)) pairs) ≡ true →
        (not (has_row all pair.row) || list_any (λ p. not (has_row all p.row)) pairs) ≡ true
    by = grind (arith, or_right, either-pair, refuses)

ranges-unknown : (pairs : List Pair) (all : Draft)
    → refuses kinds.UnknownRow all (map (λ (pair : Pair). declare_range pair.row (value_of pair.literal)) pairs) ≡ true
    → list_any (λ pair. not (has_row all pair.row)) pairs ≡ true
ranges-unknown [] all h = cc
ranges-unknown (pair ∷ pairs) all h = let next = with_declaration all (declare_range pair.row (value_of pair.literal)) in
    either-pair _ _ _ (ranges-unknown pairs next) h

-- the word of OBJNAME is not the name of an N row
word-unnamed : (test : List ℕ → Bool) (words : List Fields) (stated : List ℕ) →
    head_of (filter_map word_shape words) ≡ Some stated → test stated ≡ false →
    list_all test (flat_map (λ fields. fields) words) ≡ false
word-unnamed test [] stated h k = cc
word-unnamed test ([] ∷ more) stated h k = word-unnamed test more stated h k
word-unnamed test ((word ∷ []) ∷ more) stated h k = grind (arith, list_all, flat_map)
word-unnamed test ((word ∷ next ∷ rest) ∷ more) stated h k = grind (arith, list_all-append, word-unnamed test more stated h k)

objective-missing : (before : List LineContent) (earlier : Draft) → Stated before earlier
    → lacks_objective (context_of before) earlier ≡ true → not (has_named_objective before) ≡ true
objective-missing = grind (arith, so_not, word-unnamed, stated-words)

-- in a section from COLUMNS on, COLUMNS has begun
columns-begun : (before : List LineContent) (s : Section) → AreOrdered (seen_sections before) → nat_le 3 (section_rank s) ≡ true
    → current_section before ≡ Some s → has_section before Columns ≡ true
columns-begun before s ordered late e = ordered.columns (last-so (seen_sections before) e)
  where
    last-so : (sections_seen : List Section) → last_or None sections_seen ≡ Some s
        → list_any (λ (x : Section). nat_le 3 (section_rank x)) sections_seen ≡ true
    last-so [] k = cc
    last-so (x ∷ []) k = grind (arith, or_left, nat_le, section_rank)
    last-so (x ∷ y ∷ sections_seen) k = or_right _ _ (last-so (y ∷ sections_seen) k)

unknown-row : (before : List LineContent) (earlier : Draft) (item : LineContent) → Stated before earlier
    → IsFirst kinds.UnknownRow before earlier item → names_unknown_row before item ≡ true
unknown-row before earlier skipped stated h = grind (arith, skipped)
unknown-row before earlier (header keyword more) stated h = by (section_named keyword) h.stated
  where
    apart : (s : Option Section) →
        list_all (λ d. not (may_refuse kinds.UnknownRow d)) (header_declared (context_of before) earlier more s) ≡ true
    apart = grind (arith, sense-passes)

    form : (o : Option Section) → (holds_of kinds.UnknownRow (header_tests (context_of before) earlier keyword more o)
        || refuses kinds.UnknownRow earlier (header_declared (context_of before) earlier more o)) ≡ true
        → holds_of kinds.UnknownRow (header_tests (context_of before) earlier keyword more o) ≡ true
    form = grind (arith, left_only, holds_of, refuses, none-refuse, apart)

    sense : (fs : Fields) → holds_of kinds.UnknownRow (section_tests (context_of before) earlier ObjSense fs) ≡ true →
        false ≡ true
    sense = grind arith

    of : (s : Section) → holds_of kinds.UnknownRow (section_tests (context_of before) earlier s more) ≡ true
        → (is_section Columns (Some s) && not (has_named_objective before)) ≡ true
    of = grind (arith, objective-missing, left_only, sense)

    by : (o : Option Section) → (holds_of kinds.UnknownRow (header_tests (context_of before) earlier keyword more o)
        || refuses kinds.UnknownRow earlier (header_declared (context_of before) earlier more o)) ≡ true
        → (is_section Columns o && not (has_named_objective before)) ≡ true
    by = grind (arith, never, form, none-holds, unknown_kinds, header_tests, context_of, unknown-among, is_one_of, codes, of)
unknown-row before earlier (data_line fields) stated h =
    by (current_section before) refl (by-declaration-of-data kinds.UnknownRow before earlier fields (λ o. grind arith) h)
  where
    other : (s : Section) → list_any (same_section s) (Name ∷ Columns ∷ Rhs ∷ Ranges ∷ []) ≡ false
        → refuses kinds.UnknownRow earlier (data_declared (context_of before) earlier fields (Some s)) ≡ true → false ≡ true
    other = grind arith

    marks : (line : ValuesLine) (b : Bool) → refuses kinds.UnknownRow (with_declaration earlier (declare_column line.name))
        (cond b (declare_marked line.name ∷ []) [] ++ flat_map (coefficient_declared line.name) line.pairs) ≡ true
        → list_any (λ pair. not (has_row earlier pair.row)) line.pairs ≡ true
    marks = grind (arith, cells-unknown)

    column : has_section before Columns ≡ true → (b : Bool) → refuses kinds.UnknownRow earlier
        (cond b [] (declared_if_some (column_declared (context_of before)) (column_shape fields))) ≡ true → list_any (λ pair. not
        (is_row before pair.row)) (option_map_or (λ (line : ValuesLine). line.pairs) (cond b None (column_shape fields))
        []) ≡ true
    column begun true k = k
    column begun false k = of (column_shape fields) k
      where
        of : (o : Option ValuesLine) →
            refuses kinds.UnknownRow earlier (declared_if_some (column_declared (context_of before)) o) ≡ true
            → list_any (λ pair. not (is_row before pair.row)) (option_map_or (λ (line : ValuesLine). line.pairs) o []) ≡ true
        of = grind (arith, rows-unnamed, marks, context_of)

    sides : has_section before Columns ≡ true → (o : Option ValuesLine)
        → refuses kinds.UnknownRow earlier (declared_if_some (rhs_line_declared earlier) o) ≡ true
        → list_any (λ pair. not (is_row before pair.row)) (option_map_or (λ (line : ValuesLine). line.pairs) o []) ≡ true
    sides = grind (arith, rows-unnamed, sides-unknown)

    ranges : has_section before Columns ≡ true → (o : Option ValuesLine) →
        refuses kinds.UnknownRow earlier (declared_if_some ranges_declared o) ≡ true →
        list_any (λ pair. not (is_row before pair.row)) (option_map_or (λ (line : ValuesLine). line.pairs) o []) ≡ true
    ranges = grind (arith, rows-unnamed, ranges-unknown)

    begun_in : (s : Section) → nat_le 3 (section_rank s) ≡ true → current_section before ≡ Some s →
        has_section before Columns ≡ true
    begun_in = grind (arith, columns-begun)

    by : (o : Option Section) → current_section before ≡ o →
        refuses kinds.UnknownRow earlier (data_declared (context_of before) earlier fields o) ≡ true →
        list_any (λ pair. not (is_row before pair.row)) (pairs_in o fields) ≡ true
    by (Some ObjSense) e k = grind (arith, other)
    by (Some Rows) e k = other Rows refl k
    by (Some Columns) e k = column (begun_in Columns refl e) (is_marker_line fields) k
    by (Some Rhs) e k = sides (begun_in Rhs refl e) (vector_shape fields) k
    by (Some Ranges) e k = ranges (begun_in Ranges refl e) (vector_shape fields) k
    by (Some Bounds) e k = other Bounds refl k
    by o e k = grind arith

pub unknown-rows : IsInWords kinds.UnknownRow names_unknown_row
unknown-rows = grind (arith, in-words, names_unknown_row, unknown-row)

-- ---- DuplicateRow

-- up to the header of COLUMNS, each row that exists has a line of ROWS
row-named : (before : List LineContent) (earlier : Draft) (name : List ℕ) → Stated before earlier →
    has_section before Columns ≡ false → has_row earlier name ≡ true → names_row before name ≡ true
row-named = grind arith

-- in ROWS the header of COLUMNS has not come yet
pub last-place : (sections_seen : List Section) (s : Section) → in_order sections_seen ≡ true →
    last_or None sections_seen ≡ Some s →
    list_all (λ (x : Section). nat_le (section_rank x) (section_rank s)) sections_seen ≡ true
last-place [] s h k = refl
last-place (x ∷ []) s h k = grind (arith, both_so, arith, nat_tests)
last-place (x ∷ y ∷ sections_seen) s h k =
    grind (
      arith,
      both_so,
      arith,
      nat_tests,
      last-place (y ∷ sections_seen) s
          (second_so (list_all (λ other. nat_le (section_rank x) (section_rank other)) (y ∷ sections_seen))
          (in_order (y ∷ sections_seen)) h) k,
    )

pub columns-out : (sections_seen : List Section) → list_all (λ (x : Section). nat_le (section_rank x) 2) sections_seen ≡ true
    → has sections_seen Columns ≡ false
columns-out [] h = refl
columns-out (x ∷ sections_seen) h =
    grind (
      arith,
      both_false,
      columns-out sections_seen
          (second_so (nat_le (section_rank x) 2) (list_all (λ (y : Section). nat_le (section_rank y) 2) sections_seen) h),
    )

pub below-all : (kind : FaultKind) → list_all (is_below kind) (kinds_in None) ≡ true
    → list_all (is_below kind) (kinds_in (Some Rows)) ≡ true → list_all (is_below kind) (kinds_in (Some Columns)) ≡ true
    → list_all (is_below kind) (kinds_in (Some Bounds)) ≡ true → (o : Option Section) →
    list_all (is_below kind) (kinds_in o) ≡ true
below-all = grind arith

-- no test of a well-formed line fails
good-none : (kind : FaultKind) (tests : FaultTests) → those_of tests ≡ [] → holds_of kind tests ≡ false
good-none kind [] h = refl
good-none kind ((held, other) ∷ more) h = by held h (λ e. good-none kind more e)
  where
    by : (b : Bool) → cond b (other ∷ those_of more) (those_of more) ≡ [] → (those_of more ≡ [] → holds_of kind more ≡ false)
        → cond (is_kind kind other) (b || holds_of kind more) (holds_of kind more) ≡ false
    by = grind arith

-- so one of its declarations is rejected
pub good-refused : (kind : FaultKind) (before : List LineContent) (earlier : Draft) (item : LineContent) →
    IsGood before earlier item → IsFirst kind before earlier item →
    refuses kind earlier (line_declares (context_of before) earlier item) ≡ true
good-refused = grind (arith, right_only, holds_of, refuses, good-none)

-- if there is no objective, and OBJNAME gives no name, no row is of type N, and OBJNAME has no word
default-in_words : (before : List LineContent) (earlier : Draft) → Stated before earlier → is_none earlier.objective ≡ true
    → is_none (objname before) ≡ true → has_default_objective before ≡ true
default-in_words = grind (arith, both_so, so_not, never, missing, without_word, with_word, stated-words)

repeated-row : (before : List LineContent) (earlier : Draft) (item : LineContent) → Stated before earlier
    → IsFirst kinds.DuplicateRow before earlier item → repeats_row before item ≡ true
repeated-row before earlier item stated first =
    let good = form-good kinds.DuplicateRow before earlier item refl refl refl
    (below-all kinds.DuplicateRow refl refl refl refl) first in
    by item good (good-refused kinds.DuplicateRow before earlier item good first)
  where
    head : (keyword : List ℕ) (more : Fields) (o : Option Section) →
        those_of (header_tests (context_of before) earlier keyword more o) ≡ [] →
        refuses kinds.DuplicateRow earlier (header_declared (context_of before) earlier more o) ≡ true
        → (is_section Columns o && (has_default_objective before && names_row before (codes "obj"))) ≡ true
    head = grind (arith, no-one, sense-passes, may_refuse, header-fresh, refuses, both_so, default-in_words, row-named, left_only)

    other : (fields : Fields) (s : Section) → list_any (same_section s) (Name ∷ Rows ∷ []) ≡ false
        → refuses kinds.DuplicateRow earlier (data_declared (context_of before) earlier fields (Some s)) ≡ true → false ≡ true
    other = search (rules, unrefused, context_of)

    typed : (name : List ℕ) (type : RowType) →
        refuses kinds.DuplicateRow earlier (row_of_type (context_of before) earlier name type) ≡ true
        → has_row earlier name ≡ true
    typed = grind (arith, refuses)

    row : (o : Option RowLine) → has_section before Columns ≡ false
        → refuses kinds.DuplicateRow earlier (declared_if_some (row_declared (context_of before) earlier) o) ≡ true
        → option_map_or (names_row before) (option_map (λ (line : RowLine). line.name) o) false ≡ true
    row None out k = cc
    row (Some line) out k = grind (
      arith,
      row_type,
      refuses,
      declared_if_some,
      row_of_type,
      context_of,
      names_row,
      row-named,
      typed,
    )

    data_in : (fields : Fields) (o : Option Section) → current_section before ≡ o →
        refuses kinds.DuplicateRow earlier (data_declared (context_of before) earlier fields o) ≡ true →
        (is_section Rows o && option_map_or (names_row before) (row_name fields) false) ≡ true
    data_in fields (Some ObjSense) e k = grind (arith, other)
    data_in fields (Some Rows) e k =
        row (row_shape fields) (columns-out (seen_sections before)
        (last-place (seen_sections before) Rows stated.known.words.ordered.order e)) k
    data_in fields (Some Columns) e k = grind (arith, other)
    data_in fields (Some Rhs) e k = grind (arith, other)
    data_in fields (Some Ranges) e k = grind (arith, other)
    data_in fields (Some Bounds) e k = grind (arith, other)
    data_in fields o e k = grind arith

    by : (x : LineContent) → IsGood before earlier x
        → refuses kinds.DuplicateRow earlier (line_declares (context_of before) earlier x) ≡ true → repeats_row before x ≡ true
    by = grind (arith, skipped, header, head, data_line, data_in, current_section)

pub repeated-rows : IsInWords kinds.DuplicateRow repeats_row
repeated-rows = grind (arith, in-words, repeats_row, repeated-row)

-- ---- DuplicateEntry

-- one of two tests holds for some entry
some-either : {X : Type 0} (p q : X → Bool) (xs : List X) → list_any (λ x. p x || q x) xs ≡ (list_any p xs || list_any q xs)
some-either p q [] = refl
some-either p q (x ∷ xs) = grind (arith, some-either p q xs)

cells-repeat : (column : List ℕ) (pairs : List Pair) (all : Draft)
    → refuses kinds.DuplicateEntry all (flat_map (coefficient_declared column) pairs) ≡ true
    → (has_row_twice pairs || list_any (λ pair. has_coefficient all (record { row = pair.row; column = column })) pairs) ≡ true
cells-repeat column [] all h = h
cells-repeat column (pair ∷ pairs) all h = by (has_coefficient all (key pair)) refl h (λ e. cells-repeat column pairs next e)
  where
    key : Pair → CoefficientKey
    key p = record { row = p.row; column = column }

    next : Draft
    next = with_declaration all (declare_coefficient (record { row = pair.row; column = column }) (value_of pair.literal))

    now : list_any (λ p. has_coefficient next (record { row = p.row; column = column }))
        pairs ≡ (list_any (λ other. same_bytes other.row pair.row && same_bytes column column) pairs || list_any
        (λ p. has_coefficient all (record { row = p.row; column = column })) pairs)
    now = same-any pairs ∙ some-either _ _ pairs
      where
        same-any : (ps : List Pair) → list_any (λ p. has_coefficient next (record { row = p.row; column = column }))
            ps ≡ list_any (λ p. (same_bytes p.row pair.row && same_bytes column column) || has_coefficient all
            (record { row = p.row; column = column })) ps
        same-any [] = refl
        same-any (p ∷ ps) = grind (arith, list_any, has_coefficient, has-put_key, same_bytes, same-any ps)

    one_column : list_any (λ other. same_bytes other.row pair.row && same_bytes column column) pairs ≡ true
        → list_any (λ other. same_bytes other.row pair.row) pairs ≡ true
    one_column = grind (arith, some, same_bytes, first_so)

    gather : (t a b : Bool) → a ≡ list_any (λ other. same_bytes other.row pair.row && same_bytes column column) pairs
        → (t || (a || b)) ≡ true → ((list_any (λ other. same_bytes other.row pair.row) pairs || t) || b) ≡ true
    gather = grind (arith, or_left, or_right, one_column)

    by : (b : Bool) → has_coefficient all (record { row = pair.row; column = column }) ≡ b
        → ((b || false) || refuses kinds.DuplicateEntry next (flat_map (coefficient_declared column) pairs)) ≡ true
        → (refuses kinds.DuplicateEntry next (flat_map (coefficient_declared column) pairs) ≡ true
        → (has_row_twice pairs || list_any (λ p. has_coefficient next (record { row = p.row; column = column })) pairs) ≡ true)
        → ((list_any (λ other. same_bytes other.row pair.row) pairs || has_row_twice pairs)
        || (b || list_any (λ p. has_coefficient all (record { row = p.row; column = column })) pairs)) ≡ true
    by = grind (arith, or_right, gather, now)

-- a well-formed line does not declare a second sense: OBJSENSE has not begun, or has no word yet
fresh-sense : (before : List LineContent) (earlier : Draft) → Stated before earlier
    → is_nonempty (flat_map (λ fields. fields) (words_in ObjSense before)) ≡ false → is_some earlier.sense ≡ false
fresh-sense = grind arith

sense-once : (fields : Fields) (all : Draft) → is_some all.sense ≡ false
    → refuses kinds.DuplicateEntry all (declared_if_some sense_declared (word_shape fields)) ≡ false
sense-once = grind arith

-- nor a second objective
objective-once : (all : Draft) (name : List ℕ) → is_none all.objective ≡ true →
    refuses kinds.DuplicateEntry all (declare_objective name ∷ []) ≡ false
objective-once = grind arith

repeated-entry : (before : List LineContent) (earlier : Draft) (item : LineContent) → Stated before earlier
    → IsFirst kinds.DuplicateEntry before earlier item → repeats_entry before item ≡ true
repeated-entry before earlier item stated first = let good =
    form-good kinds.DuplicateEntry before earlier item refl refl refl
    (below-all kinds.DuplicateEntry refl refl refl refl) first in
    by item good (good-refused kinds.DuplicateEntry before earlier item good first)
  where
    not_begun : has_section before ObjSense ≡ false → is_some earlier.sense ≡ false
    not_begun = grind (arith, missing, fresh-sense, without_word, never, with_word)

    no_word : current_section before ≡ Some ObjSense → is_some (word_due before) ≡ true → is_some earlier.sense ≡ false
    no_word = grind (arith, missing, fresh-sense, without_word, with_word, never)

    head : (keyword : List ℕ) (more : Fields) (o : Option Section) →
        those_of (header_tests (context_of before) earlier keyword more o) ≡ [] →
        refuses kinds.DuplicateEntry earlier (header_declared (context_of before) earlier more o) ≡ true → false ≡ true
    head = grind (arith, never, refuses, sense-once, header-fresh, objective-once, not_begun)

    other : (fields : Fields) (s : Section) → list_any (same_section s) (Name ∷ ObjSense ∷ Rows ∷ Columns ∷ []) ≡ false
        → refuses kinds.DuplicateEntry earlier (data_declared (context_of before) earlier fields (Some s)) ≡ true → false ≡ true
    other = grind arith

    row : (name : List ℕ) (type : RowType) →
        refuses kinds.DuplicateEntry earlier (row_of_type (context_of before) earlier name type) ≡ true
        → false ≡ true
    row = grind (arith, refuses, never, objective-once)

    rows : (o : Option RowLine)
        → refuses kinds.DuplicateEntry earlier (declared_if_some (row_declared (context_of before) earlier) o) ≡ true →
        false ≡ true
    rows = grind (arith, refuses, row)

    -- each coefficient that exists has a line
    lines : (line : ValuesLine) (all : Draft) →
        ((key : CoefficientKey) → has_coefficient all key ≡ has_coefficient earlier key) →
        refuses kinds.DuplicateEntry all (flat_map (coefficient_declared line.name) line.pairs) ≡ true →
        repeats_entry_of before line ≡ true
    lines line all same k = of (has_row_twice line.pairs) (cells-repeat line.name line.pairs all k)
      where
        of : (b : Bool) → (b || list_any (λ pair. has_coefficient all (record { row = pair.row; column = line.name }))
            line.pairs) ≡ true → (b || list_any
            (λ pair. list_any (has_entry_of line.name pair.row) (data_lines Columns before)) line.pairs) ≡ true
        of = grind (arith, some, row)

    marks : (line : ValuesLine) (b : Bool) → refuses kinds.DuplicateEntry (with_declaration earlier (declare_column line.name))
        (cond b (declare_marked line.name ∷ []) [] ++ flat_map (coefficient_declared line.name) line.pairs) ≡ true
        → repeats_entry_of before line ≡ true
    marks = grind (arith, lines, with_declaration, declare_column, declare_marked)

    column : (fields : Fields) (b : Bool)
        → refuses kinds.DuplicateEntry earlier
        (cond b [] (declared_if_some (column_declared (context_of before)) (column_shape fields)))
        ≡ true → option_map_or (repeats_entry_of before) (cond b None (column_shape fields)) false ≡ true
    column fields true k = k
    column fields false k = of (column_shape fields) k
      where
        of : (o : Option ValuesLine) →
            refuses kinds.DuplicateEntry earlier (declared_if_some (column_declared (context_of before)) o)
            ≡ true → option_map_or (repeats_entry_of before) o false ≡ true
        of = grind (arith, marks, context_of)

    data_in : (fields : Fields) (o : Option Section) → current_section before ≡ o →
        those_of (data_tests (context_of before) earlier fields o) ≡ [] →
        refuses kinds.DuplicateEntry earlier (data_declared (context_of before) earlier fields o) ≡ true
        → (is_section Columns o && option_map_or (repeats_entry_of before) (column_line fields) false) ≡ true
    data_in = grind (
      arith,
      never,
      refuses,
      declared_if_some,
      sense_declared,
      word_shape,
      sense-once,
      no_word,
      sense-word,
      context_of,
      rows,
      row_shape,
      column,
      is_marker_line,
      other,
    )

    by : (x : LineContent) → IsGood before earlier x
        → refuses kinds.DuplicateEntry earlier (line_declares (context_of before) earlier x) ≡ true →
        repeats_entry before x ≡ true
    by = grind (arith, skipped, header, head, data_line, data_in, current_section)

pub repeated-entries : IsInWords kinds.DuplicateEntry repeats_entry
repeated-entries = grind (arith, in-words, repeats_entry, repeated-entry)

-- ---- each error that depends on other lines is as `FaultsInWords` defines its kind

-- ---- SectionRepeated

repeated : (before : List LineContent) (earlier : Draft) (item : LineContent) → Stated before earlier
    → holds_of kinds.SectionRepeated (item_tests (context_of before) earlier item) ≡ true → repeats_section before item ≡ true
repeated before earlier skipped known h = absurd (false≢true h)
repeated before earlier (header keyword more) known h = by (section_named keyword) h
  where
    by : (o : Option Section) → holds_of kinds.SectionRepeated (header_tests (context_of before) earlier keyword more o) ≡ true
        → option_map_or (has_section before) o false ≡ true
    by = grind (arith, never, holds_of, none-holds, unknown_kinds, unknown-among, left_only, section-among)
repeated before earlier (data_line fields) known h = grind (arith, holds_of, no-data)

pub section-repeated : IsInWords kinds.SectionRepeated repeats_section
section-repeated = in-words kinds.SectionRepeated repeats_section refl refl refl
    (by-form kinds.SectionRepeated repeats_section refl repeated)

-- ---- BadMarker

wrong-marker : (before : List LineContent) (earlier : Draft) (item : LineContent) → Stated before earlier
    → holds_of kinds.BadMarker (item_tests (context_of before) earlier item) ≡ true → is_wrong_marker before item ≡ true
wrong-marker before earlier skipped known h = absurd (false≢true h)
wrong-marker before earlier (header keyword more) known h =
    no-header kinds.BadMarker (context_of before) earlier keyword more (section_named keyword) refl h
wrong-marker before earlier (data_line fields) known h = by (current_section before) h
  where
    words : List (List ℕ)
    words = filter_map marker_word (data_lines Columns before)

    due : List ℕ
    due = cond (context_of before).in_integer_part closing_word opening_word

    of : (word : List ℕ) → not (same_bytes word due) ≡ true → (b : Bool) →
        alternate opening_word closing_word (words ++ word ∷ []) ≡ b → not b ≡ true
    of word k true e = absurd (turn (same_bytes word due) k (marker-follows words None word [] false refl e))
      where
        turn : (b : Bool) → not b ≡ true → b ≡ true → ⊥
        turn = grind arith
    of word k false e = refl

    line : (b : Bool) → holds_of kinds.BadMarker (cond b (marker_tests (context_of before) fields)
        (judged_by (column_tests (context_of before) earlier) (column_shape fields))) ≡ true → option_map_or
        (λ word. not (alternate opening_word closing_word (words ++ word ∷ []))) (cond b (marker_shape fields) None) false ≡ true
    line = grind (arith, holds_of, false≢true, left_only, never, none-holds, column_kinds, column-among, words, of, due)

    by : (o : Option Section) → holds_of kinds.BadMarker (data_tests (context_of before) earlier fields o) ≡ true
        → (is_section Columns o && breaks_turn before fields) ≡ true
    by = grind (arith, no-data, line)

pub bad-marker : IsInWords kinds.BadMarker is_wrong_marker
bad-marker = in-words kinds.BadMarker is_wrong_marker refl refl refl (by-form kinds.BadMarker is_wrong_marker refl wrong-marker)

-- ---- ColumnSplit

split : (before : List LineContent) (earlier : Draft) (item : LineContent) → Stated before earlier
    → holds_of kinds.ColumnSplit (item_tests (context_of before) earlier item) ≡ true → splits_column before item ≡ true
split before earlier skipped known h = absurd (false≢true h)
split before earlier (header keyword more) known h =
    no-header kinds.ColumnSplit (context_of before) earlier keyword more (section_named keyword) refl h
split before earlier (data_line fields) known h = by (current_section before) h
  where
    of : (name : List ℕ) → is_split (context_of before) earlier name ≡ true → (b : Bool)
        → are_together (columns_of before ++ Some name ∷ []) ≡ b → not b ≡ true
    of = grind (arith, never, not-split, together-apart, columns_of)

    line : (b : Bool) → holds_of kinds.ColumnSplit (cond b (marker_tests (context_of before) fields)
        (judged_by (column_tests (context_of before) earlier) (column_shape fields))) ≡ true
        → not (are_together (columns_of before ++ cond b None
        (option_map (λ (l : ValuesLine). l.name) (column_shape fields)) ∷ [])) ≡ true
    line = grind (arith, holds_of, columns_of, false≢true, left_only, of)

    by : (o : Option Section) → holds_of kinds.ColumnSplit (data_tests (context_of before) earlier fields o) ≡ true
        → (is_section Columns o && not
        (are_together (map line_column (data_lines Columns before) ++ line_column fields ∷ []))) ≡ true
    by = grind (arith, no-data, line)

pub column-split : IsInWords kinds.ColumnSplit splits_column
column-split = in-words kinds.ColumnSplit splits_column refl refl refl (by-form kinds.ColumnSplit splits_column refl split)

-- ---- SecondSet

-- a name other than the first one
other-first : (sets : List (List ℕ)) (set : List ℕ) →
    option_map_or (λ name. not (same_bytes name set)) (head_of sets) false ≡ true → differs_from sets set ≡ true
other-first = grind arith

second : (before : List LineContent) (earlier : Draft) (item : LineContent) → Stated before earlier
    → holds_of kinds.SecondSet (item_tests (context_of before) earlier item) ≡ true → is_of_second_set before item ≡ true
second before earlier skipped known h = absurd (false≢true h)
second before earlier (header keyword more) known h =
    no-header kinds.SecondSet (context_of before) earlier keyword more (section_named keyword) refl h
second before earlier (data_line fields) known h = by (current_section before) h
  where
    vector : (sets : List (List ℕ)) (o : Option ValuesLine) →
        holds_of kinds.SecondSet (judged_by (vector_tests (head_of sets)) o) ≡ true →
        option_map_or (differs_from sets) (option_map (λ (l : ValuesLine). l.name) o) false ≡ true
    vector = grind arith

    sets_before : List (List ℕ)
    sets_before = filter_map bound_set (data_lines Bounds before)

    literal : (line : BoundLine) (o : Option (List ℕ)) →
        holds_of kinds.SecondSet (option_map_or (λ literal. number_tests (literal ∷ [])) o [] ++ set_tests
        (context_of before).bounds_set line.set) ≡ true → differs_from sets_before line.set ≡ true
    literal = grind (arith, other-first, left_only)

    shape : (o : Option BoundLine) → holds_of kinds.SecondSet (judged_by (bound_tests (context_of before)) o) ≡ true
        → option_map_or (differs_from sets_before) (option_map (λ (l : BoundLine). l.set) o) false ≡ true
    shape = grind (arith, false≢true, literal)

    bound : (fs : Fields) → holds_of kinds.SecondSet (bound_line_tests (context_of before) fs) ≡ true
        → option_map_or (differs_from sets_before) (bound_set fs) false ≡ true
    bound = grind (arith, false≢true, holds_of, sets_before, shape)

    by : (o : Option Section) → holds_of kinds.SecondSet (data_tests (context_of before) earlier fields o) ≡ true
        → has_second_set before fields o ≡ true
    by = grind (arith, no-data, vector, bound)

pub second-set : IsInWords kinds.SecondSet is_of_second_set
second-set = in-words kinds.SecondSet is_of_second_set refl refl refl (by-form kinds.SecondSet is_of_second_set refl second)

-- ---- SectionOrder

-- a word is missing: the current section has none
without-word : (section : Section) (test : List ℕ → Bool) (before : List LineContent) → takes_word section ≡ true
    → IsUnderway section test before → current_section before ≡ Some section → is_section section (Some section) ≡ true
    → is_some (word_due before) ≡ true → is_without_word before section ≡ true
without-word = grind arith

-- no word is missing: the section has it
with-its_word : (section : Section) (test : List ℕ → Bool) (before : List LineContent) → takes_word section ≡ true
    → IsUnderway section test before → current_section before ≡ Some section → is_section section (Some section) ≡ true
    → is_some (word_due before) ≡ false → (takes_word section && has_its_word before section) ≡ true
with-its_word = grind arith

-- a section that has begun has a later place
later-place : (p q : Section → Bool) (sections_seen : List Section) → ((x : Section) → p x ≡ true → q x ≡ true)
    → list_any p sections_seen ≡ true → list_any q sections_seen ≡ true
later-place p q [] h k = k
later-place p q (x ∷ sections_seen) h k = by (λ e. later-place p q sections_seen h e) (p x) refl k
  where
    by : (list_any p sections_seen ≡ true → list_any q sections_seen ≡ true) → (b : Bool) → p x ≡ b →
        (b || list_any p sections_seen) ≡ true → (q x || list_any q sections_seen) ≡ true
    by = grind arith

rows-later : (x : Section) → is_section Rows (Some x) ≡ true → nat_lt 1 (section_rank x) ≡ true
rows-later = grind arith

-- any section that has begun, and is not NAME, has a later place than NAME
first-later : (sections_seen : List Section) → is_none (last_or None sections_seen) ≡ false → has sections_seen Name ≡ false
    → list_any (λ other. nat_lt 0 (section_rank other)) sections_seen ≡ true
first-later [] h k = cc
first-later (x ∷ sections_seen) h k = grind (arith, or_left, nor)

turned : (b : Bool) → not b ≡ false → b ≡ true
turned = grind arith

misplaced : (before : List LineContent) (s : Section) → has_section before s ≡ false → may_begin (context_of before) s ≡ false
    → (comes_early before s || comes_late before s) ≡ true
misplaced before Name f g = first-later (seen_sections before) g f
misplaced before ObjSense f g = grind (arith, later-place, seen_sections, rows-later, turned)
misplaced before ObjName f g = grind (arith, later-place, seen_sections, rows-later, turned)
misplaced before Rows f g = absurd (true≢false g)
misplaced before Columns f g = or_left _ _ (so_not _ g)
misplaced before Rhs f g = or_left _ _ (so_not _ g)
misplaced before Ranges f g = or_left _ _ (so_not _ g)
misplaced before Bounds f g = or_left _ _ (so_not _ g)
misplaced before EndData f g = or_left _ _ (so_not _ g)

out-of-place : (before : List LineContent) (earlier : Draft) (item : LineContent) → Stated before earlier
    → holds_of kinds.SectionOrder (item_tests (context_of before) earlier item) ≡ true → occurs_out_of_order before item ≡ true
out-of-place before earlier skipped known h = absurd (false≢true h)
out-of-place before earlier (header keyword more) known h = by (section_named keyword) h
  where
    word_due_after : (o : Option Section) → current_section before ≡ o → is_some (word_due before) ≡ true
        → option_map_or (is_without_word before) o false ≡ true
    word_due_after = grind (arith, false≢true, without-word)

    idle : Bool
    idle = option_map_or (is_without_word before) (current_section before) false

    of : (s : Section) (w f g : Bool) → is_some (word_due before) ≡ w → has_section before s ≡ f →
        may_begin (context_of before) s ≡ g → (w || not (f || g)) ≡ true →
        (idle || (not (has_section before s) && (comes_early before s || comes_late before s))) ≡ true
    of = grind (arith, or_left, false≢true, or_right, both_so, so_not, misplaced, idle, word_due_after)

    by : (o : Option Section) → holds_of kinds.SectionOrder (header_tests (context_of before) earlier keyword more o) ≡ true
        → (idle || option_map_or (λ section. not (has_section before section) &&
        (comes_early before section || comes_late before section)) o false) ≡ true
    by = grind (arith, never, holds_of, none-holds, unknown_kinds, unknown-among, left_only, section-among, of)
out-of-place before earlier (data_line fields) known h = by (current_section before) refl h
  where
    occurs : (s : Section) → holds_of kinds.SectionOrder (data_tests (context_of before) earlier fields (Some s)) ≡ true
        → current_section before ≡ Some s → is_closed before s ≡ true
    occurs = grind (arith, with-its_word, holds_of, false≢true, no-data)

    by : (o : Option Section) → current_section before ≡ o →
        holds_of kinds.SectionOrder (data_tests (context_of before) earlier fields o) ≡ true →
        option_map_or (is_closed before) o true ≡ true
    by = grind arith

pub section-order : IsInWords kinds.SectionOrder occurs_out_of_order
section-order = in-words kinds.SectionOrder occurs_out_of_order refl refl refl
    (by-form kinds.SectionOrder occurs_out_of_order refl out-of-place)
