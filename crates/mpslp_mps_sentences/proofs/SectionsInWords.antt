-- Sections of one word, and what the data lines of a section are together: fields, sets, markers, contiguous columns.
use Rattle.mpslp_mps_sentences.proofs.Prelude
use Prelude.{arith, ◌≡◌, refl, sym, subst, List, [], ◌∷◌, ◌++◌, ℕ, Bool, true, false, cond, append-nil, Option, Some, None, is_some}
use Prelude.{is_none, not, ◌||◌, option_map_or, option_or, nor, those_of, when, Draft, Fields, LineContent, skipped, header, data_line, has}
use Prelude.{section_named, section_of_header, begins, is_section, takes_word, section_of_word_due, Section, ObjSense, ObjName, Context}
use Prelude.{context_of, seen_sections, current_section, is_read, word_due_after, word_due, has_section, may_begin, header_tests}
use Prelude.{data_tests, IsGood, header-ordered, header-fresh, has_section-push, current_section-push, said_after-push, word_due-push}
use Prelude.{word_fields, words_in, is_one_word, has_word_at_most, is_sense, ap, ◌∙◌, list_any-append, filter_map-append, filter_map}
use Prelude.{list_all, list_any, last_or, cons_option, flat_map, second_so, same_bytes, head_of, both_so, or_left, or_right, not_so}
use Prelude.{Declaration, Declarations, with_declaration, with_declarations, declares_objective, word_shape, Rows, Columns, said_after}
use Prelude.{data_lines, objname_word, objname, data_declared, header_declared, line_declares, lacks_objective, never, header-begins}
use Prelude.{header-complete, data_lines-push, objname-push, is_free_row_named, has_free_row, has_named_objective, ◌&&◌, RowType, Free}
use Prelude.{named-after, RowLine, row_type, fields_under, data_lines_after, declared_if_some, row_declared, is_free, rules}
use Prelude.{list_all-append, first_so, same_name, opening_word, closing_word, marker_word, alternate, is_one_set, map, map-append}
use Prelude.{is_nonempty, so_not, has_column, column-after, declares-itself, line_column, last_column}
use Prelude.{is_split, same_column, entries_after, are_together, append_assoc, section_after}
use Rattle.mpslp_mps_sentences.proofs.FieldsInWords.{section-is, next_draft, AreOrdered, rows-there, is_other_set, column-continues_column}
use Rattle.mpslp_mps_sentences.proofs.FieldsInWords.{Keeps}

-- ---- in well-formed lines OBJSENSE and OBJNAME each have one word: on the header, or on the one data line after it.
-- If well-formed lines have COLUMNS, and OBJNAME gives a name, an N row has it. If OBJSENSE and OBJNAME each have one
-- word, their headers and data lines are well-formed. If an N row has the name that OBJNAME gives, the header of
-- COLUMNS finds the objective declared

-- ---- a section of one word, and the test of its word

-- one word that passes, or none
abbrev pub fits_word : (List ℕ → Bool) → Fields → Bool
fits_word test [] = true
fits_word test (word ∷ []) = test word
fits_word test _ = false

abbrev pub is_single : (List ℕ → Bool) → Fields → Bool
is_single test (word ∷ []) = test word
is_single test _ = false

pub record IsOfOneWord (section : Section) (test : List ℕ → Bool) : Type 0 where
  pub takes : takes_word section ≡ true
  pub on_header : (context : Context) (earlier : Draft) (keyword : List ℕ) (more : Fields)
      → those_of (header_tests context earlier keyword more (Some section)) ≡ [] → fits_word test more ≡ true
  pub on_line : (context : Context) (earlier : Draft) (fields : Fields) →
      those_of (data_tests context earlier fields (Some section)) ≡ [] →
      (is_some context.word_due ≡ true) × (is_single test fields ≡ true)
  pub itself : is_section section (Some section) ≡ true

something : {X : Type 0} (o : Option X) → is_none o ≡ false → is_some o ≡ true
something = grind arith

pub sense-word : IsOfOneWord ObjSense is_sense
sense-word = grind arith

pub name-word : IsOfOneWord ObjName (λ _. true)
name-word = grind arith

-- ---- the stage of the section

pub data Stage : Type 0 where
  missing : Stage
  without_word : Stage
  with_word : Stage

-- what the lines give for the section: its words, whether it has begun, the current section, and whose word is missing
abbrev pub IsAt : Section → (List ℕ → Bool) → Stage → List Fields → Bool → Option Section → Option Section → Type 0
IsAt section test missing words begun current due = (words ≡ []) × (begun ≡ false) × (is_section section current ≡ false)
IsAt section test without_word words begun current due =
    (words ≡ [] ∷ []) × (begun ≡ true) × (is_section section current ≡ true) × (is_some due ≡ true)
IsAt section test with_word words begun current due =
    (is_one_word test words ≡ true) × (begun ≡ true) × (is_section section current ≡ true → is_some due ≡ false)

-- at one of the three stages
abbrev pub IsSome : Section → (List ℕ → Bool) → List Fields → Bool → Option Section → Option Section → Type 0
IsSome section test words begun current due = (stage : Stage) × IsAt section test stage words begun current due

abbrev pub IsUnderway : Section → (List ℕ → Bool) → List LineContent → Type 0
IsUnderway section test before =
    IsSome section test (words_in section before) (has_section before section) (current_section before) (word_due before)

-- replaces parts by equal ones
carried : (section : Section) (test : List ℕ → Bool) (words words2 : List Fields) (begun begun2 : Bool)
    (current current2 due due2 : Option Section) → words2 ≡ words → begun2 ≡ begun → current2 ≡ current → due2 ≡ due
    → IsSome section test words begun current due → IsSome section test words2 begun2 current2 due2
carried = grind arith

-- ---- one more line

or_false : (b : Bool) → (b || false) ≡ b
or_false = grind arith

-- a line that does not concern the section, and does not come before a missing word of it
passed : (section : Section) (test : List ℕ → Bool) (words : List Fields) (begun : Bool) (current due next later : Option Section)
    → IsSome section test words begun current due → is_some due ≡ false → is_section section next ≡ false
    → IsSome section test (words ++ []) (begun || false) next later
passed = grind arith

-- the header of the section
begun-now : (section : Section) (test : List ℕ → Bool) → IsOfOneWord section test → (words : List Fields) (begun : Bool)
    (current due : Option Section) (more : Fields) → IsSome section test words begun current due → begun ≡ false → fits_word test
    more ≡ true → IsSome section test (words ++ more ∷ []) (begun || true) (Some section) (section_of_word_due section more)
begun-now = grind arith

-- the data line with the word
word-now : (section : Section) (test : List ℕ → Bool) (words : List Fields) (begun : Bool) (current due : Option Section)
    (fields : Fields) → IsSome section test words begun current due → is_section section current ≡ true → is_some due ≡ true
    → is_single test fields ≡ true → IsSome section test (words ++ fields ∷ []) (begun || false) current None
word-now = grind arith

-- a data line of another section
elsewhere : (section : Section) (test : List ℕ → Bool) (words : List Fields) (begun : Bool) (current due : Option Section)
    → IsSome section test words begun current due → is_section section current ≡ false
    → IsSome section test (words ++ []) (begun || false) current None
elsewhere = grind arith

pub word-kept : (section : Section) (test : List ℕ → Bool) → IsOfOneWord section test →
    (before : List LineContent) (earlier : Draft) (item : LineContent) → IsGood before earlier item →
    IsUnderway section test before → IsUnderway section test (before ++ item ∷ [])
word-kept section test one before earlier item good h =
    carried section test (words ++ word_fields section current item) (words_in section (before ++ item ∷ []))
    (begun || begins section item) (has_section (before ++ item ∷ []) section)
    (option_or (section_of_header item) current) (current_section (before ++ item ∷ []))
    (cond (is_read item) (word_due_after item) (word_due before)) (word_due (before ++ item ∷ []))
    (said_after-push (word_fields section) None before item) (has_section-push section before item)
    (current_section-push before item) (word_due-push before item) (by item good)
  where
    words : List Fields
    words = words_in section before

    begun : Bool
    begun = has_section before section

    current : Option Section
    current = current_section before

    -- a header of this section, or of another
    of_header : (keyword : List ℕ) (more : Fields) (s : Option Section)
        → those_of (header_tests (context_of before) earlier keyword more s) ≡ [] → (b : Bool) →
        is_section section s ≡ b → IsSome section test (words ++ when b more) (begun || b) (option_or s current)
        (option_map_or (λ (t : Section). section_of_word_due t more) s None)
    of_header keyword more None g b e = cc
    of_header keyword more (Some t) g true e =
        let g2 = subst (λ o. those_of (header_tests (context_of before) earlier keyword more o) ≡ [])
        (section-is section (Some t) e) g in
        subst (λ o. IsSome section test (words ++ more ∷ []) (begun || true) (option_or o current)
        (option_map_or (λ (u : Section). section_of_word_due u more) o None)) (sym (section-is section (Some t) e))
        (begun-now section test one words begun current (word_due before) more h
        (header-fresh (context_of before) earlier keyword more section g2)
        (one.on_header (context_of before) earlier keyword more g2))
    of_header keyword more (Some t) g false e =
        passed section test words begun current (word_due before) (Some t) (section_of_word_due t more) h
        (nor (is_some (word_due before)) (not (has (seen_sections before) t || may_begin (context_of before) t))
        (header-ordered (context_of before) earlier keyword more t g)).0 e

    of_data : (fields : Fields) → those_of (data_tests (context_of before) earlier fields current) ≡ [] → (b : Bool)
        → is_section section current ≡ b → IsSome section test (words ++ when b fields) (begun || false) current None
    of_data fields g true e = grind (arith, context_of, those_of, data_tests, section-is, word-now, word_due)
    of_data fields g false e = grind (arith, elsewhere, word_due)

    by : (x : LineContent) → IsGood before earlier x → IsSome section test (words ++ word_fields section current x)
        (begun || begins section x) (option_or (section_of_header x) current)
        (cond (is_read x) (word_due_after x) (word_due before))
    by skipped g = grind (arith, skipped, word_due, append-nil, or_false)
    by (header keyword more) g = of_header keyword more (section_named keyword) g
        (is_section section (section_named keyword)) refl
    by (data_line fields) g = grind (arith, data_line, of_data, is_section)

-- ---- at the end

-- if the section is not current, it is missing or has its word
pub word-at_end : (section : Section) (test : List ℕ → Bool) (before : List LineContent) → IsUnderway section test before
    → is_section section (current_section before) ≡ false → has_word_at_most test (words_in section before) ≡ true
word-at_end = grind arith

-- ---- lines that declare no objective

abbrev pub are_unnamed : Declarations → Bool
are_unnamed ds = list_all (λ d. not (declares_objective d)) ds

objective-same : (all : Draft) (d : Declaration) → not (declares_objective d) ≡ true →
    (with_declaration all d).objective ≡ all.objective
objective-same = grind arith

pub objective-kept : (ds : Declarations) (all : Draft) → are_unnamed ds ≡ true →
    (with_declarations all ds).objective ≡ all.objective
objective-kept [] all h = refl
objective-kept (d ∷ ds) all h =
    grind (
      arith,
      objective-same,
      objective-kept ds (with_declaration all d)
          (second_so (not (declares_objective d)) (are_unnamed ds) h),
    )

pub data-unnamed : (context : Context) (earlier : Draft) (fields : Fields) (o : Option Section) →
    is_section Rows o ≡ false → are_unnamed (data_declared context earlier fields o) ≡ true
data-unnamed context earlier fields o h = grind arith

pub header-unnamed : (context : Context) (earlier : Draft) (more : Fields) (o : Option Section) → is_section Columns o ≡ false
    → are_unnamed (header_declared context earlier more o) ≡ true
header-unnamed = grind arith

-- ---- OBJNAME has its word before ROWS begins

-- while a word is missing, ROWS has not begun
abbrev pub IsWantedEarly : List LineContent → Type 0
IsWantedEarly before = is_some (word_due before) ≡ true → has_section before Rows ≡ false

pub none-word_due : (section : Section) (more : Fields) → takes_word section ≡ false →
    is_some (section_of_word_due section more) ≡ true → ⊥
none-word_due = grind arith

pub wanted_early-kept : (before : List LineContent) (earlier : Draft) (item : LineContent) → IsGood before earlier item
    → IsWantedEarly before → IsWantedEarly (before ++ item ∷ [])
wanted_early-kept = grind (arith, has_section-push, word_due-push, none-word_due, not_so, header-begins)

no-later-name : (before : List LineContent) (earlier : Draft) (item : LineContent) → IsGood before earlier item →
    IsWantedEarly before → has_section before Rows ≡ true → objname_word (current_section before) item ≡ None
no-later-name before earlier item good early begun = grind arith

-- ---- the name that OBJNAME gives is that of an N row

abbrev pub has_named_row : List LineContent → Bool
has_named_row before = option_map_or (has_free_row before) (objname before) true

free_row-kept : (before : List LineContent) (item : LineContent) (name : List ℕ) → has_free_row before name ≡ true
    → has_free_row (before ++ item ∷ []) name ≡ true
free_row-kept = grind (arith, data_lines-push, list_any-append, or_left)

pub same-name : (before : List LineContent) (earlier : Draft) (item : LineContent) → IsGood before earlier item →
    IsWantedEarly before → has_section before Rows ≡ true → objname (before ++ item ∷ []) ≡ objname before
same-name = grind (arith, objname-push, no-later-name)

row-kept : (before : List LineContent) (earlier : Draft) (item : LineContent) → IsGood before earlier item → IsWantedEarly before
    → has_section before Rows ≡ true → has_named_row before ≡ true → has_named_row (before ++ item ∷ []) ≡ true
row-kept = grind (arith, same-name, free_row-kept)

-- no objective before ROWS; an objective has the name that OBJNAME gives; and COLUMNS begins with such a row
pub record IsNamedSo (before : List LineContent) (earlier : Draft) : Type 0 where
  pub none : has_section before Rows ≡ false → is_some earlier.objective ≡ false
  pub named : is_some earlier.objective ≡ true → has_named_row before ≡ true
  pub complete : has_section before Columns ≡ true → has_named_row before ≡ true

pub section-begun : (section : Section) (sections_seen : List Section) → is_section section (last_or None sections_seen) ≡ true
    → has sections_seen section ≡ true
section-begun section [] h = cc
section-begun section (x ∷ sections_seen) h = by x sections_seen h
  where
    by : (y : Section) (ys : List Section) → is_section section (last_or (Some y) ys) ≡ true →
        (is_section section (Some y) || has ys section) ≡ true
    by y [] k = or_left _ _ k
    by y (z ∷ ys) k = or_right _ _ (by z ys k)

pub named-kept : (before : List LineContent) (earlier : Draft) (item : LineContent) → IsGood before earlier item →
    AreOrdered (seen_sections before) → IsWantedEarly before → IsNamedSo before earlier →
    IsNamedSo (before ++ item ∷ []) (next_draft before earlier item)
named-kept before earlier item good ordered early n = record {
  none = λ h.
      let parts = nor (has_section before Rows) (begins Rows item) (sym (has_section-push Rows before item) ∙ h) in
      none_yet item good parts.0;
  named = λ h. later item good h;
  complete = λ h. whole (has_section before Columns) refl (sym (has_section-push Columns before item) ∙ h);
}
  where
    next : LineContent → Draft
    next x = with_declarations earlier (line_declares (context_of before) earlier x)

    unnamed : (x : LineContent) → are_unnamed (line_declares (context_of before) earlier x) ≡ true
        → is_some (next x).objective ≡ is_some earlier.objective
    unnamed = grind (arith, is_some, objective-kept, line_declares, context_of)

    rows_begun : is_section Rows (current_section before) ≡ true → has_section before Rows ≡ true
    rows_begun = grind (arith, section-begun, seen_sections)

    columns_after_rows : (keyword : List ℕ) (more : Fields) → IsGood before earlier (header keyword more)
        → is_section Columns (section_named keyword) ≡ true → has_section before Rows ≡ true
    columns_after_rows = grind (arith, header-begins, context_of, those_of, header_tests, section-is, section_named)

    none_yet : (x : LineContent) → IsGood before earlier x → has_section before Rows ≡ false → is_some (next x).objective ≡ false
    none_yet x g h = grind (arith, never, header-unnamed, data-unnamed, next, columns_after_rows, unnamed, rows_begun)

    -- an objective that exists was declared in ROWS
    begun : is_some earlier.objective ≡ true → has_section before Rows ≡ true
    begun h = grind (arith, never)

    kept : (x : LineContent) → IsGood before earlier x → is_some earlier.objective ≡ true →
        has_named_row (before ++ x ∷ []) ≡ true
    kept = grind (arith, row-kept, begun)

    -- the row is a new objective
    new_row : (fields : Fields) → IsGood before earlier (data_line fields) → is_section Rows (current_section before) ≡ true
        → (name : List ℕ) → ((stated : List ℕ) → same_bytes name stated ≡ true → is_free_row_named stated fields ≡ true)
        → option_map_or (same_bytes name) (objname before) true ≡ true → has_named_row (before ++ data_line fields ∷ []) ≡ true
    new_row fields g here name is_it h =
        ap (λ (o : Option (List ℕ)). option_map_or (has_free_row (before ++ data_line fields ∷ [])) o true)
        (same-name before earlier (data_line fields) g early (rows_begun here)) ∙ by (objname before) h
      where
        by : (o : Option (List ℕ)) → option_map_or (same_bytes name) o true ≡ true
            → option_map_or (has_free_row (before ++ data_line fields ∷ [])) o true ≡ true
        by = grind (
          arith,
          list_any,
          is_free_row_named,
          data_lines-push,
          data_line,
          data_lines,
          when,
          list_any-append,
          or_right,
          has_free_row,
          or_left,
        )

    at_columns : (keyword : List ℕ) (more : Fields) → IsGood before earlier (header keyword more)
        → is_section Columns (section_named keyword) ≡ true → has_named_row (before ++ header keyword more ∷ []) ≡ true
    at_columns keyword more g e = row-kept before earlier (header keyword more) g early (columns_after_rows keyword more g e)
        (by (objname before) refl (is_some earlier.objective) refl
        (header-complete (context_of before) earlier keyword more
        (subst (λ o. those_of (header_tests (context_of before) earlier keyword more o) ≡ [])
        (section-is Columns (section_named keyword) e) g)))
      where
        some : (o : Option (List ℕ)) → is_some o ≡ false → is_none o ≡ true
        some = grind arith

        by : (o : Option (List ℕ)) → objname before ≡ o → (b : Bool) → is_some earlier.objective ≡ b
            → lacks_objective (context_of before) earlier ≡ false → has_named_row before ≡ true
        by = grind arith

    in_rows : (fields : Fields) → IsGood before earlier (data_line fields) → is_section Rows (current_section before) ≡ true
        → is_some (next (data_line fields)).objective ≡ true → has_named_row (before ++ data_line fields ∷ []) ≡ true
    in_rows fields g here h = grind (arith, section-is, both_so, new_row, kept)

    later : (x : LineContent) → IsGood before earlier x → is_some (next x).objective ≡ true →
        has_named_row (before ++ x ∷ []) ≡ true
    later = grind (
      arith,
      skipped,
      kept,
      header,
      is_section,
      section_named,
      at_columns,
      unnamed,
      header-unnamed,
      context_of,
      data_line,
      current_section,
      in_rows,
      data-unnamed,
    )

    begins_columns : (x : LineContent) → IsGood before earlier x → begins Columns x ≡ true →
        has_named_row (before ++ x ∷ []) ≡ true
    begins_columns x g e = grind (arith, at_columns)

    whole : (b : Bool) → has_section before Columns ≡ b → (b || begins Columns item) ≡ true →
        has_named_row (before ++ item ∷ []) ≡ true
    whole = grind (arith, row-kept, rows-there, seen_sections, begins_columns)

-- ---- the name, in terms of the section

pub stated-words : (current : Option Section) (items : List LineContent) →
    filter_map word_shape (said_after (word_fields ObjName) current items) ≡ said_after
    (λ (c : Option Section) (item : LineContent). cons_option (objname_word c item) []) current items
stated-words current [] = refl
stated-words current (item ∷ items) = let next = option_or (section_of_header item) current in
    filter_map-append word_shape (word_fields ObjName current item) (said_after (word_fields ObjName) next items)
    ∙ ap (λ (more : List _). filter_map word_shape (word_fields ObjName current item) ++ more) (stated-words next items)
    ∙ ap (λ (here : List _). here ++ said_after
    (λ (c : Option Section) (x : LineContent). cons_option (objname_word c x) []) next items) (by item)
  where
    when_so : (fields : Fields) (b : Bool) →
        filter_map word_shape (when b fields) ≡ cons_option (cond b (word_shape fields) None) []
    when_so = grind arith

    by : (x : LineContent) → filter_map word_shape (word_fields ObjName current x) ≡ cons_option (objname_word current x) []
    by = grind (arith, when_so)

words-named : (test : List ℕ → Bool) (words : List Fields) → has_word_at_most (λ _. true) words ≡ true
    → list_all test (flat_map (λ fields. fields) words) ≡ option_map_or test (head_of (filter_map word_shape words)) true
words-named = grind arith

pub named-in_words : (items : List LineContent) → has_word_at_most (λ _. true) (words_in ObjName items) ≡ true
    → has_named_objective items ≡ has_named_row items
named-in_words = grind (arith, words-named, stated-words)

-- ---- a word is required only under OBJSENSE or OBJNAME

abbrev pub IsWantedThere : List LineContent → Type 0
IsWantedThere before = is_some (word_due before) ≡ true
    → (is_section ObjSense (current_section before) || is_section ObjName (current_section before)) ≡ true

pub wanted_there-kept : (before : List LineContent) (item : LineContent) → IsWantedThere before →
    IsWantedThere (before ++ item ∷ [])
wanted_there-kept = grind (arith, current_section-push, word_due-push, none-word_due)

-- ---- what the whole text implies for one line

-- a data line of the section has its word, which was missing
pub line-single : (section : Section) (test : List ℕ → Bool) (before : List LineContent) (fields : Fields) (more : List Fields)
    → IsUnderway section test before → is_section section (current_section before) ≡ true → has_word_at_most test
    (words_in section before ++ fields ∷ more) ≡ true → (is_some (word_due before) ≡ true) × (is_single test fields ≡ true)
line-single = grind arith

-- its header has its word, or nothing
pub header-fits : (section : Section) (test : List ℕ → Bool) (before : List LineContent) (fields : Fields) (more : List Fields)
    → IsUnderway section test before → has_section before section ≡ false
    → has_word_at_most test (words_in section before ++ fields ∷ more) ≡ true → fits_word test fields ≡ true
header-fits = grind arith

-- a section that is complete has no more words
pub no-more-words : (section : Section) (current : Option Section) (items : List LineContent) → is_section section current ≡ false
    → has_section items section ≡ false → said_after (word_fields section) current items ≡ []
no-more-words section current [] h k = refl
no-more-words section current (item ∷ items) h k = by item k (λ c e f. no-more-words section c items e f)
  where
    of : (o : Option Section) (more : Fields) → has (cons_option o (seen_sections items)) section ≡ false → ((c : Option Section)
        → is_section section c ≡ false → has_section items section ≡ false → said_after (word_fields section) c items ≡ [])
        → when (is_section section o) more ++ said_after (word_fields section) (option_or o current) items ≡ []
    of = grind (arith, nor)

    by : (x : LineContent) → has_section (x ∷ items) section ≡ false → ((c : Option Section) → is_section section c ≡ false
        → has_section items section ≡ false → said_after (word_fields section) c items ≡ [])
        → word_fields section current x ++ said_after (word_fields section) (option_or (section_of_header x) current) items ≡ []
    by = grind (arith, of)

-- no header comes before the missing word of a section
pub not-left : (section : Section) (test : List ℕ → Bool) (before : List LineContent) → IsUnderway section test before →
    is_section section (current_section before) ≡ true → is_some (word_due before) ≡ true →
    has_word_at_most test (words_in section before) ≡ true → ⊥
not-left = grind arith

-- a section that has not begun, or is complete, has no more lines
pub no-more-lines : (section : Section) (current : Option Section) (items : List LineContent) → is_section section current ≡ false
    → has_section items section ≡ false → data_lines_after section current items ≡ []
no-more-lines section current [] h k = refl
no-more-lines section current (item ∷ items) h k = by item k (λ c e f. no-more-lines section c items e f)
  where
    of : (o : Option Section) → has (cons_option o (seen_sections items)) section ≡ false
        → ((c : Option Section) → is_section section c ≡ false → has_section items section ≡ false →
        data_lines_after section c items ≡ []) → data_lines_after section (option_or o current) items ≡ []
    of = grind (arith, nor)

    by : (x : LineContent) → has_section (x ∷ items) section ≡ false
        → ((c : Option Section) → is_section section c ≡ false → has_section items section ≡ false →
        data_lines_after section c items ≡ []) →
        fields_under section current x ++ data_lines_after section (option_or (section_of_header x) current) items ≡ []
    by = grind (arith, of)

-- an N row with the name of OBJNAME is the objective
abbrev pub IsDeclared : List LineContent → Draft → Type 0
IsDeclared before earlier = (stated : List ℕ) → objname before ≡ Some stated → has_free_row before stated ≡ true →
    is_some earlier.objective ≡ true

rows_begun : (before : List LineContent) (stated : List ℕ) → has_free_row before stated ≡ true → has_section before Rows ≡ true
rows_begun = grind (arith, no-more-lines)

pub declared-kept : (before : List LineContent) (earlier : Draft) (item : LineContent) → IsGood before earlier item →
    IsWantedEarly before → IsDeclared before earlier → IsDeclared (before ++ item ∷ []) (next_draft before earlier item)
declared-kept before earlier item good early there stated name row =
    by item good name (sym (ap (list_any (is_free_row_named stated)) (data_lines-push Rows before item)
    ∙ list_any-append (is_free_row_named stated) (data_lines Rows before)
    (fields_under Rows (current_section before) item)) ∙ row)
  where
    next : LineContent → Draft
    next x = with_declarations earlier (line_declares (context_of before) earlier x)

    old : (x : LineContent) → IsGood before earlier x → objname (before ++ x ∷ []) ≡ Some stated →
        has_free_row before stated ≡ true → is_some (next x).objective ≡ true
    old = grind (arith, named-after, same-name, rows_begun)

    only : (b : Bool) → (b || false) ≡ true → b ≡ true
    only = grind arith

    -- the first row with this name is declared here, if none was before
    new_row : (line : RowLine) (o : Option (List ℕ)) → earlier.objective ≡ o → objname before ≡ Some stated
        → row_type line.letter ≡ Some Free → same_bytes line.name stated ≡ true
        → is_some (with_declarations earlier (row_declared (context_of before) earlier line)).objective ≡ true
    new_row = grind (arith, named-after)

    of_type : (line : RowLine) → objname before ≡ Some stated → (o : Option RowType) → row_type line.letter ≡ o →
        (is_free o && same_bytes line.name stated) ≡ true →
        is_some (with_declarations earlier (row_declared (context_of before) earlier line)).objective ≡ true
    of_type = grind (arith, new_row)

    of_row : (o : Option RowLine) → objname before ≡ Some stated
        → option_map_or (λ (line : RowLine). is_free (row_type line.letter) && same_bytes line.name stated) o false ≡ true
        → is_some (with_declarations earlier (declared_if_some (row_declared (context_of before) earlier) o)).objective ≡ true
    of_row = grind arith

    in_rows : (fields : Fields) → IsGood before earlier (data_line fields) →
        objname (before ++ data_line fields ∷ []) ≡ Some stated → is_section Rows (current_section before) ≡ true →
        (b : Bool) → has_free_row before stated ≡ b → (b || (is_free_row_named stated fields || false)) ≡ true →
        is_some (next (data_line fields)).objective ≡ true
    in_rows = grind (arith, section-is, same-name, section-begun, old, of_row, only)

    none_new : (x : LineContent) → IsGood before earlier x → objname (before ++ x ∷ []) ≡ Some stated
        → (has_free_row before stated || false) ≡ true → is_some (next x).objective ≡ true
    none_new = grind (arith, old, only)

    under : (fields : Fields) → IsGood before earlier (data_line fields) → objname (before ++ data_line fields ∷ []) ≡ Some stated
        → (b : Bool) → is_section Rows (current_section before) ≡ b → (has_free_row before stated
        || list_any (is_free_row_named stated) (when b fields)) ≡ true → is_some (next (data_line fields)).objective ≡ true
    under = grind (arith, in_rows, has_free_row, none_new, data_line)

    by : (x : LineContent) → IsGood before earlier x → objname (before ++ x ∷ []) ≡ Some stated → (has_free_row before stated
        || list_any (is_free_row_named stated) (fields_under Rows (current_section before) x)) ≡ true →
        is_some (next x).objective ≡ true
    by = grind (arith, none_new, under)

-- ---- what the data lines of a section are together, if each of them is well-formed: their fields, their sets, their
-- markers. If each line of COLUMNS is well-formed, the lines of each column are contiguous. What the data lines of a
-- section are together implies their fields, set names and markers, and that columns continue

-- the fields are well-formed in the section, after these lines
abbrev pub IsGoodUnder : Section → List LineContent → Draft → Fields → Type 0
IsGoodUnder section before earlier fields = those_of (data_tests (context_of before) earlier fields (Some section)) ≡ []

-- a test of the data lines of a section still holds after one more line, if each well-formed data line keeps it
pub section-kept : (section : Section) (test : List Fields →
    Bool) (before : List LineContent) (earlier : Draft) (item : LineContent) →
    ((fields : Fields) → IsGoodUnder section before earlier fields → test (data_lines section before ++ fields ∷ []) ≡ true)
    → IsGood before earlier item → test (data_lines section before) ≡ true →
    test (data_lines section (before ++ item ∷ [])) ≡ true
section-kept = grind (arith, data_lines-push, append-nil, section-is)

-- each line passes a test
pub fields-kept : (section : Section) (test : Fields → Bool) (before : List LineContent) (earlier : Draft) (item : LineContent)
    → ((fields : Fields) → IsGoodUnder section before earlier fields → test fields ≡ true) → IsGood before earlier item
    → list_all test (data_lines section before) ≡ true → list_all test (data_lines section (before ++ item ∷ [])) ≡ true
fields-kept section test before earlier item fits good h = section-kept section (list_all test) before earlier item
    (λ fields g. list_all-append test _ (fields ∷ []) ∙ both_so _ _ h (both_so _ _ (fits fields g) refl)) good h

-- ---- one set

set-more : (sets : List (List ℕ)) (set : List ℕ) → is_other_set (head_of sets) set ≡ false → is_one_set sets ≡ true
    → is_one_set (sets ++ set ∷ []) ≡ true
set-more = grind (arith, list_all-append, both_so)

pub set-kept : (section : Section) (set_of : Fields → Option (List ℕ)) (before : List LineContent) (earlier : Draft)
    (item : LineContent) → ((fields : Fields) → IsGoodUnder section before earlier fields → (set : List ℕ) →
    set_of fields ≡ Some set → is_other_set (head_of (filter_map set_of (data_lines section before))) set ≡ false) →
    IsGood before earlier item → is_one_set (filter_map set_of (data_lines section before)) ≡ true →
    is_one_set (filter_map set_of (data_lines section (before ++ item ∷ []))) ≡ true
set-kept section set_of before earlier item fits good h =
    section-kept section (λ lines. is_one_set (filter_map set_of lines)) before earlier item
    (λ fields g. ap is_one_set (filter_map-append set_of _ (fields ∷ [])) ∙ by (set_of fields) (fits fields g)) good h
  where
    sets : List (List ℕ)
    sets = filter_map set_of (data_lines section before)

    by : (o : Option (List ℕ)) → ((set : List ℕ) → o ≡ Some set → is_other_set (head_of sets) set ≡ false)
        → is_one_set (sets ++ cons_option o []) ≡ true
    by = grind (arith, is_one_set, append-nil, set-more)

-- ---- markers

-- the word of the next marker line, by whether a block is open
abbrev pub next_word : Bool → List ℕ
next_word is_open = cond is_open closing_word opening_word

abbrev pub opens : Option (List ℕ) → Bool
opens word = option_map_or (same_bytes opening_word) word false

pub opens-next : (b : Bool) (word : List ℕ) → same_bytes word (next_word b) ≡ true → opens (Some word) ≡ not b
opens-next = search (rules, same_name)

pub alternate-more : (words : List (List ℕ)) (last : Option (List ℕ)) (word : List ℕ) (b : Bool) → opens last ≡ b
    → alternate (next_word b) (next_word (not b)) words ≡ true → same_bytes word (next_word (opens (last_or last words))) ≡ true
    → alternate (next_word b) (next_word (not b)) (words ++ word ∷ []) ≡ true
alternate-more [] last word b e h k = grind (arith, both_so, same_bytes)
alternate-more (first ∷ words) last word true e h k = let here = first_so _ _ h in
    both_so _ _ here (alternate-more words _ word false (opens-next true first here) (second_so _ _ h) k)
alternate-more (first ∷ words) last word false e h k = let here = first_so _ _ h in
    both_so _ _ here (alternate-more words _ word true (opens-next false first here) (second_so _ _ h) k)

pub markers-kept : (section : Section) (before : List LineContent) (earlier : Draft) (item : LineContent)
    → ((fields : Fields) → IsGoodUnder section before earlier fields → (word : List ℕ) → marker_word fields ≡ Some word
    → same_bytes word (cond (opens (last_or None (filter_map marker_word (data_lines section before)))) closing_word
    opening_word) ≡ true) → IsGood before earlier item →
    alternate opening_word closing_word (filter_map marker_word (data_lines section before)) ≡ true
    → alternate opening_word closing_word (filter_map marker_word (data_lines section (before ++ item ∷ []))) ≡ true
markers-kept section before earlier item fits good h = section-kept section (λ lines. alternate opening_word closing_word
    (filter_map marker_word lines)) before earlier item (λ fields g. ap (alternate opening_word closing_word)
    (filter_map-append marker_word (data_lines section before) (fields ∷ [])) ∙ by (marker_word fields) (fits fields g)) good h
  where
    words : List (List ℕ)
    words = filter_map marker_word (data_lines section before)

    by : (o : Option (List ℕ))
        → ((word : List ℕ) → o ≡ Some word → same_bytes word (cond (opens (last_or None words)) closing_word opening_word) ≡ true)
        → alternate opening_word closing_word (words ++ cons_option o []) ≡ true
    by None k = grind (arith, alternate, opening_word, closing_word, append-nil)
    by (Some word) k = alternate-more words None word false refl h (k word refl)

-- the column of a line, if it has one
abbrev pub Column : Type 0
Column = Option (List ℕ)

-- ---- columns that are the same

pub one_column : (a b : Column) → same_column a b ≡ true → a ≡ b
one_column = search (rules, same_name)

pub turned : (a b : Column) → same_column a b ≡ true → same_column b a ≡ true
turned = search (rules, one_column)

-- ---- one more line

-- the last column, or none at the start
abbrev pub last_of : Column → List Column → Column
last_of last [] = last
last_of last (column ∷ columns) = last_of column columns

after-more : (c x : Column) (columns : List Column) → list_any (same_column c) (entries_after c (columns ++ x ∷ []))
    ≡ (list_any (same_column c) (entries_after c columns) || (is_nonempty (entries_after c columns) && same_column c x))
after-more c x [] = grind (arith)
after-more c x (next ∷ columns) = grind (arith, list_any-append, after-more c x columns)

none-last : (c d : Column) (columns : List Column) → list_any (same_column c) (d ∷ columns) ≡ false
    → same_column c (last_of d columns) ≡ true → false ≡ true
none-last c d [] h k = grind (arith, or_left)
none-last c d (next ∷ columns) h k = none-last c next columns (more (same_column c d) h) k
  where
    more : (b : Bool) → (b || list_any (same_column c) (next ∷ columns)) ≡ false →
        list_any (same_column c) (next ∷ columns) ≡ false
    more = grind arith

-- if no line of a column comes after its first lines, and the last line is one of them, all lines are
nothing-after : (c d : Column) (columns : List Column) → list_any (same_column c) (entries_after c columns) ≡ false
    → same_column c (last_of d columns) ≡ true → is_nonempty (entries_after c columns) ≡ false
nothing-after c d [] h k = refl
nothing-after c d (next ∷ columns) h k = by (λ e. nothing-after c next columns e k) (same_column c next) h
  where
    by : (list_any (same_column c) (entries_after c columns) ≡ false → is_nonempty (entries_after c columns) ≡ false) → (b : Bool)
        → list_any (same_column c) (cond b (entries_after c columns) (next ∷ columns)) ≡ false
        → is_nonempty (cond b (entries_after c columns) (next ∷ columns)) ≡ false
    by = grind (arith, none-last)

-- the column has earlier lines, but the last line is not one of them
abbrev pub comes_again : Column → List Column → Bool
comes_again column columns = list_any (same_column column) columns && not (same_column column (last_of None columns))

fewer : (a b n : Bool) → ((a || b) && n) ≡ false → (b && n) ≡ false
fewer = grind arith

pub together-more : (x : Column) (columns : List Column) → are_together columns ≡ true → comes_again x columns ≡ false
    → are_together (columns ++ x ∷ []) ≡ true
together-more x [] h k = refl
together-more x (c ∷ columns) h k =
    both_so _ _ (so_not _ (after-more c x columns ∙ ap (λ b. b || (is_nonempty (entries_after c columns)
    && same_column c x)) none ∙ last (same_column c x) refl)) (together-more x columns (second_so _ _ h) (later columns k))
  where
    none : list_any (same_column c) (entries_after c columns) ≡ false
    none = grind arith

    later : (cs : List Column) → comes_again x (c ∷ cs) ≡ false → comes_again x cs ≡ false
    later [] e = refl
    later (d ∷ cs) e = grind (arith, fewer, list_any, same_column)

    so : (a b n : Bool) → a ≡ true → ((a || b) && not n) ≡ false → n ≡ true
    so = grind arith

    nothing : same_column c x ≡ true → is_nonempty (entries_after c columns) ≡ false
    nothing = search (rules, turned, so, same_column, list_any, nothing-after, none, one_column)

    last : (b : Bool) → same_column c x ≡ b → (is_nonempty (entries_after c columns) && b) ≡ false
    last = grind (arith, nothing)

-- ---- the columns of a draft

-- the columns of these lines
abbrev pub columns_of : List LineContent → List Column
columns_of before = map line_column (data_lines Columns before)

-- each of them exists
abbrev pub AreThere : List LineContent → Draft → Type 0
AreThere before earlier = (name : List ℕ) → list_any (same_column (Some name)) (columns_of before) ≡ true →
    has_column earlier name ≡ true

pub there-push : Keeps AreThere
there-push before earlier item there name h =
    search (
      rules,
      data_lines-push,
      column-after,
      append-nil,
      map-append,
      list_any-append,
      declares-itself,
      one_column,
      section-is,
    )

-- ---- all together

pub last-line : (lines : List Fields) (o : Option Fields)
    → option_map_or line_column (last_or o lines) None ≡ last_of (option_map_or line_column o None) (map line_column lines)
last-line [] o = refl
last-line (fields ∷ lines) o = last-line lines (Some fields)

pub together-kept : (before : List LineContent) (earlier : Draft) (item : LineContent) → IsGood before earlier item
    → AreThere before earlier → are_together (columns_of before) ≡ true → are_together (columns_of (before ++ item ∷ [])) ≡ true
together-kept before earlier item good there h =
    section-kept Columns (λ lines. are_together (map line_column lines)) before earlier item
    (λ fields g. ap are_together (map-append line_column (data_lines Columns before) (fields ∷ []))
    ∙ together-more (line_column fields) (columns_of before) h
    (by (line_column fields) (λ name e. column-continues_column (context_of before) earlier fields g name e))) good h
  where
    last : last_column before ≡ last_of None (columns_of before)
    last = grind (arith, last-line, data_lines)

    nowhere : (columns : List Column) → list_any (same_column None) columns ≡ false
    nowhere [] = refl
    nowhere (c ∷ columns) = nowhere columns

    same_test : (name : List ℕ) (o : Column) → option_map_or (same_bytes name) o false ≡ same_column (Some name) o
    same_test = grind arith

    apart : (name : List ℕ) (b : Bool) → list_any (same_column (Some name)) (columns_of before) ≡ b →
        is_split (context_of before) earlier name ≡ false →
        (b && not (same_column (Some name) (last_of None (columns_of before)))) ≡ false
    apart = grind (arith, last, same_test)

    by : (x : Column) → ((name : List ℕ) → x ≡ Some name → is_split (context_of before) earlier name ≡ false)
        → comes_again x (columns_of before) ≡ false
    by = grind (arith, same_column, nowhere, apart, list_any)

-- ---- lines, and those after them

pub section_after-more : (current : Option Section) (item : LineContent) (items : List LineContent)
    → section_after current (item ∷ items) ≡ section_after (option_or (section_of_header item) current) items
section_after-more = grind arith

pub said_after-append : {X : Type 0} (says : Option Section → LineContent →
    List X) (current : Option Section) (before items : List LineContent) →
    said_after says current (before ++ items) ≡ said_after says current before ++ said_after says
    (section_after current before) items
said_after-append says current [] items = refl
said_after-append {X} says current (item ∷ before) items = let next = option_or (section_of_header item) current in
    ap (λ more. says current item ++ more) (said_after-append says next before items
    ∙ ap (λ c. said_after says next before ++ said_after says c items)
    (sym (section_after-more current item before)))
    ∙ sym (append_assoc (says current item) (said_after says next before) _)

-- a data line of the section is between those before it and those after it
pub data-occurs : (section : Section) (before : List LineContent) (fields : Fields) (rest : List LineContent) →
    is_section section (current_section before) ≡ true →
    data_lines section (before ++ data_line fields ∷ rest) ≡ data_lines section before ++ fields
    ∷ said_after (fields_under section) (current_section before) rest
data-occurs = grind (arith, said_after-append, fields_under, data_line, data_lines, when, said_after, current_section)

-- ---- what the whole text implies for one line

pub passes-all : {X : Type 0} (test : X → Bool) (xs : List X) (x : X) (more : List X) →
    list_all test (xs ++ x ∷ more) ≡ true → test x ≡ true
passes-all = grind (arith, first_so, second_so, list_all-append)

pub set-fits : (sets : List (List ℕ)) (set : List ℕ) (more : List (List ℕ)) → is_one_set (sets ++ set ∷ more) ≡ true
    → is_other_set (head_of sets) set ≡ false
set-fits = grind (arith, passes-all)

pub marker-follows : (words : List (List ℕ)) (last : Option (List ℕ)) (word : List ℕ) (more : List (List ℕ)) (b : Bool)
    → opens last ≡ b → alternate (next_word b) (next_word (not b)) (words ++ word ∷ more) ≡ true →
    same_bytes word (next_word (opens (last_or last words))) ≡ true
marker-follows [] last word more b e h = grind (arith, same_bytes, first_so)
marker-follows (first ∷ words) last word more true e h = let here = first_so _ _ h in
    marker-follows words _ word more false (opens-next true first here) (second_so _ _ h)
marker-follows (first ∷ words) last word more false e h = let here = first_so _ _ h in
    marker-follows words _ word more true (opens-next false first here) (second_so _ _ h)

-- a column that has ended and has a later line
found-later : (c x d : Column) (columns more : List Column) → same_column c x ≡ true →
    list_any (same_column c) (d ∷ (columns ++ x ∷ more)) ≡ true
found-later = grind (arith, list_any-append, or_right, or_left)

comes-later : (c x d : Column) (columns more : List Column) → same_column c x ≡ true → same_column c (last_of d columns) ≡ false
    → list_any (same_column c) (entries_after c (d ∷ (columns ++ x ∷ more))) ≡ true
comes-later c x d [] more h k = grind (arith, found-later)
comes-later c x d (e ∷ columns) more h k = grind (arith, found-later, comes-later c x e columns more h k)

pub together-apart : (x : Column) (columns more : List Column) → are_together (columns ++ x ∷ more) ≡ true →
    comes_again x columns ≡ false
together-apart x [] more h = refl
together-apart x (c ∷ []) more h = grind (arith)
together-apart x (c ∷ d ∷ columns) more h = by (same_column x c) refl (together-apart x (d ∷ columns) more
    (second_so (not (list_any (same_column c) (entries_after c (d ∷ (columns ++ x ∷ more)))))
    (are_together (d ∷ (columns ++ x ∷ more))) h))
  where
    none : list_any (same_column c) (entries_after c (d ∷ (columns ++ x ∷ more))) ≡ false
    none = grind arith

    last : Column
    last = last_of d columns

    ended : (b : Bool) → same_column x last ≡ b → same_column x c ≡ true → (true && not b) ≡ false
    ended = search (rules, turned, same_column, last, one_column, comes-later, none)

    by : (b : Bool) → same_column x c ≡ b → (list_any (same_column x) (d ∷ columns) && not (same_column x last)) ≡ false
        → ((b || list_any (same_column x) (d ∷ columns)) && not (same_column x last)) ≡ false
    by = grind (arith, ended, same_column, last)
