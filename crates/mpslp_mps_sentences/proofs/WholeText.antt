-- MPS text is text in the sense of `TextInWords`.
-- A column of a draft is that of an earlier line of COLUMNS, so a column with contiguous lines is not split.
-- If the lines of each section are good together, each data line is well-formed after those before it.
-- If headers are good together, each is well-formed after the lines before it.
-- Text in the sense of `TextInWords` is MPS text.
use Rattle.mpslp_mps_sentences.proofs.Prelude
use Prelude.{arith, ◌≡◌, refl, sym, subst, List, [], ◌∷◌, ◌++◌, append_assoc, ℕ, Bool, true, false, map, append-nil, Option, Some, None}
use Prelude.{not, ◌&&◌, ◌||◌, filter_map, list_all, list_any, last_or, cons_option, option_or, first_so, second_so, lines, LineTooLong}
use Prelude.{BadByte, is_nonempty, those_of, both_so, Draft, empty_draft, with_declarations, has_legal_length, is_legal_byte, FaultTests}
use Prelude.{first_test, later_tests, LineContent, content_of, outside_comment, is_section, opening_word, closing_word, Section, ObjSense}
use Prelude.{ObjName, Rows, Columns, Rhs, Ranges, Bounds, EndData, is_legal_line, context_of, seen_sections, section_after, current_section}
use Prelude.{data_lines, marker_word, vector_set, bound_set, line_declares, item_tests, line_tests, is_end, read_lines, has_end}
use Prelude.{is_well_formed, lines_in_context_after, lines_in_context, is_mps_text, are_well_formed, no_faults, items-good, good-first}
use Prelude.{good-rest, up_to_end, up_to_end-last, up_to_end-more, is_good_header, stray_lines, is_sense, is_row_line, is_columns_line}
use Prelude.{is_vector_line, is_bound_line, alternate, are_together, is_one_set, are_good_together, is_text_in_words, cond, map-append}
use Prelude.{list_any-append, flat_map, or_left, or_right, declare_marked, has_column, has-put, Fields, ValuesLine, Context, line_column}
use Prelude.{coefficient_declared, columns_line_declared, data_declared, header_declared, is_split, declares_column, no_columns}
use Prelude.{columns-kept, each-flat, data_lines-push, same_column, ap, ◌∙◌, filter_map-append, is_some, option_map_or, same_bytes, when}
use Prelude.{head_of, data_line, Name, said_after, fields_under, word_due, data_tests, IsGood, never, takes_data, words_in}
use Prelude.{has_word_at_most, is_none, are_distinct, both_false, nor, not_so, header, has, section_named, section_of_header, may_follow}
use Prelude.{sense_of, data_lines_after, objname_word, objname, has_section, may_begin, lacks_objective, section_tests, header_tests}
use Prelude.{in_order, same_section, are_good_sections, may_have_more, word_fields, is_free_row_named, has_free_row, has_named_objective}
use Prelude.{rules, form_faults, lines-good, TextIsInWords}
use Rattle.mpslp_mps_sentences.proofs.FieldsInWords.{section-is, row-fields, columns-fields, marker-fits, vector-fields, vector-set}
use Rattle.mpslp_mps_sentences.proofs.FieldsInWords.{bound-fields, bound-set, KeepsIfGood, Keeps, row-good, columns-good, vector-good}
use Rattle.mpslp_mps_sentences.proofs.FieldsInWords.{bound-good, is_other_set, AreOrdered, rows-there, columns-there, ordered-kept}
use Rattle.mpslp_mps_sentences.proofs.FieldsInWords.{headers-kept, strays-kept, distinct-before, begins-so, header-good}
use Rattle.mpslp_mps_sentences.proofs.SectionsInWords.{IsWantedEarly, wanted_early-kept, IsNamedSo, named-kept, section-begun}
use Rattle.mpslp_mps_sentences.proofs.SectionsInWords.{named-in_words, IsUnderway, sense-word, name-word, word-kept, word-at_end}
use Rattle.mpslp_mps_sentences.proofs.SectionsInWords.{line-single, is_single, IsDeclared, no-more-lines, IsWantedThere, header-fits}
use Rattle.mpslp_mps_sentences.proofs.SectionsInWords.{no-more-words, not-left, fits_word, declared-kept, wanted_there-kept, AreThere}
use Rattle.mpslp_mps_sentences.proofs.SectionsInWords.{columns_of, there-push, together-kept, fields-kept, set-kept, markers-kept, last_of}
use Rattle.mpslp_mps_sentences.proofs.SectionsInWords.{comes_again, last-line, said_after-append, data-occurs, passes-all, set-fits}
use Rattle.mpslp_mps_sentences.proofs.SectionsInWords.{marker-follows, together-apart}

-- ---- what well-formed lines are together

-- so far: a section of one word may still lack it
pub record AreInWords (before : List LineContent) (earlier : Draft) : Type 0 where
  pub headers : list_all is_good_header before ≡ true
  pub ordered : AreOrdered (seen_sections before)
  pub strays : stray_lines before ≡ []
  pub sense : IsUnderway ObjSense is_sense before
  pub name : IsUnderway ObjName (λ _. true) before
  pub early : IsWantedEarly before
  pub named : IsNamedSo before earlier
  pub rows : list_all is_row_line (data_lines Rows before) ≡ true
  pub columns : list_all is_columns_line (data_lines Columns before) ≡ true
  pub right_sides : list_all is_vector_line (data_lines Rhs before) ≡ true
  pub ranges : list_all is_vector_line (data_lines Ranges before) ≡ true
  pub bounds : list_all is_bound_line (data_lines Bounds before) ≡ true
  pub markers : alternate opening_word closing_word (filter_map marker_word (data_lines Columns before)) ≡ true
  pub there : AreThere before earlier
  pub together : are_together (columns_of before) ≡ true
  pub right_side_set : is_one_set (filter_map vector_set (data_lines Rhs before)) ≡ true
  pub range_set : is_one_set (filter_map vector_set (data_lines Ranges before)) ≡ true
  pub bound_sets : is_one_set (filter_map bound_set (data_lines Bounds before)) ≡ true

pub none-yet : AreInWords [] empty_draft
none-yet = grind arith

pub one-more : KeepsIfGood AreInWords
one-more before earlier item good h = record {
  headers = headers-kept before earlier item good h.headers;
  ordered = ordered-kept before earlier item good h.ordered;
  strays = strays-kept before earlier item good h.strays;
  sense = word-kept ObjSense is_sense sense-word before earlier item good h.sense;
  name = word-kept ObjName (λ _. true) name-word before earlier item good h.name;
  early = wanted_early-kept before earlier item good h.early;
  named = named-kept before earlier item good h.ordered h.early h.named;
  rows = fields-kept Rows is_row_line before earlier item (λ fields g. row-fields fields g) good h.rows;
  columns = fields-kept Columns is_columns_line before earlier item
      (λ fields g. columns-fields (context_of before) earlier fields g) good h.columns;
  right_sides = fields-kept Rhs is_vector_line before earlier item
      (λ fields g. vector-fields (context_of before).rhs_set fields g) good h.right_sides;
  ranges = fields-kept Ranges is_vector_line before earlier item
      (λ fields g. vector-fields (context_of before).ranges_set fields g) good h.ranges;
  bounds = fields-kept Bounds is_bound_line before earlier item (λ fields g. bound-fields (context_of before) fields g)
      good h.bounds;
  markers =
      markers-kept Columns before earlier item (λ fields g word e. marker-fits (context_of before) earlier fields g word
      e) good h.markers;
  there = there-push before earlier item h.there;
  together = together-kept before earlier item good h.there h.together;
  right_side_set = set-kept Rhs vector_set before earlier item
      (λ fields g set e. vector-set (context_of before).rhs_set fields g set e) good h.right_side_set;
  range_set = set-kept Ranges vector_set before earlier item
      (λ fields g set e. vector-set (context_of before).ranges_set fields g set e) good h.range_set;
  bound_sets =
      set-kept Bounds bound_set before earlier item (λ fields g set e. bound-set (context_of before) fields g set e)
      good h.bound_sets;
}

more-lines : (items before : List LineContent) (earlier : Draft) → are_well_formed before earlier items ≡ true →
    AreInWords before earlier → (all : Draft) × AreInWords (before ++ items) all
more-lines [] before earlier good h = (earlier, subst (λ xs. AreInWords xs earlier) (sym (append-nil before)) h)
more-lines (item ∷ items) before earlier good h = let next =
    with_declarations earlier (line_declares (context_of before) earlier item) in
    let more = more-lines items (before ++ item ∷ []) next (good-rest before earlier item items good)
    (one-more before earlier item (good-first before earlier item items good) h) in
    (more.0, subst (λ xs. AreInWords xs more.0) (append_assoc before _ items) more.1)

-- ---- at the end

-- lines up to that of ENDATA end in its section
ends-last : (ls : List (List ℕ)) (current : Option Section) → list_any is_end ls ≡ true
    → is_section EndData (section_after current (map content_of (up_to_end ls))) ≡ true
ends-last [] current h = cc
ends-last (line ∷ ls) current h = by (λ c k. ends-last ls c k) (is_end line) refl h
  where
    last : (o : Option Section) → is_section EndData o ≡ true → is_section EndData (last_or current (cons_option o [])) ≡ true
    last = grind arith

    passed : (o : Option Section) (items : List LineContent)
        → section_after (option_or o current) items ≡ last_or current (cons_option o (seen_sections items))
    passed = grind arith

    by : ((c : Option Section) → list_any is_end ls ≡ true →
        is_section EndData (section_after c (map content_of (up_to_end ls))) ≡ true) → (b : Bool) → is_end line ≡ b →
        (b || list_any is_end ls) ≡ true →
        is_section EndData (section_after current (map content_of (up_to_end (line ∷ ls)))) ≡ true
    by = grind (arith, up_to_end-last, up_to_end-more, up_to_end, last, passed)

legal-lines : (ls : List (List ℕ)) (before : List LineContent) (earlier : Draft)
    → list_all is_well_formed (lines_in_context_after before earlier ls) ≡ true → list_all is_legal_line ls ≡ true
legal-lines [] before earlier h = refl
legal-lines (line ∷ ls) before earlier h = let item = content_of line in
    let next = with_declarations earlier (line_declares (context_of before) earlier item) in
    let forms = those_of (line_tests (context_of before) earlier line) in
    let more = list_all is_well_formed (lines_in_context_after (before ++ item ∷ []) next ls) in
    let tests = item_tests (context_of before) earlier item in
    let bytes = not (list_all is_legal_byte (outside_comment line)) in
    let rest : FaultTests = (bytes, BadByte) ∷ tests in
    let none = no_faults forms (first_so _ _ h) in
    both_so _ _ (both_so _ _ (fine (has_legal_length line) (first_test _ LineTooLong rest none))
    (fine (list_all is_legal_byte (outside_comment line)) (first_test bytes BadByte tests (later_tests _ LineTooLong rest none))))
    (legal-lines ls (before ++ item ∷ []) next (second_so _ _ h))
  where
    fine : (b : Bool) → not b ≡ false → b ≡ true
    fine = grind arith

-- items that end at ENDATA
together-at_end : (items : List LineContent) (all : Draft) → AreInWords items all →
    is_section EndData (current_section items) ≡ true → are_good_together items ≡ true
together-at_end = grind (arith, both_so, named-in_words, section-is, columns-there, section-begun, word-at_end, rows-there)

pub text-in_words : (bytes : List ℕ) → is_mps_text bytes ≡ true → is_text_in_words bytes ≡ true
text-in_words bytes text = let ended = first_so _ (list_all is_well_formed (lines_in_context bytes)) text in
    let good = second_so (has_end bytes) _ text in
    let items = map content_of (read_lines bytes) in
    let all = more-lines items [] empty_draft (items-good [] empty_draft (read_lines bytes) good) none-yet in
    both_so _ _ ended (both_so _ _ (legal-lines (read_lines bytes) [] empty_draft good)
    (together-at_end items all.0 all.1 (ends-last (lines bytes) None ended)))

-- ---- the columns of a draft

-- each column that exists has a line
abbrev pub HaveLines : List LineContent → Draft → Type 0
HaveLines before earlier = (name : List ℕ) → has_column earlier name ≡ true →
    list_any (same_column (Some name)) (columns_of before) ≡ true

cells-none : (line : ValuesLine) (b : Bool)
    → no_columns (cond b (declare_marked line.name ∷ []) [] ++ flat_map (coefficient_declared line.name) line.pairs) ≡ true
cells-none = grind (arith, each-flat, declares_column)

own-or-old : (context : Context) (earlier : Draft) (fields : Fields) (name : List ℕ) → has_column (with_declarations earlier
    (columns_line_declared context fields)) name ≡ true →
    (same_column (Some name) (line_column fields) || has_column earlier name) ≡ true
own-or-old = grind (arith, columns-kept, cells-none, has-put)

no-columns-header : (context : Context) (earlier : Draft) (more : Fields) (o : Option Section)
    → no_columns (header_declared context earlier more o) ≡ true
no-columns-header = grind arith

no-columns-data : (context : Context) (earlier : Draft) (fields : Fields) (o : Option Section) → is_section Columns o ≡ false
    → no_columns (data_declared context earlier fields o) ≡ true
no-columns-data = grind arith

pub lines-push : Keeps HaveLines
lines-push before earlier item have name h =
    grind (
      arith,
      data_lines-push,
      map-append,
      list_any-append,
      columns_of,
      no_columns,
      columns-kept,
      or_right,
      or_left,
      own-or-old,
      section-is,
      no-columns-data,
      no-columns-header,
    )

pub not-split : (before : List LineContent) (earlier : Draft) (name : List ℕ) → HaveLines before earlier
    → comes_again (Some name) (columns_of before) ≡ false → is_split (context_of before) earlier name ≡ false
not-split = grind (arith, last-line, last_of, columns_of)

-- ---- data lines

-- what the sections of the whole are together, as needed for their data lines
pub record AreGoodLines (items : List LineContent) : Type 0 where
  pub strays : not (is_nonempty (stray_lines items)) ≡ true
  pub sense : has_word_at_most is_sense (words_in ObjSense items) ≡ true
  pub name : has_word_at_most (λ _. true) (words_in ObjName items) ≡ true
  pub rows : list_all is_row_line (data_lines Rows items) ≡ true
  pub columns : list_all is_columns_line (data_lines Columns items) ≡ true
  pub right_sides : list_all is_vector_line (data_lines Rhs items) ≡ true
  pub ranges : list_all is_vector_line (data_lines Ranges items) ≡ true
  pub bounds : list_all is_bound_line (data_lines Bounds items) ≡ true
  pub markers : alternate opening_word closing_word (filter_map marker_word (data_lines Columns items)) ≡ true
  pub together : are_together (columns_of items) ≡ true
  pub right_side_set : is_one_set (filter_map vector_set (data_lines Rhs items)) ≡ true
  pub range_set : is_one_set (filter_map vector_set (data_lines Ranges items)) ≡ true
  pub bound_sets : is_one_set (filter_map bound_set (data_lines Bounds items)) ≡ true

none-strays : (xs : List Fields) (b : Bool) (fields : Fields) (ys : List Fields) →
    not (is_nonempty (xs ++ (when b fields ++ ys))) ≡ true → b ≡ false
none-strays (x ∷ xs) b fields ys h = cc
none-strays [] true fields ys h = cc
none-strays [] false fields ys h = refl

sets-fit : (set_of : Fields → Option (List ℕ)) (lines : List Fields) (fields : Fields) (more : List Fields)
    → is_one_set (filter_map set_of (lines ++ fields ∷ more)) ≡ true → (set : List ℕ) → set_of fields ≡ Some set
    → is_other_set (head_of (filter_map set_of lines)) set ≡ false
sets-fit = grind (arith, set-fits, filter_map-append)

pub data-good : (before : List LineContent) (earlier : Draft) (fields : Fields) (rest : List LineContent) →
    IsUnderway ObjSense is_sense before → IsUnderway ObjName (λ _. true) before → HaveLines before earlier
    → AreGoodLines (before ++ data_line fields ∷ rest) → IsGood before earlier (data_line fields)
data-good before earlier fields rest sense name have h = by (current_section before) refl
  where
    full : List LineContent
    full = before ++ data_line fields ∷ rest

    later : Section → List Fields
    later section = said_after (fields_under section) (current_section before) rest

    -- the data lines of the current section
    occurs : (section : Section) → is_section section (current_section before) ≡ true
        → data_lines section full ≡ data_lines section before ++ fields ∷ later section
    occurs = grind (arith, data-occurs)

    fits : (section : Section) (test : Fields → Bool) → is_section section (current_section before) ≡ true
        → list_all test (data_lines section full) ≡ true → test fields ≡ true
    fits = grind (arith, passes-all, data_lines, list_all, occurs)

    set_fits : (section : Section) (set_of : Fields → Option (List ℕ)) → is_section section (current_section before) ≡ true
        → is_one_set (filter_map set_of (data_lines section full)) ≡ true → (set : List ℕ) → set_of fields ≡ Some set
        → is_other_set (head_of (filter_map set_of (data_lines section before))) set ≡ false
    set_fits = grind (arith, sets-fit, data_lines, lines, is_one_set, occurs)

    marker_fits : is_section Columns (current_section before) ≡ true → (word : List ℕ) → marker_word fields ≡ Some word
        → same_bytes word (cond (context_of before).in_integer_part closing_word opening_word) ≡ true
    marker_fits e word m = marker-follows (filter_map marker_word (data_lines Columns before)) None word (filter_map marker_word
        (later Columns)) false refl (sym (ap (alternate opening_word closing_word) (ap (filter_map marker_word) (occurs Columns e)
        ∙ filter_map-append marker_word (data_lines Columns before) (fields ∷ later Columns)
        ∙ ap (λ (o : Option (List ℕ)). filter_map marker_word (data_lines Columns before) ++ cons_option o
        (filter_map marker_word (later Columns))) m)) ∙ h.markers)

    continues_column : is_section Columns (current_section before) ≡ true → (column : List ℕ) → line_column fields ≡ Some column
        → is_split (context_of before) earlier column ≡ false
    continues_column e column c = grind (arith, not-split, together-apart, columns_of, map-append, later, occurs)

    single : (section : Section) (test : List ℕ → Bool) → IsUnderway section test before →
        is_section section (current_section before) ≡ true → has_word_at_most test (words_in section full) ≡ true →
        (is_some (word_due before) ≡ true) × (is_single test fields ≡ true)
    single section test under e k = grind (arith, line-single, said_after-append)

    stray : (o : Option Section) → current_section before ≡ o → not (option_map_or takes_data o false) ≡ false
    stray o e = grind (arith, none-strays, said_after-append)

    sense_good : (fs : Fields) → is_some (word_due before) ≡ true → is_single is_sense fs ≡ true
        → those_of (data_tests (context_of before) earlier fs (Some ObjSense)) ≡ []
    sense_good fs w k = grind arith

    name_good : (fs : Fields) → is_some (word_due before) ≡ true → is_single (λ _. true) fs ≡ true
        → those_of (data_tests (context_of before) earlier fs (Some ObjName)) ≡ []
    name_good fs w k = grind arith

    strayed : {X : Type 0} (o : Option Section) → current_section before ≡ o → not (option_map_or takes_data o false) ≡ true → X
    strayed = grind (arith, never, option_map_or, takes_data, stray)

    good_at : (o : Option Section) → current_section before ≡ o → those_of (data_tests (context_of before) earlier fields o) ≡ []
    good_at None e = strayed None e refl
    good_at (Some Name) e = strayed (Some Name) e refl
    good_at (Some ObjSense) e = grind (arith, single, is_sense, is_section, sense_good)
    good_at (Some ObjName) e = grind (arith, single, is_section, name_good)
    good_at (Some Rows) e = grind (arith, row-good, fits, is_row_line, is_section)
    good_at (Some Columns) e = columns-good (context_of before) earlier fields
        (fits Columns is_columns_line (ap (is_section Columns) e) h.columns) (marker_fits (ap (is_section Columns) e))
        (continues_column (ap (is_section Columns) e))
    good_at (Some Rhs) e = vector-good (context_of before).rhs_set fields
        (fits Rhs is_vector_line (ap (is_section Rhs) e) h.right_sides)
        (set_fits Rhs vector_set (ap (is_section Rhs) e) h.right_side_set)
    good_at (Some Ranges) e = vector-good (context_of before).ranges_set fields
        (fits Ranges is_vector_line (ap (is_section Ranges) e) h.ranges)
        (set_fits Ranges vector_set (ap (is_section Ranges) e) h.range_set)
    good_at (Some Bounds) e = grind (arith, bound-good, context_of, fits, is_bound_line, is_section, set_fits, bound_set)
    good_at (Some EndData) e = strayed (Some EndData) e refl

    by : (o : Option Section) → current_section before ≡ o →
        those_of (data_tests (context_of before) earlier fields (current_section before)) ≡ []
    by = grind (arith, those_of, data_tests, context_of, good_at)

-- no section after this one is one of those before it
distinct-after : (s : Section) (sections_seen : List Section) (t : Section) (later : List Section) → has sections_seen s ≡ true
    → are_distinct same_section (sections_seen ++ t ∷ later) ≡ true → has later s ≡ false
distinct-after s [] t later h k = cc
distinct-after s (x ∷ sections_seen) t later h k = by (is_section s (Some x)) refl h (not_so _ (first_so _ _ k))
    (λ e. distinct-after s sections_seen t later e
    (second_so (not all) (are_distinct same_section (sections_seen ++ t ∷ later)) k))
  where
    all : Bool
    all = list_any (λ l. same_section l x) (sections_seen ++ t ∷ later)

    alike : (l : Section) → is_section s (Some x) ≡ true → same_section l x ≡ false → (b : Bool) →
        is_section s (Some l) ≡ b → b ≡ false
    alike = grind (arith, section-is)

    none : is_section s (Some x) ≡ true → (ls : List Section) →
        list_any (λ (l : Section). same_section l x) ls ≡ false → has ls s ≡ false
    none e [] f = refl
    none e (l ∷ ls) f = let parts = nor _ _ f in
        both_false _ _ (alike l e parts.0 (is_section s (Some l)) refl) (none e ls parts.1)

    following : (xs : List Section) → list_any (λ (l : Section). same_section l x) (xs ++ t ∷ later) ≡ false
        → list_any (λ (l : Section). same_section l x) later ≡ false
    following [] f = (nor _ _ f).1
    following (y ∷ xs) f = following xs (nor _ _ f).1

    by : (b : Bool) → is_section s (Some x) ≡ b → (b || has sections_seen s) ≡ true → all ≡ false
        → (has sections_seen s ≡ true → has later s ≡ false) → has later s ≡ false
    by = grind (arith, none, following)

-- what the headers of the text are together, as needed for each of them
pub record AreGoodHeaders (items : List LineContent) : Type 0 where
  pub each : list_all is_good_header items ≡ true
  pub sections : are_good_sections (seen_sections items) ≡ true
  pub rows : has_section items Rows ≡ true
  pub columns : has_section items Columns ≡ true
  pub sense : has_word_at_most is_sense (words_in ObjSense items) ≡ true
  pub name : has_word_at_most (λ _. true) (words_in ObjName items) ≡ true
  pub named : has_named_objective items ≡ true

first-stays : {X : Type 0} (xs ys : List X) (x : X) → head_of xs ≡ Some x → head_of (xs ++ ys) ≡ Some x
first-stays = grind arith

pub keyword-good : (before : List LineContent) (earlier : Draft) (keyword : List ℕ) (more : Fields) (rest : List LineContent)
    → IsUnderway ObjSense is_sense before → IsUnderway ObjName (λ _. true) before → IsWantedThere before →
    IsDeclared before earlier → AreGoodHeaders (before ++ header keyword more ∷ rest) →
    IsGood before earlier (header keyword more)
keyword-good before earlier keyword more rest sense name there stated h =
    by (section_named keyword) refl (passes-all is_good_header before (header keyword more) rest h.each)
  where
    full : List LineContent
    full = before ++ header keyword more ∷ rest

    sections_seen : List Section
    sections_seen = seen_sections before

    later : List Section
    later = seen_sections rest

    begun : (t : Section) → section_named keyword ≡ Some t → seen_sections full ≡ sections_seen ++ t ∷ later
    begun = grind (arith, filter_map-append, section_of_header, header, cons_option)

    good : (t : Section) → section_named keyword ≡ Some t → are_good_sections (sections_seen ++ t ∷ later) ≡ true
    good = grind (arith, are_good_sections, begun)

    distinct : (t : Section) → section_named keyword ≡ Some t → are_distinct same_section (sections_seen ++ t ∷ later) ≡ true
    distinct = grind (arith, second_so, in_order, are_distinct, same_section, good)

    fresh : (t : Section) → section_named keyword ≡ Some t → has sections_seen t ≡ false
    fresh t e = distinct-before sections_seen t later (distinct t e)

    may : (t : Section) → section_named keyword ≡ Some t → may_begin (context_of before) t ≡ true
    may t e = begins-so before t later (good t e) (sym (ap (λ (all : List Section). has all Rows) (begun t e)) ∙ h.rows)
        (sym (ap (λ (all : List Section). has all Columns) (begun t e)) ∙ h.columns)

    words : (s t : Section) → section_named keyword ≡ Some t
        → words_in s full ≡ words_in s before ++ (when (is_section s (Some t)) more ++ said_after (word_fields s) (Some t) rest)
    words s t e = grind (arith, said_after-append)

    fits : (s : Section) (test : List ℕ → Bool) → section_named keyword ≡ Some s → is_section s (Some s) ≡ true →
        IsUnderway s test before → has_word_at_most test (words_in s full) ≡ true → fits_word test more ≡ true
    fits s test e itself under k = grind (arith, header-fits, fresh, words)

    idle : (t : Section) → section_named keyword ≡ Some t → is_some (word_due before) ≡ false
    idle t e = of (is_some (word_due before)) refl
      where
        other : (s : Section) → is_section s (current_section before) ≡ true → (b : Bool) → is_section s (Some t) ≡ b → b ≡ false
        other s here true f = let same : Some t ≡ Some s = section-is s (Some t) f in
            absurd (never (has sections_seen s) (section-begun s sections_seen here)
            (sym (ap (λ (o : Option Section). option_map_or (has sections_seen) o false) same) ∙ fresh t e))
        other s here false f = refl

        left : (s : Section) (test : List ℕ → Bool) → IsUnderway s test before → is_some (word_due before) ≡ true
            → is_section s (current_section before) ≡ true → has_word_at_most test (words_in s full) ≡ true → ⊥
        left s test under w here k = let out = other s here (is_section s (Some t)) refl in
            let none = no-more-words s (Some t) rest out
            (distinct-after s sections_seen t later (section-begun s sections_seen here) (distinct t e)) in
            not-left s test before under here w
            (sym (ap (has_word_at_most test)
            (words s t e ∙ ap (λ (b : Bool). words_in s
            before ++ (when b more ++ said_after (word_fields s) (Some t) rest)) out
            ∙ ap (λ (ws : List Fields). words_in s before ++ ws) none ∙ append-nil (words_in s before))) ∙ k)

        which : (b : Bool) → is_section ObjSense (current_section before) ≡ b →
            (b || is_section ObjName (current_section before)) ≡ true → is_some (word_due before) ≡ true → ⊥
        which = grind (arith, left, is_sense)

        of : (b : Bool) → is_some (word_due before) ≡ b → is_some (word_due before) ≡ false
        of = grind (arith, which, is_section, current_section)

    follows : (t : Section) → section_named keyword ≡ Some t → (may_have_more t || not (is_nonempty more)) ≡ true →
        may_follow t more ≡ true
    follows = grind (arith, fits, is_sense, fits_word, may_follow)

    -- the N row with the name is before COLUMNS
    complete : section_named keyword ≡ Some Columns → lacks_objective (context_of before) earlier ≡ false
    complete e = of (objname before) refl
      where
        says : Option Section → LineContent → List (List ℕ)
        says current item = cons_option (objname_word current item) []

        row : (word : List ℕ) → objname before ≡ Some word → has_free_row before word ≡ true
        row word f = let whole : objname full ≡ Some word =
            ap head_of (said_after-append says None before (header keyword more ∷ rest))
            ∙ first-stays (said_after says None before)
            (said_after says (current_section before) (header keyword more ∷ rest)) word f in
            let lines : data_lines Rows full ≡ data_lines Rows before =
            said_after-append (fields_under Rows) None before (header keyword more ∷ rest)
            ∙ ap (λ (o : Option Section). data_lines Rows before ++ data_lines_after Rows
            (option_or o (current_section before)) rest) e
            ∙ ap (λ (ls : List Fields). data_lines Rows before ++ ls) (no-more-lines Rows (Some Columns) rest refl
            (distinct-after Rows sections_seen Columns later (may Columns e) (distinct Columns e)))
            ∙ append-nil (data_lines Rows before) in
            sym (ap (list_any (is_free_row_named word)) lines)
            ∙ (sym (ap (λ (o : Option (List ℕ)). option_map_or (has_free_row full) o true) whole)
            ∙ (sym (named-in_words full h.name) ∙ h.named))

        none_of : (o : Option (List ℕ)) (b : Bool) → is_some o ≡ true → (is_none o && b) ≡ false
        none_of = grind arith

        nowhere : (b : Bool) → (b && false) ≡ false
        nowhere = grind arith

        of : (o : Option (List ℕ)) → objname before ≡ o → (is_none earlier.objective && is_some (objname before)) ≡ false
        of None f = grind (arith, is_none, is_some, nowhere)
        of (Some word) f = none_of earlier.objective (is_some (objname before)) (stated word f (row word f))

    tests : (t : Section) → section_named keyword ≡ Some t → those_of (section_tests (context_of before) earlier t more) ≡ []
    tests = grind (arith, fits, is_sense, is_some, those_of, is_none, fits_word, section_tests, context_of, sense_of, complete)

    by : (o : Option Section) → section_named keyword ≡ o →
        option_map_or (λ (t : Section). may_have_more t || not (is_nonempty more)) (section_named keyword) false ≡ true
        → those_of (header_tests (context_of before) earlier keyword more (section_named keyword)) ≡ []
    by None e k = grind (arith, option_map_or, may_have_more, is_nonempty)
    by (Some t) e k = grind (
      arith,
      those_of,
      header_tests,
      context_of,
      header-good,
      idle,
      fresh,
      may,
      follows,
      option_map_or,
      may_have_more,
      is_nonempty,
      tests,
    )

both : (a b : Bool) → (a && b) ≡ true → (a ≡ true) × (b ≡ true)
both = grind arith

-- what the lines before imply for the next one
pub record Known (before : List LineContent) (earlier : Draft) : Type 0 where
  pub words : AreInWords before earlier
  pub lines : HaveLines before earlier
  pub declares : IsDeclared before earlier
  pub there : IsWantedThere before

pub none-known : Known [] empty_draft
none-known = grind arith

pub known-kept : KeepsIfGood Known
known-kept before earlier item good known = search (rules, one-more, lines-push, declared-kept, wanted_there-kept)

all-good : (items before : List LineContent) (earlier : Draft) → Known before earlier → AreGoodLines (before ++ items)
    → AreGoodHeaders (before ++ items) → are_well_formed before earlier items ≡ true
all-good [] before earlier known lines headers = refl
all-good (item ∷ items) before earlier known lines headers =
    let next = with_declarations earlier (line_declares (context_of before) earlier item) in
    let good = here item lines headers in
    both_so (not (is_nonempty (form_faults (context_of before) earlier item))) (are_well_formed (before ++ item ∷ []) next items)
    (ap (λ faults. not (is_nonempty faults)) good)
    (all-good items (before ++ item ∷ []) next (known-kept before earlier item good known)
    (subst AreGoodLines (sym (append_assoc before (item ∷ []) items)) lines)
    (subst AreGoodHeaders (sym (append_assoc before (item ∷ []) items)) headers))
  where
    here : (x : LineContent) → AreGoodLines (before ++ x ∷ items) → AreGoodHeaders (before ++ x ∷ items) → IsGood before earlier x
    here x l h = grind (arith, keyword-good, data-good)

text-of_words : (bytes : List ℕ) → is_text_in_words bytes ≡ true → is_mps_text bytes ≡ true
text-of_words bytes h = grind (arith, both, both_so, lines-good, all-good, none-known)

same-answers : (a b : Bool) → (a ≡ true → b ≡ true) → (b ≡ true → a ≡ true) → a ≡ b
same-answers = grind arith

pub text-is_in_words : TextIsInWords
text-is_in_words bytes = same-answers (is_mps_text bytes) (is_text_in_words bytes) (text-in_words bytes) (text-of_words bytes)
