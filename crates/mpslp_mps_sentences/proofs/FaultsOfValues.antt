-- The objective and the rows without limits of a draft; lines with a rejected value, bound or type are as
-- `ValueFaultsInWords` defines the kind of their error.
use Rattle.mpslp_mps_sentences.proofs.Prelude
use Prelude.{arith, ◌≡◌, refl, sym, ap, ◌∙◌, List, [], ◌∷◌, ◌++◌, ℕ, Bool, true, false, cond, false≢true, append-nil, filter_map-append}
use Prelude.{flat_map-append, list_any-append, Option, Some, None, is_none, is_some, filter_map, ◌||◌, ◌&&◌, codes, list_any, flat_map}
use Prelude.{cons_option, option_map_or, same_bytes, RowType, Free, when, head_of, is_nonempty, or_left, or_right, by_type}
use Prelude.{declare_objective, declare_row, Draft, with_declaration, with_declarations, is_objective, is_free_definition, is_free_row}
use Prelude.{Extends, itself_named, is_objective-after, at-put, same_name, Fields, LineContent, header, data_line, section_named}
use Prelude.{is_section, RowLine, row_shape, row_type, Section, ObjName, Rows, Columns, Context, context_of, current_section, seen_sections}
use Prelude.{fields_under, data_lines, objname, has_section, declared_if_some, row_of_type, row_declared, data_declared, header_declared}
use Prelude.{line_declares, IsGood, never, data_lines-push, said_after-push, is_free, is_free_row_named, has_free_row, word_fields}
use Prelude.{words_in, is_free_row_line, free_row_name, names_objective, rules, map, filter, list_all, Number, FaultKind, either_more}
use Prelude.{declare_rhs, declare_range, Declarations, has_name, is_row_by_limits, rhs_declared, has_one_constant, refusals_in_turn}
use Prelude.{extends-in_turn, HasDeclaredNames, HasKindsApart, none-fine, empty_declared_names, empty_kinds_apart, has-put, value_of, Pair}
use Prelude.{ValuesLine, vector_shape, is_integer_type, is_semi_type, Rhs, Ranges, rhs_line_declared, ranges_declared, IsInWords}
use Prelude.{has_row_twice, is_without_limits, ranges_free_row, has_value_of, repeats_row_of, repeats_range, takes_side, repeats_side}
use Prelude.{gives_lower, gives_upper, nat_le, second_so, Limit, both_false, either, declare_column, declare_coefficient, declare_marked}
use Prelude.{is_integer, is_semi, skipped, has, column_shape, is_marker_line, BoundLine, bound_type, bound_shape, BoundType, ObjSense}
use Prelude.{Bounds, coefficient_declared, column_declared, columns_line_declared, bound_declared, bound_value, bound_line_declared}
use Prelude.{section_rank, is_such_bound, has_bound, repeats_bound_of, repeats_bound, is_integer_column, clashes_with, makes_both_kinds}
use Prelude.{Name, same_section}
use Rattle.mpslp_mps_sentences.proofs.DeclaredByLines.{IsPartOf, lines-kept, IsErrorOfSection, line-of, unrefused-header, HaveMarkedLines}
use Rattle.mpslp_mps_sentences.proofs.DeclaredByLines.{marked_lines-kept, IsPlain, none-plain, plain-kept, HaveRangeLines, range_lines-kept}
use Rattle.mpslp_mps_sentences.proofs.DeclaredByLines.{HaveSideLines, side_lines-kept, HaveBoundLines, lower_of, upper_of, integer_of}
use Rattle.mpslp_mps_sentences.proofs.DeclaredByLines.{semi_of, lower_lines-kept, upper_lines-kept, integer_lines-kept, semi_lines-kept}
use Rattle.mpslp_mps_sentences.proofs.FaultedLines.{Stated, refuses, is_below, IsKept, IsFirst, in-words-by, kinds_in, header_kinds}
use Rattle.mpslp_mps_sentences.proofs.{FaultedLines.{none-stated, stated-kept}, FaultsOfNames.{last-place, columns-out, form-good, some}}
use Rattle.mpslp_mps_sentences.proofs.{FaultsOfNames.{below-all, good-refused}, FieldsInWords.{section-is, Keeps, next_draft}}
use Rattle.mpslp_mps_sentences.proofs.SectionsInWords.{IsWantedEarly, objective-kept, header-unnamed, data-unnamed, stated-words, missing}
use Rattle.mpslp_mps_sentences.proofs.SectionsInWords.{without_word, with_word, IsUnderway, no-more-lines}
use Rattle.mpslp_types.specs.declared.faults.FaultKind.TheVariants as kinds

-- ---- the objective of a draft and its rows without limits are those that the lines before name as such

-- ---- a row without limits has a line of type N

free-part : (row : List ℕ) → IsPartOf Rows (λ all. is_free_row all row)
free-part = grind arith

abbrev pub HaveFreeLines : List LineContent → Draft → Type 0
HaveFreeLines before earlier = (row : List ℕ) → is_free_row earlier row ≡ true → has_free_row before row ≡ true

-- after a row of this type
row-after : (all : Draft) (name row : List ℕ) (type : RowType) →
    is_free_row (with_declaration all (declare_row name (by_type type))) row ≡ cond (same_bytes row name)
    (is_free_definition (by_type type)) (is_free_row all row)
row-after = grind (arith, at-put)

same-back : (a b : List ℕ) → same_bytes a b ≡ true → same_bytes b a ≡ true
same-back = search (rules, same_bytes, same_name, itself_named)

pub free_lines-kept : Keeps HaveFreeLines
free_lines-kept before earlier item have row h =
    lines-kept Rows (λ all. is_free_row all row) (free-part row) _ own before earlier item (have row) h
  where
    limited : (all : Draft) (name : List ℕ) (type : RowType) → is_free_definition (by_type type) ≡ false
        → is_free_row (with_declaration all (declare_row name (by_type type))) row ≡ true → is_free_row all row ≡ true
    limited = grind (arith, row-after, never)

    free : (all : Draft) (name : List ℕ) (b : Bool)
        → is_free_row (with_declarations all
        (cond b (declare_objective name ∷ []) (declare_row name (by_type Free) ∷ []))) row ≡ true
        → (same_bytes name row || is_free_row all row) ≡ true
    free = grind (arith, or_right, row-after, or_left, same-back)

    typed : (context : Context) (all : Draft) (line : RowLine) (o : Option RowType)
        → is_free_row (with_declarations all (declared_if_some (row_of_type context all line.name) o)) row ≡ true
        → ((is_free o && same_bytes line.name row) || is_free_row all row) ≡ true
    typed = grind (arith, free, limited)

    of : (context : Context) (all : Draft) (o : Option RowLine)
        → is_free_row (with_declarations all (declared_if_some (row_declared context all) o)) row ≡ true
        → (option_map_or (λ (line : RowLine). is_free (row_type line.letter) && same_bytes line.name row) o false ||
        is_free_row all row) ≡ true
    of context all None k = k
    of context all (Some line) k = typed context all line (row_type line.letter) k

    own : (context : Context) (all : Draft) (fields : Fields) → is_free_row (with_declarations all
        (data_declared context all fields (Some Rows))) row ≡ true → (is_free_row_named row fields || is_free_row all row) ≡ true
    own = grind (arith, of, row_shape)

-- ---- a row of type N has no limits, or is the objective

abbrev pub AreRowsFree : List LineContent → Draft → Type 0
AreRowsFree before earlier = (row : List ℕ) → has_free_row before row ≡ true →
    (is_free_row earlier row || is_objective earlier row) ≡ true

free-after : (before after : Draft) (row : List ℕ) → Extends before after → is_free_row before row ≡ true →
    is_free_row after row ≡ true
free-after = grind arith

pub rows_free-kept : (before : List LineContent) (earlier : Draft) (item : LineContent) →
    Extends earlier (next_draft before earlier item) → AreRowsFree before earlier →
    AreRowsFree (before ++ item ∷ []) (next_draft before earlier item)
rows_free-kept before earlier item e have row h =
    by (has_free_row before row) refl item e (sym (ap (list_any (is_free_row_named row)) (data_lines-push Rows before item)
    ∙ list_any-append (is_free_row_named row) (data_lines Rows before) (fields_under Rows (current_section before) item)) ∙ h)
  where
    next : LineContent → Draft
    next x = with_declarations earlier (line_declares (context_of before) earlier x)

    old : (x : LineContent) → Extends earlier (next x) → (is_free_row earlier row || is_objective earlier row) ≡ true
        → (is_free_row (next x) row || is_objective (next x) row) ≡ true
    old = grind (arith, or_left, free-after, or_right, is_objective-after, next)

    new : (line : RowLine) (b : Bool) → same_bytes line.name row ≡ true → (is_free_row (with_declarations earlier
        (cond b (declare_objective line.name ∷ []) (declare_row line.name (by_type Free) ∷ []))) row || is_objective
        (with_declarations earlier (cond b (declare_objective line.name ∷ [])
        (declare_row line.name (by_type Free) ∷ []))) row) ≡ true
    new = grind (arith, or_right, same-back, or_left, row-after)

    typed : (line : RowLine) (o : Option RowType) → (is_free o && same_bytes line.name row) ≡ true
        → (is_free_row (with_declarations earlier (declared_if_some (row_of_type (context_of before) earlier line.name) o)) row
        || is_objective (with_declarations earlier (declared_if_some (row_of_type (context_of before) earlier line.name)
        o)) row) ≡ true
    typed = grind (arith, false≢true, new)

    shaped : (o : Option RowLine) →
        option_map_or (λ (line : RowLine). is_free (row_type line.letter) && same_bytes line.name row) o false
        ≡ true → (is_free_row (with_declarations earlier (declared_if_some (row_declared (context_of before) earlier) o)) row
        || is_objective (with_declarations earlier (declared_if_some (row_declared (context_of before) earlier) o)) row) ≡ true
    shaped = grind (arith, false≢true, typed, row_type)

    one : (b : Bool) → (b || false) ≡ true → b ≡ true
    one = grind arith

    under : (fields : Fields) (b : Bool) → is_section Rows (current_section before) ≡ b →
        list_any (is_free_row_named row) (when b fields) ≡ true →
        (is_free_row (next (data_line fields)) row || is_objective (next (data_line fields)) row) ≡ true
    under = grind (arith, section-is, false≢true, shaped, one)

    here : (x : LineContent) → list_any (is_free_row_named row) (fields_under Rows (current_section before) x) ≡ true
        → (is_free_row (next x) row || is_objective (next x) row) ≡ true
    here = grind (arith, false≢true, under)

    by : (b : Bool) → has_free_row before row ≡ b → (x : LineContent) → Extends earlier (next x) →
        (b || list_any (is_free_row_named row) (fields_under Rows (current_section before) x)) ≡ true →
        (is_free_row (next x) row || is_objective (next x) row) ≡ true
    by = grind (arith, old, here)

-- ---- the names among which the first is that of the objective

abbrev stated_names : List LineContent → List (List ℕ)
stated_names before = flat_map (λ fields. fields) (words_in ObjName before)

abbrev free_names : List LineContent → List (List ℕ)
free_names before = filter_map free_row_name (data_lines Rows before)

stated-push : (before : List LineContent) (item : LineContent) → stated_names (before ++ item ∷ []) ≡ stated_names before
    ++ flat_map (λ fields. fields) (word_fields ObjName (current_section before) item)
stated-push = grind (arith, said_after-push, flat_map-append)

free-push : (before : List LineContent) (item : LineContent)
    → free_names (before ++ item ∷ []) ≡ free_names before ++ filter_map free_row_name
    (fields_under Rows (current_section before) item)
free-push = grind (arith, data_lines-push, filter_map-append)

-- OBJNAME gives the name that is its word
objname-stated : (before : List LineContent) → IsUnderway ObjName (λ _. true) before →
    objname before ≡ head_of (stated_names before)
objname-stated = grind (arith, stated-words, false≢true, missing, without_word, with_word)

-- a line of type N gives a name
free-named : (fields : Fields) → is_free_row_line fields ≡ true → is_some (free_row_name fields) ≡ true
free-named = grind arith

-- no line of type N
none-free : (lines : List Fields) → is_nonempty (filter_map free_row_name lines) ≡ false → list_any is_free_row_line lines ≡ false
none-free [] h = refl
none-free (fields ∷ lines) h = by (is_free_row_line fields) refl (free_row_name fields) refl h (λ k. none-free lines k)
  where
    by : (b : Bool) → is_free_row_line fields ≡ b → (o : Option (List ℕ)) → free_row_name fields ≡ o
        → is_nonempty (cons_option o (filter_map free_row_name lines)) ≡ false →
        (is_nonempty (filter_map free_row_name lines) ≡ false → list_any is_free_row_line lines ≡ false) →
        (b || list_any is_free_row_line lines) ≡ false
    by = grind (arith, never, free-named)

no-free : (lines : List Fields) → list_any is_free_row_line lines ≡ false → filter_map free_row_name lines ≡ []
no-free [] h = refl
no-free (fields ∷ lines) h = by (is_free_row_line fields) refl h (λ k. no-free lines k)
  where
    by : (b : Bool) → is_free_row_line fields ≡ b → (b || list_any is_free_row_line lines) ≡ false
        → (list_any is_free_row_line lines ≡ false → filter_map free_row_name lines ≡ []) →
        filter_map free_row_name (fields ∷ lines) ≡ []
    by = grind arith

-- ---- the first of them is the objective

abbrev pub IsFirstNamed : List LineContent → Draft → Type 0
IsFirstNamed before earlier = (name : List ℕ) → is_objective earlier name ≡ true → names_objective before name ≡ true

-- OBJNAME has no more words once ROWS has begun
no-later-words : (before : List LineContent) (earlier : Draft) (item : LineContent) → IsGood before earlier item →
    IsWantedEarly before → has_section before Rows ≡ true → word_fields ObjName (current_section before) item ≡ []
no-later-words before earlier item good early begun = grind arith

-- nor ROWS more lines once COLUMNS has begun
no-later-rows : (before : List LineContent) (earlier : Draft) (item : LineContent) → Stated before earlier
    → has_section before Columns ≡ true → fields_under Rows (current_section before) item ≡ []
no-later-rows before earlier item stated begun = by item
  where
    under : (fields : Fields) (b : Bool) → is_section Rows (current_section before) ≡ b → when b fields ≡ []
    under fields true e = absurd (never _ begun
        (columns-out (seen_sections before) (last-place (seen_sections before) Rows stated.known.words.ordered.order
        (section-is Rows _ e))))
    under fields false e = refl

    by : (x : LineContent) → fields_under Rows (current_section before) x ≡ []
    by = grind (arith, under)

pub first_named-kept : (before : List LineContent) (earlier : Draft) (item : LineContent) → IsGood before earlier item
    → Stated before earlier → Extends earlier (next_draft before earlier item) → IsFirstNamed before earlier
    → IsFirstNamed (before ++ item ∷ []) (next_draft before earlier item)
first_named-kept before earlier item good stated extends have name h =
    ap (λ (names : List (List ℕ)). option_map_or (same_bytes name) (head_of names) false)
    (ap (λ (names : List (List ℕ)). names ++ (free_names (before ++ item ∷ []) ++ codes "obj" ∷ [])) (stated-push before item))
    ∙ (ap (λ (names : List (List ℕ)). option_map_or (same_bytes name)
    (head_of ((stated_names before ++ flat_map (λ fields. fields)
    (word_fields ObjName (current_section before) item)) ++ (names ++ codes "obj" ∷ []))) false) (free-push before item)
    ∙ by earlier.objective refl)
  where
    next : LineContent → Draft
    next x = with_declarations earlier (line_declares (context_of before) earlier x)

    is_first : List (List ℕ) → List (List ℕ) → Bool
    is_first stated_ones free_ones = option_map_or (same_bytes name) (head_of (stated_ones ++ (free_ones ++ codes "obj" ∷ []))) false

    Goal : LineContent → Type 0
    Goal x = is_first (stated_names before ++ flat_map (λ fields. fields) (word_fields ObjName (current_section before) x))
        (free_names before ++ filter_map free_row_name (fields_under Rows (current_section before) x)) ≡ true

    -- names after the first do not matter
    longer : (stated_ones free_ones more : List (List ℕ)) → is_nonempty free_ones ≡ true → is_first stated_ones free_ones ≡ true
        → is_first (stated_ones ++ []) (free_ones ++ more) ≡ true
    longer [] [] more e k = cc
    longer [] (x ∷ free_ones) more e k = k
    longer (x ∷ stated_ones) free_ones more e k = k

    same : (stated_ones free_ones : List (List ℕ)) → is_first stated_ones free_ones ≡ true →
        is_first (stated_ones ++ []) (free_ones ++ []) ≡ true
    same = grind (arith, append-nil)

    -- an objective that exists stays the first
    stays : (x : List ℕ) → earlier.objective ≡ Some x → is_first (stated_names before) (free_names before) ≡ true → Goal item
    stays x e k = of (word_fields ObjName (current_section before) item)
        (no-later-words before earlier item good stated.known.words.early begun) (is_nonempty (free_names before)) refl
      where
        some : is_some earlier.objective ≡ true
        some = grind arith

        begun : has_section before Rows ≡ true
        begun = grind (arith, never, some)

        of : (words : List Fields) → words ≡ [] → (b : Bool) → is_nonempty (free_names before) ≡ b
            → is_first (stated_names before ++ flat_map (λ fields. fields) words)
            (free_names before ++ filter_map free_row_name (fields_under Rows (current_section before) item)) ≡ true
        of [] w true f = grind (arith, longer, free_row_name, fields_under, current_section)
        of [] w false f = grind (arith, free_row_name, no-later-rows, same, has_section, none-free, some)
        of (fields ∷ words) w b f = cc

    -- a new objective, where there was none
    no_free : objname before ≡ None → is_none earlier.objective ≡ true → free_names before ≡ []
    no_free = grind (arith, no-free, data_lines, list_any, is_free_row_line, is_none, is_some, false≢true, objname)

    stated_head : objname before ≡ head_of (stated_names before)
    stated_head = grind (arith, objname-stated)

    none_reported : (names : List (List ℕ)) → head_of names ≡ None → names ≡ []
    none_reported = grind arith

    unnamed_so : (o : Option (List ℕ)) → is_none o ≡ true → o ≡ None
    unnamed_so = grind arith

    -- `obj` at the header of COLUMNS
    default : is_none earlier.objective ≡ true → is_none (objname before) ≡ true → same_bytes name (codes "obj") ≡ true
        → is_first (stated_names before ++ []) (free_names before ++ []) ≡ true
    default e n k = grind (arith, unnamed_so, is_first, none_reported, stated_head, no_free)

    -- a line of type N
    line_named : (line : RowLine) → is_none earlier.objective ≡ true →
        option_map_or (same_bytes line.name) (objname before) true ≡ true → same_bytes name line.name ≡ true →
        is_first (stated_names before ++ []) (free_names before ++ line.name ∷ []) ≡ true
    line_named = search (rules, no_free, stated_head, head_of, objname, same_bytes, option_map_or, same_name)

    unchanged : (x : LineContent) → is_none earlier.objective ≡ true → (next x).objective ≡ earlier.objective
        → is_objective (next x) name ≡ true → Goal x
    unchanged x e f k = grind (arith, false≢true, next)

    at_header : (keyword : List ℕ) (more : Fields) → is_none earlier.objective ≡ true → (o : Option Section) →
        section_named keyword ≡ o → is_objective
        (with_declarations earlier (header_declared (context_of before) earlier more o)) name ≡ true →
        Goal (header keyword more)
    at_header keyword more e o s k = of (is_section Columns o) refl
      where
        obj : (b : Bool) → (is_none earlier.objective && is_none (objname before)) ≡ b
            → is_objective (with_declarations earlier (cond b (declare_objective (codes "obj") ∷ []) [])) name ≡ true
            → is_first (stated_names before ++ []) (free_names before ++ []) ≡ true
        obj b f l = grind (arith, false≢true, default)

        of : (b : Bool) → is_section Columns o ≡ b → Goal (header keyword more)
        of true f = grind (
          arith,
          section-is,
          flat_map,
          when,
          is_section,
          obj,
          is_none,
          objname,
          is_objective,
          with_declarations,
          header_declared,
          context_of,
        )
        of false f = grind (
          arith,
          unchanged,
          header,
          objective-kept,
          header_declared,
          context_of,
          section_named,
          header-unnamed,
          is_section,
          is_objective,
          with_declarations,
        )

    nobody_here : is_none earlier.objective ≡ true → is_objective earlier name ≡ true → ⊥
    nobody_here = grind arith

    in_rows : (fields : Fields) → is_none earlier.objective ≡ true
        → is_objective (with_declarations earlier
        (declared_if_some (row_declared (context_of before) earlier) (row_shape fields))) name ≡ true →
        is_first (stated_names before ++ []) (free_names before ++ filter_map free_row_name (fields ∷ [])) ≡ true
    in_rows fields e k = shaped (row_shape fields) refl k
      where
        rest : List (List ℕ)
        rest = free_names before

        typed : (line : RowLine) (t : Option RowType) → row_type line.letter ≡ t
            → is_objective (with_declarations earlier
            (declared_if_some (row_of_type (context_of before) earlier line.name) t)) name ≡ true
            → is_first (stated_names before ++ []) (rest ++ cons_option (cond (is_free t) (Some line.name) None) []) ≡ true
        typed line t r l = grind (arith, nobody_here, is_first, rest, line_named)

        shaped : (o : Option RowLine) → row_shape fields ≡ o
            → is_objective (with_declarations earlier (declared_if_some (row_declared (context_of before) earlier) o)) name ≡ true
            → is_first (stated_names before ++ []) (rest ++ filter_map free_row_name (fields ∷ [])) ≡ true
        shaped o r l = grind (arith, nobody_here, is_first, rest, typed)

    at_data : (fields : Fields) → is_none earlier.objective ≡ true →
        is_objective (next (data_line fields)) name ≡ true → Goal (data_line fields)
    at_data fields e k = of (is_section Rows (current_section before)) refl
      where
        of : (b : Bool) → is_section Rows (current_section before) ≡ b → Goal (data_line fields)
        of true f = grind (
          arith,
          section-is,
          current_section,
          flat_map,
          when,
          is_section,
          free_row_name,
          in_rows,
          is_objective,
          with_declarations,
          data_declared,
          context_of,
        )
        of false f = grind (arith, unchanged, data_line, objective-kept, data_declared, context_of, current_section, data-unnamed)

    fresh : (x : LineContent) → is_none earlier.objective ≡ true → is_objective (next x) name ≡ true → Goal x
    fresh x e k = grind (arith, nobody_here, at_header, at_data)

    by : (o : Option (List ℕ)) → earlier.objective ≡ o → Goal item
    by o e = grind (arith, stays, fresh)

-- ---- lines of RHS, RANGES and BOUNDS with a rejected value are as `ValueFaultsInWords` defines the kind of their
-- error. Lines of BOUNDS with a rejected bound or type are as `ValueFaultsInWords` defines the kind of their error

-- ---- what the lines before declare, if none of them has an error

pub record AreValuesStated (before : List LineContent) (earlier : Draft) : Type 0 where
  pub stated : Stated before earlier
  pub names : HasDeclaredNames earlier
  pub apart : HasKindsApart earlier
  pub one_constant : has_one_constant earlier ≡ true
  pub plain : IsPlain earlier
  pub free_lines : HaveFreeLines before earlier
  pub rows_free : AreRowsFree before earlier
  pub first_named : IsFirstNamed before earlier
  pub sides : HaveSideLines before earlier
  pub ranges : HaveRangeLines before earlier
  pub lowers : HaveBoundLines lower_of gives_lower before earlier
  pub uppers : HaveBoundLines upper_of gives_upper before earlier
  pub integers : HaveBoundLines integer_of is_integer_type before earlier
  pub semis : HaveBoundLines semi_of is_semi_type before earlier
  pub marked : HaveMarkedLines before earlier

values-kept : (before : List LineContent) (earlier : Draft) (item : LineContent) → IsGood before earlier item
    → refusals_in_turn earlier (line_declares (context_of before) earlier item) ≡ [] → AreValuesStated before earlier
    → AreValuesStated (before ++ item ∷ []) (next_draft before earlier item)
values-kept before earlier item good free h =
    let fine = none-fine (line_declares (context_of before) earlier item) earlier h.names h.apart h.one_constant free in
    let extends = extends-in_turn (line_declares (context_of before) earlier item) earlier fine.fresh in
    record {
      stated = stated-kept before earlier item good h.stated;
      names = fine.declared_names;
      apart = fine.kinds_apart;
      one_constant = fine.one_constant;
      plain = plain-kept (context_of before) earlier item h.plain;
      free_lines = free_lines-kept before earlier item h.free_lines;
      rows_free = rows_free-kept before earlier item extends h.rows_free;
      first_named = first_named-kept before earlier item good h.stated extends h.first_named;
      sides = side_lines-kept before earlier item h.sides;
      ranges = range_lines-kept before earlier item h.ranges;
      lowers = lower_lines-kept before earlier item h.lowers;
      uppers = upper_lines-kept before earlier item h.uppers;
      integers = integer_lines-kept before earlier item h.integers;
      semis = semi_lines-kept before earlier item h.semis;
      marked = marked_lines-kept before earlier item h.marked;
    }

pub values-stated : IsKept AreValuesStated
values-stated = grind (arith, none-stated, empty_declared_names, empty_kinds_apart, none-plain, values-kept)

-- a kind after those of all forms: one of the declarations of the line is rejected with it
pub rejected : (kind : FaultKind) (before : List LineContent) (earlier : Draft) (item : LineContent)
    → is_below kind kinds.LineTooLong ≡ true → is_below kind kinds.BadByte ≡ true → list_all (is_below kind) header_kinds ≡ true
    → ((o : Option Section) → list_all (is_below kind) (kinds_in o) ≡ true) → IsFirst kind before earlier item
    → refuses kind earlier (line_declares (context_of before) earlier item) ≡ true
rejected = grind (arith, good-refused, form-good)

-- ---- RangeOnFree

of-ranges : IsErrorOfSection Ranges kinds.RangeOnFree
of-ranges = grind arith

ranges-free : (pairs : List Pair) (all : Draft)
    → refuses kinds.RangeOnFree all (map (λ (pair : Pair). declare_range pair.row (value_of pair.literal)) pairs) ≡ true
    → list_any (λ pair. is_objective all pair.row || is_free_row all pair.row) pairs ≡ true
ranges-free [] all h = h
ranges-free (pair ∷ pairs) all h =
    grind (arith, refuses, ranges-free pairs (with_declaration all (declare_range pair.row (value_of pair.literal))))

free-range : (before : List LineContent) (earlier : Draft) (item : LineContent) → AreValuesStated before earlier
    → IsFirst kinds.RangeOnFree before earlier item → ranges_free_row before item ≡ true
free-range before earlier item stated first =
    line-of Ranges kinds.RangeOnFree of-ranges _ before earlier (λ fields h. of (vector_shape fields) h)
    item (rejected kinds.RangeOnFree before earlier item refl refl refl (below-all kinds.RangeOnFree refl refl refl refl) first)
  where
    without : (row : List ℕ) → (is_objective earlier row || is_free_row earlier row) ≡ true → is_without_limits before row ≡ true
    without = grind (arith, or_right, or_left)

    of : (o : Option ValuesLine) → refuses kinds.RangeOnFree earlier (declared_if_some ranges_declared o) ≡ true
        → list_any (λ pair. is_without_limits before pair.row) (option_map_or (λ (line : ValuesLine). line.pairs) o []) ≡ true
    of None h = h
    of (Some line) h = some _ (λ pair. is_without_limits before pair.row) line.pairs (λ pair k. without pair.row k)
        (ranges-free line.pairs earlier h)

pub free-ranges : IsInWords kinds.RangeOnFree ranges_free_row
free-ranges = in-words-by AreValuesStated values-stated kinds.RangeOnFree ranges_free_row refl refl refl free-range

-- ---- rows of the pairs of a line: one that is there already, or twice

-- one after another, each with those before it
abbrev again : (List ℕ → Bool) → List Pair → Bool
again there [] = false
again there (pair ∷ more) = there pair.row || again (λ row. same_bytes row pair.row || there row) more

again-more : (p q : List ℕ → Bool) → ((row : List ℕ) → p row ≡ true → q row ≡ true) → (pairs : List Pair) →
    again p pairs ≡ true → again q pairs ≡ true
again-more p q h [] k = k
again-more p q h (pair ∷ pairs) k =
    grind (
      arith,
      either_more,
      again-more (λ row. same_bytes row pair.row || p row)
          (λ row. same_bytes row pair.row || q row)
          (λ row e. either_more (same_bytes row pair.row) (p row) (same_bytes row pair.row) (q row) (λ f. f) (h row) e) pairs,
    )

some-either : (p q : Pair → Bool) (pairs : List Pair) →
    list_any (λ pair. p pair || q pair) pairs ≡ (list_any p pairs || list_any q pairs)
some-either p q [] = refl
some-either p q (pair ∷ pairs) = grind (arith, some-either p q pairs)

-- so a row is twice among the pairs, or one of them is there
twice-or_there : (there : List ℕ → Bool) (pairs : List Pair) → again there pairs ≡ true
    → (has_row_twice pairs || list_any (λ pair. there pair.row) pairs) ≡ true
twice-or_there there [] h = h
twice-or_there there (pair ∷ pairs) h =
    by (there pair.row) h (λ k. twice-or_there (λ row. same_bytes row pair.row || there row) pairs k)
  where
    others : list_any (λ other. same_bytes other.row pair.row || there other.row) pairs
        ≡ (list_any (λ other. same_bytes other.row pair.row) pairs || list_any (λ other. there other.row) pairs)
    others = some-either _ _ pairs

    mix : (t a b : Bool) → (t || (a || b)) ≡ true → ((a || t) || b) ≡ true
    mix = grind arith

    by : (b : Bool) → (b || again (λ row. same_bytes row pair.row || there row) pairs) ≡ true
        → (again (λ row. same_bytes row pair.row || there row) pairs ≡ true
        → (has_row_twice pairs || list_any (λ other. same_bytes other.row pair.row || there other.row) pairs) ≡ true)
        → ((list_any (λ other. same_bytes other.row pair.row) pairs || has_row_twice pairs) ||
        (b || list_any (λ other. there other.row) pairs)) ≡ true
    by = grind (arith, or_right, mix, others)

-- each row that is there has a line
repeats-from_again : (lines : List Fields) (there : List ℕ → Bool) → ((row : List ℕ) → there row ≡ true
    → list_any (has_value_of row) lines ≡ true) → (pairs : List Pair) → again there pairs ≡ true →
    repeats_row_of lines pairs ≡ true
repeats-from_again lines there have pairs h = search (rules, either_more, some, twice-or_there)

-- ---- DuplicateRange

range-again : IsErrorOfSection Ranges kinds.DuplicateRange
range-again = grind arith

ranges-again : (pairs : List Pair) (all : Draft) → ((row : List ℕ) → is_row_by_limits all row ≡ false) →
    refuses kinds.DuplicateRange all (map (λ (pair : Pair). declare_range pair.row (value_of pair.literal)) pairs) ≡
    true → again (has_name all.ranges) pairs ≡ true
ranges-again [] all limits h = h
ranges-again (pair ∷ pairs) all limits h =
    by (has_name all.ranges pair.row) (is_row_by_limits all pair.row) (limits pair.row) h (λ k. ranges-again pairs next limits k)
  where
    next : Draft
    next = with_declaration all (declare_range pair.row (value_of pair.literal))

    by : (b l : Bool) → l ≡ false
        → (((b || l) || false) || refuses kinds.DuplicateRange next
        (map (λ (p : Pair). declare_range p.row (value_of p.literal)) pairs)) ≡ true →
        (refuses kinds.DuplicateRange next (map (λ (p : Pair). declare_range p.row (value_of p.literal)) pairs) ≡ true
        → again (has_name next.ranges) pairs ≡ true) →
        (b || again (λ row. same_bytes row pair.row || has_name all.ranges row) pairs) ≡ true
    by = grind (arith, again-more, has-put, next)

repeated-range : (before : List LineContent) (earlier : Draft) (item : LineContent) → AreValuesStated before earlier
    → IsFirst kinds.DuplicateRange before earlier item → repeats_range before item ≡ true
repeated-range before earlier item stated first =
    line-of Ranges kinds.DuplicateRange range-again _ before earlier (λ fields h. of (vector_shape fields) h) item
    (rejected kinds.DuplicateRange before earlier item refl refl refl (below-all kinds.DuplicateRange refl refl refl refl) first)
  where
    of : (o : Option ValuesLine) → refuses kinds.DuplicateRange earlier (declared_if_some ranges_declared o) ≡ true
        → repeats_row_of (data_lines Ranges before) (option_map_or (λ (line : ValuesLine). line.pairs) o []) ≡ true
    of None h = h
    of (Some line) h = repeats-from_again (data_lines Ranges before) _ stated.ranges line.pairs
        (ranges-again line.pairs earlier stated.plain.limits h)

pub repeated-ranges : IsInWords kinds.DuplicateRange repeats_range
repeated-ranges = in-words-by AreValuesStated values-stated kinds.DuplicateRange repeats_range refl refl refl repeated-range

-- ---- DuplicateRhs

side-again : IsErrorOfSection Rhs kinds.DuplicateRhs
side-again = grind arith

module _ (earlier : Draft) (takes : List ℕ → Bool) (limited : (row : List ℕ) → is_free_row earlier row ≡ false →
    takes row ≡ true) where
  sides-again : (pairs : List Pair) (all : Draft) → ((row : List ℕ) → is_row_by_limits all row ≡ false) → all.constant ≡ None
      → refuses kinds.DuplicateRhs all
      (flat_map (λ (pair : Pair). rhs_declared earlier pair.row (value_of pair.literal)) pairs) ≡ true
      → again (has_name all.rhs_values) (filter (λ pair. takes pair.row) pairs) ≡ true
  sides-again [] all limits constant h = h
  sides-again (pair ∷ pairs) all limits constant h =
      by (is_free_row earlier pair.row) refl h (λ k. sides-again pairs all limits constant k)
      (λ k. sides-again pairs (with_declaration all (declare_rhs pair.row (value_of pair.literal))) limits constant k)
    where
      more : Declarations
      more = flat_map (λ p. rhs_declared earlier p.row (value_of p.literal)) pairs

      rest : List Pair
      rest = filter (λ p. takes p.row) pairs

      next : Draft
      next = with_declaration all (declare_rhs pair.row (value_of pair.literal))

      -- one that is not declared
      skips : (b : Bool) → again (has_name all.rhs_values) rest ≡ true →
          again (has_name all.rhs_values) (cond b (pair ∷ rest) rest) ≡ true
      skips = grind (arith, or_right, again-more, rest)

      counts : (b l c : Bool) → l ≡ false → c ≡ false →
          (((b || (l || c)) || false) || refuses kinds.DuplicateRhs next more) ≡ true →
          (refuses kinds.DuplicateRhs next more ≡ true → again (has_name next.rhs_values) rest ≡ true)
          → (b || again (λ row. same_bytes row pair.row || has_name all.rhs_values row) rest) ≡ true
      counts = grind (arith, again-more, has-put, next, rest)

      constant_none : (b : Bool) (o : Option Number) → o ≡ None → (b && is_some o) ≡ false
      constant_none = grind arith

      by : (b : Bool) → is_free_row earlier pair.row ≡ b
          → refuses kinds.DuplicateRhs all (cond b [] (declare_rhs pair.row (value_of pair.literal) ∷ []) ++ more) ≡ true
          → (refuses kinds.DuplicateRhs all more ≡ true → again (has_name all.rhs_values) rest ≡ true)
          → (refuses kinds.DuplicateRhs next more ≡ true → again (has_name next.rhs_values) rest ≡ true)
          → again (has_name all.rhs_values) (filter (λ p. takes p.row) (pair ∷ pairs)) ≡ true
      by = grind (arith, skips, rest, counts, constant_none)

repeated-side : (before : List LineContent) (earlier : Draft) (item : LineContent) → AreValuesStated before earlier
    → IsFirst kinds.DuplicateRhs before earlier item → repeats_side before item ≡ true
repeated-side before earlier item stated first =
    line-of Rhs kinds.DuplicateRhs side-again _ before earlier (λ fields h. of (vector_shape fields) h)
    item (rejected kinds.DuplicateRhs before earlier item refl refl refl (below-all kinds.DuplicateRhs refl refl refl refl) first)
  where
    -- a row of type N that has no limits is not the objective
    limited : (row : List ℕ) → is_free_row earlier row ≡ false → takes_side before row ≡ true
    limited = grind arith

    of : (o : Option ValuesLine) → refuses kinds.DuplicateRhs earlier (declared_if_some (rhs_line_declared earlier) o) ≡ true
        → repeats_row_of (data_lines Rhs before)
        (filter (λ pair. takes_side before pair.row) (option_map_or (λ (line : ValuesLine). line.pairs) o [])) ≡ true
    of None h = h
    of (Some line) h = repeats-from_again (data_lines Rhs before) _ stated.sides
        _ (sides-again earlier _ limited line.pairs earlier stated.plain.limits stated.plain.constant h)

pub repeated-sides : IsInWords kinds.DuplicateRhs repeats_side
repeated-sides = in-words-by AreValuesStated values-stated kinds.DuplicateRhs repeats_side refl refl refl repeated-side

-- ---- a line of BOUNDS

-- if each rejected bound passes the test, each such line does
bounds-so : (kind : FaultKind) (earlier : Draft) (test : BoundType → List ℕ → Bool) →
    ((type : BoundType) (column : List ℕ) (value : Limit)
    → refuses kind earlier (bound_declared type column value) ≡ true → test type column ≡ true) → (fields : Fields)
    → refuses kind earlier (bound_line_declared fields) ≡ true → is_such_bound test fields ≡ true
bounds-so kind earlier test each [] h = h
bounds-so kind earlier test each (letters ∷ more) h = typed (bound_type letters) h
  where
    lined : (type : BoundType) (o : Option BoundLine)
        → refuses kind earlier (declared_if_some
        (λ (line : BoundLine). bound_declared type line.column (bound_value line)) o) ≡ true →
        option_map_or (λ (line : BoundLine). test type line.column) o false ≡ true
    lined = grind arith

    typed : (o : Option BoundType) → refuses kind earlier (declared_if_some (λ (type : BoundType). declared_if_some
        (λ (line : BoundLine). bound_declared type line.column (bound_value line)) (bound_shape type more)) o) ≡ true →
        option_map_or (λ (type : BoundType). option_map_or (λ (line : BoundLine). test type line.column)
        (bound_shape type more) false) o false ≡ true
    typed = grind arith

-- ---- DuplicateBound

bound-again : IsErrorOfSection Bounds kinds.DuplicateBound
bound-again = grind arith

repeated-bound : (before : List LineContent) (earlier : Draft) (item : LineContent) → AreValuesStated before earlier
    → IsFirst kinds.DuplicateBound before earlier item → repeats_bound before item ≡ true
repeated-bound before earlier item stated first =
    line-of Bounds kinds.DuplicateBound bound-again _ before earlier
    (λ fields h. bounds-so kinds.DuplicateBound earlier _ each fields h) item
    (rejected kinds.DuplicateBound before earlier item refl refl refl
    (below-all kinds.DuplicateBound refl refl refl refl) first)
  where
    within : (a b c : Bool) → (b ≡ true → c ≡ true) → (a && b) ≡ true → (a && c) ≡ true
    within = grind arith

    each : (type : BoundType) (column : List ℕ) (value : Limit)
        → refuses kinds.DuplicateBound earlier (bound_declared type column value) ≡ true →
        repeats_bound_of before type column ≡ true
    each = grind arith

pub repeated-bounds : IsInWords kinds.DuplicateBound repeats_bound
repeated-bounds = in-words-by AreValuesStated values-stated kinds.DuplicateBound repeats_bound refl refl refl repeated-bound

-- ---- SemiContinuous

-- no test of the form of a line is of this kind
semi-refused : (before : List LineContent) (earlier : Draft) (item : LineContent) →
    IsFirst kinds.SemiContinuous before earlier item →
    refuses kinds.SemiContinuous earlier (line_declares (context_of before) earlier item) ≡ true
semi-refused = grind arith

-- in COLUMNS no column is semi-continuous yet: BOUNDS comes after COLUMNS
bounds-out : (sections_seen : List Section) → list_all (λ (x : Section). nat_le (section_rank x) 3) sections_seen ≡ true
    → has sections_seen Bounds ≡ false
bounds-out [] h = refl
bounds-out (x ∷ sections_seen) h =
    grind (
      arith,
      both_false,
      bounds-out sections_seen
          (second_so (nat_le (section_rank x) 3) (list_all (λ (y : Section). nat_le (section_rank y) 3) sections_seen) h),
    )

none-semi : (before : List LineContent) (earlier : Draft) (column : List ℕ) → AreValuesStated before earlier
    → current_section before ≡ Some Columns → is_semi earlier column ≡ false
none-semi before earlier column stated here = by (is_semi earlier column) refl
  where
    out : has_section before Bounds ≡ false
    out = bounds-out (seen_sections before)
        (last-place (seen_sections before) Columns stated.stated.known.words.ordered.order here)

    none : has_bound before is_semi_type column ≡ false
    none = grind (arith, list_any, is_such_bound, is_semi_type, same_bytes, no-more-lines, out)

    by : (b : Bool) → is_semi earlier column ≡ b → b ≡ false
    by = grind (arith, never, none)

-- so no line of COLUMNS has the error
cells-unrefused : (column : List ℕ) (pairs : List Pair) (all : Draft)
    → refuses kinds.SemiContinuous all (flat_map (coefficient_declared column) pairs) ≡ false
cells-unrefused column [] all = refl
cells-unrefused column (pair ∷ pairs) all = cells-unrefused column pairs
    (with_declaration all (declare_coefficient (record { row = pair.row; column = column }) (value_of pair.literal)))

column-unrefused : (context : Context) (earlier : Draft) (fields : Fields) → ((column : List ℕ) → is_semi earlier column ≡ false)
    → refuses kinds.SemiContinuous earlier (columns_line_declared context fields) ≡ false
column-unrefused context earlier fields none = by (is_marker_line fields)
  where
    front : (line : ValuesLine) (b : Bool) → refuses kinds.SemiContinuous (with_declaration earlier (declare_column line.name))
        (cond b (declare_marked line.name ∷ []) [] ++ flat_map (coefficient_declared line.name) line.pairs) ≡ false
    front = grind (arith, refuses, cells-unrefused)

    shaped : (o : Option ValuesLine) → refuses kinds.SemiContinuous earlier (declared_if_some (column_declared context) o) ≡ false
    shaped = grind (arith, front)

    by : (b : Bool) → refuses kinds.SemiContinuous earlier
        (cond b [] (declared_if_some (column_declared context) (column_shape fields))) ≡ false
    by = grind (arith, shaped)

clash-reported : (type : BoundType) (column : List ℕ) (value : Limit) (all : Draft) →
    refuses kinds.SemiContinuous all (bound_declared type column value) ≡ true →
    ((is_semi_type type && is_integer all column) || (is_integer_type type && is_semi all column)) ≡ true
clash-reported = grind arith

both-kinds : (before : List LineContent) (earlier : Draft) (item : LineContent) → AreValuesStated before earlier
    → IsFirst kinds.SemiContinuous before earlier item → makes_both_kinds before item ≡ true
both-kinds before earlier item stated first = by item (semi-refused before earlier item first)
  where
    other : (fields : Fields) (s : Section) → list_any (same_section s) (Name ∷ Columns ∷ Bounds ∷ []) ≡ false
        → refuses kinds.SemiContinuous earlier (data_declared (context_of before) earlier fields (Some s)) ≡ true → false ≡ true
    other = grind arith

    integer_column : (column : List ℕ) → is_integer earlier column ≡ true → is_integer_column before column ≡ true
    integer_column = grind (arith, either_more, either, never)

    within : (a b c : Bool) → (b ≡ true → c ≡ true) → (a && b) ≡ true → (a && c) ≡ true
    within = grind arith

    each : (type : BoundType) (column : List ℕ) (value : Limit)
        → refuses kinds.SemiContinuous earlier (bound_declared type column value) ≡ true → clashes_with before type column ≡ true
    each = grind arith

    of_section : (fields : Fields) (o : Option Section) → current_section before ≡ o
        → refuses kinds.SemiContinuous earlier (data_declared (context_of before) earlier fields o) ≡ true
        → (is_section Bounds o && is_such_bound (clashes_with before) fields) ≡ true
    of_section fields (Some Bounds) e k = grind (arith, bounds-so, each)
    of_section fields (Some Columns) e k =
        absurd (never _ k (column-unrefused (context_of before) earlier fields
        (λ column. none-semi before earlier column stated e)))
    of_section fields (Some ObjSense) e k = grind (arith, other)
    of_section fields (Some Rows) e k = grind (arith, other)
    of_section fields (Some Rhs) e k = grind (arith, other)
    of_section fields (Some Ranges) e k = grind (arith, other)
    of_section fields o e k = grind arith

    by : (x : LineContent) → refuses kinds.SemiContinuous earlier (line_declares (context_of before) earlier x) ≡ true
        → makes_both_kinds before x ≡ true
    by skipped k = k
    by (header keyword more) k = unrefused-header kinds.SemiContinuous (λ d h. grind arith) (context_of before) earlier more _ k
    by (data_line fields) k = of_section fields (current_section before) refl k

pub both-kinds-in_words : IsInWords kinds.SemiContinuous makes_both_kinds
both-kinds-in_words = in-words-by AreValuesStated values-stated kinds.SemiContinuous makes_both_kinds refl refl refl both-kinds
