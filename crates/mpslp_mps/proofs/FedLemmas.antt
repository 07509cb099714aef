-- Lines that are read one after another, of a text that comes in pieces.
use Rattle.mpslp_mps.proofs.Prelude
use Prelude.{arith, rules, ◌≡◌, ℕ, List, true, false, Some, None, list_all, Draft, LineTooLong, BadByte, has_legal_length, is_legal_byte}
use Prelude.{are_rising, faultless, no_fault, too-long, bad-byte, legal-first, item_tests, line_tests, line_declares, Context, item_fault}
use Prelude.{line_fault, placed_in, draft_after, HasMpsSides, content_of, outside_comment, suc, [], ◌∷◌, take, position_or_len, LineContent}
use Prelude.{is_section, begins, EndData, next_context, is_end, to_end-last, to_end-more, refl, sym, ap, ◌∙◌, ◌+◌, Bool, ◌||◌, Option}
use Prelude.{is_some, list_any, option_map, option_or, with_declarations, Fault, FaultKind, named-after, fault_on_line, has, Columns}
use Prelude.{context_after, fault_from, draft_from, lines_to_end, ◌++◌, cond, append-nil, filter_map-append, filter-append, filter_map}
use Prelude.{last_or, cons_option, option_map_or, same_bytes, head_of, Fields, section_of_header, opening_word, Section, Rhs, Ranges}
use Prelude.{Bounds, is_read, word_due_after, word_due, objname_word, objname, marker_word, line_column, vector_set, bound_set, first_set}
use Prelude.{current_section, data_lines, context_of, changed_under, next_part, next_set, flat_map, empty_draft, draft_of}
use Prelude.{with_declarations-append, read_lines, declared_at, lines_in_context_after, declarations_of, first_line_fault, whole_mps_fault}
use Prelude.{first_mps_fault, lines, whole_fault, file_fault, MissingEnd, has_end, subst, ◌^◌, min, length, length-append, list_any-append}
use Prelude.{if◌then◌else◌, without_names, kept_context, context_from, lines_fault, LedTo, Result, LinearModel, Finishes, ReadFault}
use Prelude.{HasLastColumn, ReadsLine, Ok, is_comment, skipped, header, data_line, section_named, header_declared}
use Prelude.{data_declared, has_column, RefusesLines, IsErrorOf, IsFaultOn, LineError, ReadsMps, HasRead, IsFaultOfLines, LineReader}
use Rattle.std.proofs.Common.{◌-◌}
use Rattle.mpslp_mps.proofs.OrderLemmas.{item-form, or_false, has-more, last_or-append, current_section-push, said_after-push}
use Rattle.mpslp_mps.proofs.OrderLemmas.{data_lines-push, column-after, declares-itself}
use Rattle.mpslp_mps.proofs.SideLemmas.{sides-kept}
use Rattle.mpslp_mps.proofs.LineFaults.{item-rising}
use Rattle.mpslp_mps.proofs.ModelOrFault.{finished-reads}
use Rattle.mpslp_lines.specs.declared.errors.LineError.TheVariants as errors

-- ---- a line after those before it: its error by its length, its bytes and its content, and what holds after it if it
-- has none

pub no-item : (context : Context) (earlier : Draft) (line : List ℕ) → line_fault (placed_in context earlier line) ≡ None
    → item_fault context earlier (content_of line) ≡ None
no-item context earlier line h = search (rules, faultless, no_fault, item-form)

-- ---- a line's length and bytes

line-rising : (context : Context) (earlier : Draft) (line : List ℕ) → are_rising (line_tests context earlier line) ≡ true
line-rising context earlier line = item-rising context earlier (content_of line)

pub line-too_long : (context : Context) (earlier : Draft) (line : List ℕ) → has_legal_length line ≡ false
    → line_fault (placed_in context earlier line) ≡ Some LineTooLong
line-too_long = grind (arith, too-long, line-rising)

pub line-bad_byte : (context : Context) (earlier : Draft) (line : List ℕ) → has_legal_length line ≡ true
    → list_all is_legal_byte (outside_comment line) ≡ false → line_fault (placed_in context earlier line) ≡ Some BadByte
line-bad_byte = grind (arith, bad-byte, line-rising)

pub line-legal : (context : Context) (earlier : Draft) (line : List ℕ) → has_legal_length line ≡ true → list_all is_legal_byte
    (outside_comment line) ≡ true → line_fault (placed_in context earlier line) ≡ item_fault context earlier (content_of line)
line-legal context earlier line = legal-first line (outside_comment line) (item_tests context earlier (content_of line)) earlier
    (line_declares context earlier (content_of line))

-- outside a comment all bytes are tested
pub line-outside : (line : List ℕ) → is_comment line ≡ false → list_all is_legal_byte (outside_comment line) ≡ list_all is_legal_byte line
line-outside line h = ap (λ b. list_all is_legal_byte (cond b [] line)) h

-- a comment has no error, and means nothing
pub line-comment : (context : Context) (earlier : Draft) (line : List ℕ) → has_legal_length line ≡ true → is_comment line ≡ true
    → ReadsLine context earlier line (Ok tt) context earlier
line-comment = grind (arith, line-legal, append-nil)

-- ---- what holds after every line

pub sides-next : (line : List ℕ) (context : Context) (earlier later : Draft) → HasMpsSides earlier
    → line_fault (placed_in context earlier line) ≡ None → later ≡ draft_after context earlier line → HasMpsSides later
sides-next = grind (arith, sides-kept, no-item)

last_column-kept : (context : Context) (earlier : Draft) (item : LineContent) → HasLastColumn context earlier
    → HasLastColumn (next_context context item) (with_declarations earlier (line_declares context earlier item))
last_column-kept context earlier skipped declared = declared
last_column-kept context earlier (header keyword more) declared = λ name is. column-after
    (header_declared context earlier more (section_named keyword)) earlier name (declared name is)
last_column-kept context earlier (data_line fields) declared = λ name is. by context.section name is
  where
    by : (section : Option Section) (name : List ℕ)
        → cond (is_section Columns section) (line_column fields) context.last_column ≡ Some name
        → has_column (with_declarations earlier (data_declared context earlier fields section)) name ≡ true
    by = grind (arith, column-after, declares-itself, declared)

pub last_column-next : (line : List ℕ) (context : Context) (earlier : Draft) → HasLastColumn context earlier
    → HasLastColumn (context_after context line) (draft_after context earlier line)
last_column-next line context earlier = last_column-kept context earlier (content_of line)

-- ---- the lines up to that of ENDATA, one after another

-- the lines up to that of ENDATA, as in `read_lines`
abbrev pub up_to_end : List (List ℕ) → List (List ℕ)
up_to_end lines = take (suc (position_or_len is_end lines)) lines

pub up_to_end-last : (line : List ℕ) (more : List (List ℕ)) → is_end line ≡ true → up_to_end (line ∷ more) ≡ line ∷ []
up_to_end-last = to_end-last

pub up_to_end-more : (line : List ℕ) (more : List (List ℕ)) → is_end line ≡ false → up_to_end (line ∷ more) ≡ line ∷ up_to_end more
up_to_end-more = to_end-more

-- a context before the end is at the end only after the line of ENDATA
pub at_end-after : (c : Context) (item : LineContent) → is_section EndData c.section ≡ false
    → is_section EndData (next_context c item).section ≡ begins EndData item
at_end-after = grind arith

-- ---- after lines without an error, the last of which is that of ENDATA, the objective has a name

-- once COLUMNS has begun, the objective exists
abbrev pub HasName : Context → Draft → Type 0
HasName context earlier = has context.sections_seen Columns ≡ true → is_some earlier.objective ≡ true

named_begun : (context : Context) (earlier : Draft) (item : LineContent) → item_fault context earlier item ≡ None
    → begins Columns item ≡ true → is_some (with_declarations earlier (line_declares context earlier item)).objective ≡ true
named_begun = grind arith

named_next : (context : Context) (earlier : Draft) (item : LineContent) → item_fault context earlier item ≡ None → HasName context earlier
    → HasName (next_context context item) (with_declarations earlier (line_declares context earlier item))
named_next = grind (arith, has-more, named-after, named_begun)

-- ENDATA comes after COLUMNS
ended_columns : (context : Context) (earlier : Draft) (item : LineContent) → item_fault context earlier item ≡ None
    → begins EndData item ≡ true → has context.sections_seen Columns ≡ true
ended_columns = grind arith

-- ---- lines

first_none : (n : ℕ) (o : Option FaultKind) (rest : Option Fault) → option_or (option_map (fault_on_line n) o) rest ≡ None → o ≡ None
first_none = grind arith

rest_none : (n : ℕ) (o : Option FaultKind) (rest : Option Fault) → option_or (option_map (fault_on_line n) o) rest ≡ None → rest ≡ None
rest_none = grind arith

pub named-lines_to_end : (text : List (List ℕ)) (n : ℕ) (context : Context) (earlier : Draft) → HasName context earlier
    → fault_from n context earlier (lines_to_end text) ≡ None → list_any is_end text ≡ true
    → is_some (draft_from context earlier (lines_to_end text)).objective ≡ true
named-lines_to_end [] n context earlier named none ended = cc
named-lines_to_end (line ∷ more) n context earlier named none ended =
    by (is_end line) refl ended (λ kept h. named-lines_to_end more _ _ _ kept h)
  where
    fault_is : Option FaultKind
    fault_is = line_fault (placed_in context earlier line)

    by : (b : Bool) → is_end line ≡ b → (b || list_any is_end more) ≡ true
        → (HasName (context_after context line) (draft_after context earlier line) → fault_from (n + 1) (context_after context line)
        (draft_after context earlier line) (lines_to_end more) ≡ None → list_any is_end more ≡ true
        → is_some (draft_from (context_after context line) (draft_after context earlier line) (lines_to_end more)).objective ≡ true)
        → is_some (draft_from context earlier (lines_to_end (line ∷ more))).objective ≡ true
    by true e h later =
        let last = up_to_end-last line more e in
        let only : fault_from n context earlier (line ∷ []) ≡ None = ap (fault_from n context earlier) (sym last) ∙ none in
        let item = no-item context earlier line (first_none n fault_is None only) in
        ap (λ text. is_some (draft_from context earlier text).objective) last ∙ named-after
        (line_declares context earlier (content_of line)) earlier (named (ended_columns context earlier (content_of line) item e))
    by false e h later =
        let next = up_to_end-more line more e in
        let both : fault_from n context earlier (line ∷ lines_to_end more) ≡ None = ap (fault_from n context earlier) (sym next) ∙ none in
        let rest = fault_from (n + 1) (context_after context line) (draft_after context earlier line) (lines_to_end more) in
        let item = no-item context earlier line (first_none n fault_is rest both) in
        ap (λ text. is_some (draft_from context earlier text).objective) next
        ∙ later (named_next context earlier (content_of line) item named) (rest_none n fault_is rest both) h

-- ---- one more line changes the context as `next_context` defines

pub word_due-push : (before : List LineContent) (item : LineContent)
    → word_due (before ++ item ∷ []) ≡ cond (is_read item) (word_due_after item) (word_due before)
word_due-push = grind (arith, filter-append, last_or-append)

-- a reading of the lines of one section
under-push : {X : Type 0} (section : Section) (reading : List Fields → X) (change : Fields → X → X)
    → ((lines : List Fields) (fields : Fields) → reading (lines ++ fields ∷ []) ≡ change fields (reading lines))
    → (before : List LineContent) (item : LineContent) → reading (data_lines section (before ++ item ∷ []))
    ≡ changed_under section (current_section before) change item (reading (data_lines section before))
under-push {X} section reading change h before item = grind (arith, data_lines-push, append-nil)

part_reading : (lines : List Fields) (fields : Fields)
    → option_map_or (same_bytes opening_word) (last_or None (filter_map marker_word (lines ++ fields ∷ []))) false
    ≡ next_part fields (option_map_or (same_bytes opening_word) (last_or None (filter_map marker_word lines)) false)
part_reading = grind (arith, filter_map-append, last_or-append)

column_reading : (lines : List Fields) (fields : Fields)
    → option_map_or line_column (last_or None (lines ++ fields ∷ [])) None ≡ line_column fields
column_reading lines fields = ap (λ o. option_map_or line_column o None) (last_or-append None lines _)

first-said : {X : Type 0} (xs : List X) (o : Option X) → head_of (xs ++ cons_option o []) ≡ option_or (head_of xs) o
first-said [] None = refl
first-said [] (Some x) = refl
first-said (x ∷ xs) o = refl

set_reading : (set_of : Fields → Option (List ℕ)) (lines : List Fields) (fields : Fields)
    → first_set set_of (lines ++ fields ∷ []) ≡ next_set set_of fields (first_set set_of lines)
set_reading set_of lines fields = ap head_of (filter_map-append set_of lines _) ∙ first-said _ _

pub objname-push : (before : List LineContent) (item : LineContent)
    → objname (before ++ item ∷ []) ≡ option_or (objname before) (objname_word (current_section before) item)
objname-push before item =
    let says : Option Section → LineContent → List (List ℕ) = λ current line. cons_option (objname_word current line) [] in
    ap head_of (said_after-push says None before item) ∙ first-said _ _

pub context-push : (before : List LineContent) (item : LineContent) → context_of (before ++ item ∷ [])
    ≡ next_context (context_of before) item
context-push before item = λ i. record {
  section = current_section-push before item i;
  sections_seen = filter_map-append section_of_header before (item ∷ []) i;
  word_due = word_due-push before item i;
  objname = objname-push before item i;
  in_integer_part = under-push Columns _ next_part part_reading before item i;
  last_column = under-push Columns (λ lines. option_map_or line_column (last_or None lines) None) (λ fields _. line_column fields)
      column_reading before item i;
  rhs_set = under-push Rhs (first_set vector_set) (next_set vector_set) (set_reading vector_set) before item i;
  ranges_set = under-push Ranges (first_set vector_set) (next_set vector_set) (set_reading vector_set) before item i;
  bounds_set = under-push Bounds (first_set bound_set) (next_set bound_set) (set_reading bound_set) before item i;
}

-- ---- a context and a draft determine for later lines what all the lines before determine

pub fault_from-is : (lines : List (List ℕ)) (n : ℕ) (before : List LineContent) (earlier : Draft)
    → first_line_fault n (lines_in_context_after before earlier lines) ≡ fault_from n (context_of before) earlier lines
fault_from-is [] n before earlier = refl
fault_from-is (line ∷ lines) n before earlier =
    let next = with_declarations earlier (line_declares (context_of before) earlier (content_of line)) in
    ap (option_or (option_map (fault_on_line n) (line_fault (placed_in (context_of before) earlier line)))) (fault_from-is lines (n + 1)
    (before ++ content_of line ∷ []) next ∙ ap (λ context. fault_from (n + 1) context next lines) (context-push before _))

pub draft_from-is : (lines : List (List ℕ)) (before : List LineContent) (earlier : Draft) → with_declarations earlier
    (flat_map declared_at (lines_in_context_after before earlier lines)) ≡ draft_from (context_of before) earlier lines
draft_from-is [] before earlier = refl
draft_from-is (line ∷ lines) before earlier =
    let here = line_declares (context_of before) earlier (content_of line) in
    let next = with_declarations earlier here in
    with_declarations-append here (flat_map declared_at (lines_in_context_after (before ++ content_of line ∷ []) next lines)) earlier
    ∙ draft_from-is lines (before ++ content_of line ∷ []) next ∙ ap (λ context. draft_from context next lines) (context-push before _)

-- all the lines that are read, from the empty context
pub first_fault-is : (bytes : List ℕ)
    → first_mps_fault bytes ≡ option_or (fault_from 1 (context_of []) empty_draft (read_lines bytes)) (whole_mps_fault bytes)
first_fault-is bytes = ap (λ o. option_or o (whole_mps_fault bytes)) (fault_from-is (read_lines bytes) 1 [] empty_draft)

pub draft-is : (bytes : List ℕ) → draft_of (declarations_of bytes) ≡ draft_from (context_of []) empty_draft (read_lines bytes)
draft-is bytes = draft_from-is (read_lines bytes) [] empty_draft

-- ---- what the lines of a text determine together

-- the error of the first line that has one
abbrev pub fault_of_lines : List ℕ → Option Fault
fault_of_lines bytes = fault_from 1 (context_of []) empty_draft (lines_to_end (lines bytes))

-- and the draft after all lines
abbrev pub draft_lines : List ℕ → Draft
draft_lines bytes = draft_from (context_of []) empty_draft (lines_to_end (lines bytes))

abbrev whole : List ℕ → Bool → Option Fault
whole bytes ended = cond ended (file_fault (draft_of (declarations_of bytes))) (Some (whole_fault MissingEnd None))

pub first_fault-whole : (bytes : List ℕ) (ended : Bool) → fault_of_lines bytes ≡ None → has_end bytes ≡ ended
    → first_mps_fault bytes ≡ whole bytes ended
first_fault-whole = grind (arith, first_fault-is)

pub draft-whole : (bytes : List ℕ) → draft_lines bytes ≡ draft_of (declarations_of bytes)
draft-whole bytes = sym (draft-is bytes)

-- ---- lines that are read one after another, and the rest of a text that comes in pieces

-- ---- lines after others

or-after : (a b c : Option Fault) → option_or (option_or a b) c ≡ option_or a (option_or b c)
or-after = grind arith

fault_from-append : (xs ys : List (List ℕ)) (n : ℕ) (context : Context) (earlier : Draft) → fault_from n context earlier (xs ++ ys)
    ≡ option_or (fault_from n context earlier xs)
    (fault_from (n + length xs) (context_from context xs) (draft_from context earlier xs) ys)
fault_from-append [] ys n context earlier = let e : n ≡ n + 0 = omega arith in ap (λ m. fault_from m context earlier ys) e
fault_from-append (line ∷ xs) ys n context earlier =
    let own = option_map (fault_on_line n) (line_fault (placed_in context earlier line)) in
    let next = context_after context line in
    let later = draft_after context earlier line in
    let e : n + 1 + length xs ≡ n + length (line ∷ xs) = omega arith in ap (option_or own) (fault_from-append xs ys (n + 1) next later)
    ∙ sym (or-after own _ _)
    ∙ ap (λ m. option_or (option_or own (fault_from (n + 1) next later xs))
    (fault_from m (context_from next xs) (draft_from next later xs) ys)) e

context_from-append : (xs ys : List (List ℕ)) (context : Context) → context_from context (xs ++ ys)
    ≡ context_from (context_from context xs) ys
context_from-append [] ys context = refl
context_from-append (line ∷ xs) ys context = context_from-append xs ys (context_after context line)

draft_from-append : (xs ys : List (List ℕ)) (context : Context) (earlier : Draft)
    → draft_from context earlier (xs ++ ys) ≡ draft_from (context_from context xs) (draft_from context earlier xs) ys
draft_from-append [] ys context earlier = refl
draft_from-append (line ∷ xs) ys context earlier = draft_from-append xs ys (context_after context line) (draft_after context earlier line)

-- ---- up to that of ENDATA

first_none_fed : (a b : Bool) → (a || b) ≡ false → a ≡ false
first_none_fed = grind arith

rest_none_fed : (a b : Bool) → (a || b) ≡ false → b ≡ false
rest_none_fed = grind arith

-- without a line of ENDATA all lines are read, and so are those after them
unended-more : (xs ys : List (List ℕ)) → list_any is_end xs ≡ false → lines_to_end (xs ++ ys) ≡ xs ++ lines_to_end ys
unended-more [] ys h = refl
unended-more (line ∷ xs) ys h = to_end-more line (xs ++ ys) (first_none_fed _ (list_any is_end xs) h)
    ∙ ap (λ read. line ∷ read) (unended-more xs ys (rest_none_fed _ _ h))

unended-all : (xs : List (List ℕ)) → list_any is_end xs ≡ false → lines_to_end xs ≡ xs
unended-all xs h = ap lines_to_end (sym (append-nil xs)) ∙ unended-more xs [] h ∙ append-nil xs

one-read : (line : List ℕ) → lines_to_end (line ∷ []) ≡ line ∷ []
one-read = grind arith

-- ---- one more line

pub lines_fault-is : (text : List (List ℕ)) → lines_fault text ≡ fault_from 1 (context_of []) empty_draft (lines_to_end text)
lines_fault-is text = fault_from-is (lines_to_end text) 1 [] empty_draft

-- ---- what holds after all lines

sides-none : HasMpsSides empty_draft
sides-none = record { known = λ row h. cc; limited = λ row h. cc; constant = refl }

sides-from : (text : List (List ℕ)) (n : ℕ) (context : Context) (earlier : Draft) → HasMpsSides earlier
    → fault_from n context earlier text ≡ None → HasMpsSides (draft_from context earlier text)
sides-from [] n context earlier sides h = sides
sides-from (line ∷ text) n context earlier sides h =
    let own = line_fault (placed_in context earlier line) in
    let rest = fault_from (n + 1) (context_after context line) (draft_after context earlier line) text in
    sides-from text (n + 1) (context_after context line) (draft_after context earlier line)
    (sides-next line context earlier _ sides (own_none own rest h) refl) (later_none own rest h)
  where
    own_none : (own : Option FaultKind) (rest : Option Fault) → option_or (option_map (fault_on_line n) own) rest ≡ None → own ≡ None
    own_none None rest h = refl
    own_none (Some kind) rest h = cc

    later_none : (own : Option FaultKind) (rest : Option Fault) → option_or (option_map (fault_on_line n) own) rest ≡ None → rest ≡ None
    later_none None rest h = h
    later_none (Some kind) rest h = cc

last_column-none : HasLastColumn (context_of []) empty_draft
last_column-none = λ name is. cc

last_column-from : (text : List (List ℕ)) (context : Context) (earlier : Draft) → HasLastColumn context earlier
    → HasLastColumn (context_from context text) (draft_from context earlier text)
last_column-from [] context earlier declared = declared
last_column-from (line ∷ text) context earlier declared =
    last_column-from text (context_after context line) (draft_after context earlier line) (last_column-next line context earlier declared)

-- ---- names are dropped at the end, when no line is compared with them

kept-section : (c : Context) → (kept_context c).section ≡ c.section
kept-section c =
    elim (is_section EndData c.section) as (λ b. (if b then without_names c else c).section ≡ c.section) [ true ↦ refl | false ↦ refl ]

kept-here : (c : Context) → is_section EndData c.section ≡ false → kept_context c ≡ c
kept-here c h = ap (λ b. if b then without_names c else c) h

module _ (text : List (List ℕ)) (context : Context) (earlier : Draft) (number : ℕ) (led : LedTo text context earlier number) where
  module _ (unended : is_section EndData context.section ≡ false) where
    none_yet : list_any is_end text ≡ false
    none_yet = sym led.ended ∙ unended

    all_read : lines_to_end text ≡ text
    all_read = unended-all text none_yet

    read_on : (line : List ℕ) → lines_to_end (text ++ line ∷ []) ≡ text ++ line ∷ []
    read_on line = unended-more text _ none_yet ∙ ap (λ read. text ++ read) (one-read line)

    unended_there : is_section EndData (context_from (context_of []) (lines_to_end text)).section ≡ false
    unended_there = ap (is_section EndData) (sym (ap (λ c. c.section) led.context_is ∙ kept-section _)) ∙ unended

    context_here : context_from (context_of []) text ≡ context
    context_here = ap (context_from (context_of [])) (sym all_read) ∙ sym (led.context_is ∙ kept-here _ unended_there)

    draft_here : draft_from (context_of []) empty_draft text ≡ earlier
    draft_here = ap (draft_from (context_of []) empty_draft) (sym all_read) ∙ sym led.draft

    clean_here : fault_from 1 (context_of []) empty_draft text ≡ None
    clean_here = ap (fault_from 1 (context_of []) empty_draft) (sym all_read) ∙ sym (lines_fault-is text) ∙ led.clean

    -- its error is the first one
    fault_next : (line : List ℕ) → lines_fault (text ++ line ∷ []) ≡ fault_from (1 + length text) context earlier (line ∷ [])
    fault_next line = lines_fault-is (text ++ line ∷ [])
        ∙ ap (fault_from 1 (context_of []) empty_draft) (read_on line) ∙ fault_from-append
        text _ 1 _ empty_draft
        ∙ (λ i. option_or (clean_here i)
        (fault_from (1 + length text) (context_here i) (draft_here i) (line ∷ [])))

    pub led-fault : (line : List ℕ) (kind : FaultKind) → line_fault (placed_in context earlier line) ≡ Some kind
        → lines_fault (text ++ line ∷ []) ≡ Some (record { kind = kind; line = number; name = None })
    led-fault line kind h = fault_next line ∙ ap (λ o. option_or (option_map (fault_on_line (1 + length text)) o) None) h
        ∙ ap (λ n. Some (record { kind = kind; line = n; name = None })) (sym (led.counted none_yet))

    pub led-line : (line : List ℕ) (next : Context) (later : Draft) (following : ℕ) → line_fault (placed_in context earlier line) ≡ None
        → next ≡ kept_context (context_after context line) → later ≡ draft_after context earlier line
        → following ≡ min (number + 1) (2 ^ 64 - 1) → LedTo (text ++ line ∷ []) next later following
    led-line line next later following none next_is later_is following_is = record {
      clean = fault_next line ∙ ap (λ (o : Option FaultKind). option_or (option_map (fault_on_line (1 + length text)) o) None) none;
      context_is = next_is
          ∙ ap kept_context
          (ap (λ (c : Context). context_after c line) (sym context_here) ∙ sym (context_from-append text (line ∷ []) (context_of []))
          ∙ ap (context_from (context_of [])) (sym (read_on line)));
      draft = later_is ∙ (λ i. draft_after (sym context_here i) (sym draft_here i) line)
          ∙ sym (draft_from-append text (line ∷ []) (context_of []) empty_draft)
          ∙ ap (draft_from (context_of []) empty_draft) (sym (read_on line));
      ended = ap (is_section EndData) (ap (λ (c : Context). c.section) next_is ∙ kept-section (context_after context line))
          ∙ at_end-after context (content_of line) unended
          ∙ sym
          (list_any-append is_end text (line ∷ []) ∙ ap (λ (b : Bool). b || (is_end line || false)) none_yet ∙ or_false (is_end line));
      counted = λ h. following_is ∙ ap (λ (n : ℕ). min (n + 1) (2 ^ 64 - 1)) (led.counted none_yet)
          ∙ omega (arith, length-append text (line ∷ []));
    }

    -- the column of the last line is declared
    pub led-last_column : HasLastColumn context earlier
    led-last_column = subst (λ (c : Context). HasLastColumn c earlier) context_here
        (subst (HasLastColumn (context_from (context_of []) text)) draft_here
        (last_column-from text (context_of []) empty_draft last_column-none))

  -- ---- what is known of a reader

  -- right-hand sides are as lines declare them
  pub led-sides : HasMpsSides earlier
  led-sides = subst HasMpsSides (sym led.draft)
      (sides-from (lines_to_end text) 1 (context_of []) empty_draft sides-none
      (sym (lines_fault-is text) ∙ led.clean))

  -- after the line of ENDATA the objective has a name
  pub led-named : is_section EndData context.section ≡ true → is_some earlier.objective ≡ true
  led-named = grind (arith, named-lines_to_end, lines_fault-is)

-- ---- what a reader of lines returns for the next line, and at the end

-- the next line is rejected
pub refuses-line : (reader : LineReader) (line : List ℕ) (error : LineError) (answer : ReadFault)
    → is_section EndData reader.context.section ≡ false
    → IsErrorOf (line_fault (placed_in reader.context reader.builder.draft line)) error
    → IsFaultOn reader.number error answer → RefusesLines HasRead IsFaultOfLines reader (line ∷ []) answer
refuses-line reader line (errors.Fault kind) answer unended fault_is answer_is =
    subst (RefusesLines HasRead IsFaultOfLines reader (line ∷ []))
    (sym answer_is) (λ before led. led-fault before reader.context reader.builder.draft reader.number led unended line kind fault_is)
refuses-line reader line errors.OutOfMemory answer unended fault_is answer_is =
    subst (RefusesLines HasRead IsFaultOfLines reader (line ∷ [])) (sym answer_is) tt

-- ---- the end

module _ (bytes : List ℕ) (reader : LineReader) (read : HasRead reader (lines bytes)) where
  none : fault_of_lines bytes ≡ None
  none = sym (lines_fault-is (lines bytes)) ∙ read.clean

  pub ends-missing : is_section EndData reader.context.section ≡ false → first_mps_fault bytes ≡ Some (whole_fault MissingEnd None)
  ends-missing unended = first_fault-whole bytes false none (sym read.ended ∙ unended)

  pub ends-text : (answer : Result LinearModel ReadFault) → is_section EndData reader.context.section ≡ true
      → Finishes reader.builder.draft answer → ReadsMps bytes answer
  ends-text = grind (arith, draft-whole, finished-reads, first_fault-whole, none)
