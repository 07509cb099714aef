-- Canonical lines can be printed, and are read as they were printed.
use Rattle.mpslp_mps_laws.proofs.Prelude
use Prelude.{AreReadAsPrinted, Bool, CoefficientKey, Column, Each, Each-all, Each-append, Each-filter, Each-flat_map, Each-from_list_all}
use Prelude.{Each-map, Each-weaker, EndData, Fields, IsDecimal, IsPlain, IsSound, Kind, Limit, LinearModel, Lines, List, Listing, Name}
use Prelude.{None, Number, Ok, Option, Ordering, PrintedBound, PrintedLine, Row, RowType, Section, Sense, Some, [], after-none, after_first}
use Prelude.{ap, append-nil, are_digits, are_sides, arith, before_first, begins, both_so, bound_line, bounded_so, bounds_section}
use Prelude.{canonical_lines, canonical_mps, cell_at, closing_word, codes, coefficient_line, column_bound_lines, column_coefficients}
use Prelude.{column_lines, column_sides, columns_section, cond, content_in, content_of, drop, exponent_part, false, fields, fields_text}
use Prelude.{filter, filter_map, find, first_so, flat_map, has_bounded_distance, has_name_length, header, header_line, heading}
use Prelude.{integer_part, is_blank, is_comment, is_digit, is_end, is_exponent_mark, is_integer_column, is_legal_byte, is_legal_line}
use Prelude.{is_literal, is_lower_side, is_mps_name, is_plain_column, is_point, is_sound_column, is_sound_row, is_upper_side, is_visible}
use Prelude.{key_cmp, leb-true, length, length-append, letter_of, line_text, lines, lines-with_line_feeds, list_all, list_all-from_Each}
use Prelude.{list_any, listed_lines, listing_of, long_line, ltb-true, map, marker, marker_line, nat_le, nat_lt, nat_tests, negated, nor}
use Prelude.{number-text, number_of, number_text, objective_line, opening_word, option_map, outside_comment, position_or_len}
use Prelude.{printed_bounds, printed_coefficients, printed_range, printed_rhs, range_lines, ranges_section, read-short, refl, rhs_lines}
use Prelude.{rhs_section, row_distance, row_line, row_rhs_lines, row_sides, rows_section, rules, second_so, sense_lines, short_line}
use Prelude.{slice_split, subst, suc, sym, take, text_of, true, under_header, vector_line, without_sign, ℕ, ◌*◌, ◌++◌, ◌+◌, ◌<◌, ◌==◌, ◌||◌}
use Prelude.{◌∙◌, ◌∷◌, ◌≡◌, ◌≤◌}
use Rattle.std.specs.Prelude.{not}

-- ---- fields

visible-solid : (b : ℕ) → is_visible b ≡ true → is_blank b ≡ false
visible-solid = grind (arith, nat_tests)

abbrev IsSolid : ℕ → Type 0
IsSolid b = is_blank b ≡ false

-- a field that is printed: 1 to 255 visible bytes
pub record Word (w : List ℕ) : Type 0 where
  pub some : 0 < length w
  pub short : length w ≤ 255
  pub visible : Each (λ b. is_visible b ≡ true) w

solid : (w : List ℕ) → Word w → Each IsSolid w
solid w h = Each-weaker _ IsSolid visible-solid w h.visible

split-word : (w rest : List ℕ) → Each IsSolid w → slice_split is_blank (w ++ 32 ∷ rest) ≡ w ∷ slice_split is_blank rest
split-word [] rest h = refl
split-word (b ∷ bs) rest h = rw (h.0, split-word bs rest h.1) refl

split-last : (w : List ℕ) → Each IsSolid w → slice_split is_blank w ≡ w ∷ []
split-last [] h = refl
split-last (b ∷ bs) h = rw (h.0, split-last bs h.1) refl

abbrev has_bytes : List ℕ → Bool
has_bytes run = nat_lt 0 (length run)

fields-last : (w : List ℕ) → Word w → fields w ≡ w ∷ []
fields-last = grind (arith, split-last, solid)

-- what is printed after the first field
abbrev after_first_field : Fields → List ℕ
after_first_field ws = flat_map (λ w. codes "  " ++ w) ws

fields-from : (w : List ℕ) (ws : Fields) → Word w → Each Word ws → fields (w ++ after_first_field ws) ≡ w ∷ ws
fields-from w [] h k = ap fields (append-nil w) ∙ fields-last w h
fields-from w (v ∷ vs) h k = (grind (arith, split-word, solid, h)) ∙ ap (λ x. w ∷ x) (fields-from v vs k.0 k.1)

pub fields-spaced : (ws : Fields) → Each Word ws → fields (fields_text ws) ≡ ws
fields-spaced [] h = refl
fields-spaced (w ∷ ws) h = fields-from w ws h.0 h.1

-- ---- items

not_blank : (w rest : List ℕ) → 0 < length w → Each IsSolid w → list_all is_blank (w ++ rest) ≡ false
not_blank [] rest n h = absurd (omega arith)
not_blank (b ∷ bs) rest n h = rw h.0 refl

-- the fields of a printed data line
pub record Words (ws : Fields) : Type 0 where
  pub some : 0 < length ws
  pub few : length ws ≤ 4
  pub each : Each Word ws

not_blank_line : (ws : Fields) → Words ws → list_all is_blank (fields_text ws) ≡ false
not_blank_line = grind (arith, not_blank, solid)

abbrev begins_with_star : List ℕ → Bool
begins_with_star [] = false
begins_with_star (byte ∷ _) = byte == 42

-- a line that can be printed
abbrev pub IsPrintable : PrintedLine → Type 0
IsPrintable (heading keyword) = Word keyword × (begins_with_star keyword ≡ false)
IsPrintable (short_line ws) = Words ws
IsPrintable (long_line ws) = Words ws

heading_item : (w : List ℕ) → Word w → begins_with_star w ≡ false → content_of w ≡ header w []
heading_item = grind (arith, visible-solid, fields-last)

pub item-line_text : (l : PrintedLine) → IsPrintable l → content_of (line_text l) ≡ content_in l
item-line_text = grind (arith, heading_item, not_blank_line, fields-spaced)

-- ---- bytes and length

visible-legal : (b : ℕ) → is_visible b ≡ true → is_legal_byte b ≡ true
visible-legal = grind (arith, nat_tests)

visible-plain : (b : ℕ) → is_visible b ≡ true → IsPlain b
visible-plain = grind arith

-- a property of visible bytes and of spaces holds for each byte that is printed
module _ (P : ℕ → Type 0) (visible : (b : ℕ) → is_visible b ≡ true → P b) (blank : P 32) where
  each-word : (w : List ℕ) → Word w → Each P w
  each-word w h = Each-weaker _ P visible w h.visible

  each-after : (ws : Fields) → Each Word ws → Each P (after_first_field ws)
  each-after [] h = tt
  each-after (w ∷ ws) h = (blank, (blank, Each-append P w _ (each-word w h.0) (each-after ws h.1)))

  each-spaced : (ws : Fields) → Each Word ws → Each P (fields_text ws)
  each-spaced = grind (arith, each-word, each-after)

  each-line_text : (l : PrintedLine) → IsPrintable l → Each P (line_text l)
  each-line_text = grind (arith, each-word, each-spaced)

pub plain-line_text : (l : PrintedLine) → IsPrintable l → Each IsPlain (line_text l)
plain-line_text l h = each-line_text IsPlain visible-plain (refl, refl) l h

bytes-line_text : (l : PrintedLine) → IsPrintable l → list_all is_legal_byte (outside_comment (line_text l)) ≡ true
bytes-line_text l h = by (is_comment (line_text l))
  where
    by : (comment : Bool) → list_all is_legal_byte (cond comment [] (line_text l)) ≡ true
    by true = refl
    by false = list_all-from_Each is_legal_byte _ (each-line_text _ visible-legal refl l h)

length-after : (ws : Fields) → Each Word ws → length (after_first_field ws) ≤ 257 * length ws
length-after [] h = omega arith
length-after (w ∷ ws) h = grind (arith, length-append, length-after ws h.1)

length-spaced : (ws : Fields) → Each Word ws → length (fields_text ws) ≤ 257 * length ws
length-spaced = grind (arith, length-after, length-append)

pub legal-line_text : (l : PrintedLine) → IsPrintable l → is_legal_line (line_text l) ≡ true
legal-line_text l h = both_so _ _ (grind (arith, length-spaced, h)) (bytes-line_text l h)

-- ---- the text

all_plain : (ls : List PrintedLine) → Each IsPrintable ls → Each (Each IsPlain) (map line_text ls)
all_plain [] h = tt
all_plain (l ∷ ls) h = (plain-line_text l h.0, all_plain ls h.1)

pub items-line_text : (ls : List PrintedLine) → Each IsPrintable ls → map content_of (map line_text ls) ≡ map content_in ls
items-line_text [] h = refl
items-line_text (l ∷ ls) h = λ i. item-line_text l h.0 i ∷ items-line_text ls h.1 i

pub legal-lines : (ls : List PrintedLine) → Each IsPrintable ls → list_all is_legal_line (map line_text ls) ≡ true
legal-lines [] h = refl
legal-lines (l ∷ ls) h = both_so _ _ (legal-line_text l h.0) (legal-lines ls h.1)

-- the lines of a text of printed lines are these, and its items are theirs
pub lines-text : (ls : List PrintedLine) → Each IsPrintable ls → lines (text_of ls) ≡ map line_text ls
lines-text ls h = lines-with_line_feeds _ (all_plain ls h)

-- ---- the text of a decimal is a field that can be printed: 1 to 255 visible bytes

abbrev Visible : List ℕ → Type 0
Visible bytes = Each (λ b. is_visible b ≡ true) bytes

digit-visible : (b : ℕ) → is_digit b ≡ true → is_visible b ≡ true
digit-visible = grind (arith, nat_tests)

point-visible : (b : ℕ) → is_point b ≡ true → is_visible b ≡ true
point-visible = grind (arith, nat_tests)

mark-visible : (b : ℕ) → is_exponent_mark b ≡ true → is_visible b ≡ true
mark-visible = grind (arith, nat_tests)

both-parts : (xs ys : List ℕ) → Visible (xs ++ ys) → Visible xs × Visible ys
both-parts [] ys h = (tt, h)
both-parts (x ∷ xs) ys h = grind (arith, both-parts xs ys h.1)

-- the parts before and after the first byte that passes a test, and that byte
around : (p : ℕ → Bool) → ((b : ℕ) → p b ≡ true → is_visible b ≡ true) → (xs : List ℕ) → Visible (before_first p xs)
    → Visible (after_first p xs) → Visible xs
around p sections_seen [] h k = tt
around p sections_seen (x ∷ xs) h k =
    elim (p x) as (λ b. p x ≡ b → Visible (take (cond (not b) (1 + position_or_len p xs) 0) (x ∷ xs))
    → Visible (drop (cond (not b) (1 + position_or_len p xs) 0 + 1) (x ∷ xs)) → Visible (x ∷ xs)) [
      | true ↦ λ e _ more. (sections_seen x e, more)
      | false ↦ λ e front more.
          let one : 1 + position_or_len p xs ≡ suc (position_or_len p xs) = omega arith in
          let two : 1 + position_or_len p xs + 1 ≡ suc (position_or_len p xs + 1) = omega arith in
          let here : Visible (x ∷ take (position_or_len p xs) xs) = subst (λ n. Visible (take n (x ∷ xs))) one front in
          (here.0, around p sections_seen xs here.1 (subst (λ n. Visible (drop n (x ∷ xs))) two more))
    ] refl h k

signed-visible : (xs : List ℕ) → Visible (without_sign xs) → Visible xs
signed-visible = grind arith

digits-visible : (xs : List ℕ) → are_digits xs ≡ true → Visible xs
digits-visible xs h = Each-weaker _ _ digit-visible xs (Each-from_list_all is_digit xs (second_so _ _ h))

none-marked : (xs : List ℕ) → list_any is_exponent_mark xs ≡ false → Each (λ b. is_exponent_mark b ≡ false) xs
none-marked [] h = tt
none-marked (x ∷ xs) h = let both = nor _ _ h in (both.0, none-marked xs both.1)

exponent-visible : (text : List ℕ) →
    (not (list_any is_exponent_mark text) || are_digits (without_sign (exponent_part text))) ≡ true → Visible (exponent_part text)
exponent-visible text h =
    elim (list_any is_exponent_mark text) as (λ b. list_any is_exponent_mark text ≡ b
    → (not b || are_digits (without_sign (exponent_part text))) ≡ true → Visible (exponent_part text)) [
      | true ↦ λ _ digits. signed-visible _ (digits-visible _ digits)
      | false ↦ λ none _. subst Visible (sym (after-none is_exponent_mark text (none-marked text none))) tt
    ] refl h

literal-visible : (text : List ℕ) → is_literal text ≡ true → Visible text
literal-visible text h = let exponent : Bool =
    not (list_any is_exponent_mark text) || are_digits (without_sign (exponent_part text)) in
    let digits = digits-visible _ (first_so _ _ h) in
    let parts = both-parts _ _ digits in
    let front = signed-visible _ (around is_point point-visible _ parts.0 parts.1) in
    around is_exponent_mark mark-visible text front (exponent-visible text (second_so _ _ h))

literal-some : (text : List ℕ) → is_literal text ≡ true → 0 < length text
literal-some = grind arith

literal-read : (text : List ℕ) (d : Number) → number_of text ≡ Ok d → is_literal text ≡ true
literal-read = grind arith

pub number-word : (d : Number) → IsDecimal d → Word (number_text d)
number-word d h = search (rules, number-text, literal-read, literal-some, read-short, literal-visible)

-- ---- the canonical lines of a well-formed model can be printed: their fields are names, numbers and words of the
-- format

-- ---- words

-- by computation
code-word : (w : List ℕ) → nat_lt 0 (length w) ≡ true → nat_le (length w) 255 ≡ true → list_all is_visible w ≡ true → Word w
code-word w some short visible =
    record {
      some = ltb-true 0 (length w) some;
      short = leb-true (length w) 255 short;
      visible =
          Each-from_list_all is_visible w visible;
    }

name-word : (name : List ℕ) → is_mps_name name ≡ true → Word name
name-word name h =
    let sized : has_name_length name ≡ true = first_so _ _ h in
    record {
      some = leb-true 1 (length name) (first_so _ _ sized);
      short = leb-true (length name) 255 (second_so _ _ sized);
      visible = Each-from_list_all is_visible name (first_so _ _ (second_so _ _ h));
    }

words : (ws : Fields) → nat_lt 0 (length ws) ≡ true → nat_le (length ws) 4 ≡ true → Each Word ws → Words ws
words ws some few each = record { some = ltb-true 0 (length ws) some; few = leb-true (length ws) 4 few; each = each }

letter-word : (type : RowType) → Word (letter_of type)
letter-word = grind arith

abbrev pub AllPrintable : Lines → Type 0
AllPrintable lines = Each IsPrintable lines

-- ---- values that are decimals

abbrev pub Holds : {X : Type 0} → (X → Type 0) → Option X → Type 0
Holds P None = Unit {0}
Holds P (Some x) = P x

each-found : {K X : Type 0} (R : K → K → Ordering) (P : X → Type 0) (k : K) (es : List (K × X)) → Each (λ e. P e.1) es
    → Holds P (find R k es)
each-found R P k [] h = tt
each-found {K} {X} R P k (e ∷ es) h = grind (arith, each-found R P k es h.1)

each-filter_map : {X Y : Type 0} (P : Y → Type 0) (f : X → Option Y) (xs : List X) → Each (λ x. Holds P (f x)) xs →
    Each P (filter_map f xs)
each-filter_map P f [] h = tt
each-filter_map {X} {Y} P f (x ∷ xs) h = grind (arith, each-filter_map P f xs h.1)

pub side-decimal : (lower upper : Limit) → are_sides lower upper ≡ true → IsDecimal (printed_rhs lower upper)
side-decimal = grind arith

pub range-decimal : (lower upper : Limit) → has_bounded_distance lower upper ≡ true → Holds IsDecimal (printed_range lower upper)
range-decimal lower upper h = grind arith

pub negated-decimal : (d : Number) → IsDecimal d → IsDecimal (negated d)
negated-decimal = grind arith

-- ---- the lines of each section

row-printable : (row : List ℕ × Row) → is_sound_row row ≡ true → IsPrintable (row_line row)
row-printable = grind (arith, words, letter-word, name-word)

objective-printable : (name : List ℕ) → is_mps_name name ≡ true → IsPrintable (objective_line name)
objective-printable name h = words _ refl refl (code-word _ refl refl refl, (name-word name h, tt))

value-printable : (set row : List ℕ) (value : Number) → Word set → Word row → IsDecimal value →
    IsPrintable (vector_line set row value)
value-printable set row value s r v = words _ refl refl (s, (r, (number-word value v, tt)))

-- a row or the objective, and a value
abbrev IsCell : List ℕ × Number → Type 0
IsCell cell = Word cell.0 × IsDecimal cell.1

cells-printable : (column : List ℕ) (cells : List (List ℕ × Number)) → Word column → Each IsCell cells
    → AllPrintable (map (coefficient_line column) cells)
cells-printable column [] c h = tt
cells-printable column (cell ∷ cells) c h =
    (value-printable column cell.0 cell.1 c h.0.0 h.0.1, cells-printable column cells c h.1)

cell-found : (coefficients : List (CoefficientKey × Number)) (column row : List ℕ) →
    Each (λ e. IsDecimal e.1) coefficients → Word row → Holds IsCell (cell_at coefficients column row)
cell-found coefficients column row h w =
    by (find key_cmp (record { row = row; column = column }) coefficients) (each-found key_cmp IsDecimal _ coefficients h)
  where
    by : (o : Option Number) → Holds IsDecimal o → Holds IsCell (option_map (λ (value : Number). (row, value)) o)
    by None k = tt
    by (Some d) k = (w, k)

-- what is needed of a listing
pub record IsListed (m : Listing) : Type 0 where
  pub objective : is_mps_name m.objective ≡ true
  pub constant : IsDecimal m.constant
  pub rows : Each (λ row. is_sound_row row ≡ true) m.rows
  pub columns : Each (λ column. is_sound_column column ≡ true) m.columns
  pub coefficients : Each (λ entry. IsDecimal entry.1) m.coefficients

row-name : (row : List ℕ × Row) → is_sound_row row ≡ true → Word row.0
row-name row h = name-word row.0 (first_so _ _ h)

column-name : (column : List ℕ × Column) → is_sound_column column ≡ true → Word column.0
column-name column h = name-word column.0 (first_so _ _ h)

column-printable : (m : Listing) → IsListed m → (column : List ℕ × Column) → is_sound_column column ≡ true
    → AllPrintable (column_lines m column)
column-printable m h column sound = let names : Each Word (m.objective ∷ map (λ row. row.0) m.rows)
    = (
      name-word m.objective h.objective,
      Each-map Word (λ row. row.0) m.rows
          (Each-weaker (λ row. is_sound_row row ≡ true) (λ row. Word row.0) row-name m.rows h.rows),
    ) in
    let found = each-filter_map IsCell (cell_at m.coefficients column.0) (m.objective ∷ map (λ row. row.0) m.rows)
    (Each-weaker Word (λ row. Holds IsCell (cell_at m.coefficients column.0 row))
    (λ row w. cell-found m.coefficients column.0 row h.coefficients w) (m.objective ∷ map (λ row. row.0) m.rows) names) in
    cells-printable column.0 (printed_coefficients m.objective (column_coefficients m column.0)) (column-name column sound)
    (grind (arith, name-word m.objective h.objective, found))

columns-printable : (m : Listing) → IsListed m → (columns : List (List ℕ × Column)) →
    Each (λ column. is_sound_column column ≡ true) columns → AllPrintable (flat_map (column_lines m) columns)
columns-printable m h columns sound = Each-flat_map IsPrintable _ columns (Each-weaker _ _ (column-printable m h) columns sound)

kept : (p : List ℕ × Column → Bool) (columns : List (List ℕ × Column)) → Each (λ column. is_sound_column column ≡ true) columns
    → Each (λ column. is_sound_column column ≡ true) (filter p columns)
kept p columns h = Each-filter _ p columns (Each-weaker _ _ (λ column k _. k) columns h)

opening-printable : IsPrintable (marker_line opening_word)
opening-printable = words _ refl refl
    (code-word _ refl refl refl, (code-word marker refl refl refl, (code-word opening_word refl refl refl, tt)))

closing-printable : IsPrintable (marker_line closing_word)
closing-printable = words _ refl refl
    (code-word _ refl refl refl, (code-word marker refl refl refl, (code-word closing_word refl refl refl, tt)))

part-printable : (lines : Lines) → AllPrintable lines → AllPrintable (integer_part lines)
part-printable [] h = tt
part-printable (line ∷ lines) h =
    (opening-printable, Each-append IsPrintable (line ∷ lines) (marker_line closing_word ∷ []) h (closing-printable, tt))

side-printable : (row : List ℕ) (value : Number) → Word row → IsDecimal value → AllPrintable (rhs_lines row value)
side-printable = grind (arith, value-printable, code-word)

row-side-printable : (row : List ℕ × Row) → is_sound_row row ≡ true → AllPrintable (row_rhs_lines row)
row-side-printable row h =
    side-printable row.0 (printed_rhs row.1.lower row.1.upper) (row-name row h)
    (side-decimal row.1.lower row.1.upper (row_sides row h))

range-printable : (row : List ℕ × Row) → is_sound_row row ≡ true → AllPrintable (range_lines row)
range-printable = grind (arith, range-decimal, row_distance, value-printable, code-word, row-name)

-- ---- bounds

abbrev IsBound : PrintedBound → Type 0
IsBound bound = Holds IsDecimal bound.value

all-bounds : (kind : Kind) (lower upper : Limit) → is_lower_side lower ≡ true → is_upper_side upper ≡ true
    → Each IsBound (printed_bounds kind lower upper)
all-bounds = grind (arith, bounded_so)

bound-printable : (column : List ℕ) (bound : PrintedBound) → Word column → IsBound bound → IsPrintable (bound_line column bound)
bound-printable = grind (arith, words, code-word, number-word)

bounds-printable : (column : List ℕ × Column) → is_sound_column column ≡ true → AllPrintable (column_bound_lines column)
bounds-printable column h =
    let lower = column.1.lower in
    let upper = column.1.upper in
    let sides = column_sides column h in
    let both = all-bounds column.1.kind lower upper (first_so _ _ sides) (first_so _ _ (second_so _ _ sides)) in
    Each-map IsPrintable _ _ (Each-weaker IsBound _ (λ bound k. bound-printable column.0 bound (column-name column h) k) _ both)

-- ---- all lines

abbrev in-turn : (xs ys : Lines) → AllPrintable xs → AllPrintable ys → AllPrintable (xs ++ ys)
in-turn xs ys h k = Each-append IsPrintable xs ys h k

rows-printable : (m : Listing) → IsListed m → AllPrintable (rows_section m)
rows-printable m h = (
  (grind arith),
  (
    objective-printable m.objective h.objective,
    Each-map IsPrintable row_line m.rows (Each-weaker _ _ row-printable m.rows h.rows),
  ),
)

columns_section-printable : (m : Listing) → IsListed m → AllPrintable (columns_section m)
columns_section-printable m h = (
  (grind arith),
  in-turn _ _
      (columns-printable m h _ (kept is_plain_column m.columns h.columns))
      (part-printable _ (columns-printable m h _ (kept is_integer_column m.columns h.columns))),
)

rhs_values-printable : (m : Listing) → IsListed m → AllPrintable (rhs_section m)
rhs_values-printable m h = grind (
  arith,
  (in-turn (rhs_lines m.objective (negated m.constant)) (flat_map row_rhs_lines m.rows)
      (side-printable m.objective (negated m.constant) (name-word m.objective h.objective)
      (negated-decimal m.constant h.constant))
      (Each-flat_map IsPrintable row_rhs_lines m.rows
      (Each-weaker (λ row. is_sound_row row ≡ true) (λ row. AllPrintable (row_rhs_lines row))
      row-side-printable m.rows h.rows))),
)

ranges-printable : (m : Listing) → IsListed m → AllPrintable (ranges_section m)
ranges-printable m h = grind (arith, Each-flat_map IsPrintable range_lines m.rows (Each-weaker _ _ range-printable m.rows h.rows))

bounds_section-printable : (m : Listing) → IsListed m → AllPrintable (bounds_section m)
bounds_section-printable m h =
    grind (arith, Each-flat_map IsPrintable column_bound_lines m.columns (Each-weaker _ _ bounds-printable m.columns h.columns))

listed-printable : (m : Listing) → IsListed m → AllPrintable (listed_lines m)
listed-printable m h =
    let ending = header_line EndData ∷ [] in
    let bounds_on = bounds_section m ++ ending in
    let ranges_on = ranges_section m ++ bounds_on in
    let sides_on = rhs_section m ++ ranges_on in
    let columns_on = columns_section m ++ sides_on in
    let rows_on = rows_section m ++ columns_on in (
      (grind arith),
      in-turn _ rows_on (grind arith)
          (in-turn (rows_section m) columns_on (rows-printable m h)
          (in-turn (columns_section m) sides_on (columns_section-printable m h)
          (in-turn _ ranges_on (rhs_values-printable m h)
          (in-turn _ bounds_on (ranges-printable m h)
          (in-turn _ ending (bounds_section-printable m h) ((grind arith), tt)))))),
    )

listed-from_sound : (m : LinearModel) → IsSound m → IsListed (listing_of m)
listed-from_sound m h =
    record {
      objective = h.objective;
      constant = h.constant;
      rows = Each-from_list_all is_sound_row _ h.rows;
      columns = Each-from_list_all is_sound_column _ h.columns;
      coefficients = Each-weaker _ _
          (λ entry k. first_so _ _ k) _ (Each-from_list_all _ _ h.coefficients);
    }

-- each canonical line of a well-formed model can be printed
pub canonical-printable : (m : LinearModel) → IsSound m → AllPrintable (canonical_lines m)
canonical-printable m h = listed-printable _ (listed-from_sound m h)

-- ---- only the last line is ENDATA

abbrev pub lines_before_end : Listing → Lines
lines_before_end m = header_line Name
    ∷ (sense_lines m.sense ++ (rows_section
    m ++ (columns_section m ++ (rhs_section m ++ (ranges_section m ++ bounds_section m)))))

lines-assoc : (xs ys zs : Lines) → (xs ++ ys) ++ zs ≡ xs ++ (ys ++ zs)
lines-assoc [] ys zs = refl
lines-assoc (x ∷ xs) ys zs = ap (λ more. x ∷ more) (lines-assoc xs ys zs)

regroup : (a b c d e f g : Lines) → (a ++ (b ++ (c ++ (d ++ (e ++ f))))) ++ g ≡ a ++ (b ++ (c ++ (d ++ (e ++ (f ++ g)))))
regroup = grind (arith, lines-assoc)

abbrev pub GoesOn : PrintedLine → Type 0
GoesOn l = begins EndData (content_in l) ≡ false

abbrev AllGoOn : Lines → Type 0
AllGoOn ls = Each GoesOn ls

under-goes : (section : Section) (ls : Lines) → GoesOn (header_line section) → AllGoOn ls → AllGoOn (under_header section ls)
under-goes = grind arith

in-turn_read : (xs ys : Lines) → AllGoOn xs → AllGoOn ys → AllGoOn (xs ++ ys)
in-turn_read xs ys h k = Each-append GoesOn xs ys h k

mapped-go : {X : Type 0} (f : X → PrintedLine) → ((x : X) → GoesOn (f x)) → (xs : List X) → AllGoOn (map f xs)
mapped-go f h xs = Each-map GoesOn f xs (Each-all _ h xs)

flat-go : {X : Type 0} (f : X → Lines) → ((x : X) → AllGoOn (f x)) → (xs : List X) → AllGoOn (flat_map f xs)
flat-go f h xs = Each-flat_map GoesOn f xs (Each-all _ h xs)

sense-go : (sense : Sense) → AllGoOn (sense_lines sense)
sense-go = grind arith

part-go : (ls : Lines) → AllGoOn ls → AllGoOn (integer_part ls)
part-go = grind (arith, in-turn_read)

columns-go : (m : Listing) (columns : List (List ℕ × Column)) → AllGoOn (flat_map (column_lines m) columns)
columns-go = grind (arith, flat-go, mapped-go)

side-go : (row : List ℕ) (value : Number) → AllGoOn (rhs_lines row value)
side-go = grind arith

range-go : (row : List ℕ × Row) → AllGoOn (range_lines row)
range-go = grind arith

bounds-go : (column : List ℕ × Column) → AllGoOn (column_bound_lines column)
bounds-go = grind arith

pub before-go : (m : Listing) → AllGoOn (lines_before_end m)
before-go = grind (
  arith,
  in-turn_read,
  sense-go,
  mapped-go,
  columns-go,
  part-go,
  under-goes,
  side-go,
  flat-go,
  range-go,
  bounds-go,
)

-- ---- so all lines are read

all-read : (ls : Lines) (last : PrintedLine) → Each IsPrintable ls → IsPrintable last → AllGoOn ls →
    begins EndData (content_in last) ≡ true →
    (take (suc (position_or_len is_end (map line_text (ls ++ last ∷ [])))) (map line_text (ls ++ last ∷ []))
    ≡ map line_text (ls ++ last ∷ [])) × (list_any is_end (map line_text (ls ++ last ∷ [])) ≡ true)
all-read [] last h p g e = grind (arith, item-line_text)
all-read (l ∷ ls) last h p g e = let more = all-read ls last h.1 p g.1 e in
    let here : is_end (line_text l) ≡ false =
    grind (arith, item-line_text, h.0, g.0) in
    let next : (n : ℕ) → 1 + n ≡ suc n = λ n. omega arith in (
      rw (here, next (position_or_len is_end (map line_text (ls ++ last ∷ []))))
          (ap (λ (x : List (List ℕ)). line_text l ∷ x) more.0),
      rw here more.1,
    )

each-parts : (xs ys : Lines) → Each IsPrintable (xs ++ ys) → Each IsPrintable xs × Each IsPrintable ys
each-parts [] ys h = (tt, h)
each-parts (x ∷ xs) ys h = grind (arith, each-parts xs ys h.1)

abbrev up_to_end : List (List ℕ) → List (List ℕ)
up_to_end ls = take (suc (position_or_len is_end ls)) ls

pub read-as-line_text : AreReadAsPrinted
read-as-line_text m sound =
    let before = lines_before_end (listing_of m) in
    let ending : Lines = header_line EndData ∷ [] in
    let printable = canonical-printable m sound in
    let whole : canonical_lines m ≡ before ++ ending = search (rules, regroup) in
    let cut : lines (canonical_mps m) ≡ map line_text (canonical_lines m) = lines-text (canonical_lines m) printable in
    let parts = each-parts before ending (subst (λ (ls : Lines). Each IsPrintable ls) whole printable) in
    let read = all-read before (header_line EndData) parts.0 parts.1.0 (before-go (listing_of m)) refl in
    record {
      lines = ap up_to_end cut ∙ subst (λ (ls : Lines). up_to_end (map line_text ls) ≡ map line_text ls) (sym whole) read.0;
      legal = legal-lines (canonical_lines m) printable;
      items = items-line_text (canonical_lines m) printable;
      end = ap (list_any is_end) cut ∙ subst (λ (ls : Lines). list_any is_end (map line_text ls) ≡ true) (sym whole) read.1;
    }
