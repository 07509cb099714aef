-- How the grammar reads the printed forms: each declares what it was printed from, if none of it is rejected.
pub use Rattle.mpslp_lp_grammar.specs.Points.{point_at, AreNew}
pub use Rattle.mpslp_lp_laws.specs.PrintedDeclarations.{constant_declared}
use Rattle.mpslp_lp_laws.proofs.Prelude
use Prelude.{arith, ◌≡◌, refl, ℕ, List, [], ◌∷◌, ◌++◌, true, false, append_assoc, Some, None, codes, Decimal}
use Prelude.{limit_of, Draft, empty_draft, Declarations, declare_column, bounds_declared, with_declarations, refusals_in_turn}
use Prelude.{Sense, Minimize, Maximize, Limit, MinusInf, SignOf, Minus, TerminalAt, Opens, Name, Sign, Compares, Colon}
use Prelude.{Infinity, phrases, made_by, Finished, no_section_seen, with_section, section_fault, Point, start, SectionsSeen, PartialRow}
use Prelude.{Place, BeforeItems, InObjective, BetweenRows, InRow, InBounds, InGenerals, InSemis, apply_sign, Limits, limits_by}
use Prelude.{term_declared, objective_declared, fits_left, row_limits, row_declared, may_begin_section, phrase_at, Relation, sym, ap, subst}
use Prelude.{◌∙◌, ◌+◌, Bool, map, if◌then◌else◌, flat_map, is_negative, size_of, with_declarations-append, Each}
use Prelude.{word_terminal, AtStart, PrintedLine, Listing, Lines, Term, heading, label_line, sense_word, term_line, objective_terms}
use Prelude.{constant_lines, objective_section, ◌||◌, append-nil, is_zero, have_same_value, Column, Finite, PlusInf, class_of}
use Prelude.{Terminal, no_limits, AtMost, AtLeast, EqualTo, Lexeme, word, number, sense, minus_infinity, bound_lexemes, line_of_some}
use Prelude.{bound_lines, rules, Option, option_map, long_line, right_line, declare_integer, declare_semi, under_heading, name_line}
use Prelude.{under_semi_heading}
use Rattle.mpslp_builder.proofs.MadeDrafts.{parts-taken}
use Rattle.mpslp_lp_grammar.specs.Terminal.Terminal.{Number}
use Rattle.mpslp_lp_tokens.specs.declared.words.SectionWord.{SectionWord}
use Rattle.mpslp_lp_grammar.specs.Points.{at}
use Rattle.mpslp_lp_laws.proofs.LineLemmas.{IsTerm, IsFit, objective-fits, line_terminals_in, all_terminals, signed-value, sign_of}
use Rattle.mpslp_lp_laws.proofs.{LineLemmas.{IsFitColumn, terminals_in, mapped-append}, LexemeLemmas.IsGoodName}
use Rattle.mpslp_lp_tokens.specs.declared.words.Section.TheVariants as sections
use Rattle.mpslp_lp_tokens.specs.declared.words.SectionWord.TheVariants as section_words

abbrev pub Tokens : Type 0
Tokens = List TerminalAt

-- From a point on, the tokens declare these and lead to another point, whatever follows them.
pub record Walks (from : Point) (tokens : Tokens) (made : Declarations) (to : Point) : Type 0 where
  pub says : (rest : Tokens) → phrases phrase_at from 0 (tokens ++ rest) ≡ phrases phrase_at to 0 rest
  pub makes : (rest : Tokens) → made_by phrase_at from 0 (tokens ++ rest) ≡ made ++ made_by phrase_at to 0 rest

pub walks-none : (point : Point) → Walks point [] [] point
walks-none _ = record { says = λ rest. refl; makes = λ rest. refl }

-- one part after the other
pub walks-then : (from between to : Point) (xs ys : Tokens) (made more : Declarations)
    → Walks from xs made between → Walks between ys more to → Walks from (xs ++ ys) (made ++ more) to
walks-then = grind (arith, append_assoc)

-- ---- the objective

abbrev pub sense_opens : Sense → SectionWord
sense_opens Minimize = section_words.Minimize
sense_opens Maximize = section_words.Maximize

pub term-walks : (seen : SectionsSeen) (all : Draft) (name : List ℕ) (n : ℕ) (sign : SignOf) (size : Decimal) (column : List ℕ)
    → refusals_in_turn all (term_declared name (column, apply_sign sign size)) ≡ [] → Walks (point_at (InObjective name) seen all)
    (at n (Sign sign) ∷ at n (Number size) ∷ at n (Name column) ∷ []) (term_declared name (column, apply_sign sign size))
    (point_at (InObjective name) seen (with_declarations all (term_declared name (column, apply_sign sign size))))
term-walks = grind arith

-- ---- rows

-- a label, a limit before the terms, and the first term
pub left-row-walks : (seen : SectionsSeen) (all : Draft) (name : List ℕ) (k j n : ℕ) (value : Decimal) (relation : Relation)
    (sign : SignOf) (size : Decimal) (column : List ℕ) →
    Walks (point_at BetweenRows seen all)
    (at k (Name name) ∷ at k Colon ∷ at j (Number value) ∷ at j (Compares relation) ∷ at n (Sign sign) ∷ at n
    (Number size) ∷ at n (Name column) ∷ []) []
    (point_at (InRow (record {
      name = name;
      left = Some (limit_of value, relation);
      terms =
          (column, apply_sign sign size) ∷ [];
    })) seen all)
left-row-walks = grind arith

-- what a row declares that ends with this relation and this limit
abbrev pub ended_by : PartialRow → Relation → Limit → Declarations
ended_by row relation limit = row_declared row (row_limits row.left relation limit)

-- a relation and a limit after the terms
pub row-end-walks : (seen : SectionsSeen) (all : Draft) (row : PartialRow) (n : ℕ) (relation : Relation) (value : Decimal)
    → fits_left row.left relation ≡ true → refusals_in_turn all (ended_by row relation (limit_of value)) ≡ []
    → Walks (point_at (InRow row) seen all) (at n (Compares relation) ∷ at n (Number value) ∷ [])
    (ended_by row relation (limit_of value))
    (point_at BetweenRows seen (with_declarations all (ended_by row relation (limit_of value))))
row-end-walks = grind arith

-- ---- sections

pub bounds-section-walks : (place : Place) (seen : SectionsSeen) (all : Draft) (n : ℕ)
    → may_begin_section place ≡ true → section_fault seen sections.Bounds ≡ None → Walks
    (point_at place seen all) (at n (Opens section_words.Bounds) ∷ []) []
    (point_at (InBounds None) (with_section seen sections.Bounds) all)
bounds-section-walks = grind arith

-- the text is complete at its last word
pub end-says : (place : Place) (seen : SectionsSeen) (all : Draft) (n : ℕ) → may_begin_section place ≡ true → section_fault
    seen sections.End ≡ None → phrases phrase_at (point_at place seen all) 0 (at n (Opens section_words.End) ∷ []) ≡ Finished all
end-says = grind arith

pub end-makes : (place : Place) (seen : SectionsSeen) (all : Draft) (n : ℕ) → may_begin_section place ≡ true
    → section_fault seen sections.End ≡ None →
    made_by phrase_at (point_at place seen all) 0 (at n (Opens section_words.End) ∷ []) ≡ []
end-makes = grind arith

-- ---- bounds

-- what bounds of a column declare, with the column itself
abbrev pub column_and : List ℕ → Limits → Declarations
column_and column limits = (declare_column column ∷ []) ++ bounds_declared column limits.lower limits.upper

-- ---- the printed objective, up to `Subject To`, declares the sense, the objective, its terms and its constant

-- ---- lists of lines

-- the number of the line after these
abbrev pub number_after : ℕ → Lines → ℕ
number_after n [] = n
number_after n (line ∷ lines) = number_after (n + 1) lines

pub terminals-append : (n : ℕ) (xs ys : Lines) →
    all_terminals n (xs ++ ys) ≡ all_terminals n xs ++ all_terminals (number_after n xs) ys
terminals-append n [] _ = refl
terminals-append n (x ∷ xs) ys = grind (arith, line_terminals_in, append_assoc, all_terminals, terminals-append (n + 1) xs ys)

-- ---- parts

-- one part after the other, each in its draft
pub parts-walk : (from : Place) (between to : Place) (seen later last : SectionsSeen) (all : Draft) (xs ys : List TerminalAt)
    (made more : Declarations) → Walks (point_at from seen all) xs made
    (point_at between later (with_declarations all made)) →
    Walks (point_at between later (with_declarations all made)) ys more
    (point_at to last (with_declarations (with_declarations all made) more)) →
    Walks (point_at from seen all) (xs ++ ys) (made ++ more)
    (point_at to last (with_declarations all (made ++ more)))
parts-walk = grind (arith, point_at, with_declarations-append, walks-then)

-- ---- terms

abbrev pub terms_declared : List ℕ → List Term → Declarations
terms_declared row terms = flat_map (term_declared row) terms

pub term-terminals : (n : ℕ) (term : Term) → IsTerm term → line_terminals_in n (term_line term)
    ≡ at n (Sign (sign_of (is_negative term.1))) ∷ at n (Number (size_of term.1)) ∷ at n (Name term.0) ∷ []
term-terminals n term h = λ i. at n (Sign (sign_of (is_negative term.1))) ∷ at n (Number (size_of term.1)) ∷ at n
    (word_terminal term.0 (h.0.word_class i)) ∷ []

-- before the first item, or after one
abbrev pub items_at : List ℕ → Bool → Place
items_at name started = if started then InObjective name else BeforeItems name

pub one-term : (started : Bool) (seen : SectionsSeen) (all : Draft) (name : List ℕ) (n : ℕ) (term : Term) →
    IsTerm term → refusals_in_turn all (term_declared name term) ≡ [] →
    Walks (point_at (items_at name started) seen all) (line_terminals_in n (term_line term))
    (term_declared name term) (point_at (InObjective name) seen (with_declarations all (term_declared name term)))
one-term = grind (arith, point_at, term-terminals, signed-value, at, sign_of, term-walks)

abbrev pub after_terms : Bool → List Term → Bool
after_terms started [] = started
after_terms started (term ∷ terms) = after_terms true terms

-- the terms of the objective
pub objective-terms-walk : (started : Bool) (seen : SectionsSeen) (all : Draft) (name : List ℕ) (n : ℕ) (terms : List Term)
    → Each IsTerm terms → refusals_in_turn all (terms_declared name terms) ≡ []
    → Walks (point_at (items_at name started) seen all) (all_terminals n (map term_line terms)) (terms_declared name terms)
    (point_at (items_at name (after_terms started terms)) seen (with_declarations all (terms_declared name terms)))
objective-terms-walk started seen all name n [] _ h = walks-none (point_at (items_at name started) seen all)
objective-terms-walk started seen all name n (term ∷ terms) good h =
    let parts = parts-taken all (term_declared name term) (terms_declared name terms) h in parts-walk (items_at name started)
    (InObjective name) (items_at name (after_terms true terms)) seen seen seen all
    (line_terminals_in n (term_line term)) (all_terminals (n + 1) (map term_line terms)) (term_declared name term)
    (terms_declared name terms) (one-term started seen all name n term good.0 parts.0)
    (objective-terms-walk true seen (with_declarations all (term_declared name term)) name (n + 1) terms
    good.1 parts.1)

-- ---- the constant, and `Subject To`

abbrev pub subject_heading : PrintedLine
subject_heading = heading (codes "Subject" ∷ codes "To" ∷ [])

pub constant-walk : (started : Bool) (seen : SectionsSeen) (all : Draft) (name : List ℕ) (n : ℕ) (value : Decimal)
    → refusals_in_turn all (constant_declared value) ≡ [] → section_fault seen sections.Rows ≡ None
    → Walks (point_at (items_at name started) seen all) (all_terminals n (constant_lines value ++ subject_heading ∷ []))
    (constant_declared value) (point_at BetweenRows (with_section seen sections.Rows)
    (with_declarations all (constant_declared value)))
constant-walk = grind arith

-- ---- the whole section, from the start on

abbrev pub objective_made : Listing → Declarations
objective_made m = objective_declared m.sense
    m.objective ++ (terms_declared m.objective (objective_terms m) ++ constant_declared m.constant)

abbrev pub in_rows : SectionsSeen
in_rows = with_section (with_section no_section_seen sections.Objective) sections.Rows

pub begin-terminals : (n : ℕ) (aim : Sense) (name : List ℕ) →
    all_terminals n (heading (sense_word aim ∷ []) ∷ label_line name ∷ []) ≡ at n (Opens (sense_opens aim)) ∷ at (n + 1)
    (Name name) ∷ at (n + 1) Colon ∷ []
begin-terminals = grind arith

pub objective-walk : (m : Listing) → IsFit m
    → refusals_in_turn empty_draft (objective_made m) ≡ [] →
    Walks start (all_terminals 1 (objective_section m ++ subject_heading ∷ [])) (objective_made m)
    (point_at BetweenRows in_rows (with_declarations empty_draft (objective_made m)))
objective-walk m fit h = let seen : SectionsSeen = with_section no_section_seen sections.Objective in
    let begun = objective_declared m.sense m.objective in
    let terms = terms_declared m.objective (objective_terms m) in
    let constant = constant_declared m.constant in
    let parts = parts-taken empty_draft begun (terms ++ constant) h in
    let later = parts-taken (with_declarations empty_draft begun) terms constant parts.1 in
    let first : Lines = heading (sense_word m.sense ∷ []) ∷ label_line m.objective ∷ [] in
    let lines : Lines = map term_line (objective_terms m) in
    let ending : Lines = constant_lines m.constant ++ subject_heading ∷ [] in
    subst (λ (tokens : List TerminalAt). Walks start tokens (objective_made m)
    (point_at BetweenRows in_rows (with_declarations empty_draft (objective_made m))))
    (sym (ap (λ (more : Lines). all_terminals 1 (first ++ more)) (append_assoc lines (constant_lines m.constant)
    (subject_heading ∷ [])) ∙ terminals-append 1 first (lines ++ ending)
    ∙ (λ i. begin-terminals 1 m.sense m.objective i ++ terminals-append 3 lines ending i)))
    (parts-walk AtStart (BeforeItems m.objective) BetweenRows no_section_seen seen in_rows empty_draft
    (at 1 (Opens (sense_opens m.sense)) ∷ at 2 (Name m.objective) ∷ at 2 Colon ∷ []) (all_terminals 3 lines ++ all_terminals
    (number_after 3 lines) ending) begun (terms ++ constant) (grind arith) (parts-walk (BeforeItems m.objective)
    (items_at m.objective (after_terms false (objective_terms m))) BetweenRows seen seen in_rows
    (with_declarations empty_draft begun) (all_terminals 3 lines) (all_terminals (number_after 3 lines) ending)
    terms constant (objective-terms-walk false seen (with_declarations empty_draft begun) m.objective 3
    (objective_terms m) (objective-fits m fit) later.0) (constant-walk (after_terms false (objective_terms
    m)) seen (with_declarations (with_declarations empty_draft begun) terms) m.objective (number_after 3 lines)
    m.constant later.1 refl)))

-- ---- the printed bounds of columns declare the bounds

-- ---- a number is read by its sign and its absolute value

pub number-either : (P : Decimal → List Terminal → Type 0) (value : Decimal) → ((v : Decimal) → P v (Number v ∷ []))
    → ((below : SignOf) (v : Decimal) → P (apply_sign below v) (Sign below ∷ Number v ∷ [])) →
    P value (terminals_in (number value))
number-either P value plain with_sign = grind (arith, sign_of, signed-value value)

-- ---- what is declared

-- what the bounds of a column declare
abbrev pub bound_made : List ℕ → Limit → Limit → Declarations
bound_made column MinusInf (Finite upper) =
    column_and column (limits_by AtLeast MinusInf) ++ bounds_declared column None (Some (limit_of upper))
bound_made column (Finite lower) (Finite upper) = if have_same_value lower upper then column_and column (limits_by EqualTo
    (limit_of upper)) else column_and column (limits_by AtLeast (limit_of lower)) ++ bounds_declared column None
    (Some (limit_of upper))
bound_made column (Finite lower) _ = if is_zero lower then [] else column_and column (limits_by AtLeast (limit_of lower))
bound_made column _ _ = column_and column no_limits

-- ---- parts of a line

abbrev bounds_point : SectionsSeen → Draft → Point
bounds_point seen all = point_at (InBounds None) seen all

-- a column, a relation and a number
valued-walk : (seen : SectionsSeen) (all : Draft) (n : ℕ) (column : List ℕ) (relation : Relation) (value : Decimal) →
    refusals_in_turn all (column_and column (limits_by relation (limit_of value))) ≡ [] →
    Walks (bounds_point seen all) (at n (Name column) ∷ at n (Compares relation) ∷ map (at n)
    (terminals_in (number value))) (column_and column (limits_by relation (limit_of value)))
    (bounds_point seen (with_declarations all (column_and column (limits_by relation (limit_of value)))))
valued-walk = grind arith

-- a number, `<=` and a column
left-walk : (seen : SectionsSeen) (all : Draft) (n : ℕ) (value : Decimal) (column : List ℕ) → refusals_in_turn all
    (column_and column (limits_by AtLeast (limit_of value))) ≡ [] →
    Walks (bounds_point seen all) (map (at n) (terminals_in (number value)) ++ at n (Compares AtMost) ∷ at n
    (Name column) ∷ []) (column_and column (limits_by AtLeast (limit_of value)))
    (point_at (InBounds (Some (column, AtMost))) seen
    (with_declarations all (column_and column (limits_by AtLeast (limit_of value)))))
left-walk = grind arith

-- `<=` and a number after a column with a lower bound
upper-walk : (seen : SectionsSeen) (all : Draft) (n : ℕ) (column : List ℕ) (value : Decimal)
    → refusals_in_turn all (bounds_declared column None (Some (limit_of value))) ≡ [] → Walks (point_at
    (InBounds (Some (column, AtMost))) seen all) (at n (Compares AtMost) ∷ map (at n) (terminals_in (number value)))
    (bounds_declared column None (Some (limit_of value)))
    (bounds_point seen (with_declarations all (bounds_declared column None (Some (limit_of value)))))
upper-walk = grind arith

-- ---- a line

abbrev pieces_terminals : ℕ → List Lexeme → List TerminalAt
pieces_terminals n lexemes = map (at n) (flat_map terminals_in lexemes)

-- a column, a relation and a number
valued-line : (seen : SectionsSeen) (all : Draft) (n : ℕ) (column : List ℕ) (relation : Relation) (value : Decimal) →
    IsGoodName column → refusals_in_turn all (column_and column (limits_by relation (limit_of value))) ≡ [] →
    Walks (bounds_point seen all) (pieces_terminals n (word column ∷ sense relation ∷ number value ∷ []))
    (column_and column (limits_by relation (limit_of value)))
    (bounds_point seen (with_declarations all (column_and column (limits_by relation (limit_of value)))))
valued-line = grind (arith, column_and, at, append-nil, terminals_in, valued-walk)

-- a number, a column and a number
between-line : (seen : SectionsSeen) (all : Draft) (n : ℕ) (lower : Decimal) (column : List ℕ) (upper : Decimal) →
    IsGoodName column → refusals_in_turn all (column_and column (limits_by AtLeast (limit_of lower)) ++ bounds_declared
    column None (Some (limit_of upper))) ≡ [] →
    Walks (bounds_point seen all) (pieces_terminals n
    (number lower ∷ sense AtMost ∷ word column ∷ sense AtMost ∷ number upper ∷ []))
    (column_and column (limits_by AtLeast (limit_of lower)) ++ bounds_declared column None
    (Some (limit_of upper))) (bounds_point seen
    (with_declarations all (column_and column
    (limits_by AtLeast (limit_of lower)) ++ bounds_declared column None (Some (limit_of upper)))))
between-line seen all n lower column upper good h = let first = column_and column (limits_by AtLeast (limit_of lower)) in
    let second = bounds_declared column None (Some (limit_of upper)) in
    let parts = parts-taken all first second h in
    let left = terminals_in (number lower) in
    let right = terminals_in (number upper) in subst (λ (tokens : List TerminalAt). Walks
    (bounds_point seen all) tokens (first ++ second) (bounds_point seen (with_declarations all (first ++ second))))
    (append_assoc (map (at n) left) (at n (Compares AtMost) ∷ at n (Name column) ∷ []) (at n (Compares AtMost) ∷ map (at n) right)
    ∙ (λ i. map (at n) left ++ at n (Compares AtMost) ∷ at n (word_terminal column (sym good.word_class i)) ∷ at n
    (Compares AtMost) ∷ map (at n) (sym (append-nil right) i))
    ∙ sym (mapped-append (at n) left (Compares AtMost ∷ word_terminal column (class_of column)
    ∷ Compares AtMost ∷ (right ++ [])))) (parts-walk (InBounds None) (InBounds (Some (column, AtMost))) (InBounds None)
    seen seen seen all (map (at n) left ++ at n (Compares AtMost) ∷ at n (Name column) ∷ [])
    (at n (Compares AtMost) ∷ map (at n) right) first second (left-walk seen all n lower column parts.0)
    (upper-walk seen (with_declarations all first) n column upper parts.1))

-- minus infinity, a column and a number
infinite-line : (seen : SectionsSeen) (all : Draft) (n : ℕ) (column : List ℕ) (upper : Decimal) → IsGoodName column
    → refusals_in_turn all (column_and column (limits_by AtLeast MinusInf) ++ bounds_declared column None
    (Some (limit_of upper))) ≡ [] →
    Walks (bounds_point seen all) (pieces_terminals n
    (minus_infinity ∷ sense AtMost ∷ word column ∷ sense AtMost ∷ number upper ∷ []))
    (column_and column (limits_by AtLeast MinusInf) ++ bounds_declared column None
    (Some (limit_of upper))) (bounds_point seen
    (with_declarations all (column_and column (limits_by AtLeast MinusInf) ++ bounds_declared
    column None (Some (limit_of upper)))))
infinite-line seen all n column upper good h = let first = column_and column (limits_by AtLeast MinusInf) in
    let second = bounds_declared column None (Some (limit_of upper)) in
    let parts = parts-taken all first second h in
    let right = terminals_in (number upper) in
    subst (λ (tokens : List TerminalAt). Walks (bounds_point seen all) tokens (first ++ second)
    (bounds_point seen (with_declarations all (first ++ second))))
    (λ i. at n (Sign Minus) ∷ at n Infinity ∷ at n (Compares AtMost) ∷ at n
    (word_terminal column (sym good.word_class i)) ∷ at n (Compares AtMost) ∷ map (at n)
    (sym (append-nil right) i)) (parts-walk (InBounds None) (InBounds (Some (column, AtMost)))
    (InBounds None) seen seen seen all
    (at n (Sign Minus) ∷ at n Infinity ∷ at n (Compares AtMost) ∷ at n (Name column) ∷ [])
    (at n (Compares AtMost) ∷ map (at n) right) first second (grind arith)
    (upper-walk seen (with_declarations all first) n column upper parts.1))

-- ---- the lines of columns

some-line : (from to : Point) (n : ℕ) (piece : Lexeme) (lexemes : List Lexeme) (made : Declarations)
    → Walks from (pieces_terminals n (piece ∷ lexemes)) made to →
    Walks from (all_terminals n (line_of_some (piece ∷ lexemes))) made to
some-line from to n piece lexemes made h = grind (arith, append-nil)

pub column-walk : (seen : SectionsSeen) (all : Draft) (n : ℕ) (column : List ℕ) (lower upper : Limit) →
    IsGoodName column → refusals_in_turn all (bound_made column lower upper) ≡ [] →
    Walks (bounds_point seen all) (all_terminals n (line_of_some (bound_lexemes column lower upper)))
    (bound_made column lower upper) (bounds_point seen (with_declarations all (bound_made column lower upper)))
column-walk seen all n column MinusInf (Finite b) good h = grind (arith, some-line, infinite-line)
column-walk seen all n column (Finite a) (Finite b) good h = by (have_same_value a b) h
  where
    by : (t : Bool) → refusals_in_turn all (if t then column_and column (limits_by EqualTo (limit_of b)) else column_and column
        (limits_by AtLeast (limit_of a)) ++ bounds_declared column None (Some (limit_of b))) ≡ [] → Walks (bounds_point seen all)
        (all_terminals n (line_of_some (if t then word column ∷ sense EqualTo ∷ number b ∷ [] else number a ∷ sense AtMost
        ∷ word column ∷ sense AtMost ∷ number b ∷ [])))
        (if t then column_and column (limits_by EqualTo (limit_of b)) else column_and column
        (limits_by AtLeast (limit_of a)) ++ bounds_declared column None (Some (limit_of b)))
        (bounds_point seen (with_declarations all
        (if t then column_and column (limits_by EqualTo (limit_of b)) else column_and column
        (limits_by AtLeast (limit_of a)) ++ bounds_declared column None (Some (limit_of b)))))
    by true k = some-line _ _ n (word column) (sense EqualTo ∷ number b ∷ []) _ (valued-line seen all n column EqualTo b good k)
    by false k = some-line _ _ n (number a) (sense AtMost ∷ word column ∷ sense AtMost ∷ number b ∷ []) _
        (between-line seen all n a column b good k)
column-walk seen all n column (Finite a) MinusInf good h = grind
    (arith, walks-none (bounds_point seen all), some-line, valued-line seen all n column AtLeast a good)
column-walk seen all n column (Finite a) PlusInf good h = grind
    (arith, walks-none (bounds_point seen all), some-line, valued-line seen all n column AtLeast a good)
column-walk seen all n column _ _ good h = some-line _ _ n (word column) (word (codes "free") ∷ []) _ (grind arith)

abbrev pub column_made : List ℕ × Column → Declarations
column_made column = bound_made column.0 column.1.lower column.1.upper

-- the lines of all columns
pub bounds-walk : (seen : SectionsSeen) (all : Draft) (n : ℕ) (columns : List (List ℕ × Column)) → Each IsFitColumn columns
    → refusals_in_turn all (flat_map column_made columns) ≡ [] → Walks (bounds_point seen all) (all_terminals n (flat_map
    bound_lines columns)) (flat_map column_made columns)
    (bounds_point seen (with_declarations all (flat_map column_made columns)))
bounds-walk seen all n [] _ h = walks-none (bounds_point seen all)
bounds-walk seen all n (column ∷ columns) fit h = let parts =
    parts-taken all (column_made column) (flat_map column_made columns) h in
    subst (λ (tokens : List TerminalAt). Walks (bounds_point seen all) tokens (flat_map column_made (column ∷ columns))
    (bounds_point seen (with_declarations all (flat_map column_made (column ∷ columns))))) (sym (terminals-append n
    (bound_lines column) (flat_map bound_lines columns)))
    (parts-walk (InBounds None) (InBounds None) (InBounds None) seen seen seen all
    (all_terminals n (bound_lines column))
    (all_terminals (number_after n (bound_lines column)) (flat_map bound_lines columns))
    (column_made column) (flat_map column_made columns)
    (column-walk seen all n column.0 column.1.lower column.1.upper fit.0.name parts.0)
    (bounds-walk seen (with_declarations all (column_made column)) (number_after n (bound_lines column)) columns
    fit.1 parts.1))

-- ---- a printed row declares its name, its limits and its terms

-- a limit before the terms, with its relation, if there is one
abbrev pub left_of : Option Decimal → Option (Limit × Relation)
left_of left = option_map (λ value. (limit_of value, AtMost)) left

abbrev pub left_line : Option Decimal → Lines
left_line None = []
left_line (Some value) = long_line (number value ∷ sense AtMost ∷ []) ∷ []

abbrev pub partial : List ℕ → Option Decimal → List Term → PartialRow
partial name left terms = record { name = name; left = left_of left; terms = terms }

abbrev in_row : SectionsSeen → Draft → PartialRow → Point
in_row seen all row = point_at (InRow row) seen all

-- ---- its beginning

abbrev term_tokens : ℕ → Term → List TerminalAt
term_tokens n term = at n (Sign (sign_of (is_negative term.1))) ∷ at n (Number (size_of term.1)) ∷ at n (Name term.0) ∷ []

begin-plain : (seen : SectionsSeen) (all : Draft) (name : List ℕ) (k n : ℕ) (term : Term) → Walks (point_at BetweenRows seen all)
    (at k (Name name) ∷ at k Colon ∷ term_tokens n term) [] (in_row seen all (partial name None (term ∷ [])))
begin-plain = grind arith

begin-left : (seen : SectionsSeen) (all : Draft) (name : List ℕ) (k j n : ℕ) (left : Decimal) (term : Term) →
    Walks (point_at BetweenRows seen all)
    (at k (Name name) ∷ at k Colon ∷ (map (at j) (terminals_in (number left)) ++ at j
    (Compares AtMost) ∷ term_tokens n term)) [] (in_row seen all (partial name (Some left) (term ∷ [])))
begin-left = grind (arith, point_at, at, terminals_in, signed-value, number-either, sign_of, left-row-walks)

-- the label, the limit before the terms if there is one, and the first term
pub begin-walk : (seen : SectionsSeen) (all : Draft) (name : List ℕ) (n : ℕ) (left : Option Decimal) (term : Term)
    → IsTerm term → Walks (point_at BetweenRows seen all)
    (all_terminals n (label_line name ∷ (left_line left ++ term_line term ∷ []))) []
    (in_row seen all (partial name left (term ∷ [])))
begin-walk = search (
  rules,
  point_at,
  at,
  append-nil,
  line_terminals_in,
  term-terminals,
  begin-plain,
  terminals_in,
  mapped-append,
  append_assoc,
  begin-left,
)

-- ---- its further terms

pub row-terms-walk : (sections_seen : SectionsSeen) (all : Draft) (name : List ℕ) (left : Option Decimal) (n : ℕ)
    (seen terms : List Term) → Each IsTerm terms → AreNew seen terms → Walks (in_row sections_seen all (partial name left seen))
    (all_terminals n (map term_line terms)) [] (in_row sections_seen all (partial name left (seen ++ terms)))
row-terms-walk sections_seen all name left n seen [] good new = grind (arith, append-nil, walks-none)
row-terms-walk sections_seen all name left n seen (term ∷ terms) good new =
    subst (λ (whole : List Term). Walks (in_row sections_seen all (partial name left seen))
    (all_terminals n (map term_line (term ∷ terms))) [] (in_row sections_seen all (partial name left whole)))
    (append_assoc seen (term ∷ []) terms)
    (walks-then (in_row sections_seen all (partial name left seen)) (in_row sections_seen all (partial
    name left (seen ++ term ∷ []))) (in_row sections_seen all (partial name left ((seen ++ term ∷ []) ++ terms)))
    (line_terminals_in n (term_line term)) (all_terminals (n + 1) (map term_line terms)) [] []
    (search (rules, term-terminals, signed-value, sign_of))
    (row-terms-walk sections_seen all name left (n + 1) (seen ++ term ∷ []) terms good.1 new.1))

-- ---- its end

pub row-end-walk : (seen : SectionsSeen) (all : Draft) (row : PartialRow) (n : ℕ) (relation : Relation) (right : Decimal)
    → fits_left row.left relation ≡ true → refusals_in_turn all (ended_by row relation (limit_of right)) ≡ []
    → Walks (in_row seen all row) (line_terminals_in n (right_line relation right))
    (ended_by row relation (limit_of right))
    (point_at BetweenRows seen (with_declarations all (ended_by row relation (limit_of right))))
row-end-walk seen all row n relation right fits h =
    subst (λ (tokens : List Terminal). Walks (in_row seen all row) (at n (Compares relation) ∷ map (at n) tokens)
    (ended_by row relation (limit_of right)) (point_at BetweenRows seen (with_declarations all (ended_by row relation
    (limit_of right))))) (sym (append-nil (terminals_in (number right))))
    (number-either (λ v terminals. refusals_in_turn all (ended_by row relation (limit_of v)) ≡ [] →
    Walks (in_row seen all row) (at n (Compares relation) ∷ map (at n) terminals) (ended_by row relation
    (limit_of v)) (point_at BetweenRows seen (with_declarations all (ended_by row relation (limit_of v))))) right
    (λ v k. row-end-walks seen all row n relation v fits k) (λ below v k. grind arith) h)

-- ---- the printed bounds and integer columns, and the end of the text

-- ---- where the text ends

-- From a point on, the tokens are a complete text that declares these.
pub record EndsWith (from : Point) (tokens : List TerminalAt) (made : Declarations) : Type 0 where
  pub says : phrases phrase_at from 0 tokens ≡ Finished (with_declarations from.context.builder made)
  pub makes : made_by phrase_at from 0 tokens ≡ made

pub walk-ends : (place between : Place) (seen later : SectionsSeen) (all : Draft) (xs ys : List TerminalAt)
    (made more : Declarations) → Walks (point_at place seen all) xs made (point_at between later (with_declarations all made))
    → EndsWith (point_at between later (with_declarations all made)) ys more →
    EndsWith (point_at place seen all) (xs ++ ys) (made ++ more)
walk-ends = grind (arith, with_declarations-append)

pub end-ends : (place : Place) (seen : SectionsSeen) (all : Draft) (n : ℕ) → may_begin_section place ≡ true
    → section_fault seen sections.End ≡ None → EndsWith (point_at place seen all) (all_terminals n (heading (codes "End" ∷ []) ∷ [])) []
end-ends place seen all n may fault =
    record { says = end-says place seen all n may fault; makes = end-makes place seen all n may fault }

-- ---- integer columns

abbrev pub general_made : List ℕ × Column → Declarations
general_made column = declare_column column.0 ∷ declare_integer column.0 ∷ []

pub one-general : (seen : SectionsSeen) (all : Draft) (n : ℕ) (column : List ℕ × Column)
    → IsGoodName column.0 → refusals_in_turn all (general_made column) ≡ [] → Walks (point_at InGenerals seen all)
    (line_terminals_in n (name_line column)) (general_made column)
    (point_at InGenerals seen (with_declarations all (general_made column)))
one-general = grind arith

pub generals-walk : (seen : SectionsSeen) (all : Draft) (n : ℕ) (columns : List (List ℕ × Column)) → Each IsFitColumn columns
    → refusals_in_turn all (flat_map general_made columns) ≡ [] → Walks (point_at InGenerals seen all) (all_terminals n (map
    name_line columns)) (flat_map general_made columns)
    (point_at InGenerals seen (with_declarations all (flat_map general_made columns)))
generals-walk seen all n [] _ h = walks-none (point_at InGenerals seen all)
generals-walk seen all n (column ∷ columns) fit h = let parts =
    parts-taken all (general_made column) (flat_map general_made columns) h in
    parts-walk InGenerals InGenerals InGenerals seen seen seen all (line_terminals_in n (name_line column)) (all_terminals (n + 1)
    (map name_line columns)) (general_made column) (flat_map general_made columns)
    (one-general seen all n column fit.0.name parts.0)
    (generals-walk seen (with_declarations all (general_made column)) (n + 1) columns fit.1 parts.1)

-- ---- semi-continuous columns

abbrev pub semi_made : List ℕ × Column → Declarations
semi_made column = declare_column column.0 ∷ declare_semi column.0 ∷ []

pub one-semi : (seen : SectionsSeen) (all : Draft) (n : ℕ) (column : List ℕ × Column)
    → IsGoodName column.0 → refusals_in_turn all (semi_made column) ≡ [] → Walks (point_at InSemis seen all)
    (line_terminals_in n (name_line column)) (semi_made column) (point_at InSemis seen (with_declarations all (semi_made column)))
one-semi = grind arith

pub semis-walk : (seen : SectionsSeen) (all : Draft) (n : ℕ) (columns : List (List ℕ × Column)) → Each IsFitColumn columns
    → refusals_in_turn all (flat_map semi_made columns) ≡ [] →
    Walks (point_at InSemis seen all) (all_terminals n (map name_line columns)) (flat_map semi_made columns)
    (point_at InSemis seen (with_declarations all (flat_map semi_made columns)))
semis-walk seen all n [] _ h = walks-none (point_at InSemis seen all)
semis-walk seen all n (column ∷ columns) fit h = let parts =
    parts-taken all (semi_made column) (flat_map semi_made columns) h in
    parts-walk InSemis InSemis InSemis seen seen seen all (line_terminals_in n (name_line column))
    (all_terminals (n + 1) (map name_line columns)) (semi_made column) (flat_map semi_made columns)
    (one-semi seen all n column fit.0.name parts.0)
    (semis-walk seen (with_declarations all (semi_made column)) (n + 1) columns fit.1 parts.1)

-- ---- the last sections, if they have lines, and the end

abbrev pub ending : Lines
ending = heading (codes "End" ∷ []) ∷ []

-- from here semi-continuous columns may come, and the end before or after them
pub record MayEnd (seen : SectionsSeen) : Type 0 where
  pub semis : section_fault seen sections.SemiContinuous ≡ None
  pub now : section_fault seen sections.End ≡ None
  pub later : section_fault (with_section seen sections.SemiContinuous) sections.End ≡ None

pub semis-end : (place : Place) (seen : SectionsSeen) (all : Draft) (n : ℕ) (columns : List (List ℕ × Column)) →
    Each IsFitColumn columns → may_begin_section place ≡ true → MayEnd seen →
    refusals_in_turn all (flat_map semi_made columns) ≡ [] →
    EndsWith (point_at place seen all) (all_terminals n (under_semi_heading (map name_line columns) ++ ending))
    (flat_map semi_made columns)
semis-end place seen all n [] _ may ends h = end-ends place seen all n may ends.now
semis-end place seen all n (column ∷ columns) fit may ends h = let lines : Lines = map name_line (column ∷ columns) in
    let made = flat_map semi_made (column ∷ columns) in
    let inside = with_section seen sections.SemiContinuous in
    let opening : List TerminalAt = at n (Opens section_words.Semi) ∷ at n (Sign Minus) ∷ at n (Name (codes "Continuous")) ∷ [] in
    subst (λ (tokens : List TerminalAt). EndsWith (point_at place seen all) tokens made)
    (ap (λ (more : List TerminalAt). opening ++ more) (sym (terminals-append (n + 1) lines ending))) (walk-ends place InSemis seen
    inside all opening (all_terminals (n + 1) lines ++ all_terminals (number_after (n + 1) lines) ending) [] made
    (grind arith) (subst (λ (declared : Declarations). EndsWith (point_at InSemis inside all) (all_terminals (n + 1) lines
    ++ all_terminals (number_after (n + 1) lines) ending) declared) (append-nil made) (walk-ends InSemis InSemis inside inside all
    (all_terminals (n + 1) lines) (all_terminals (number_after (n + 1) lines) ending) made [] (semis-walk inside all
    (n + 1) (column ∷ columns) fit h) (end-ends InSemis inside (with_declarations all made) (number_after (n + 1) lines)
    refl ends.later))))

pub generals-end : (place : Place) (seen : SectionsSeen) (all : Draft) (n : ℕ) (integers semis : List (List ℕ × Column))
    → Each IsFitColumn
    integers → Each IsFitColumn semis → may_begin_section place ≡ true → section_fault seen sections.Generals ≡ None → MayEnd seen
    → MayEnd (with_section seen sections.Generals) →
    refusals_in_turn all (flat_map general_made integers ++ flat_map semi_made semis) ≡ []
    → EndsWith (point_at place seen all) (all_terminals n (under_heading (codes "Generals") (map name_line integers)
    ++ (under_semi_heading (map name_line semis) ++ ending))) (flat_map general_made integers ++ flat_map semi_made semis)
generals-end place seen all n [] semis _ whole may _ ends _ h = semis-end place seen all n semis whole may ends h
generals-end place seen all n (column ∷ columns) semis fit whole may generals _ later h =
    let lines : Lines = map name_line (column ∷ columns) in
    let made = flat_map general_made (column ∷ columns) in
    let more = flat_map semi_made semis in
    let inside = with_section seen sections.Generals in
    let rest : Lines = under_semi_heading (map name_line semis) ++ ending in
    let parts = parts-taken all made more h in
    subst (λ (tokens : List TerminalAt). EndsWith (point_at place seen all) tokens (made ++ more))
    (ap (λ (tokens : List TerminalAt). at n (Opens section_words.Generals) ∷ tokens)
    (sym (terminals-append (n + 1) lines rest))) (walk-ends place InGenerals seen inside all (at n
    (Opens section_words.Generals) ∷ []) (all_terminals (n + 1) lines ++ all_terminals (number_after (n + 1) lines)
    rest) [] (made ++ more) (grind arith) (walk-ends InGenerals InGenerals inside inside all (all_terminals (n + 1) lines)
    (all_terminals (number_after (n + 1) lines) rest) made more (generals-walk inside all (n + 1) (column ∷ columns) fit parts.0)
    (semis-end InGenerals inside (with_declarations all made) (number_after (n + 1) lines) semis whole refl later parts.1)))
