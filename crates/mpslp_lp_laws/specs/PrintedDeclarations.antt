-- What each printed phrase declares, at any point where it is allowed, if nothing that it declares is rejected.
use Rattle.std.specs.Prelude.{◌≡◌, ℕ, Bool, true, ◌&&◌, IsTrue, List, [], ◌∷◌, ◌++◌, map, None, is_none, if◌then◌else◌, codes}
use Rattle.std.specs.List.{flat_map, list_all, enumerate_from}
use Rattle.mpslp_decimal.specs.Decimal.{Number, IsDecimal, is_decimal, is_zero, is_negative, size_of}
use Rattle.mpslp_types.specs.Name.{is_lp_name}
use Rattle.mpslp_types.specs.Limit.{are_sides}
use Rattle.mpslp_types.specs.declared.kinds.Sense.{Sense}
use Rattle.mpslp_types.specs.declared.kinds.Limit.{Limit}
use Rattle.mpslp_types.specs.declared.kinds.Limit.TheVariants.{Finite, PlusInf}
use Rattle.mpslp_types.specs.Lists.{is_nonempty}
use Rattle.mpslp_model_core.specs.Model.{Row, Column, Listing}
use Rattle.mpslp_builder.specs.Declaration.{by_limits, declare_constant, declare_row, declare_column, declare_lower, declare_upper, declare_integer, declare_semi, Declarations, Draft, draft_of, with_declarations}
use Rattle.mpslp_builder.specs.Refusal.{refusals_in_turn}
use Rattle.mpslp_lp_grammar.specs.Rules.{phrases, made_by}
use Rattle.mpslp_lp_grammar.specs.Rules.Outcome.{Finished}
use Rattle.mpslp_lp_grammar.specs.Terminal.{TerminalAt, line_terminals, lexical_fault}
use Rattle.mpslp_lp_grammar.specs.Phrase.{Point, start, no_section_seen, with_section, section_fault}
use Rattle.mpslp_lp_grammar.specs.Points.{point_at, AreNew}
use Rattle.mpslp_lp_grammar.specs.Grammar.{phrase_at, may_begin_section}
use Rattle.mpslp_lp_grammar.specs.Rows.{objective_declared, term_declared}
use Rattle.mpslp_lp_grammar.specs.declared.sections_seen.SectionsSeen.{SectionsSeen}
use Rattle.mpslp_lp_grammar.specs.declared.states.Place.{Place}
use Rattle.mpslp_lp_grammar.specs.declared.states.Place.TheVariants.{BeforeItems, InObjective, BetweenRows, InBounds, InGenerals, InSemis}
use Rattle.mpslp_lp_tokens.specs.declared.words.Section.TheVariants as sections
use Rattle.mpslp_lp_text.specs.Printed.{line_text, Lexeme, word, label, number, sign, sense, minus_infinity, semi_continuous, PrintedLine, sign_bytes, sense_bytes}
use Rattle.mpslp_lp_text.specs.CanonicalLp.{Lines, Term, heading, label_line, sense_word, term_line, constant_lines, row_terms, row_lines, bound_lines, name_line, semi_heading}
use Rattle.mpslp_decimal.specs.NumberText.{number_text}
use Rattle.mpslp_lp_tokens.specs.declared.relations.Relation.{Relation}
use Rattle.mpslp_lp_tokens.specs.declared.relations.Relation.TheVariants.{AtMost, AtLeast, EqualTo}
use Rattle.mpslp_lp_tokens.specs.declared.tokens.TokenKind.{TokenKind}
use Rattle.mpslp_lp_tokens.specs.declared.tokens.TokenKind.TheVariants as kinds

-- ---- lines from a point of the grammar on

-- what the grammar sees of the lines, the first of which has this number
abbrev pub terminals_at : ℕ → Lines → List TerminalAt
terminals_at n lines = flat_map line_terminals (enumerate_from n (map line_text lines))

abbrev pub are_faultless : Lines → Bool
are_faultless lines = list_all (λ line. is_none (lexical_fault line)) (map line_text lines)

-- From a point on, the lines declare these and lead to another point, whatever follows them, and none has a lexical error.
pub record AreDerived (from : Point) (n : ℕ) (lines : Lines) (made : Declarations) (to : Point) : Type 0 where
  pub faultless : IsTrue (are_faultless lines)
  pub says : (rest : List TerminalAt) → phrases phrase_at from 0 (terminals_at n lines ++ rest) ≡ phrases phrase_at to 0 rest
  pub makes : (rest : List TerminalAt) → made_by phrase_at from 0 (terminals_at n lines ++ rest) ≡ made ++ made_by phrase_at to 0 rest

-- The same from a place to another one of the section, if none of these declarations is rejected.
abbrev pub AreDerivedAt : Place → Lines → Declarations → Place → Type 0
AreDerivedAt from lines made to =
    (n : ℕ) (sections_seen : SectionsSeen) (earlier : Draft) → refusals_in_turn earlier made ≡ []
    → AreDerived (point_at from sections_seen earlier) n lines made (point_at to sections_seen (with_declarations earlier made))

-- ---- the objective

-- an LP name and a decimal
abbrev pub is_legal_term : Term → Bool
is_legal_term term = is_lp_name term.0 && is_decimal term.1

abbrev pub after_objective : SectionsSeen
after_objective = with_section no_section_seen sections.Objective

abbrev pub rows_heading : Lines
rows_heading = heading (codes "Subject" ∷ codes "To" ∷ []) ∷ []

-- a constant that is not 0
abbrev pub constant_declared : Number → Declarations
constant_declared value = if is_zero value then [] else declare_constant value ∷ []

-- from a place on, the constant and the heading of the rows, which completes it
abbrev pub EndsObjectiveFrom : Place → Type 0
EndsObjectiveFrom place =
    (n : ℕ) (earlier : Draft) (value : Number) → IsDecimal value → refusals_in_turn earlier (constant_declared value) ≡ []
    → AreDerived (point_at place after_objective earlier) n (constant_lines value ++ rows_heading) (constant_declared value)
    (point_at BetweenRows (with_section after_objective sections.Rows) (with_declarations earlier (constant_declared value)))

-- the sense and the name; the first term and each later one; the end after a term, or of an objective without terms
pub record DeriveObjective (name : List ℕ) : Type 0 where
  pub begin : (n : ℕ) (sense : Sense)
      → AreDerived start n (heading (sense_word sense ∷ []) ∷ label_line name ∷ []) (objective_declared sense name)
      (point_at (BeforeItems name) after_objective (draft_of (objective_declared sense name)))
  pub first : (term : Term) → is_legal_term term ≡ true → AreDerivedAt (BeforeItems name) (term_line term ∷ []) (term_declared name term) (InObjective name)
  pub later : (term : Term) → is_legal_term term ≡ true → AreDerivedAt (InObjective name) (term_line term ∷ []) (term_declared name term) (InObjective name)
  pub end : EndsObjectiveFrom (InObjective name)
  pub end_without_terms : EndsObjectiveFrom (BeforeItems name)

abbrev pub DeriveObjectives : Type 0
DeriveObjectives = (name : List ℕ) → is_lp_name name ≡ true → DeriveObjective name

-- ---- rows

-- at least one term, each of an LP name and a decimal
pub record AreLegalTerms (terms : List Term) : Type 0 where
  pub some : is_nonempty terms ≡ true
  pub legal : IsTrue (list_all is_legal_term terms)
  pub new : AreNew [] terms

-- its name, its limits and its terms
abbrev pub row_and_terms : List ℕ × Row → List Term → Declarations
row_and_terms row terms = declare_row row.0 (by_limits row.1.lower row.1.upper) ∷ flat_map (term_declared row.0) terms

abbrev pub DeriveRows : Type 0
DeriveRows =
    (m : Listing) (row : List ℕ × Row) → is_lp_name row.0 ≡ true → are_sides row.1.lower row.1.upper ≡ true → AreLegalTerms (row_terms m row.0)
    → AreDerivedAt BetweenRows (row_lines m row) (row_and_terms row (row_terms m row.0)) BetweenRows

-- ---- bounds and types of columns

-- a column with both bounds; if the upper one is infinite, with only its lower one, or nothing if that is 0
abbrev pub column_and_bounds : List ℕ → Limit → Limit → Declarations
column_and_bounds column (Finite lower) PlusInf = if is_zero lower then [] else declare_column column ∷ declare_lower column (Finite lower) ∷ []
column_and_bounds column lower upper = declare_column column ∷ declare_lower column lower ∷ declare_upper column upper ∷ []

abbrev pub DeriveBounds : Type 0
DeriveBounds =
    (column : List ℕ × Column) → is_lp_name column.0 ≡ true → are_sides column.1.lower column.1.upper ≡ true
    → AreDerivedAt (InBounds None) (bound_lines column) (column_and_bounds column.0 column.1.lower column.1.upper) (InBounds None)

-- the name of a column in Generals, and in Semi-Continuous
pub record DeriveKinds (column : List ℕ × Column) : Type 0 where
  pub integer : AreDerivedAt InGenerals (name_line column ∷ []) (declare_column column.0 ∷ declare_integer column.0 ∷ []) InGenerals
  pub semi : AreDerivedAt InSemis (name_line column ∷ []) (declare_column column.0 ∷ declare_semi column.0 ∷ []) InSemis

abbrev pub DeriveAllKinds : Type 0
DeriveAllKinds = (column : List ℕ × Column) → is_lp_name column.0 ≡ true → DeriveKinds column

-- ---- headings: they declare nothing, and open their sections wherever these may begin

abbrev pub end_heading : Lines
end_heading = heading (codes "End" ∷ []) ∷ []

-- after the heading of the end the text is complete
pub record DeriveHeadings (place : Place) (sections_seen : SectionsSeen) (earlier : Draft) (n : ℕ) : Type 0 where
  pub bounds : section_fault sections_seen sections.Bounds ≡ None
      → AreDerived (point_at place sections_seen earlier) n (heading (codes "Bounds" ∷ []) ∷ []) [] (point_at (InBounds None) (with_section sections_seen sections.Bounds) earlier)
  pub generals : section_fault sections_seen sections.Generals ≡ None
      → AreDerived (point_at place sections_seen earlier) n (heading (codes "Generals" ∷ []) ∷ []) [] (point_at InGenerals (with_section sections_seen sections.Generals) earlier)
  pub semis : section_fault sections_seen sections.SemiContinuous ≡ None
      → AreDerived (point_at place sections_seen earlier) n (semi_heading ∷ []) [] (point_at InSemis (with_section sections_seen sections.SemiContinuous) earlier)
  pub end_faultless : IsTrue (are_faultless end_heading)
  pub end_says : section_fault sections_seen sections.End ≡ None → phrases phrase_at (point_at place sections_seen earlier) 0 (terminals_at n end_heading) ≡ Finished earlier
  pub end_makes : section_fault sections_seen sections.End ≡ None → made_by phrase_at (point_at place sections_seen earlier) 0 (terminals_at n end_heading) ≡ []

abbrev pub DeriveAllHeadings : Type 0
DeriveAllHeadings = (place : Place) (sections_seen : SectionsSeen) (earlier : Draft) (n : ℕ) → may_begin_section place ≡ true → DeriveHeadings place sections_seen earlier n

-- ---- the tokens that a reader of LP sees in a printed line

abbrev pub sign_kind : Bool → TokenKind
sign_kind minus = if minus then kinds.Minus else kinds.Plus

abbrev pub sense_kind : Relation → TokenKind
sense_kind AtMost = kinds.Less
sense_kind AtLeast = kinds.Greater
sense_kind EqualTo = kinds.Equal

-- a token's kind and its text
abbrev pub SeenToken : Type 0
SeenToken = TokenKind × List ℕ

abbrev pub tokens_in : Lexeme → List SeenToken
tokens_in (word text) = (kinds.Word, text) ∷ []
tokens_in (label name) = (kinds.Word, name) ∷ (kinds.Colon, codes ":") ∷ []
tokens_in (number value) =
    if is_negative value then (kinds.Minus, codes "-") ∷ (kinds.Number, number_text (size_of value)) ∷ []
    else (kinds.Number, number_text value) ∷ []
tokens_in (sign minus) = (sign_kind minus, sign_bytes minus) ∷ []
tokens_in (sense relation) = (sense_kind relation, sense_bytes relation) ∷ []
tokens_in minus_infinity = (kinds.Minus, codes "-") ∷ (kinds.Word, codes "infinity") ∷ []
tokens_in semi_continuous = (kinds.Word, codes "Semi") ∷ (kinds.Minus, codes "-") ∷ (kinds.Word, codes "Continuous") ∷ []

abbrev pub line_tokens : PrintedLine → List SeenToken
line_tokens line = flat_map tokens_in line.lexemes
