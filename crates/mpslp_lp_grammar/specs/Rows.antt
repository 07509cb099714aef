-- The objective and the rows of LP text.
use Rattle.std.specs.Prelude.{ℕ, ◌+◌, ◌-◌, ◌^◌, min, Bool, true, if◌then◌else◌, List, [], ◌∷◌, ◌++◌, length, codes, Option, Some, None, unwrap_or}
use Rattle.mpslp_types.specs.Basics.{list_any, flat_map, decimal, Number as Decimal, same_bytes, limit_of}
use Rattle.mpslp_builder.specs.Declaration.{by_limits, declare_row, Declarations, declare_sense, declare_objective, declare_column, declare_coefficient, declare_constant}
use Rattle.mpslp_types.specs.declared.{kinds.Sense.Sense, kinds.Limit.Limit, kinds.Limit.TheVariants.MinusInf, kinds.Limit.TheVariants.PlusInf, faults.FaultKind.TheVariants.BadToken, faults.FaultKind.TheVariants.DuplicateEntry, faults.FaultKind.TheVariants.ConstantInRow, faults.FaultKind.TheVariants.MixedSenses}
use Rattle.mpslp_lp_grammar.specs.PartialRow.{PartialRow}
use Rattle.mpslp_lp_grammar.specs.Phrase.{PhraseRule, Follows, refuses, goes_to, declares, SignOf, Plus, TerminalAt, Name, Number, Sign, Compares, Infinity, Relation, AtMost, ◌>>=◌, next, ahead, Context, BetweenRows, InRow, Opens, Colon, BeforeItems, InObjective}
use Rattle.mpslp_lp_grammar.specs.Items.{Side, Limits, limits_by, fits_second, infinity, side, next_relation, Item, one, number_item, signed_item, item_from, colon, Term, Lone}

-- a coefficient and its column
abbrev pub term_declared : List ℕ → List ℕ × Decimal → Declarations
term_declared row term = declare_column term.0 ∷ declare_coefficient (record { row = row; column = term.0 }) term.1 ∷ []

-- ---- the objective: optionally `name :`, and any number of items, of which one may be a constant

-- a number without a name is the constant, if an item or a section follows
abbrev pub objective_item : Context → List ℕ → Item → PhraseRule Follows
objective_item context name (Term value column token) = declares context token (InObjective name) (term_declared name (column, value))
objective_item context name (Lone value token) = elim token.terminal [
  | Sign sign ↦ constant
  | Opens word ↦ constant
  | _ ↦ refuses context token BadToken
]
  where
    constant : PhraseRule Follows
    constant = declares context token (InObjective name) (declare_constant value ∷ [])

abbrev pub objective_declared : Sense → List ℕ → Declarations
objective_declared sense name = declare_sense sense ∷ declare_objective name ∷ []

-- the name of an objective without a label
abbrev pub default_objective : List ℕ
default_objective = codes "obj"

-- what `minimize` or `maximize` and a name after it declare if the name is not a label but that of the first item
abbrev pub first_item_declared : Sense → List ℕ → Declarations
first_item_declared sense column = objective_declared sense default_objective ++ term_declared default_objective (column, one)

-- a name without a colon after it is the first item
abbrev pub objective_named : Context → Sense → List ℕ → TerminalAt → PhraseRule Follows
objective_named context sense name second = elim second.terminal [
  | Colon ↦ next >>= λ colon. declares context second (BeforeItems name) (objective_declared sense name)
  | _ ↦ declares context second (InObjective default_objective) (first_item_declared sense name)
]

abbrev pub objective_from : Context → Sense → TerminalAt → PhraseRule Follows
objective_from context sense token = elim token.terminal [
  | Name name ↦ next >>= λ first. ahead >>= objective_named context sense name
  | _ ↦ declares context token (BeforeItems default_objective) (objective_declared sense default_objective)
]

-- after `minimize` or `maximize`: optionally `name :`. Nothing is declared before, so this cannot be rejected.
abbrev pub objective : Context → Sense → PhraseRule Follows
objective context sense = ahead >>= objective_from context sense

-- ---- rows: optionally `name :`, optionally a side and a relation, terms, a relation and a side

-- a row without a label is named `c` and its position among all rows, from 1 to at most 2^64 - 1
abbrev pub numbered_row : (position : ℕ) → List ℕ
numbered_row position = codes "c" ++ decimal position

abbrev pub default_row : Context → List ℕ
default_row context = numbered_row (min (length context.builder.rows + 1) (2 ^ 64 - 1))

-- ---- terms

abbrev pub without_terms : List ℕ → Option (Limit × Relation) → PartialRow
without_terms name left = record { name = name; left = left; terms = [] }

-- the column of a term must be new in its row, and a row has no constant
abbrev pub row_item : Context → PartialRow → Item → PhraseRule Follows
row_item context row (Term value column token) =
    if list_any (λ term. same_bytes column term.0) row.terms then refuses context token DuplicateEntry
    else goes_to context (InRow (record row { terms = row.terms ++ (column, value) ∷ [] })) []
row_item context row (Lone value token) = elim token.terminal [
  | Sign sign ↦ refuses context token ConstantInRow
  | Compares relation ↦ refuses context token ConstantInRow
  | _ ↦ refuses context token BadToken
]

-- ---- the beginning of a row, up to its first term

-- the first term, from this token on
abbrev pub row_first : Context → PartialRow → TerminalAt → PhraseRule Follows
row_first context row token = item_from context token >>= row_item context row

-- after the left-hand side
abbrev pub row_after_left : Context → List ℕ → Limit → PhraseRule Follows
row_after_left context name limit = next_relation context >>= λ relation. next >>= row_first context (without_terms name (Some (limit, relation)))

-- after the first number of a row, with at most one sign before it: it is the left-hand side if a relation follows
abbrev pub row_number : Context → List ℕ → Item → PhraseRule Follows
row_number context name (Term value column token) = row_item context (without_terms name None) (Term value column token)
row_number context name (Lone value token) = elim token.terminal [
  | Compares relation ↦ row_after_left context name (limit_of value)
  | _ ↦ row_item context (without_terms name None) (Lone value token)
]

-- after the first sign of a row; the token after it is this one, which is not taken
abbrev pub row_signed : Context → List ℕ → (sign : SignOf) → TerminalAt → PhraseRule Follows
row_signed context name sign second = elim second.terminal [
  | Infinity ↦ next >>= λ word. row_after_left context name (infinity sign)
  | Number value ↦ next >>= λ number. number_item sign value >>= row_number context name
  | _ ↦ signed_item context sign >>= row_item context (without_terms name None)
]

-- after the label, from this token on: a left-hand side, or the first term
abbrev pub row_from : Context → List ℕ → TerminalAt → PhraseRule Follows
row_from context name token = elim token.terminal [
  | Infinity ↦ row_after_left context name PlusInf
  | Number value ↦ number_item Plus value >>= row_number context name
  | Name column ↦ row_item context (without_terms name None) (Term one column token)
  | Sign sign ↦ ahead >>= row_signed context name sign
  | _ ↦ refuses context token BadToken
]

-- a name without a colon after it is the first term
abbrev pub row_named : Context → List ℕ → (labelled : Bool) → PhraseRule Follows
row_named context name labelled =
    if labelled then next >>= row_from context name
    else goes_to context (InRow (record { name = default_row context; left = None; terms = (name, one) ∷ [] })) []

abbrev pub row : Context → TerminalAt → PhraseRule Follows
row context token = elim token.terminal [
  | Name name ↦ colon >>= row_named context name
  | _ ↦ row_from context (default_row context) token
]

-- ---- its end

-- the relation of the left-hand side, if there is one, agrees with the second
abbrev pub fits_left : Option (Limit × Relation) → Relation → Bool
fits_left None relation = true
fits_left (Some left) relation = fits_second left.1 relation

-- `terms < v` declares only an upper limit; `l < terms < u` and `u > terms > l` declare the limits l and u
abbrev pub row_limits : Option (Limit × Relation) → Relation → Limit → Limits
row_limits None relation right = limits_by relation right
row_limits (Some left) AtMost right = record { lower = Some left.0; upper = Some right }
row_limits (Some left) _ right = record { lower = Some right; upper = Some left.0 }

-- a limit that is not declared is infinite
abbrev pub row_declared : PartialRow → Limits → Declarations
row_declared row limits =
    declare_row row.name (by_limits (unwrap_or limits.lower MinusInf) (unwrap_or limits.upper PlusInf)) ∷ flat_map (term_declared row.name) row.terms

-- after the right-hand side
abbrev pub row_whole : Context → PartialRow → Relation → Side → PhraseRule Follows
row_whole context row relation right = declares context right.last BetweenRows (row_declared row (row_limits row.left relation right.limit))

-- after the relation, which is this token
abbrev pub row_end : Context → PartialRow → Relation → TerminalAt → PhraseRule Follows
row_end context row relation token =
    if fits_left row.left relation
    then (side context >>= row_whole context row relation)
    else refuses context token MixedSenses
