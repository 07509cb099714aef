-- Lines of canonical LP that are printed for one entry after another.
use Rattle.std.specs.Prelude.{◌≡◌, ◌+◌, ◌<◌, ℕ, Bool, true, false, List, [], ◌∷◌, length, slice_get, slice_index_or, Option, Some, None, if◌then◌else◌}
use Rattle.std.specs.Borrow.{Bor}
use Rattle.std.specs.List.{flat_map}
use Rattle.std.specs.FinMap.{entries}
use Rattle.mpslp_model_core.specs.Model.{LinearModel, Column, Listing, listing_of}
use Rattle.mpslp_model_core.specs.Views.{row_name, row_columns, column_name, column_names, coefficient_at}
use Rattle.mpslp_types.specs.declared.kinds.Kind.{Kind}
use Rattle.mpslp_decimal.specs.Decimal.{Number, have_same_value}
use Rattle.mpslp_types.specs.declared.kinds.Sense.{Sense}
use Rattle.mpslp_types.specs.declared.kinds.Limit.TheVariants.{Finite, PlusInf}
use Rattle.mpslp_lp_tokens.specs.declared.relations.Relation.TheVariants.{AtMost, EqualTo}
use Rattle.mpslp_lp_text.specs.Printed.{Lexeme, PrintedLine, word, number, sense}
use Rattle.mpslp_lp_text.specs.CanonicalLp.{Lines, heading, short_line, long_line, sense_word, Term, term_line, term_in, objective_term, right_line, bound_lexemes, line_of_some, is_integer_kind, is_semi_kind, name_line}
use Rattle.mpslp_io.specs.LinesAt.{lines_at}
use Rattle.mpslp_lp_write.specs.declared.lp.kinds.KindSection.{KindSection}
use Rattle.mpslp_lp_write.specs.declared.lp.kinds.KindSection.TheVariants.{Generals, SemiContinuous}

-- ---- terms

-- the line of a term, if there is one
abbrev pub term_lines : Option Term → Lines
term_lines None = []
term_lines (Some term) = term_line term ∷ []

-- of a column in the objective
abbrev pub objective_term_lines : Listing → List ℕ × Column → Lines
objective_term_lines m column = term_lines (objective_term m column)

-- of a column in the row of this name
abbrev pub row_term_lines : Listing → List ℕ → List ℕ × Column → Lines
row_term_lines m row column = term_lines (term_in m row column)

-- of the column with this number in the row of this name
abbrev pub numbered_term_lines : LinearModel → List ℕ → ℕ → Lines
numbered_term_lines m row j = lines_at (row_term_lines (listing_of m) row) (entries m.columns) j

-- the line of term `k` of the row of this name, and the lines of all its terms
abbrev pub term_lines_at : LinearModel → List ℕ → ℕ → Lines
term_lines_at m row k = lines_at (numbered_term_lines m row) (row_columns m row) k

abbrev pub lines_of_terms : LinearModel → List ℕ → Lines
lines_of_terms m row = flat_map (numbered_term_lines m row) (row_columns m row)

-- the column and the value of term `k` of row `i`
pub record IsTerm (m : LinearModel) (i k : ℕ) (term : ℕ × Number) : Type 0 where
  pub column : slice_get (row_columns m (row_name m i)) k ≡ Some term.0
  pub value : term.1 ≡ coefficient_at m (row_name m i) (column_name m term.0)

-- `count` terms of row `i` from number `from` on, as far as there are so many
abbrev pub AreTerms : LinearModel → ℕ → ℕ → ℕ → List (ℕ × Number) → Type 0
AreTerms m i from count terms = (n : ℕ) (default : ℕ × Number) → n < count → from + n < length (row_columns m (row_name m i)) → IsTerm m i (from + n) (slice_index_or terms n default)

-- the names of their columns
abbrev pub AreNamesOf : LinearModel → ℕ → ℕ → ℕ → List (ℕ × Number) → List (Bor (List ℕ)) → Type 0
AreNamesOf m i from count terms names = (n : ℕ) (term : ℕ × Number) (name : Bor (List ℕ)) → n < count → from + n < length (row_columns m (row_name m i)) → slice_get (column_names m) (slice_index_or terms n term).0 ≡ Some (slice_index_or names n name).now

abbrev pub has_lines : Lines → Bool
has_lines [] = false
has_lines (line ∷ lines) = true

-- ---- the objective's sense

abbrev pub sense_lines : Sense → Lines
sense_lines wanted = heading (sense_word wanted ∷ []) ∷ []

-- ---- two finite limits or bounds

-- what comes before the terms of a row
abbrev pub left_between : Number → Number → Lines
left_between lower upper = if have_same_value lower upper then [] else long_line (number lower ∷ sense AtMost ∷ []) ∷ []

-- what comes after them
abbrev pub last_between : Number → Number → Lines
last_between lower upper = (if have_same_value lower upper then right_line EqualTo upper else right_line AtMost upper) ∷ []

abbrev pub lines_between : List ℕ → Number → Number → Lines
lines_between column lower upper = line_of_some (bound_lexemes column (Finite lower) (Finite upper))

-- a column between a lower bound, printed as this, and an upper one
abbrev pub between_line : Lexeme → List ℕ → Number → PrintedLine
between_line lower column upper = short_line (lower ∷ sense AtMost ∷ word column ∷ sense AtMost ∷ number upper ∷ [])

-- only a lower bound
abbrev pub lines_from : List ℕ → Number → Lines
lines_from column lower = line_of_some (bound_lexemes column (Finite lower) PlusInf)

-- ---- sections that list the columns of a type

abbrev pub is_of_section : KindSection → Kind → Bool
is_of_section Generals kind = is_integer_kind kind
is_of_section SemiContinuous kind = is_semi_kind kind

abbrev pub name_lines : KindSection → List ℕ × Column → Lines
name_lines section column = if is_of_section section column.1.kind then name_line column ∷ [] else []
