-- What each phrase declares.
use Rattle.std.specs.Prelude.{ℕ, pos, ◌-◌, ◌^◌, min, List, [], ◌∷◌, ◌++◌, codes, Option, Some, None, unwrap_or}
use Rattle.std.specs.List.{flat_map, enumerate_from}
use Rattle.std.specs.Fmt.{decimal}
use Rattle.mpslp_decimal.specs.Decimal.{Number, negated}
use Rattle.mpslp_types.specs.Limit.{limit_of}
use Rattle.mpslp_types.specs.declared.kinds.Limit.{Limit}
use Rattle.mpslp_types.specs.declared.kinds.Limit.TheVariants.{MinusInf, PlusInf}
use Rattle.mpslp_builder.specs.Declaration.{RowDefinition, by_limits, Declaration, declare_sense, declare_objective, declare_constant, declare_row, declare_column, declare_coefficient, declare_lower, declare_upper, declare_integer, declare_binary, declare_semi, Declarations}
use Rattle.mpslp_lp_grammar.specs.declared.signs.Sign.{Sign}
use Rattle.mpslp_lp_grammar.specs.declared.signs.Sign.TheVariants.{Plus, Minus}
use Rattle.mpslp_lp_tokens.specs.declared.relations.Relation.{Relation}
use Rattle.mpslp_lp_tokens.specs.declared.relations.Relation.TheVariants.{AtMost, AtLeast, EqualTo}
use Rattle.mpslp_lp_sentences.specs.Phrases.{Side, Term, Item, Objective, Row, RowSection, Bound, Section, File}
use Rattle.mpslp_lp_sentences.specs.Phrases.Side.{side}
use Rattle.mpslp_lp_sentences.specs.Phrases.Term.{term}
use Rattle.mpslp_lp_sentences.specs.Phrases.Item.{a_term, a_constant}
use Rattle.mpslp_lp_sentences.specs.Phrases.Objective.{objective}
use Rattle.mpslp_lp_sentences.specs.Phrases.Row.{row, row_between, row_from_above}
use Rattle.mpslp_lp_sentences.specs.Phrases.RowSection.{no_rows, rows}
use Rattle.mpslp_lp_sentences.specs.Phrases.Bound.{bound, free_bound, turned_bound, bounds_between, bounds_from_above}
use Rattle.mpslp_lp_sentences.specs.Phrases.Section.{bounds, generals, binaries, semis}
use Rattle.mpslp_lp_sentences.specs.Phrases.File.{file}

-- ---- values

-- "Items": several signs are multiplied
abbrev pub times : Sign → Sign → Sign
times Plus sign = sign
times Minus Plus = Minus
times Minus Minus = Plus

abbrev pub product_of : List Sign → Sign
product_of [] = Plus
product_of (sign ∷ more) = times sign (product_of more)

abbrev pub signed : Sign → Number → Number
signed Plus value = value
signed Minus value = negated value

-- "Items": a missing coefficient is 1
abbrev pub one : Number
one = record { mantissa = pos 1; exponent = pos 0 }

abbrev pub coefficient : List Sign → Option Number → Number
coefficient signs number = signed (product_of signs) (unwrap_or number one)

-- "Grammar": a side without a number is infinity, without a sign plus infinity
abbrev pub infinity : Sign → Limit
infinity Plus = PlusInf
infinity Minus = MinusInf

abbrev pub limit : Side → Limit
limit (side sign None) = infinity (unwrap_or sign Plus)
limit (side sign (Some value)) = limit_of (signed (unwrap_or sign Plus) value)

-- ---- the objective

abbrev pub term_declares : List ℕ → Term → Declarations
term_declares owner (term signs number column) = declare_column column ∷ declare_coefficient (record { row = owner; column = column }) (coefficient signs number) ∷ []

abbrev pub item_declares : List ℕ → Item → Declarations
item_declares name (a_term part) = term_declares name part
item_declares name (a_constant signs value) = declare_constant (signed (product_of signs) value) ∷ []

-- "The objective": without a label it is `obj`
abbrev pub objective_name : Option (List ℕ) → List ℕ
objective_name label = unwrap_or label (codes "obj")

abbrev pub objective_declares : Objective → Declarations
objective_declares (objective sense label items) =
    declare_sense sense ∷ declare_objective (objective_name label) ∷ flat_map (item_declares (objective_name label)) items

-- ---- rows

-- "Rows": without a label `c` and the position among all rows, from 1 (and at most 2^64 - 1)
abbrev pub row_name : (position : ℕ) → Option (List ℕ) → List ℕ
row_name position label = unwrap_or label (codes "c" ++ decimal (min position (2 ^ 64 - 1)))

-- "Rows": the limits of `terms < v`, `terms > v` and `terms = v`
abbrev pub limits_by : Relation → Limit → RowDefinition
limits_by AtMost v = by_limits MinusInf v
limits_by AtLeast v = by_limits v PlusInf
limits_by EqualTo v = by_limits v v

abbrev pub row_with : List ℕ → RowDefinition → List Term → Declarations
row_with name limits terms = declare_row name limits ∷ flat_map (term_declares name) terms

abbrev pub row_declares : ℕ × Row → Declarations
row_declares (position, row label terms relation right) = row_with (row_name position label) (limits_by relation (limit right)) terms
row_declares (position, row_between label lower terms upper) = row_with (row_name position label) (by_limits (limit lower) (limit upper)) terms
row_declares (position, row_from_above label upper terms lower) = row_with (row_name position label) (by_limits (limit lower) (limit upper)) terms

abbrev pub row_section_declares : RowSection → Declarations
row_section_declares no_rows = []
row_section_declares (rows opening lines) = flat_map row_declares (enumerate_from 1 lines)

-- ---- the other sections

-- "Bounds": `x < v`, `x > v` and `x = v`
abbrev pub bounds_by : List ℕ → Relation → Limit → Declarations
bounds_by column AtMost v = declare_upper column v ∷ []
bounds_by column AtLeast v = declare_lower column v ∷ []
bounds_by column EqualTo v = declare_lower column v ∷ declare_upper column v ∷ []

-- "Bounds": `v > x` is `x < v`
abbrev pub turned : Relation → Relation
turned AtMost = AtLeast
turned AtLeast = AtMost
turned EqualTo = EqualTo

abbrev pub bound_declares : Bound → Declarations
bound_declares (bound column relation right) = declare_column column ∷ bounds_by column relation (limit right)
bound_declares (free_bound column) = declare_column column ∷ declare_lower column MinusInf ∷ declare_upper column PlusInf ∷ []
bound_declares (turned_bound left relation column) = declare_column column ∷ bounds_by column (turned relation) (limit left)
bound_declares (bounds_between lower column upper) = declare_column column ∷ declare_lower column (limit lower) ∷ declare_upper column (limit upper) ∷ []
bound_declares (bounds_from_above upper column lower) = declare_column column ∷ declare_upper column (limit upper) ∷ declare_lower column (limit lower) ∷ []

-- "Columns": every name in these sections is a column
abbrev pub names_declare : (List ℕ → Declaration) → List (List ℕ) → Declarations
names_declare kind names = flat_map (λ name. declare_column name ∷ kind name ∷ []) names

abbrev pub section_declares : Section → Declarations
section_declares (bounds lines) = flat_map bound_declares lines
section_declares (generals names) = names_declare declare_integer names
section_declares (binaries names) = names_declare declare_binary names
section_declares (semis opening names) = names_declare declare_semi names

-- ---- the file

abbrev pub file_declares : File → Declarations
file_declares (file first second sections) = objective_declares first ++ (row_section_declares second ++ flat_map section_declares sections)
