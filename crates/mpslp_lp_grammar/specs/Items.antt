-- Sides, relations and items: the parts of the objective, of rows and of bounds.
use Rattle.std.specs.Prelude.{ℕ, pos, Bool, true, false, List, [], ◌∷◌, Option, Some, None}
use Rattle.mpslp_types.specs.Basics.{Number as Decimal, negated, limit_of}
use Rattle.mpslp_types.specs.declared.{faults.FaultKind.TheVariants.BadToken, kinds.Limit.Limit, kinds.Limit.TheVariants.MinusInf, kinds.Limit.TheVariants.PlusInf}
use Rattle.mpslp_lp_grammar.specs.Phrase.{PhraseRule, refuses, SignOf, Plus, Minus, TerminalAt, Name, Number, Sign, Colon, Compares, Infinity, Relation, AtMost, AtLeast, EqualTo, after_taking, gives, ◌>>=◌, next, Reads, Unfinished, Context}

-- ---- sides: an optional sign, and a number, `inf` or `infinity`

-- a limit, and the last of its tokens
pub record Side : Type 0 where
  pub limit : Limit
  pub last : TerminalAt

abbrev pub apply_sign : SignOf → Decimal → Decimal
apply_sign Plus value = value
apply_sign Minus value = negated value

abbrev pub infinity : SignOf → Limit
infinity Plus = PlusInf
infinity Minus = MinusInf

abbrev pub unsigned_side : Context → (sign : SignOf) → TerminalAt → PhraseRule Side
unsigned_side context sign token = elim token.terminal [
  | Number value ↦ gives (record { limit = limit_of (apply_sign sign value); last = token })
  | Infinity ↦ gives (record { limit = infinity sign; last = token })
  | _ ↦ refuses context token BadToken
]

-- a side that begins with this token
abbrev pub side_from : Context → TerminalAt → PhraseRule Side
side_from context token = elim token.terminal [
  | Sign sign ↦ next >>= λ second. unsigned_side context sign second
  | _ ↦ unsigned_side context Plus token
]

abbrev pub side : Context → PhraseRule Side
side context = next >>= side_from context

-- ---- relations

abbrev pub next_relation : Context → PhraseRule Relation
next_relation context = next >>= λ token. elim token.terminal [
  | Compares relation ↦ gives relation
  | _ ↦ refuses context token BadToken
]

-- both relations are `<`, or both are `>`
abbrev pub fits_second : Relation → Relation → Bool
fits_second AtMost AtMost = true
fits_second AtLeast AtLeast = true
fits_second _ _ = false

-- ---- what sides declare

pub record Limits : Type 0 where
  pub lower : Option Limit
  pub upper : Option Limit

-- the limits that a relation and a right-hand side give
abbrev pub limits_by : Relation → Limit → Limits
limits_by AtMost limit = record { lower = None; upper = Some limit }
limits_by AtLeast limit = record { lower = Some limit; upper = None }
limits_by EqualTo limit = record { lower = Some limit; upper = Some limit }

-- the relation as seen from the column, if the value is on its left
abbrev pub flip : Relation → Relation
flip AtMost = AtLeast
flip AtLeast = AtMost
flip EqualTo = EqualTo

-- ---- items: a run of signs, an optional number and a name, or a run of signs and a number

pub data Item : Type 0 where
  -- a coefficient, a column, and the token of its name
  Term : Decimal → List ℕ → TerminalAt → Item
  -- a number that no name follows, and the token after it, which is not taken
  Lone : Decimal → TerminalAt → Item

abbrev pub one : Decimal
one = record { mantissa = pos 1; exponent = pos 0 }

-- the sign of two signs, one after the other
abbrev pub product : SignOf → SignOf → SignOf
product Plus more = more
product Minus Plus = Minus
product Minus Minus = Plus

-- after signs and a number: optionally a name
abbrev pub number_item : (sign : SignOf) → Decimal → PhraseRule Item
number_item sign value [] = Unfinished
number_item sign value (token ∷ tokens) = elim token.terminal [
  | Name column ↦ Reads (Term (apply_sign sign value) column token) 1
  | _ ↦ Reads (Lone (apply_sign sign value) token) 0
]

-- after signs with this product: more signs, a name, or a number and optionally a name
abbrev pub signed_item : Context → (sign : SignOf) → PhraseRule Item
signed_item context sign [] = Unfinished
signed_item context sign (token ∷ tokens) = elim token.terminal [
  | Sign more ↦ after_taking 1 (signed_item context (product sign more) tokens)
  | Name column ↦ Reads (Term (apply_sign sign one) column token) 1
  | Number value ↦ after_taking 1 (number_item sign value tokens)
  | _ ↦ refuses context token BadToken tokens
]

-- an item that begins with this token and may have no sign
abbrev pub item_from : Context → TerminalAt → PhraseRule Item
item_from context token = elim token.terminal [
  | Sign sign ↦ signed_item context sign
  | Name column ↦ gives (Term one column token)
  | Number value ↦ number_item Plus value
  | _ ↦ refuses context token BadToken
]

-- optionally a colon, which makes the name before it a label
abbrev pub colon : PhraseRule Bool
colon [] = Unfinished
colon (token ∷ tokens) = elim token.terminal [
  | Colon ↦ Reads true 1
  | _ ↦ Reads false 0
]
