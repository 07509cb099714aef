-- The phrases of LP text, each with its parts (FORMATS, "Grammar").
use Rattle.std.specs.Prelude.{ℕ, List, Option}
use Rattle.mpslp_decimal.specs.Decimal.{Number}
use Rattle.mpslp_types.specs.declared.kinds.Sense.{Sense}
use Rattle.mpslp_lp_grammar.specs.declared.signs.Sign.{Sign}
use Rattle.mpslp_lp_tokens.specs.declared.relations.Relation.{Relation}
use Rattle.mpslp_lp_grammar.specs.Terminal.{Terminal}

-- the bytes of a name
abbrev pub Name : Type 0
Name = List ℕ

-- "Grammar": an optional sign, and a number, or `inf` or `infinity` where there is no number
pub data Side : Type 0 where
  side : Option Sign → Option Number → Side

-- "Grammar": { sign } [ number ] name
pub data Term : Type 0 where
  term : List Sign → Option Number → Name → Term

-- "Grammar": a term, or { sign } number
pub data Item : Type 0 where
  a_term : Term → Item
  a_constant : List Sign → Number → Item

-- "Grammar": minimise word or maximise word, [ name : ], { item }
pub data Objective : Type 0 where
  objective : Sense → Option Name → List Item → Objective

-- "Grammar": [ name : ] terms relation side; [ name : ] side < terms < side; [ name : ] side > terms > side
pub data Row : Type 0 where
  row : Option Name → List Term → Relation → Side → Row
  row_between : Option Name → (lower : Side) → List Term → (upper : Side) → Row
  row_from_above : Option Name → (upper : Side) → List Term → (lower : Side) → Row

-- "Grammar": opening words, { row }
pub data RowSection : Type 0 where
  no_rows : RowSection
  rows : (opening : List Terminal) → List Row → RowSection

-- "Grammar": name relation side; name free; side relation name; side < name < side; side > name > side
pub data Bound : Type 0 where
  bound : Name → Relation → Side → Bound
  free_bound : Name → Bound
  turned_bound : Side → Relation → Name → Bound
  bounds_between : (lower : Side) → Name → (upper : Side) → Bound
  bounds_from_above : (upper : Side) → Name → (lower : Side) → Bound

-- "Grammar": bounds, generals, binaries, semis: opening words, { bound } or { name }
pub data Section : Type 0 where
  bounds : List Bound → Section
  generals : List Name → Section
  binaries : List Name → Section
  semis : (opening : List Terminal) → List Name → Section

-- "Grammar": objective, [ row section ], { bounds | generals | binaries | semis }, and then `end`
pub data File : Type 0 where
  file : Objective → RowSection → List Section → File
