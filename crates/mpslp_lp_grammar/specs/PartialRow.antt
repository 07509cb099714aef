-- An incomplete row.
use Rattle.mpslp_types.specs.Basics.{ℕ, List, Option, Number}
use Rattle.mpslp_types.specs.declared.kinds.Limit.{Limit}
use Rattle.mpslp_lp_tokens.specs.declared.relations.Relation.{Relation}

pub record PartialRow : Type 0 where
  pub name : List ℕ
  -- the left-hand side and the relation after it, if the row has them
  pub left : Option (Limit × Relation)
  pub terms : List (List ℕ × Number)
