-- Lists: what passes a test, the first item, whether all items differ, and the lines of a text.
use Rattle.std.specs.Prelude.{Bool, true, false, ◌&&◌, not, List, [], ◌∷◌, Option, Some, None, if◌then◌else◌, ℕ, ◌++◌}
use Rattle.std.specs.List.{list_any, flat_map}

abbrev pub is_nonempty : {X : Type 0} → List X → Bool
is_nonempty [] = false
is_nonempty (x ∷ xs) = true

abbrev pub head_of : {X : Type 0} → List X → Option X
head_of [] = None
head_of (x ∷ xs) = Some x

-- a list of one item, or an empty list
abbrev pub when : {X : Type 0} → Bool → X → List X
when test x = if test then x ∷ [] else []

-- the items whose tests are true, in order
abbrev pub those_of : {X : Type 0} → List (Bool × X) → List X
those_of [] = []
those_of (tested ∷ more) = if tested.0 then tested.1 ∷ those_of more else those_of more

-- no two items are the same
abbrev pub are_distinct : {K : Type 0} → (K → K → Bool) → List K → Bool
are_distinct same [] = true
are_distinct same (x ∷ xs) = not (list_any (λ later. same later x) xs) && are_distinct same xs

abbrev pub with_line_feeds : List (List ℕ) → List ℕ
with_line_feeds lines = flat_map (λ line. line ++ 10 ∷ []) lines
