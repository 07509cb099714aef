-- The name of the objective in the draft of some declarations.
use Rattle.std.{proofs.Common.{[], arith, true, ◌∷◌, ◌≡◌}, specs.Prelude.{is_some, ◌||◌}}
use Rattle.mpslp_builder.specs.{Consistency.has_objective, Declaration.{Declarations, Draft, with_declaration, with_declarations}}
use Rattle.mpslp_types.proofs.BoolLemmas.{or_right}

pub named-after : (ds : Declarations) (all : Draft) → is_some all.objective ≡ true →
    is_some (with_declarations all ds).objective ≡ true
named-after [] all h = h
named-after (d ∷ ds) all h = grind (arith, named-after ds (with_declaration all d))

-- an objective that exists after declarations existed before or is declared by them
pub objective-declared : (ds : Declarations) (all : Draft) → is_some (with_declarations all ds).objective ≡ true
    → (is_some all.objective || has_objective ds) ≡ true
objective-declared [] all h = grind arith
objective-declared (d ∷ ds) all h = grind (arith, or_right, objective-declared ds (with_declaration all d) h)
