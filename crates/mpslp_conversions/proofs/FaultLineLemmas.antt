-- The length of the line of an error and of its parts, and what a sink took of the line.
use Rattle.std.proofs.{Common.{◌≡◌, ℕ, ◌+◌, ◌≤◌, List, [], ◌∷◌, ◌++◌, length, arith}, lemmas.List.{length-append}}
use Rattle.mpslp_types.specs.Name.{IsMpsName}

pub name-short : (name : List ℕ) → IsMpsName name → length name ≤ 255
name-short = grind arith

-- a space and a name
pub named-bound : (before name after all : List ℕ) → IsMpsName name → after ≡ before ++ 32 ∷ [] → all ≡ after ++ name
    → length all ≤ length before + 256
named-bound = grind (arith, name-short, length-append)
