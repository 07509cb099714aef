-- Simple facts about tests.
use Rattle.std.{proofs.{Common.{Bool, List, [], arith, false, not, refl, true, ◌∷◌, ◌≡◌}, Math.Dec.T}, specs.{List.list_all, Prelude.◌&&◌}}
use Rattle.std.specs.Prelude.{◌||◌}

-- what `&&`, `||` and `not` say about their operands, and back

pub or_end : (a b : Bool) → (a || b) ≡ ((a || false) || b)
or_end = grind arith

pub all_true : {X : Type 0} (xs : List X) → list_all (λ x. true) xs ≡ true
all_true [] = refl
all_true (x ∷ xs) = all_true xs

pub both_so : (a b : Bool) → a ≡ true → b ≡ true → (a && b) ≡ true
both_so = grind arith

pub or_left : (a b : Bool) → a ≡ true → (a || b) ≡ true
or_left = grind arith

pub or_right : (a b : Bool) → b ≡ true → (a || b) ≡ true
or_right = grind arith

pub not_so : (a : Bool) → not a ≡ true → a ≡ false
not_so = grind arith

pub so_not : (a : Bool) → a ≡ false → not a ≡ true
so_not = grind arith

pub either : (a b c : Bool) → (a ≡ true → c ≡ true) → (b ≡ true → c ≡ true) → (a || b) ≡ true → c ≡ true
either = grind arith

pub either_more : (a b c d : Bool) → (a ≡ true → c ≡ true) → (b ≡ true → d ≡ true) → (a || b) ≡ true → (c || d) ≡ true
either_more = grind arith

-- contraposition
pub back : (a b : Bool) → (a ≡ true → b ≡ true) → b ≡ false → a ≡ false
back = grind arith

-- the tests of the first item and of the others, separated
pub mixed : (a b c d : Bool) → (not (a || b) && (c && d)) ≡ ((not a && c) && (not b && d))
mixed = grind arith

pub mixed_more : (p q a b c : Bool) → (not (p || q) && (a && (b && c))) ≡ ((not p && a) && ((not q && b) && c))
mixed_more = grind arith

pub nor : (a b : Bool) → (a || b) ≡ false → (a ≡ false) × (b ≡ false)
nor = grind arith

pub both_false : (a b : Bool) → a ≡ false → b ≡ false → (a || b) ≡ false
both_false = grind arith

-- a test as a type and as an equation

pub true_from : (b : Bool) → T b → b ≡ true
true_from = grind arith

pub T_from : (b : Bool) → b ≡ true → T b
T_from = grind arith
