-- Names without an error are legal, and the values of literals are decimals.
use Rattle.std.{proofs.Common.{List, [], arith, refl, true, ℕ, ◌++◌, ◌≡◌}, specs.{Prelude.{Ok, Result}, Result.result_unwrap_or}}
use Rattle.mpslp_types.specs.{Limit.{is_given, limit_of}, Lists.those_of, Name.is_mps_name}
use Rattle.mpslp_decimal.{proofs.SpellsLemmas.spells-from_number, specs.{Decimal.{Number, is_decimal, zero_number}, Literal.number_of}}
use Rattle.mpslp_decimal.specs.declared.literal.NumberFault.{NumberFault}
use Rattle.mpslp_lines.specs.FaultTests.{FaultTests, name_tests, value_of}

-- the tests of a name come before others
pub name-legal : (name : List ℕ) (more : FaultTests) → those_of (name_tests name ++ more) ≡ [] → is_mps_name name ≡ true
name-legal = grind arith

read_decimal : (text : List ℕ) (d : Number) → number_of text ≡ Ok d → is_decimal d ≡ true
read_decimal text d e = (spells-from_number text d e).decimal

-- the value of a literal, or 0, is a decimal
pub value-decimal : (literal : List ℕ) → is_decimal (value_of literal) ≡ true
value-decimal literal = by _ refl
  where
    by : (r : Result Number NumberFault) → number_of literal ≡ r → is_decimal (result_unwrap_or r zero_number) ≡ true
    by (Ok d) e = read_decimal literal d e
    by _ e = refl

-- a decimal, or an infinite limit instead of it, may be declared as a limit
pub limit-given : (d : Number) → is_decimal d ≡ true → is_given (limit_of d) ≡ true
limit-given = grind arith
