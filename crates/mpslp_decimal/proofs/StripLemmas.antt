-- The trailing zeros of a number, removed one after another.
use Rattle.std.proofs.Common.{ap, arith, lit<, ℕ, ◌%◌, ◌*◌, ◌+◌, ◌/◌, ◌<◌, ◌^◌, ◌∙◌, ◌≡◌}
use Rattle.std.proofs.{Math.Nat.pow-le-pow_right, lemmas.{Bool.{ltb-false, ltb-true}, Nat.pow-add}}

pub ten_positive : 0 < 10
ten_positive = lit< tt

-- a number has no more zeros than digits
pub zeros-below : (n m z len : ℕ) → m * 10 ^ z ≡ n → 0 < m → n < 10 ^ len → z < len
zeros-below = grind (arith, ltb-true, ltb-false, pow-le-pow_right, ten_positive)

-- a number without this number of trailing zeros: what holds in the loops of both functions `stripped`
pub record IsPartlyStripped (n mantissa zeros : ℕ) : Type 0 where
  pub value : mantissa * 10 ^ zeros ≡ n
  pub some : 0 < mantissa

pub one-zero-less : (n m z : ℕ) → IsPartlyStripped n m z → m % 10 ≡ 0 → IsPartlyStripped n (m / 10) (z + 1)
one-zero-less n m z s ends =
    let whole : (m / 10) * 10 ≡ m = omega (arith, ends) in
    record {
      value = rw (pow-add 10 z 1) ((grind arith) ∙ ap (λ x. x * 10 ^ z) whole ∙ s.value);
      some = omega (arith, s.some, ends);
    }
