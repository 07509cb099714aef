-- The bytes before the first backslash.
use Rattle.mpslp_lp.proofs.Prelude.{◌≡◌, ℕ, ap, sym, true, false, refl, arith, begins_comment}
use Rattle.std.proofs.{Common.{not}, lemmas.List.Sums.{prefix_len_is}}
use Rattle.mpslp_lp.proofs.read_line.outside_len.Goals as goal

other : (byte : ℕ) → (begins_comment byte ≡ true → ⊥) → not (begins_comment byte) ≡ true
other byte never = elim (begins_comment byte) as (λ b. begins_comment byte ≡ b →
    not b ≡ true) [ true ↦ λ e. absurd (never e) | false ↦ λ e. refl ] refl

pub returns-in-Some-clause-count : goal.returns-in-Some-clause-count
returns-in-Some-clause-count c = let line = c.args.line.now in
    let first = c.in-Some.ensures in sym (prefix_len_is (λ byte. not (begins_comment byte)) _ _ 0
    (omega (arith, first.0.high)) (λ k below. other _ (first.0.before k (omega arith) below)) (λ within. ap not first.1))

pub returns-in-None-clause-count : goal.returns-in-None-clause-count
returns-in-None-clause-count c = let line = c.args.line.now in sym (prefix_len_is (λ byte. not (begins_comment byte)) _ _ 0
    (omega arith) (λ k below. other _ (c.in-None.ensures k (omega arith) below)) (λ within. absurd (omega (arith, within))))
