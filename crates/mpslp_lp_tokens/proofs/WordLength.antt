-- The length of a word, four bytes at a time.
use Rattle.std.proofs.Common.{Bool, List, [], arith, drop, get_or, length, refl, subst, suc, sym, take, true, ap, ℕ}
use Rattle.std.proofs.Common.{◌+◌, ◌-◌, ◌∙◌, ◌∷◌, ◌≡◌, ◌≤◌}
use Rattle.std.{specs.{List.{prefix_len}, Prelude.{◌&&◌}}}
use Rattle.mpslp_lp_tokens.specs.Token.{continues_word}

-- what is left of a text continues its word
abbrev pub IsLeft : List ℕ → List ℕ → Type 0
IsLeft text left = (length left ≤ length text)
    × ((length text - length left) + prefix_len continues_word left ≡ prefix_len continues_word text)

four : (p : ℕ → Bool) (a b c d : ℕ) (ts : List ℕ) → (p a && (p b && (p c && p d))) ≡ true
    → prefix_len p (a ∷ b ∷ c ∷ d ∷ ts) ≡ 4 + prefix_len p ts
four = grind arith

after-four : (a b c d : ℕ) (ts : List ℕ) → take (length (a ∷ b ∷ c ∷ d ∷ ts) - 4) (drop 4 (a ∷ b ∷ c ∷ d ∷ ts)) ≡ ts
after-four a b c d ts = (λ i. take (less (length ts) i) (drop_none ts i)) ∙ take_all ts
  where
    drop_none : (xs : List ℕ) → drop 0 xs ≡ xs
    drop_none = grind arith

    take_all : (xs : List ℕ) → take (length xs) xs ≡ xs
    take_all [] = refl
    take_all (x ∷ xs) = ap (λ t. x ∷ t) (take_all xs)

    less : (n : ℕ) → suc (suc (suc (suc n))) - 4 ≡ n
    less n = omega arith

pub four-left : (text rest : List ℕ) → 4 ≤ length rest
    → (continues_word (get_or rest 0 0) &&
    (continues_word (get_or rest 1 0) && (continues_word (get_or rest 2 0) && continues_word (get_or rest 3 0)))) ≡ true
    → IsLeft text rest → IsLeft text (take (length rest - 4) (drop 4 rest))
four-left text [] some all so = absurd (omega (arith, some))
four-left text (a ∷ []) some all so = absurd (omega (arith, some))
four-left text (a ∷ b ∷ []) some all so = absurd (omega (arith, some))
four-left text (a ∷ b ∷ c ∷ []) some all so = absurd (omega (arith, some))
four-left text (a ∷ b ∷ c ∷ d ∷ ts) some all so =
    let more = four continues_word a b c d ts all in
    subst (IsLeft text) (sym (after-four a b c d ts)) (omega (arith, so.0), omega (arith, so.0, so.1, more))
