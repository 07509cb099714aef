-- Digits that are tested and read several at once.
use Rattle.std.proofs.Common.{Bool, List, [], ap, arith, cond, drop, false, get_or, length, length-append, ltb, map}
use Rattle.std.proofs.Common.{refl, suc, sym, take, true}
use Rattle.std.proofs.Common.{w32, w64, zero, ℕ, ◌%◌, ◌*◌, ◌++◌, ◌+◌, ◌-◌, ◌/◌, ◌<◌, ◌^◌, ◌∙◌, ◌∷◌, ◌≡◌, ◌≤◌}
use Rattle.std.proofs.lemmas.{List.take-append-drop, Nat.pow-add}
use Rattle.std.specs.{Int.from_le_bytes, List.{list_all, prefix_len}, Prelude.{replicate, ◌&&◌}, Simd.Lanes.{mask_l, zip2}}
use Rattle.mpslp_decimal.proofs.CutLemmas.{digits_sum-append, one_more}
use Rattle.mpslp_decimal.specs.{Literal.{digits_sum, is_digit}, Scan.{IsLeft, after_digits, appended, digits_front}}

-- a byte less another, in 8 bits
abbrev pub less : ℕ → ℕ → ℕ
less a b = (a + (256 - b)) % 256

-- the lanes of bytes that are digits: 48 less, they are below 10
abbrev pub digit_lanes : List ℕ → ℕ → ℕ
digit_lanes bs n = mask_l (map (λ x. ltb x 10) (zip2 less bs (replicate n 48)))

lane-digit : (b : ℕ) → b < 256 → ltb (less b 48) 10 ≡ true → is_digit b ≡ true
lane-digit = grind arith

positive : (n : ℕ) → 0 < 2 ^ n
positive zero = omega arith
positive (suc n) = omega (arith, positive n)

ones-head : (m n : ℕ) → 1 + 2 * m ≡ 2 ^ suc n - 1 → m ≡ 2 ^ n - 1
ones-head m n h = omega (arith, positive n, h)

zero-head : (m n : ℕ) → 0 + 2 * m ≡ 2 ^ suc n - 1 → ⊥
zero-head m n h = omega (arith, positive n, h)

one-more : (b : ℕ) (bs : List ℕ) (n m : ℕ) (t : Bool) → ltb (less b 48) 10 ≡ t → b < 256 →
    (m ≡ 2 ^ n - 1 → list_all is_digit bs ≡ true) → cond t 1 0 + 2 * m ≡ 2 ^ suc n - 1 → list_all is_digit (b ∷ bs) ≡ true
one-more b bs n m true is small more h = λ i. lane-digit b small is i && more (ones-head m n h) i
one-more b bs n m false is small more h = absurd (zero-head m n h)

pub lanes-digits : (bs : List ℕ) (n : ℕ) → length bs ≡ n → ((i : ℕ) → get_or bs i 0 < 256) → digit_lanes bs n ≡ 2 ^ n - 1
    → list_all is_digit bs ≡ true
lanes-digits [] n e small h = refl
lanes-digits (b ∷ bs) zero e small h = absurd (omega (arith, e))
lanes-digits (b ∷ bs) (suc n) e small h =
    one-more b bs n (digit_lanes bs n) _ refl (small 0) (lanes-digits bs n (omega (arith, e)) (λ i. small (suc i))) h

-- ---- What several digits represent.

has-digit : (b : ℕ) (bs : List ℕ) → list_all is_digit (b ∷ bs) ≡ true → (48 ≤ b) × (b ≤ 57) × (list_all is_digit bs ≡ true)
has-digit = grind arith

-- ten times each digit and the next one, where the first byte is the lowest
abbrev pub pairs_of : ℕ → ℕ
pairs_of digits = digits * 10 + digits / 256

abbrev pub four_value : ℕ → ℕ
four_value digits = pairs_of digits % 256 * 100 + pairs_of digits / 65536 % 256

abbrev pub eight_value : ℕ → ℕ
eight_value digits = (pairs_of digits % 256 * 100 + pairs_of digits / 65536 % 256) * 10000
    + (pairs_of digits / 4294967296 % 256 * 100 + pairs_of digits / 281474976710656 % 256)

four : (a b c d : ℕ) → a ≤ 9 → b ≤ 9 → c ≤ 9 → d ≤ 9
    → four_value (a + b * 256 + c * 65536 + d * 16777216) ≡ a * 1000 + b * 100 + c * 10 + d
four a b c d ha hb hc hd = omega (arith, ha, hb, hc, hd)

-- the number of bytes that are digits, and the value of the digits
pub record IsFour (bs : List ℕ) (n : ℕ) : Type 0 where
  pub least : 808464432 ≤ n
  pub most : n ≤ 960051513
  pub first : (n - 808464432) % 256 ≤ 9
  pub value : four_value (n - 808464432) ≡ digits_sum bs

pub four-number : (bs : List ℕ) (n : ℕ) → length bs ≡ 4 → list_all is_digit bs ≡ true → n ≡ from_le_bytes w32 bs → IsFour bs n
four-number [] n e all is = absurd (omega (arith, e))
four-number (a ∷ []) n e all is = absurd (omega (arith, e))
four-number (a ∷ b ∷ []) n e all is = absurd (omega (arith, e))
four-number (a ∷ b ∷ c ∷ []) n e all is = absurd (omega (arith, e))
four-number (a ∷ b ∷ c ∷ d ∷ x ∷ xs) n e all is = absurd (omega (arith, e))
four-number (a ∷ b ∷ c ∷ d ∷ []) n e all is =
    let ha = has-digit a (b ∷ c ∷ d ∷ []) all in
    let hb = has-digit b (c ∷ d ∷ []) ha.2 in
    let hc = has-digit c (d ∷ []) hb.2 in
    let hd = has-digit d [] hc.2 in
    let minus : n - 808464432 ≡ (a - 48) + (b - 48) * 256 + (c - 48) * 65536 + (d - 48) * 16777216 =
    omega (arith, is, ha.0, hb.0, hc.0, hd.0) in
    record {
      least = omega (arith, is, ha.0, hb.0, hc.0, hd.0);
      most = omega (arith, is, ha.1, hb.1, hc.1, hd.1);
      first = omega (arith, minus, ha.1);
      value = ap four_value minus
          ∙ four (a - 48) (b - 48) (c - 48) (d - 48) (omega (arith, ha.1)) (omega (arith, hb.1)) (omega (arith, hc.1))
          (omega (arith, hd.1)) ∙ omega arith;
    }

-- the same for eight
pub record IsEight (bs : List ℕ) (n : ℕ) : Type 0 where
  pub least : 3472328296227680304 ≤ n
  pub most : n ≤ 4123389851770370361
  pub value : eight_value (n - 3472328296227680304) ≡ digits_sum bs

-- the pairs of each half are those of four digits: the first digit of the second half is too small for a carry between the halves
twice-four : (p q : ℕ) → p ≤ 151587081 → q % 256 ≤ 9 → eight_value (p + q * 4294967296) ≡ four_value p * 10000 + four_value q
twice-four p q small first = omega (arith, small, first)

pub eight-number : (bs : List ℕ) (n : ℕ) → length bs ≡ 8 → list_all is_digit bs ≡ true → n ≡ from_le_bytes w64 bs → IsEight bs n
eight-number [] n e all is = absurd (omega (arith, e))
eight-number (a ∷ []) n e all is = absurd (omega (arith, e))
eight-number (a ∷ b ∷ []) n e all is = absurd (omega (arith, e))
eight-number (a ∷ b ∷ c ∷ []) n e all is = absurd (omega (arith, e))
eight-number (a ∷ b ∷ c ∷ d ∷ rest) n e all is =
    let front = a ∷ b ∷ c ∷ d ∷ [] in
    let long : length rest ≡ 4 = omega (arith, e) in
    let one = four-number front (from_le_bytes w32 front) refl (grind (arith, all)) refl in
    let two = four-number rest (from_le_bytes w32 rest) long (grind (arith, all)) refl in
    let minus : n - 3472328296227680304 ≡ (from_le_bytes w32 front - 808464432) + (from_le_bytes w32 rest - 808464432) *
    4294967296 =
    omega (arith, is, one.least, two.least) in
    record {
      least = omega (arith, is, one.least, two.least);
      most = omega (arith, is, one.most, two.most);
      value = ap eight_value minus
          ∙ twice-four _ _ (omega (arith, one.most)) two.first
          ∙ (λ i. one.value i * 10 ^ sym long i + two.value i)
          ∙ sym (digits_sum-append front rest);
    }

-- ---- Digits that are appended several at once.

first-digit : (x : ℕ) (xs : List ℕ) → list_all is_digit (x ∷ xs) ≡ true → is_digit x ≡ true
first-digit = grind arith

front-after : (xs more : List ℕ) → list_all is_digit xs ≡ true → digits_front (xs ++ more) ≡ xs ++ digits_front more
front-after [] more h = refl
front-after (x ∷ xs) more h =
    (λ i. take (cond (first-digit x xs h i) (1 + prefix_len is_digit (xs ++ more)) 0) (x ∷ xs ++ more))
    ∙ ap (λ k. take k (x ∷ xs ++ more)) (one_more _) ∙ ap (λ front. x ∷ front) (front-after xs more (has-digit x xs h).2)

rest-after : (xs more : List ℕ) → list_all is_digit xs ≡ true → after_digits (xs ++ more) ≡ after_digits more
rest-after [] more h = refl
rest-after (x ∷ xs) more h =
    (λ i. drop (cond (first-digit x xs h i) (1 + prefix_len is_digit (xs ++ more)) 0) (x ∷ xs ++ more))
    ∙ ap (λ k. drop k (x ∷ xs ++ more)) (one_more _) ∙ rest-after xs more (has-digit x xs h).2

regroup : (n p q s f : ℕ) → (n * p + s) * q + f ≡ n * (p * q) + (s * q + f)
regroup = grind arith

value-after : (n : ℕ) (xs more : List ℕ) → list_all is_digit xs ≡ true →
    appended (n * 10 ^ length xs + digits_sum xs) more ≡ appended n (xs ++ more)
value-after n xs more h =
    regroup n (10 ^ length xs) (10 ^ length (digits_front more)) (digits_sum xs) (digits_sum (digits_front more))
    ∙ (λ i. n * sym (pow-add 10 (length xs) (length (digits_front more))) i + sym (digits_sum-append xs (digits_front more)) i)
    ∙ (λ i. n * 10 ^ sym (length-append xs (digits_front more)) i + digits_sum (xs ++ digits_front more))
    ∙ sym (ap (λ front. n * 10 ^ length front + digits_sum front) (front-after xs more h))

pub several-appended : (n k : ℕ) (text xs more : List ℕ) → xs ≡ take k text → more ≡ drop k text → length xs ≡ k →
    list_all is_digit xs ≡ true → IsLeft n text (n * 10 ^ k + digits_sum xs) more
several-appended n k text xs more front rest long all =
    let parts : xs ++ more ≡ text = (λ i. front i ++ rest i) ∙ take-append-drop k text in
    record {
      same_rest = sym (rest-after xs more all) ∙ ap after_digits parts;
      same_value = ap (λ m. appended (n * 10 ^ m + digits_sum xs) more) (sym long) ∙ value-after n xs more all
          ∙ ap (appended n) parts;
    }

pub then-left : (n m l : ℕ) (text more most : List ℕ) → IsLeft n text m more → IsLeft m more l most → IsLeft n text l most
then-left n m l text more most one two =
    record { same_rest = two.same_rest ∙ one.same_rest; same_value = two.same_value ∙ one.same_value }
