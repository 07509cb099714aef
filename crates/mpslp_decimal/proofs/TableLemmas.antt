-- Tables compared with definitions at each index, by computation.
use Rattle.std.proofs.{Common.{Bool, List, arith, get_or, inl, inr, nat_eq, not, suc, true, zero, ℕ, ◌&&◌, ◌<◌, ◌≡◌}, lemmas.Bool.cases_eq}
use Rattle.std.specs.Bool.{beq}

-- the test holds below n
unfoldable pub holds_below : (ℕ → Bool) → ℕ → Bool
holds_below test zero = true
holds_below test (suc n) = test n && holds_below test n

both-of : (x rest : Bool) → (x && rest) ≡ true → (x ≡ true) × (rest ≡ true)
both-of = grind arith

pub holds-at : (test : ℕ → Bool) (n : ℕ) → holds_below test n ≡ true → (k : ℕ) → k < n → test k ≡ true
unfolding holds_below
holds-at test zero h k below = absurd (omega arith)
holds-at test (suc n) h k below =
    let both = both-of (test n) _ h in
    elim (cases_eq k n) [ inl same ↦ rw same both.0 | inr other ↦ holds-at test n both.1 k (omega arith) ]

-- a table of the bytes that a test passes, each at the index of its value, with 45 at all other indices
abbrev pub lists_at : List ℕ → (ℕ → Bool) → ℕ → Bool
lists_at table test byte = beq (not (nat_eq (get_or table byte 0) 45)) (test byte)

pub listed : (table : List ℕ) (test : ℕ → Bool) (byte : ℕ) → byte < 256 → holds_below (lists_at table test) 256 ≡ true
    → not (nat_eq (get_or table byte 0) 45) ≡ test byte
listed table test byte below h = same _ _ (holds-at _ 256 h byte below)
  where
    same : (x y : Bool) → beq x y ≡ true → x ≡ y
    same = grind arith
