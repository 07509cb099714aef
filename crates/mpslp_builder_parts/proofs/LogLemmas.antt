-- Chains of coefficients in a log.
use Rattle.std.proofs.Common.{◌≡◌, refl, sym, ap, ◌∙◌, ℕ, zero, suc, ◌+◌, ◌≤◌, ◌<◌, List, [], ◌∷◌, ◌++◌, length, arith}
use Rattle.std.proofs.Common.{slice_index, length-append}
use Rattle.std.specs.{Option.option_map_or, Prelude.{Some, slice_get}}
use Rattle.std.proofs.Common.{Bool, true, false, cond, ◌-◌, ◌||◌}
use Rattle.std.specs.{FinMap.find, Ordering.{nat_cmp, eq_by_cmp}, Prelude.is_some}
use Rattle.mpslp_model_core.proofs.CellLemmas.{number_same}
use Rattle.std.proofs.{Common.{get_or}, lemmas.{Option.slice_get_read, List.get_or_read}}
use Rattle.mpslp_decimal.specs.Decimal.{Number}
use Rattle.mpslp_builder_parts.specs.CoefficientLog.{LogEntries, chain_from, chain, IsLog}

-- one more item at the end
pub get-more : {X : Type 0} (xs : List X) (x : X) (n : ℕ) → n < length xs → slice_get (xs ++ x ∷ []) n ≡ slice_get xs n
get-more [] x n h = absurd (omega (arith, h))
get-more (y ∷ ys) x zero h = refl
get-more (y ∷ ys) x (suc n) h = get-more ys x n (omega (arith, h))

pub get-last : {X : Type 0} (xs : List X) (x : X) → slice_get (xs ++ x ∷ []) (length xs) ≡ Some x
get-last [] x = refl
get-last (y ∷ ys) x = get-last ys x

pub index-more : (xs : List ℕ) (x n : ℕ) → n < length xs → slice_index (xs ++ x ∷ []) n ≡ slice_index xs n
index-more [] x n h = absurd (omega (arith, h))
index-more (y ∷ ys) x zero h = refl
index-more (y ∷ ys) x (suc n) h = index-more ys x n (omega (arith, h))

pub index-last : (xs : List ℕ) (x : ℕ) → slice_index (xs ++ x ∷ []) (length xs) ≡ x
index-last [] x = refl
index-last (y ∷ ys) x = index-last ys x

-- a chain is not longer than its place
pub enough : (log : LogEntries) → IsLog log → (most more place : ℕ) → place ≤ most → place ≤ more
    → chain_from log most place ≡ chain_from log more place
enough log is zero zero place h k = refl
enough log is zero (suc more) zero h k = refl
enough log is zero (suc more) (suc index) h k = absurd (omega (arith, h))
enough log is (suc most) zero zero h k = refl
enough log is (suc most) zero (suc index) h k = absurd (omega (arith, k))
enough log is (suc most) (suc more) zero h k = refl
enough log is (suc most) (suc more) (suc index) h k =
    let below = is.below index in
    ap (λ later. option_map_or (λ (cell : ℕ × Number). cell ∷ later) (slice_get log.cells index) [])
    (enough log is most more (slice_index log.earlier index) (omega (arith, below, h)) (omega (arith, below, k)))

abbrev pub logged : LogEntries → ℕ → ℕ × Number → LogEntries
logged log earlier cell = record { cells = log.cells ++ cell ∷ []; earlier = log.earlier ++ earlier ∷ [] }

-- one more coefficient leaves all chains as they are
pub kept_from : (log : LogEntries) (earlier : ℕ) (cell : ℕ × Number) → IsLog log → (most place : ℕ) → place ≤ length log.cells
    → chain_from (logged log earlier cell) most place ≡ chain_from log most place
kept_from log earlier cell is zero place h = refl
kept_from log earlier cell is (suc most) zero h = refl
kept_from log earlier cell is (suc most) (suc index) h =
    let below = is.below index in
    let len = is.len in
    let later = (λ i. chain_from (logged log earlier cell) most (index-more log.earlier earlier index (omega (arith, h, len)) i))
    ∙ kept_from log earlier cell is most (slice_index log.earlier index) (omega (arith, below, h)) in
    λ i. option_map_or (λ (c : ℕ × Number). c ∷ later i) (get-more log.cells cell index (omega (arith, h)) i) []

pub kept : (log : LogEntries) (earlier : ℕ) (cell : ℕ × Number) → IsLog log → (place : ℕ) → place ≤ length log.cells
    → chain (logged log earlier cell) place ≡ chain log place
kept log earlier cell is place h = kept_from log earlier cell is place place h

-- it is the first of the chain at its place
pub one_more : (log : LogEntries) (earlier : ℕ) (cell : ℕ × Number) → IsLog log → earlier ≤ length log.cells
    → chain (logged log earlier cell) (suc (length log.cells)) ≡ cell ∷ chain log earlier
one_more log earlier cell is h =
    let n = length log.cells in
    let here = get-last log.cells cell in
    let link : slice_index (log.earlier ++ earlier ∷ []) n ≡ earlier =
    ap (slice_index (log.earlier ++ earlier ∷ [])) (sym is.len) ∙ index-last log.earlier earlier in
    (λ i. option_map_or (λ (c : ℕ × Number). c ∷ chain_from (logged log earlier cell) n (link i)) (here i) [])
    ∙ ap (λ later. cell ∷ later) (kept_from log earlier cell is n earlier h ∙ enough log is n earlier earlier h (omega arith))

pub below-more : (xs : List ℕ) (x from : ℕ) → x ≤ from + length xs → ((n : ℕ) → slice_index xs n ≤ from + n) → (n : ℕ) →
    slice_index (xs ++ x ∷ []) n ≤ from + n
below-more [] x from h below zero = omega (arith, h)
below-more [] x from h below (suc n) = omega arith
below-more (y ∷ ys) x from h below zero = below zero
below-more (y ∷ ys) x from h below (suc n) =
    let rest = below-more ys x (suc from) (omega (arith, h)) (λ m. let at = below (suc m) in omega (arith, at)) n in
    omega (arith, rest)

pub is_log-logged : (log : LogEntries) (earlier : ℕ) (cell : ℕ × Number) → IsLog log → earlier ≤ length log.cells →
    IsLog (logged log earlier cell)
is_log-logged log earlier cell is h = let len = is.len in record {
  len = length-append log.earlier (earlier ∷ []) ∙ ap (λ n. n + 1) len ∙ sym (length-append log.cells (cell ∷ []));
  below = λ n. let more = below-more log.earlier earlier zero (omega (arith, h, len)) (λ m. let at = is.below m in
      omega (arith, at)) n in omega (arith, more);
}

-- the chain at a place is the coefficient there, and the chain from the place before it
pub unchained : (log : LogEntries) → IsLog log → (place index : ℕ) (cell : ℕ × Number) → place ≡ suc index →
    slice_get log.cells index ≡ Some cell → chain log place ≡ cell ∷ chain log (slice_index log.earlier index)
unchained log is place index cell same at = let below = is.below index in
    ap (chain log) same
    ∙ (λ i. option_map_or (λ (c : ℕ × Number). c ∷ chain_from log index (slice_index log.earlier index)) (at i) [])
    ∙ ap (λ later. cell ∷ later) (enough log is index (slice_index log.earlier index) (slice_index log.earlier index)
    below (omega arith))

pub not_tied : (n m : ℕ) → (n ≡ m → ⊥) → eq_by_cmp nat_cmp n m ≡ false
not_tied n m h = elim (eq_by_cmp nat_cmp n m) as (λ b. eq_by_cmp nat_cmp n m ≡ b → b ≡ false) [
  | true ↦ λ tie. absurd (h (number_same n m tie))
  | false ↦ λ _. refl
] refl

-- what is read at a place is in the log, which is seen as a value
read_there : {X : Type 0} (stored seen : List X) (index : ℕ) (x : X) → stored ≡ seen → x ≡ get_or stored index x →
    index < length seen → slice_get seen index ≡ Some x
read_there {X} stored seen index x same read inside =
    slice_get_read seen (length seen) index x refl inside (read ∙ ap (λ (xs : List X). get_or xs index x) same)

-- the chain at a place is the coefficient that is read there, and the chain from the place before it
pub parted : (log : LogEntries) → IsLog log → (stored : List (ℕ × Number)) → stored ≡ log.cells → (place : ℕ) (cell : ℕ × Number)
    → cell ≡ get_or stored (place - 1) cell → 0 < place → place ≤ length log.cells
    → chain log place ≡ cell ∷ chain log (slice_index log.earlier (place - 1))
parted log is stored same place cell read some within = let step : place ≡ suc (place - 1) = omega (arith, some) in
    unchained log is place (place - 1) cell step
    (read_there stored log.cells (place - 1) cell same read (omega (arith, some, within)))

-- the place that is read beside it
pub linked : (log : LogEntries) → IsLog log → (stored : List ℕ) → stored ≡ log.earlier → (place link : ℕ)
    → link ≡ get_or stored (place - 1) link → 0 < place → place ≤ length log.cells → link ≡ slice_index log.earlier (place - 1)
linked log is stored same place link read some within = let len = is.len in
    get_or_read log.earlier (place - 1) link (omega (arith, some, within, len))
    (read ∙ ap (λ (xs : List ℕ). get_or xs (place - 1) link) same) 0

-- what is found in a chain: its first coefficient, or what is found among the others
pub found_first : (row : ℕ) (cell : ℕ × Number) (rest all : List (ℕ × Number)) → all ≡ cell ∷ rest
    → is_some (find nat_cmp row all) ≡ (eq_by_cmp nat_cmp row cell.0 || is_some (find nat_cmp row rest))
found_first row cell rest all parts = ap (λ es. is_some (find nat_cmp row es)) parts ∙ either (eq_by_cmp nat_cmp row cell.0)
  where
    either : (b : Bool) → is_some (cond b (Some cell.1) (find nat_cmp row rest)) ≡ (b || is_some (find nat_cmp row rest))
    either = grind arith
