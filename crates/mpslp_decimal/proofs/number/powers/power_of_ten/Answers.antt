-- The table is compared with the powers at each of its 36 indices, by computation.
use Rattle.std.proofs.{Common.{List, get_or, nat_eq, refl, true, ℕ, ◌<◌, ◌^◌, ◌≡◌}, lemmas.Bool.eqb-true}
use Rattle.mpslp_decimal.{proofs.TableLemmas.{holds-at, holds_below}, specs.declared.number.powers.TheConstants.POWERS_OF_TEN}
use Rattle.mpslp_decimal.proofs.number.powers.power_of_ten.Goals as goal

from-table : (table : List ℕ) (exponent : ℕ) → exponent < 36 → holds_below (λ k. nat_eq (get_or table k 0) (10 ^ k)) 36 ≡ true
    → get_or table exponent 0 ≡ 10 ^ exponent
from-table table exponent below h = eqb-true (get_or table exponent 0) (10 ^ exponent) (holds-at _ 36 h exponent below)

pub returns : goal.returns
unfolding holds_below
returns c = from-table POWERS_OF_TEN c.args.exponent c.requires refl
