-- The name of a row without a label is an LP name.
use Rattle.mpslp_lp_grammar.proofs.Prelude.{◌≡◌, ◌≤◌, ◌<◌, ℕ, ◌^◌, List, ◌∷◌, true, not, length, arith, list_all, le-leb, is_digit}
use Rattle.mpslp_lp_grammar.proofs.Prelude.{is_lp_name, is_lp_byte, is_like_exponent, numbered_row}
use Rattle.mpslp_decimal.proofs.CutLemmas.{list_all-digits, decimal-spells}
use Rattle.mpslp_types.proofs.{BoolLemmas.{both_so}, EachLemmas.{imp_all}}
use Rattle.std.{proofs.lemmas.Fmt.{length-decimal-le}, specs.Fmt.{decimal}}

digit-lp : (b : ℕ) → is_digit b ≡ true → is_lp_byte b ≡ true
digit-lp = grind arith

-- `c` and a position is a name
pub numbered-name : (position : ℕ) → position < 2 ^ 64 → is_lp_name (numbered_row position) ≡ true
numbered-name position fits =
    named (decimal position) (length-decimal-le 20 position (omega arith) (omega (arith, fits)) fits)
    (imp_all is_digit is_lp_byte (decimal position) digit-lp
    (list_all-digits (decimal position) (decimal-spells position (omega (arith, fits))).digits))
  where
    exponent : (ds : List ℕ) → not (is_like_exponent (99 ∷ ds)) ≡ true
    exponent = grind arith

    named : (ds : List ℕ) → length ds ≤ 20 → list_all is_lp_byte ds ≡ true → is_lp_name (99 ∷ ds) ≡ true
    named = grind (arith, le-leb, both_so)
