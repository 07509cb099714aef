-- The effect of tokens that complete declarations, and of terms of a row.
use Rattle.std.proofs.Common.{arith}
use Rattle.mpslp_decimal.specs.Decimal.{trailing_zeros}
use Rattle.mpslp_lp_grammar.proofs.Prelude
use Prelude.{◌≡◌, refl, List, [], ◌∷◌, None, Ok, number_of, BuildFault, Declarations, Draft, LineResult, Terminal, terminal_fault, one}
use Prelude.{Context, Place, declare_unless_refused, DeclaresUnless, TokenResult, TakesToken, answer_at}

-- ---- declarations

-- a token that completes declarations
pub completes : (context : Context) (later : Draft) (terminal : Terminal) (refusals : List BuildFault) (place : Place)
    (made : Declarations) (answer : LineResult) (result : TokenResult)
    → terminal_fault context terminal ≡ None → result ≡ answer_at place answer →
    DeclaresUnless refusals context.builder made answer later →
    TakesToken (declare_unless_refused context terminal refusals place made) result (record context { builder = later })
completes = grind arith

-- ---- terms

pub one-parsed : number_of (49 ∷ []) ≡ Ok one
unfolding trailing_zeros
one-parsed = refl
