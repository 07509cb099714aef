use Rattle.mpslp_lp.proofs.Prelude.{sym, refl, subst, List, inl, inr, Option, Some, None, IfSome, Limit, Token, Plus, Terminal}
use Rattle.mpslp_lp.proofs.Prelude.{terminal_with_text, terminal_of_token, Begins, BeginsWithLimit, BeginsWithSide}
use Rattle.mpslp_lp_grammar.specs.declared.signs.Sign.{Sign}
use Rattle.mpslp_lp.proofs.plain_tokens.limit_from.Goals as goal

signed : (found after more : List Token) (sign : Sign) (result : Option Limit) → Begins found (Terminal.Sign sign) after
    → IfSome result (λ limit. BeginsWithLimit after sign limit more) → IfSome result (λ limit. BeginsWithSide found limit more)
signed found after more sign (Some limit) begins ends =
    record { sign = sign; after_sign = after; signed = inl begins; ends = ends }
signed found after more sign None begins ends = tt

pub returns-in-Sign : goal.returns-in-Sign
returns-in-Sign c = λ found begins. signed _ _ _ _ _ (subst (λ kind. Begins found
    (terminal_with_text kind c.args.token.now.text.now) c.args.tokens.now) c.in-Sign.is begins) c.next_unsigned.ensures

pub returns-in-Some : goal.returns-in-Some
returns-in-Some c = λ found begins. record {
  sign = Plus;
  after_sign = found;
  signed = inr (refl, refl);
  ends = record { terminal = terminal_of_token c.args.token.now; begins = begins; gives = sym c.in-Some.ensures };
}
