use Rattle.std.proofs.Common.{refl, sym, subst, ◌∙◌, ap, inr}
use Rattle.mpslp_lp_grammar.specs.TerminalToken.{terminal_with_text, HasLegalNameKind}
use Rattle.mpslp_lp.proofs.plain_terms.unsigned_term.Goals as goal

-- a name without a number
pub returns-in-Ok-Name : goal.returns-in-Ok-Name
returns-in-Ok-Name c =
    let text = c.in_ok-token.token.text.now in
    let token = c.in-Ok-Name.ensures in record {
      after_number = c.args.tokens.now;
      number = inr (c.as_slice.ensures, refl);
      name = record {
        token = record { kind = c.in_ok-token.token.kind; start = c.in_ok-token.token.start; text = text };
        tokens = c.in_ok-token.ensures.steps;
        sound = token.0;
        is = sym token.1 ∙ ap (λ kind. terminal_with_text kind text) c.in-Ok-Name.field-0-is;
      };
      legal = subst (λ kind. HasLegalNameKind kind text) c.in-Ok-Name.field-0-is token.2;
    }
