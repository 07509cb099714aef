use Rattle.mpslp_lp.proofs.Prelude.{sym, terminal_of_token}
use Rattle.mpslp_lp.proofs.plain_tokens.next_unsigned.Goals as goal

pub returns-in-Some-limit_of_terminal : goal.returns-in-Some-limit_of_terminal
returns-in-Some-limit_of_terminal c = record {
  terminal = terminal_of_token c.in-Some.token;
  begins = c.in-Some.ensures.next;
  gives = sym c.in-Some-limit_of_terminal.ensures;
}
