use Rattle.std.proofs.Common.{subst, sym, ℕ}
use Rattle.mpslp_lp_tokens.{proofs.NumberRun.number-longest, specs.{Scan.IsLongestFront, Token.is_number}}
use Rattle.mpslp_lp_tokens.proofs.scan.number_len.Goals as goal

pub returns : goal.returns
returns c = subst (λ (n : ℕ). IsLongestFront is_number c.args.text.now n) (sym c.scan_number.ensures.size)
    (number-longest c.args.text.now)
