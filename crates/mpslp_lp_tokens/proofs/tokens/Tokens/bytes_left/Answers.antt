use Rattle.std.proofs.{Common.{List, ap, sym, ℕ, ◌∙◌}, lemmas.List.take_rest}
use Rattle.mpslp_lp_tokens.specs.Token.{tokens_from}
use Rattle.mpslp_lp_tokens.proofs.tokens.Tokens.bytes_left.Goals as goal

pub returns : goal.returns
returns c =
    let line = c.self.inside.line.now in
    let at = c.self.inside.at in
    record { at = at; are = sym c.self.view_is ∙ ap (λ (rest : List ℕ). tokens_from at 0 rest) (sym (take_rest line at)) }
