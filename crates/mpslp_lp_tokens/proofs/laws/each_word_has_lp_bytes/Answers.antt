use Rattle.std.proofs.Common.{subst}
use Rattle.mpslp_lp_tokens.{proofs.NameTokens.after-bytes, specs.Laws.HaveLpBytes}
use Rattle.mpslp_lp_tokens.proofs.laws.each_word_has_lp_bytes.Goals as goal

pub returns : goal.returns
returns c = subst HaveLpBytes c.tokens.view_is (after-bytes c.tokens.inside.line.now c.tokens.inside.at)
